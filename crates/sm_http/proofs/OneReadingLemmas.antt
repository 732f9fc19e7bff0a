-- Bytes are read in one way: what stands at the front, and so all messages and their end.
use Rattle.std.proofs.Common.{◌≡◌, IsSome, ℕ, ◌+◌, ◌-◌, Bool, true, false, MatchBool, List, [], ◌∷◌, length, take, Some, None, refl, sym, ap, ◌∙◌, subst, arith, inl, inr}
use Rattle.httparse.specs.Grammar.{RequestHead}
use Rattle.sm_base.specs.declared.bad_kind.BadKind.{BadKind}
use Rattle.sm_base.specs.declared.bad_kind.BadKind.TheVariants.{HeadTooLong, Head, Chunked, Length, BodyTooLong}
use Rattle.sm_http.specs.Heads.{head_length, IsHead, fields_of, body_length}
use Rattle.sm_http.specs.Messages.{Message, Begins, IsMessage, transfer_encoding, StartsBadly, IsPartial, End, Closing, Bad, Rest, Ends, Messages}
use Rattle.sm_http.proofs.MessageLemmas.{some_is, begins_unique, message_unique, bad_is_no_message, partial_is_no_message}

-- a head at the front is none that is no head
no_head_begins : (bytes : List ℕ) (n : ℕ) (text : List ℕ) (head : RequestHead) → head_length bytes ≡ Some n
    → ((other : RequestHead) → IsHead (take n bytes) other → ⊥) → Begins bytes text head → ⊥
no_head_begins bytes n text head ends none begins =
    let size : n ≡ length text = some_is (sym ends ∙ begins.ends) in
    none head (subst (λ t. IsHead t head) (sym begins.front ∙ ap (λ k. take k bytes) (sym size)) begins.reads)

-- two things that are said of the one head at the front
module _ (bytes t u : List ℕ) (h k : RequestHead) (a : Begins bytes t h) (b : Begins bytes u k) where
  same_head : h ≡ k
  same_head = (begins_unique bytes t u h k a b).1

  encoded_or_not : IsSome (transfer_encoding h) → transfer_encoding k ≡ None → ⊥
  encoded_or_not there none =
      let some : false ≡ true = subst IsSome (ap transfer_encoding same_head ∙ none) there in cc

  sized_or_not : (n : ℕ) → body_length (fields_of h) ≡ None → body_length (fields_of k) ≡ Some n → ⊥
  sized_or_not n none sized =
      let e : body_length (fields_of h) ≡ body_length (fields_of k)
      = ap (λ x. body_length (fields_of x)) same_head in cc

  same_size : (n m : ℕ) → body_length (fields_of h) ≡ Some n → body_length (fields_of k) ≡ Some m → n ≡ m
  same_size n m sized other =
      some_is (sym sized ∙ ap (λ x. body_length (fields_of x)) same_head ∙ other)

-- one fault stands at the front at most

ended_or_not : (bytes : List ℕ) (n : ℕ) → head_length bytes ≡ None → head_length bytes ≡ Some n → ⊥
ended_or_not bytes n none some = cc

-- faults of a head and of what follows it exclude each other
earlier_fault : (bytes : List ℕ) (a b : BadKind) → StartsBadly bytes a → StartsBadly bytes b → a ≡ b
earlier_fault bytes HeadTooLong HeadTooLong p q = refl
earlier_fault bytes HeadTooLong Head p q = absurd (ended_or_not bytes q.0 p.0 q.1)
earlier_fault bytes HeadTooLong Chunked p q = absurd (ended_or_not bytes (length q.0) p.0 q.2.ends)
earlier_fault bytes HeadTooLong Length p q = absurd (ended_or_not bytes (length q.0) p.0 q.2.ends)
earlier_fault bytes HeadTooLong BodyTooLong p q = absurd (ended_or_not bytes (length q.0) p.0 q.2.ends)
earlier_fault bytes Head HeadTooLong p q = absurd (ended_or_not bytes p.0 q.0 p.1)
earlier_fault bytes Head Head p q = refl
earlier_fault bytes Head Chunked p q = absurd (no_head_begins bytes p.0 q.0 q.1 p.1 p.2 q.2)
earlier_fault bytes Head Length p q = absurd (no_head_begins bytes p.0 q.0 q.1 p.1 p.2 q.2)
earlier_fault bytes Head BodyTooLong p q = absurd (no_head_begins bytes p.0 q.0 q.1 p.1 p.2 q.2)
earlier_fault bytes Chunked HeadTooLong p q = absurd (ended_or_not bytes (length p.0) q.0 p.2.ends)
earlier_fault bytes Chunked Head p q = absurd (no_head_begins bytes q.0 p.0 p.1 q.1 q.2 p.2)
earlier_fault bytes Chunked Chunked p q = refl
earlier_fault bytes Chunked Length p q = absurd (encoded_or_not bytes p.0 q.0 p.1 q.1 p.2 q.2 p.3 q.3.0)
earlier_fault bytes Chunked BodyTooLong p q = absurd (encoded_or_not bytes p.0 q.0 p.1 q.1 p.2 q.2 p.3 q.3.0)
earlier_fault bytes Length HeadTooLong p q = absurd (ended_or_not bytes (length p.0) q.0 p.2.ends)
earlier_fault bytes Length Head p q = absurd (no_head_begins bytes q.0 p.0 p.1 q.1 q.2 p.2)
earlier_fault bytes Length Chunked p q = absurd (encoded_or_not bytes q.0 p.0 q.1 p.1 q.2 p.2 q.3 p.3.0)
earlier_fault bytes Length Length p q = refl
earlier_fault bytes Length BodyTooLong p q =
    absurd (sized_or_not bytes p.0 q.0 p.1 q.1 p.2 q.2 q.3.1 p.3.1 q.3.2)
earlier_fault bytes BodyTooLong HeadTooLong p q = absurd (ended_or_not bytes (length p.0) q.0 p.2.ends)
earlier_fault bytes BodyTooLong Head p q = absurd (no_head_begins bytes q.0 p.0 p.1 q.1 q.2 p.2)
earlier_fault bytes BodyTooLong Chunked p q = absurd (encoded_or_not bytes q.0 p.0 q.1 p.1 q.2 p.2 q.3 p.3.0)
earlier_fault bytes BodyTooLong Length p q =
    absurd (sized_or_not bytes q.0 p.0 q.1 p.1 q.2 p.2 p.3.1 q.3.1 p.3.2)
earlier_fault bytes BodyTooLong BodyTooLong p q = refl

-- and none where a message is not whole yet
pub partial_is_not_bad : (bytes : List ℕ) (kind : BadKind) → IsPartial bytes → StartsBadly bytes kind → ⊥
partial_is_not_bad bytes HeadTooLong (inl p) q = omega (arith, p.1, q.1)
partial_is_not_bad bytes Head (inl p) q = ended_or_not bytes q.0 p.0 q.1
partial_is_not_bad bytes Chunked (inl p) q = ended_or_not bytes (length q.0) p.0 q.2.ends
partial_is_not_bad bytes Length (inl p) q = ended_or_not bytes (length q.0) p.0 q.2.ends
partial_is_not_bad bytes BodyTooLong (inl p) q = ended_or_not bytes (length q.0) p.0 q.2.ends
partial_is_not_bad bytes HeadTooLong (inr p) q = ended_or_not bytes (length p.0) q.0 p.2.ends
partial_is_not_bad bytes Head (inr p) q = no_head_begins bytes q.0 p.0 p.1 q.1 q.2 p.2
partial_is_not_bad bytes Chunked (inr p) q = encoded_or_not bytes q.0 p.0 q.1 p.1 q.2 p.2 q.3 p.3.0
partial_is_not_bad bytes Length (inr p) q = sized_or_not bytes q.0 p.0 q.1 p.1 q.2 p.2 p.3.1 q.3.1 p.3.2
partial_is_not_bad bytes BodyTooLong (inr p) q =
    let same : p.3.1 ≡ q.3.1 = same_size bytes p.0 q.0 p.1 q.1 p.2 q.2 p.3.1 q.3.1 p.3.2 q.3.2 in
    omega (arith, same, p.3.3, q.3.3)

-- one end follows the messages at most
one_end : (bytes : List ℕ) (at : ℕ) (e f : End) → Ends bytes at e → Ends bytes at f → e ≡ f
one_end bytes at Closing f p q = absurd p
one_end bytes at (Bad a n) Closing p q = absurd q
one_end bytes at (Bad a n) (Bad b m) p q =
    let kind : a ≡ b = earlier_fault bytes a b p.1 q.1 in let place : n ≡ m = p.0 ∙ sym q.0 in cc
one_end bytes at (Bad a n) (Rest m) p q = absurd (partial_is_not_bad bytes a q.1 p.1)
one_end bytes at (Rest n) Closing p q = absurd q
one_end bytes at (Rest n) (Bad b m) p q = absurd (partial_is_not_bad bytes b p.1 q.1)
one_end bytes at (Rest n) (Rest m) p q = ap Rest (p.0 ∙ sym q.0)

no_message_at_end : (bytes : List ℕ) (at : ℕ) (e : End) (m : Message) (rest : List ℕ) → Ends bytes at e
    → IsMessage bytes m rest → ⊥
no_message_at_end bytes at Closing m rest p is = p
no_message_at_end bytes at (Bad kind n) m rest p is = bad_is_no_message bytes kind m rest p.1 is
no_message_at_end bytes at (Rest n) m rest p is = partial_is_no_message bytes m rest p.1 is

-- what follows a message, by whether it closes the stream
follows : (closing : Bool) (bytes : List ℕ) (at : ℕ) (ms ns : List Message) (e f : End)
    → (Messages bytes at ms e → Messages bytes at ns f → (ms ≡ ns) × (e ≡ f))
    → MatchBool closing ((ms ≡ []) × (e ≡ Closing)) (Messages bytes at ms e)
    → MatchBool closing ((ns ≡ []) × (f ≡ Closing)) (Messages bytes at ns f) → (ms ≡ ns) × (e ≡ f)
follows true bytes at ms ns e f same p q = (p.0 ∙ sym q.0, p.1 ∙ sym q.1)
follows false bytes at ms ns e f same p q = same p q

-- all messages and their end are one
pub one_reading : (bytes : List ℕ) (at : ℕ) (ms ns : List Message) (e f : End) → Messages bytes at ms e
    → Messages bytes at ns f → (ms ≡ ns) × (e ≡ f)
one_reading bytes at [] [] e f p q = (refl, one_end bytes at e f p q)
one_reading bytes at [] (n ∷ ns) e f p q = absurd (no_message_at_end bytes at e n q.0 p q.1)
one_reading bytes at (m ∷ ms) [] e f p q = absurd (no_message_at_end bytes at f m p.0 q p.1)
one_reading bytes at (m ∷ ms) (n ∷ ns) e f (r, is, then) (s, other, after) =
    let first = message_unique bytes m n r s is other in
    let next : ℕ = at + (length bytes - length r) in
    let moved : MatchBool n.closing ((ns ≡ []) × (f ≡ Closing)) (Messages r next ns f)
    = subst (λ x. MatchBool n.closing ((ns ≡ []) × (f ≡ Closing)) (Messages x (at + (length bytes - length x)) ns f))
    (sym first.1) after in
    let turned : MatchBool m.closing ((ns ≡ []) × (f ≡ Closing)) (Messages r next ns f)
    = subst (λ b. MatchBool b ((ns ≡ []) × (f ≡ Closing)) (Messages r next ns f))
    (sym (ap (λ (x : Message). x.closing) first.0)) moved in
    let others = follows m.closing r next ms ns e f (one_reading r next ms ns e f) then turned in
    let same : m ≡ n = first.0 in
    (ap (λ x. x ∷ ms) same ∙ ap (λ xs. n ∷ xs) others.0, others.1)
