-- What a stream's known bytes lose and gain, piece by piece.
use Rattle.std.proofs.Common.{◌≡◌, ℕ, ◌+◌, ◌-◌, ◌≤◌, List, [], ◌++◌, length, take, drop, Option, Some, None, refl, sym, ap, subst, ◌∙◌, append_assoc, arith}
use Rattle.std.specs.Io.KnownBytes.{Appends, Consumes}
use Rattle.std.proofs.lemmas.List.{append-nil, length-drop, take_all}
use Rattle.std.proofs.Math.Seq.{take-add}

-- nothing is read
pub consumes_none : (known : Option (List ℕ)) → Consumes known known []
consumes_none None = tt
consumes_none (Some bytes) = refl

-- one piece, and then another
pub consumes_join : (old mid new : Option (List ℕ)) (first next all : List ℕ) → Consumes old mid first
    → Consumes mid new next → all ≡ first ++ next → Consumes old new all
consumes_join None mid new first next all one other is = tt
consumes_join (Some a) None new first next all one other is = absurd one
consumes_join (Some a) (Some b) None first next all one other is = absurd other
consumes_join (Some a) (Some b) (Some c) first next all one other is =
    one ∙ ap (λ (l : List ℕ). first ++ l) other ∙ sym (append_assoc first next c)
    ∙ ap (λ (l : List ℕ). l ++ c) (sym is)

-- nothing is written
pub appends_none : (known : Option (List ℕ)) → Appends known known []
appends_none None = tt
appends_none (Some bytes) = sym (append-nil bytes)

-- one piece, and then another
pub appends_join : (old mid new : Option (List ℕ)) (first next all : List ℕ) → Appends old mid first
    → Appends mid new next → all ≡ first ++ next → Appends old new all
appends_join None mid new first next all one other is = tt
appends_join (Some a) None new first next all one other is = absurd one
appends_join (Some a) (Some b) None first next all one other is = absurd other
appends_join (Some a) (Some b) (Some c) first next all one other is =
    other ∙ ap (λ (l : List ℕ). l ++ next) one ∙ append_assoc a first next
    ∙ ap (λ (l : List ℕ). a ++ l) (sym is)

-- a write sends a part of what is left
pub sent_more : (bytes : List ℕ) (sent count : ℕ) (old mid new : Option (List ℕ)) → sent ≤ length bytes
    → count ≤ length (take (length bytes - sent) (drop sent bytes)) → Appends old mid (take sent bytes)
    → Appends mid new (take count (take (length bytes - sent) (drop sent bytes)))
    → (sent + count ≤ length bytes) × Appends old new (take (sent + count) bytes)
sent_more bytes sent count old mid new within fits before now =
    let whole : take (length bytes - sent) (drop sent bytes) ≡ drop sent bytes =
    take_all (length bytes - sent) (drop sent bytes) (omega (arith, length-drop sent bytes)) in
    let left : sent + count ≤ length bytes =
    omega (arith, within, fits, ap (length {A = ℕ}) whole, length-drop sent bytes) in (
      left,
      appends_join old mid new (take sent bytes) (take count (drop sent bytes)) (take (sent + count) bytes) before
          (subst (λ (l : List ℕ). Appends mid new (take count l)) whole now) (take-add sent count bytes),
    )

-- all are sent
pub sent_all : (bytes : List ℕ) (sent : ℕ) (old new : Option (List ℕ)) → sent ≤ length bytes
    → length bytes ≤ sent → Appends old new (take sent bytes) → Appends old new bytes
sent_all bytes sent old new within all appends = subst (Appends old new) (take_all sent bytes all) appends
