-- The one message that bytes are, as a reader finds it in a copy of them.
use Rattle.std.proofs.Common.{◌≡◌, List, ℕ, [], ◌++◌, Option, Some, refl, sym, ap, subst, ◌∙◌, append-nil, inl, arith}
use Rattle.std.specs.Io.KnownBytes.{IsAtEnd}
use Rattle.std.specs.Prelude.{IfNone}
use Rattle.sm_base.specs.declared.bad_kind.BadKind.{BadKind}
use Rattle.sm_replication.specs.Frames.{IsOneMessage}
use Rattle.sm_http.specs.declared.answer.Message.{Message as owned}
use Rattle.sm_http.specs.declared.answer.Next.{Next}
use Rattle.sm_http.specs.declared.answer.Next.TheVariants as next
use Rattle.sm_http.specs.Chains.{unread}
use Rattle.sm_http.specs.Messages.{IsMessage, IsPartial, Message}
use Rattle.sm_http.specs.Reading.{ReaderState, Reads, content}
use Rattle.sm_http.proofs.MessageLemmas.{bad_is_no_message, message_unique, partial_is_no_message}
use Rattle.sm_http.proofs.MoreBytesLemmas.{bad-append, message-append}

some_bytes : (a b : List ℕ) → Some a ≡ Some b → a ≡ b
some_bytes a b e = cc

module _ (bytes rest : List ℕ) (new : ReaderState) (message : Message) (is : IsMessage bytes message []) where
  -- what was taken stands at the front of the bytes
  whole : (taken : List ℕ) → Some bytes ≡ Some (taken ++ rest) → IsMessage (taken ++ rest) message []
  whole taken was = subst (λ b. IsMessage b message []) (some_bytes bytes (taken ++ rest) was) is

  -- where nothing is left, all of them were taken
  whole_taken : (taken : List ℕ) → Some bytes ≡ Some (taken ++ rest) → rest ≡ [] → IsMessage taken message []
  whole_taken taken was none =
      subst (λ b. IsMessage b message []) (ap (λ r. taken ++ r) none ∙ append-nil taken) (whole taken was)

  message_found : (m : owned) → Reads unread (next.Message m) new (Some bytes) (Some rest) → content m ≡ message
  message_found m (taken, was, answers) =
      (message_unique (taken ++ rest) (content m) message (answers.0 ++ rest) []
      (message-append taken rest (content m) answers.0 answers.1) (whole taken was)).0

  not_bad : (kind : BadKind) (at : ℕ) → Reads unread (next.Bad kind at) new (Some bytes) (Some rest) → ⊥
  not_bad kind at (taken, was, answers) =
      bad_is_no_message (taken ++ rest) kind message [] (bad-append taken rest kind answers.0.1) (whole taken was)

  not_end : Reads unread next.End new (Some bytes) (Some rest) → rest ≡ [] → ⊥
  not_end (taken, was, answers) ended =
      partial_is_no_message taken message [] (subst IsPartial (sym answers.0) (inl (refl, omega arith)))
      (whole_taken taken was ended)

  not_cut : (count : ℕ) → Reads unread (next.Cut count) new (Some bytes) (Some rest) → rest ≡ [] → ⊥
  not_cut count (taken, was, answers) ended =
      partial_is_no_message taken message [] answers.0.2 (whole_taken taken was ended)

-- the same of a reader and a source that were made of a copy
module _ (bytes copy rest : List ℕ) (old new : ReaderState) (before : Option (List ℕ)) (same : copy ≡ bytes)
    (fresh : old ≡ unread) (all : before ≡ Some copy) where
  reads_all : (answer : Next) → Reads old answer new before (Some rest)
      → Reads unread answer new (Some bytes) (Some rest)
  reads_all answer reads =
      subst (λ b. Reads unread answer new b (Some rest)) (all ∙ ap Some same)
      (subst (λ (o : ReaderState). Reads o answer new before (Some rest)) fresh reads)

  pub hears_message : (m : owned) → Reads old (next.Message m) new before (Some rest) → (message : Message)
      → IsMessage bytes message [] → content m ≡ message
  hears_message m reads message is = message_found bytes rest new message is m (reads_all (next.Message m) reads)

  pub hears_no_bad : (kind : BadKind) (at : ℕ) → IsOneMessage bytes
      → Reads old (next.Bad kind at) new before (Some rest) → ⊥
  hears_no_bad kind at (message, is) reads =
      not_bad bytes rest new message is kind at (reads_all (next.Bad kind at) reads)

  pub hears_no_end : IsOneMessage bytes → Reads old next.End new before (Some rest) → IsAtEnd (Some rest) → ⊥
  hears_no_end (message, is) reads ended = not_end bytes rest new message is (reads_all next.End reads) ended

  pub hears_no_cut : (count : ℕ) → IsOneMessage bytes → Reads old (next.Cut count) new before (Some rest)
      → IsAtEnd (Some rest) → ⊥
  hears_no_cut count (message, is) reads ended =
      not_cut bytes rest new message is count (reads_all (next.Cut count) reads) ended

-- a fact of a reader that had not ended
pub ended_now : (old : ReaderState) (P : Type 0) → old ≡ unread → IfNone old.ended P → P
ended_now old P fresh fact = subst (λ (o : ReaderState). IfNone o.ended P) fresh fact
