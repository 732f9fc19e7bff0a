-- How sure a journal is of its file's end.
use Rattle.std.specs.Prelude.{ℕ, Bool, true, false, List, [], ◌∷◌, ◌++◌, Option, None, Some}
use Rattle.sm_journal.specs.Records.{front, entry_of, AtRest, Loose, Gated}
use Rattle.sm_journal.specs.declared.format.Format.{Format}
use Rattle.sm_journal.specs.declared.tail.Tail.{Tail}
use Rattle.sm_journal.specs.declared.tail.Tail.TheVariants.{Sure, Body, Gate}

abbrev pub is_unsure_tail : Tail → Bool
is_unsure_tail Sure = false
is_unsure_tail Body = true
is_unsure_tail Gate = true

-- what a crash leaves of a file with these bodies, behind which the write of one more may have failed
abbrev pub Ends : Format → Tail → List (List ℕ) → Option (List ℕ) → List ℕ → Type 0
Ends format Sure bodies failed bytes = AtRest (front format bodies) bytes
Ends format Body bodies failed bytes = Loose (front format bodies) bytes
Ends format Gate bodies (Some body) bytes = Gated (front format bodies) (entry_of body ++ 0 ∷ []) bytes
Ends format Gate bodies None bytes = ⊥
