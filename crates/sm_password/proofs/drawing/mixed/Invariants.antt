use Rattle.std.proofs.Common.{◌≡◌, length}
use Rattle.sm_password.specs.Passwords.{draft_character, inserted, place}
use Rattle.sm_password.proofs.drawing.mixed.Given as goal

abbrev pub invariant-loop-k : goal.invariant-loop-k
invariant-loop-k l =
    (l.text.items ≡ inserted (draft_character l.alphabet.classes.items l.alphabet.required l.drawn)
    (place l.count l.drawn) l.k)
    × (length l.text.items ≡ l.k)
