use Rattle.std.proofs.Common.{◌≡◌, take}
use Rattle.std.specs.List.{filter}
use Rattle.sm_password.specs.Classes.{is_left}
use Rattle.sm_password.proofs.class.kept.Given as goal

abbrev pub invariant-loop-character : goal.invariant-loop-character
invariant-loop-character l =
    l.kept.items ≡ filter (is_left l.exclude) (take l.character-index l.character-items)
