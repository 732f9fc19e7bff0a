-- What the rotator of a run was asked, and which of its answers the run keeps.
use Rattle.std.specs.Prelude.{◌≡◌, ◌⊎◌, List, [], ◌∷◌, ◌++◌, Option, map}
use Rattle.sm_rotator.specs.Told.{append_told}
use Rattle.sm_rotator.specs.declared.rotator.Rotator.{Ghosts}
use Rattle.sm_rotator.specs.declared.told.Told.{Told}
use Rattle.sm_rotator.specs.declared.verdict.Verdict.{Verdict}
use Rattle.sm_drive.specs.Stands.{told_of}
use Rattle.sm_drive.specs.declared.call.Call.{Call}
use Rattle.sm_drive.specs.declared.call.Call.TheVariants.{Work}
use Rattle.sm_drive.specs.declared.outcome.Outcome.{Outcome}
use Rattle.sm_drive.specs.declared.outcome.Outcome.TheVariants.{Asked, Memory}

-- the works that the rotator was asked to do, each with its answer, where it tells them; and those that the run keeps
pub record Askings : Type 0 where
  pub told : Option (List Told)
  pub kept : List Told

-- those of a rotator and of the verdicts that a run keeps
abbrev pub askings : {R : Type 0} (V : Ghosts R) → R → List (Verdict R V) → Askings
askings V rotator verdicts = record { told = V.told rotator; kept = map told_of verdicts }

-- one work was asked for
abbrev pub asked_for : Askings → Told → Askings
asked_for old one = record old { told = append_told old.told (one ∷ []) }

-- one work was asked for, and it is kept
abbrev pub asked_and_kept : Askings → Told → Askings
asked_and_kept old one = record { told = append_told old.told (one ∷ []); kept = old.kept ++ one ∷ [] }

-- The rotator is asked for one work, and this is kept with its answer. Out of memory nothing is kept, and the rotator
-- is asked for one work at most. Otherwise it is not asked.
abbrev pub WorksAs : Outcome → Askings → Askings → Type 0
WorksAs Asked old new = (one : Told) × (new ≡ asked_and_kept old one)
WorksAs Memory old new = (new ≡ old) ⊎ ((one : Told) × (new ≡ asked_for old one))
WorksAs out old new = new ≡ old

-- no call but a work asks the rotator, or changes what is kept
abbrev pub AsksIn : Call → Outcome → Askings → Askings → Type 0
AsksIn (Work now) out old new = WorksAs out old new
AsksIn call out old new = new ≡ old
