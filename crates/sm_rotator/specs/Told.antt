-- What a rotator tells of the works that it was asked to do.
use Rattle.std.specs.Prelude.{◌≡◌, List, [], ◌∷◌, ◌++◌, Option, None, Some}
use Rattle.sm_rotator.specs.declared.rotator.Asked.{Asked}
use Rattle.sm_rotator.specs.declared.rotator.Asked.TheVariants.{Answered, Memory}
pub use Rattle.sm_rotator.specs.declared.told.Told.{Told}
use Rattle.sm_rotator.specs.declared.work.Work.{Work}

-- what was told, where something is, and then these
abbrev pub append_told : Option (List Told) → List Told → Option (List Told)
append_told None more = None
append_told (Some told) more = Some (told ++ more)

-- The work was asked for once, and nothing else, and this is told with its answer. Where there was no memory to ask,
-- nothing is told.
abbrev pub TellsAsked : Work → Asked → Option (List Told) → Option (List Told) → Type 0
TellsAsked work (Answered answer) old new = new ≡ append_told old (record { work = work; answer = answer } ∷ [])
TellsAsked work Memory old new = new ≡ old
