-- A label moved from one version to another, or taken off.
-- AWS Secrets Manager API Reference: UpdateSecretVersionStage.
use Rattle.std.specs.Prelude.{ℕ, Bool, true, false, List, Option, Some, None, Result, Ok, Err, if◌then◌else◌}
use Rattle.sm_base.specs.declared.memory.NoMemory.{NoMemory}
use Rattle.sm_base.specs.declared.limits.TheConstants.{LABELS_LIMIT}
use Rattle.sm_model.specs.declared.rows.Pair.{Pair}
use Rattle.sm_model.specs.declared.rows.VersionRow.{VersionRow}
use Rattle.sm_model.specs.declared.rows.SecretRow.{SecretRow}
use Rattle.sm_versions.specs.declared.moving.Moved.{Moved}
use Rattle.sm_versions.specs.declared.moving.Moved.TheVariants.{Ok as Placed, NotThere, HeldBy, KeepsCurrent, Empty, TooManyLabels, Memory}
use Rattle.sm_base.specs.Texts.{same_text}
use Rattle.sm_model.specs.Labels.{aws_current, holder, is_held_by}
use Rattle.sm_versions.specs.Labels.{without, place}
use Rattle.sm_versions.specs.Versions.{has_value}
use Rattle.sm_model.specs.Versions.{has_version}
use Rattle.sm_versions.specs.Put.{has_too_many}

-- the id, where it is given and names no version
abbrev pub missing : List VersionRow → Option (List ℕ) → Option (List ℕ)
missing versions None = None
missing versions (Some id) = if has_version versions id then None else Some id

-- where no source is given: nobody holds the label, or the target does
abbrev pub is_free_for : Option (List ℕ) → Option (List ℕ) → Bool
is_free_for None to = true
is_free_for (Some held) None = false
is_free_for (Some held) (Some to) = same_text held to

-- the source is the holder; where none is given, no other version than the target holds the label
abbrev pub may_move : Option (List ℕ) → Option (List ℕ) → Option (List ℕ) → Bool
may_move held to (Some from) = is_held_by held from
may_move held to None = is_free_for held to

-- the last test, on the pairs after placing
abbrev pub move_placed : List Pair → Moved
move_placed pairs = if has_too_many pairs then TooManyLabels LABELS_LIMIT else Placed

-- the tests on a target with a label other than AWSCURRENT, or with AWSCURRENT by whether the target has a value
abbrev pub move_onto : SecretRow → List ℕ → List ℕ → Moved
move_onto row label to =
    if same_text label aws_current then
    (if has_value row.versions to then move_placed (place row.labels label to) else Empty to)
    else move_placed (place row.labels label to)

-- the tests once the label may move
abbrev pub move_to : SecretRow → List ℕ → Option (List ℕ) → Moved
move_to row label None = if same_text label aws_current then KeepsCurrent else Placed
move_to row label (Some to) = move_onto row label to

-- the tests on the holder
abbrev pub move_held : SecretRow → List ℕ → Option (List ℕ) → Option (List ℕ) → Moved
move_held row label to from =
    if may_move (holder row.labels label) to from then move_to row label to else HeldBy (holder row.labels label)

-- NotThere of an id that is missing, or the answer of the tests after it
abbrev pub unless_missing : Option (List ℕ) → Moved → Moved
unless_missing None answer = answer
unless_missing (Some id) answer = NotThere id

-- what a move answers where there is memory
abbrev pub move_answer : SecretRow → List ℕ → Option (List ℕ) → Option (List ℕ) → Moved
move_answer row label to from =
    unless_missing (missing row.versions from)
    (unless_missing (missing row.versions to) (move_held row label to from))

-- the pairs after a move: the label placed on the target, or taken off
abbrev pub move_pairs : List Pair → List ℕ → Option (List ℕ) → List Pair
move_pairs pairs label None = without pairs label
move_pairs pairs label (Some to) = place pairs label to

-- the row after a move
abbrev pub move_row : SecretRow → List ℕ → Option (List ℕ) → SecretRow
move_row row label to = record row { labels = move_pairs row.labels label to }

abbrev pub is_moved : Moved → Bool
is_moved Placed = true
is_moved (NotThere id) = false
is_moved (HeldBy held) = false
is_moved KeepsCurrent = false
is_moved (Empty id) = false
is_moved (TooManyLabels n) = false
is_moved Memory = false

-- the label was moved
abbrev pub is_done : Result Moved NoMemory → Bool
is_done (Ok moved) = is_moved moved
is_done (Err e) = false

-- what a move answered, or None where it wanted memory
abbrev pub move_told : Moved → Option Moved
move_told Placed = Some Placed
move_told (NotThere id) = Some (NotThere id)
move_told (HeldBy held) = Some (HeldBy held)
move_told KeepsCurrent = Some KeepsCurrent
move_told (Empty id) = Some (Empty id)
move_told (TooManyLabels n) = Some (TooManyLabels n)
move_told Memory = None
