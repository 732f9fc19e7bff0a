-- That a due rotation begins.
use Rattle.std.proofs.Common.{◌≡◌, ℕ, Bool, true, false, not, List, Option, Some, None, is_some, IsTrue, refl, sym, ◌∙◌}
use Rattle.std.proofs.lemmas.Bool.{and_parts}
use Rattle.sm_model.specs.declared.rows.VersionRow.{VersionRow}
use Rattle.sm_model.specs.declared.rows.SecretRow.{SecretRow}
use Rattle.sm_model.specs.Labels.{aws_current, aws_pending, holder}
use Rattle.sm_versions.specs.Versions.{version_of}
use Rattle.sm_model.specs.Versions.{When, has_version, is_full_when}
use Rattle.sm_model.specs.Due.{is_free_or_held_by, is_due_when, is_due_for_when}
use Rattle.sm_versions.proofs.VersionLemmas.{has_version_is_some}
use Rattle.sm_rotation.specs.declared.starting.Began.TheVariants.{Ok as Begun}
use Rattle.sm_rotation.specs.Begin.{is_of_rotation, begin_new, begin_held, begin_answer}

-- ---- a due rotation begins

no_rotation : (found : Option VersionRow) → is_some found ≡ false → is_of_rotation found ≡ false
no_rotation None h = refl
no_rotation (Some version) h = absurd (cc)

begins_held : (row : SecretRow) (token : List ℕ) (when : When) (pending current : Option (List ℕ))
    → is_some current ≡ true → is_free_or_held_by pending current ≡ true → begin_new row token when ≡ Begun
    → begin_held row token when pending current ≡ Begun
begins_held row token when pending None there free new = absurd (cc)
begins_held row token when None (Some current) there free new = new
begins_held row token when (Some pending) (Some current) there free new = rw free new

begins_new : (row : SecretRow) (token : List ℕ) (when : When) → has_version row.versions token ≡ false
    → is_full_when row when ≡ false → begin_new row token when ≡ Begun
begins_new row token when new room = rw (new, room) refl

not_true : (b : Bool) → not b ≡ true → b ≡ false
not_true true h = absurd (cc)
not_true false h = refl

-- a rotation that is due for a token begins with it
due_begins_there : (row : SecretRow) (token : List ℕ) (when : When) → is_due_for_when row when token ≡ true
    → begin_answer row token when ≡ Begun
due_begins_there row token when due =
    let whole = and_parts (is_due_when row when) (not (has_version row.versions token)) due in
    let room = and_parts _ (not (is_full_when row when)) whole.0 in
    let free =
    and_parts _ (is_free_or_held_by (holder row.labels aws_pending) (holder row.labels aws_current)) room.0 in
    let there = and_parts _ (is_some (holder row.labels aws_current)) free.0 in
    let new = not_true (has_version row.versions token) whole.1 in
    rw (no_rotation (version_of row.versions token) (sym (has_version_is_some row.versions token) ∙ new))
    (begins_held row token when (holder row.labels aws_pending) (holder row.labels aws_current) there.1 free.1
    (begins_new row token when new (not_true (is_full_when row when) room.1)))

pub due_begins : (row : SecretRow) (token : List ℕ) (when : When) (r : Bool) → r ≡ is_due_for_when row when token
    → IsTrue r → begin_answer row token when ≡ Begun
due_begins row token when r e due = due_begins_there row token when (sym e ∙ due)
