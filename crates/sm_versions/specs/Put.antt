-- A new value for a secret.
-- AWS Secrets Manager API Reference: PutSecretValue; User Guide: "AWS Secrets Manager quotas" (versions and labels of a
-- secret).
use Rattle.std.specs.Prelude.{ℕ, ◌+◌, Bool, true, false, nat_lt, List, [], ◌∷◌, ◌++◌, Option, Some, None, Result, Ok, Err, if◌then◌else◌}
use Rattle.sm_base.specs.declared.memory.NoMemory.{NoMemory}
use Rattle.sm_base.specs.declared.moment.Moment.{Moment}
use Rattle.sm_base.specs.declared.limits.TheConstants.{LABELS_LIMIT, VERSIONS_LIMIT}
use Rattle.sm_model.specs.declared.value.Value.{Value}
use Rattle.sm_model.specs.declared.rows.Pair.{Pair}
use Rattle.sm_model.specs.declared.rows.VersionRow.{VersionRow}
use Rattle.sm_model.specs.declared.rows.SecretRow.{SecretRow}
use Rattle.sm_model.specs.Versions.{When, is_full_when}
use Rattle.sm_versions.specs.declared.values.PutDone.{PutDone}
use Rattle.sm_versions.specs.declared.values.PutDone.TheVariants.{Added, Same, Exists, TooMany, TooManyLabels, Memory}
use Rattle.sm_versions.specs.Labels.{place_all, labels_on, own_count}
use Rattle.sm_versions.specs.Versions.{same_value, version_of, filled}

-- there are more labels besides the three of AWS than a secret may have
abbrev pub has_too_many : List Pair → Bool
has_too_many pairs = nat_lt LABELS_LIMIT (own_count pairs)

-- the last test, on the pairs after placing
abbrev pub put_placed : List Pair → PutDone
put_placed pairs = if has_too_many pairs then TooManyLabels LABELS_LIMIT else Added

-- the tests where no version has the token
abbrev pub put_new : SecretRow → List ℕ → List (List ℕ) → When → PutDone
put_new row token labels when =
    if is_full_when row when then TooMany VERSIONS_LIMIT else put_placed (place_all row.labels labels token)

-- the tests where a version has the token, by its value
abbrev pub put_held : SecretRow → List ℕ → Value → List (List ℕ) → Option Value → PutDone
put_held row token value labels (Some kept) =
    if same_value kept value then Same (labels_on row.labels token) else Exists
put_held row token value labels None = put_placed (place_all row.labels labels token)

-- the tests by the version that has the token, or none
abbrev pub put_answer_on : SecretRow → List ℕ → Value → List (List ℕ) → When → Option VersionRow → PutDone
put_answer_on row token value labels when None = put_new row token labels when
put_answer_on row token value labels when (Some version) = put_held row token value labels version.value

-- what a put answers where there is memory
abbrev pub put_answer : SecretRow → List ℕ → Value → List (List ℕ) → When → PutDone
put_answer row token value labels when = put_answer_on row token value labels when (version_of row.versions token)

-- the version that a put adds
abbrev pub new_version : SecretRow → List ℕ → Value → Moment → VersionRow
new_version row token value moment =
    record {
      id = token;
      serial = row.next_version;
      made = moment;
      value = Some value;
      rotated = None;
      by_rotation = false;
    }

-- the row with a version more
abbrev pub added_row : SecretRow → List ℕ → Value → List (List ℕ) → Moment → SecretRow
added_row row token value labels moment =
    record row {
      versions = row.versions ++ new_version row token value moment ∷ [];
      next_version = row.next_version + 1;
      labels = place_all row.labels labels token;
    }

-- the row with an empty version filled
abbrev pub filled_row : SecretRow → List ℕ → Value → List (List ℕ) → SecretRow
filled_row row token value labels =
    record row { versions = filled row.versions token value; labels = place_all row.labels labels token }

-- the row by the version that has the token, or none
abbrev pub put_row_on : SecretRow → List ℕ → Value → List (List ℕ) → Moment → Option VersionRow → SecretRow
put_row_on row token value labels moment None = added_row row token value labels moment
put_row_on row token value labels moment (Some version) = filled_row row token value labels

-- the row after a put: the value in the version of the token, filled or added, and the labels on it
abbrev pub put_row : SecretRow → List ℕ → Value → List (List ℕ) → Moment → SecretRow
put_row row token value labels moment = put_row_on row token value labels moment (version_of row.versions token)

abbrev pub is_added : PutDone → Bool
is_added Added = true
is_added (Same labels) = false
is_added Exists = false
is_added (TooMany n) = false
is_added (TooManyLabels n) = false
is_added Memory = false

-- a version was filled or added
abbrev pub is_done : Result PutDone NoMemory → Bool
is_done (Ok done) = is_added done
is_done (Err e) = false

-- what a put answered, or None where it wanted memory
abbrev pub put_told : PutDone → Option PutDone
put_told Added = Some Added
put_told (Same labels) = Some (Same labels)
put_told Exists = Some Exists
put_told (TooMany n) = Some (TooMany n)
put_told (TooManyLabels n) = Some (TooManyLabels n)
put_told Memory = None
