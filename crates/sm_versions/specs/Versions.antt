-- The versions of one secret and their values.
-- AWS Secrets Manager User Guide: "Secret versions"; API Reference: PutSecretValue (ClientRequestToken).
use Rattle.std.specs.Prelude.{ℕ, Bool, false, List, [], ◌∷◌, Option, Some, None, is_some, if◌then◌else◌}
use Rattle.sm_model.specs.declared.value.Value.{Value}
use Rattle.sm_model.specs.declared.value.Value.TheVariants.{Text, Bytes}
use Rattle.sm_model.specs.declared.rows.VersionRow.{VersionRow}
use Rattle.sm_model.specs.declared.rows.SecretRow.{SecretRow}
use Rattle.sm_base.specs.Texts.{same_text}

-- a text and bytes are different values
abbrev pub same_value : Value → Value → Bool
same_value (Text a) (Text b) = same_text a b
same_value (Text a) (Bytes b) = false
same_value (Bytes a) (Text b) = false
same_value (Bytes a) (Bytes b) = same_text a b

-- the first version with the id
abbrev pub version_of : List VersionRow → List ℕ → Option VersionRow
version_of [] id = None
version_of (v ∷ vs) id = if same_text v.id id then Some v else version_of vs id

-- the value of the first version with the id, where it has one
abbrev pub value_of : List VersionRow → List ℕ → Option Value
value_of [] id = None
value_of (v ∷ vs) id = if same_text v.id id then v.value else value_of vs id

-- the version with the id has a value
abbrev pub has_value : List VersionRow → List ℕ → Bool
has_value versions id = is_some (value_of versions id)

-- the value is there, and it is this one
abbrev pub is_value : Option Value → Value → Bool
is_value None value = false
is_value (Some kept) value = same_value kept value

-- the version with that id has exactly that value
abbrev pub same : SecretRow → List ℕ → Value → Bool
same row token value = is_value (value_of row.versions token) value

-- the first version with the id given the value
abbrev pub filled : List VersionRow → List ℕ → Value → List VersionRow
filled [] id value = []
filled (v ∷ vs) id value = if same_text v.id id then record v { value = Some value } ∷ vs else v ∷ filled vs id value
