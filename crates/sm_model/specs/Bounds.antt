-- What fits: the lengths of kept texts and values, and the ranges of numbers and dates.
-- AWS Secrets Manager API Reference: CreateSecret (Description, KmsKeyId, SecretString), Tag,
-- RotateSecret (RotationLambdaARN), RotationRulesType (AutomaticallyAfterDays).
use Rattle.std.specs.Prelude.{ℕ, Bool, true, not, ◌&&◌, nat_le, nat_eq, List, length, codes, Option, Some, None}
use Rattle.std.specs.List.{starts_with}
use Rattle.std.specs.Str.{chars}
use Rattle.sm_base.specs.Texts.{has_at_most}
use Rattle.sm_base.specs.declared.moment.Moment.{Moment}
use Rattle.sm_base.specs.declared.limits.TheConstants.{VALUE_LIMIT, DESCRIPTION_LIMIT, TAG_KEY_LIMIT, TAG_VALUE_LIMIT, ATTEMPTS_LIMIT, DAYS_LIMIT, LAST_DATE, LAST_ROTATION_DATE}
use Rattle.sm_model.specs.declared.value.Value.{Value}
use Rattle.sm_model.specs.declared.value.Tag.{Tag}
use Rattle.sm_model.specs.Value.{byte_count}

-- nothing is there, or what is there passes the test
abbrev pub fits : {A : Type 0} → (A → Bool) → Option A → Bool
fits test None = true
fits test (Some a) = test a

-- a description, a KMS key id or a Lambda ARN
abbrev pub is_description : List ℕ → Bool
is_description text = has_at_most DESCRIPTION_LIMIT text

abbrev pub is_small : Value → Bool
is_small value = nat_le (byte_count value) VALUE_LIMIT

-- the beginning of the keys of AWS's own tags
unfoldable pub reserved_beginning : List ℕ
reserved_beginning = codes "aws:"

-- a tag's key is not empty, and not one of AWS's own
abbrev pub is_tag_key : List ℕ → Bool
is_tag_key key = nat_le 1 (length (chars key)) && has_at_most TAG_KEY_LIMIT key
    && not (starts_with nat_eq key reserved_beginning)

abbrev pub is_tag : Tag → Bool
is_tag tag = is_tag_key tag.key && has_at_most TAG_VALUE_LIMIT tag.value

-- an attempt at a step of a rotation
abbrev pub is_attempt : ℕ → Bool
is_attempt attempt = nat_le 1 attempt && nat_le attempt ATTEMPTS_LIMIT

-- the days between two rotations
abbrev pub are_days : ℕ → Bool
are_days days = nat_le 1 days && nat_le days DAYS_LIMIT

-- a date that a secret keeps
abbrev pub is_date : Moment → Bool
is_date date = nat_le date.0 LAST_DATE

-- the date of a secret's next rotation
abbrev pub is_rotation_date : Moment → Bool
is_rotation_date date = nat_le date.0 LAST_ROTATION_DATE
