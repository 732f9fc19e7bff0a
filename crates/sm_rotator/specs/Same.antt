-- Whether two answers are the same, and what a rotator may answer that has one answer to each step.
use Rattle.std.specs.Prelude.{Bool, true, false, ◌||◌, nat_eq}
use Rattle.std.specs.Cmp.Lexicographic.{pointwise}
use Rattle.sm_model.specs.declared.entry.Answer.{Answer}
use Rattle.sm_model.specs.declared.entry.Answer.TheVariants.{Value as Made, Yes, No, Failed}
use Rattle.sm_model.specs.declared.value.Value.{Value}
use Rattle.sm_model.specs.declared.value.Value.TheVariants.{Text, Bytes}
use Rattle.sm_rotator.specs.Absent.{is_failed}

abbrev pub same_value : Value → Value → Bool
same_value (Text a) (Text b) = pointwise nat_eq a b
same_value (Text a) (Bytes b) = false
same_value (Bytes a) (Text b) = false
same_value (Bytes a) (Bytes b) = pointwise nat_eq a b

abbrev pub is_value : Value → Answer → Bool
is_value value (Made other) = same_value value other
is_value value Yes = false
is_value value No = false
is_value value Failed = false

abbrev pub is_yes : Answer → Bool
is_yes (Made value) = false
is_yes Yes = true
is_yes No = false
is_yes Failed = false

abbrev pub is_no : Answer → Bool
is_no (Made value) = false
is_no Yes = false
is_no No = true
is_no Failed = false

abbrev pub same_answer : Answer → Answer → Bool
same_answer (Made value) answer = is_value value answer
same_answer Yes answer = is_yes answer
same_answer No answer = is_no answer
same_answer Failed answer = is_failed answer

-- that the step failed, or this answer
abbrev pub may_give : Answer → Answer → Bool
may_give wanted answer = is_failed answer || same_answer wanted answer
