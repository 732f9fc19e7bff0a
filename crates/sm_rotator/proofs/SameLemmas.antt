-- Answers that are the same.
use Rattle.std.proofs.Common.{◌≡◌, true, refl}
use Rattle.std.specs.Cmp.Lexicographic.{bytes_decides}
use Rattle.std.proofs.lemmas.Bool.{or_right}
use Rattle.sm_model.specs.declared.entry.Answer.{Answer}
use Rattle.sm_model.specs.declared.entry.Answer.TheVariants.{Value as Made, Yes, No, Failed}
use Rattle.sm_model.specs.declared.value.Value.TheVariants.{Text, Bytes}
use Rattle.sm_rotator.specs.Absent.{is_failed}
use Rattle.sm_rotator.specs.Same.{same_answer, may_give}

same_itself : (answer : Answer) → same_answer answer answer ≡ true
same_itself (Made (Text a)) = (bytes_decides a a).1 refl
same_itself (Made (Bytes a)) = (bytes_decides a a).1 refl
same_itself Yes = refl
same_itself No = refl
same_itself Failed = refl

-- the wanted answer may be given
pub gives_wanted : (wanted answer : Answer) → answer ≡ wanted → may_give wanted answer ≡ true
gives_wanted wanted answer e = rw e (or_right (is_failed wanted) _ (same_itself wanted))
