-- The answers of the rotator that goes by the token.
use Rattle.std.proofs.Common.{◌≡◌, ℕ, Bool, true, false, cond, List, sym, ◌∙◌}
use Rattle.sm_model.specs.declared.entry.At.{At}
use Rattle.sm_model.specs.declared.entry.Answer.{Answer}
use Rattle.sm_model.specs.declared.entry.Answer.TheVariants.{No, Failed}
use Rattle.sm_model.specs.declared.rows.Stage.{Stage}
use Rattle.sm_model.specs.declared.rows.Stage.TheVariants.{Create, Set, Test, Finish}
use Rattle.sm_rotator.specs.Script.{character, agrees, agreed, script_answer}

agreed_no : (token : List ℕ) (stage : Stage) → agreed token stage ≡ Failed → ⊥
agreed_no token Create h = cc
agreed_no token Set h = cc
agreed_no token Test h = cc
agreed_no token Finish h = cc

-- it is told to fail, or does not fail
pub script_is_no_failure : (at : At) (answer : Answer) → answer ≡ script_answer at → answer ≡ Failed → ⊥
script_is_no_failure at answer e h = by (agrees (character at.token at.stage) at.attempt) (sym e ∙ h)
  where
    by : (b : Bool) → cond b (agreed at.token at.stage) No ≡ Failed → ⊥
    by true g = agreed_no at.token at.stage g
    by false g = cc
