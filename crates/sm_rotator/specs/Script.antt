-- The answers of a rotator that goes by the last four characters of the token, one for each stage.
use Rattle.std.specs.Prelude.{ℕ, ◌-◌, Bool, true, false, not, ◌&&◌, ◌++◌, nat_le, nat_lt, nat_eq, List, length, codes, Option, Some, None, slice_get, if◌then◌else◌}
use Rattle.sm_model.specs.declared.entry.At.{At}
use Rattle.sm_model.specs.declared.entry.Answer.{Answer}
use Rattle.sm_model.specs.declared.entry.Answer.TheVariants.{Value as Made, Yes, No}
use Rattle.sm_model.specs.declared.rows.Stage.{Stage}
use Rattle.sm_model.specs.declared.rows.Stage.TheVariants.{Create, Set, Test, Finish}
use Rattle.sm_model.specs.declared.value.Value.TheVariants.{Text}

-- how far from the token's end the stage's character is
abbrev pub from_end : Stage → ℕ
from_end Create = 4
from_end Set = 3
from_end Test = 2
from_end Finish = 1

-- the stage's character among the last four
abbrev pub character : List ℕ → Stage → Option ℕ
character token stage = slice_get token (length token - from_end stage)

-- n never agrees, the digits 1 to 4 agree from the attempt after their number on, and all else agrees
abbrev pub agrees : Option ℕ → ℕ → Bool
agrees None attempt = true
agrees (Some c) attempt =
    if nat_eq c 110 then false else
    (if nat_le 49 c && nat_le c 52 then nat_lt (c - 48) attempt else true)

-- the value that createSecret makes: a text of the token
unfoldable pub made_text : List ℕ → List ℕ
made_text token = codes "s-" ++ token

-- the answer to a step that agrees
abbrev pub agreed : List ℕ → Stage → Answer
agreed token Create = Made (Text (made_text token))
agreed token Set = Yes
agreed token Test = Yes
agreed token Finish = Yes

-- the answer to a step where the call is not told to fail
abbrev pub script_answer : At → Answer
script_answer at = if agrees (character at.token at.stage) at.attempt then agreed at.token at.stage else No
