-- The line by which a rotator behind an address is asked for a step.
-- AWS Secrets Manager User Guide: "Lambda rotation functions" (SecretId, ClientRequestToken, Step).
use Rattle.std.specs.Prelude.{ℕ, List, [], ◌∷◌, ◌++◌, codes, Option, Some, None, option_map}
use Rattle.base64.specs.Engines.{standard}
use Rattle.base64.specs.GeneralPurpose.{encode_of}
use Rattle.serde_json.specs.Data.{Data, string, object, Members, no_members, put}
use Rattle.serde_json.specs.Written.{compact_text}
use Rattle.sm_model.specs.declared.rows.Stage.{Stage}
use Rattle.sm_model.specs.declared.rows.Stage.TheVariants.{Create, Set, Test, Finish}
use Rattle.sm_model.specs.declared.value.Value.{Value}
use Rattle.sm_model.specs.declared.value.Value.TheVariants.{Text, Bytes}
use Rattle.sm_rotator.specs.declared.work.Work.{Work}

-- the name of a step
unfoldable pub step_name : Stage → List ℕ
step_name Create = codes "createSecret"
step_name Set = codes "setSecret"
step_name Test = codes "testSecret"
step_name Finish = codes "finishSecret"

-- a value as an object with its one member
unfoldable pub value_json : Value → Data
value_json (Text text) = object (put (codes "SecretString") (string text) no_members)
value_json (Bytes bytes) = object (put (codes "SecretBinary") (string (encode_of standard bytes)) no_members)

-- the members with one more, where it is there
abbrev pub put_if : List ℕ → Option Data → Members → Members
put_if name None members = members
put_if name (Some value) members = put name value members

-- what asks for a step
unfoldable pub asked_members : Work → Members
asked_members work =
    put (codes "Step") (string (step_name work.at.stage))
    (put (codes "SecretId") (string work.arn)
    (put_if (codes "Pending") (option_map value_json work.pending)
    (put_if (codes "Current") (option_map value_json work.current)
    (put (codes "ClientRequestToken") (string work.at.token) no_members))))

-- the line, with its end
abbrev pub line_of : Work → List ℕ
line_of work = compact_text (object (asked_members work)) ++ 10 ∷ []
