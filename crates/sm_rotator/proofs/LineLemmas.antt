-- What asks for a step has no number that is not whole.
use Rattle.std.proofs.Common.{◌≡◌, ℕ, List, false, codes, Option, Some, None, option_map, refl}
use Rattle.base64.specs.Engines.{standard}
use Rattle.base64.specs.GeneralPurpose.{encode_of}
use Rattle.serde_json.specs.Data.{string, Members, no_members, put}
use Rattle.serde_json.specs.Written.{has_float, members_have_float}
use Rattle.sm_model.specs.declared.value.Value.{Value}
use Rattle.sm_model.specs.declared.value.Value.TheVariants.{Text, Bytes}
use Rattle.sm_rotator.specs.declared.work.Work.{Work}
use Rattle.sm_rotator.specs.Line.{step_name, value_json, put_if, asked_members}
use Rattle.sm_rotator.proofs.FloatLemmas.{put_plain}

value_plain : (value : Value) → has_float (value_json value) ≡ false
unfolding value_json
value_plain (Text text) = put_plain (codes "SecretString") (string text) no_members refl refl
value_plain (Bytes bytes) = put_plain (codes "SecretBinary") (string (encode_of standard bytes)) no_members refl refl

put_if_plain : (name : List ℕ) (value : Option Value) (members : Members) → members_have_float members ≡ false
    → members_have_float (put_if name (option_map value_json value) members) ≡ false
put_if_plain name None members h = h
put_if_plain name (Some value) members h = put_plain name (value_json value) members (value_plain value) h

pub asked_plain : (work : Work) → members_have_float (asked_members work) ≡ false
unfolding asked_members
asked_plain work =
    let token : Members = put (codes "ClientRequestToken") (string work.at.token) no_members in
    let current : Members = put_if (codes "Current") (option_map value_json work.current) token in
    let pending : Members = put_if (codes "Pending") (option_map value_json work.pending) current in
    let arn : Members = put (codes "SecretId") (string work.arn) pending in
    put_plain (codes "Step") (string (step_name work.at.stage)) arn refl
    (put_plain (codes "SecretId") (string work.arn) pending refl
    (put_if_plain (codes "Pending") work.pending current
    (put_if_plain (codes "Current") work.current token
    (put_plain (codes "ClientRequestToken") (string work.at.token) no_members refl refl))))
