use Rattle.std.proofs.Common.{Some, [], ◌∷◌, codes}
use Rattle.serde_json.specs.Data.{string}
use Rattle.sm_reply.specs.Members.{Given}
use Rattle.sm_reply.proofs.TokenLemmas.{behind_more}
use Rattle.sm_reply.proofs.batches.batch_error_members.Goals as goal

pub returns : goal.returns
returns c =
    let error = c.args.error.now in
    let named : Given = (codes "ErrorCode", Some (string error.error_code)) in
    let said : Given = (codes "Message", Some (string error.message)) in
    let asked : Given = (codes "SecretId", Some (string error.secret_id)) in
    behind_more named (said ∷ asked ∷ []) c.args.out.now c.put.new.out c.put-3.new.out c.in_ok-put.ensures
    (behind_more said (asked ∷ []) c.put.new.out c.put-2.new.out c.put-3.new.out c.in_ok-put-2.ensures
    c.in_ok-put-3.ensures)
