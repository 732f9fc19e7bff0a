use Rattle.std.proofs.Common.{Some, [], ◌∷◌, option_map, codes}
use Rattle.serde_json.specs.Data.{string}
use Rattle.sm_reply.specs.Members.{Given}
use Rattle.sm_reply.specs.Shown.{date}
use Rattle.sm_reply.proofs.TokenLemmas.{behind_more}
use Rattle.sm_reply.proofs.pages.put_first.Goals as goal

pub returns : goal.returns
returns c =
    let reply = c.args.reply.now in
    let arn : Given = (codes "ARN", Some (string reply.arn)) in
    let created : Given = (codes "CreatedDate", Some (date reply.created_date)) in
    let deleted : Given = (codes "DeletedDate", option_map date reply.deleted_date) in
    let described : Given = (codes "Description", option_map string reply.description) in
    let key : Given = (codes "KmsKeyId", option_map string reply.kms_key_id) in
    behind_more arn (created ∷ deleted ∷ described ∷ key ∷ []) c.args.out.now c.put.new.out c.put_if-3.new.out
    c.in_ok-put.ensures
    (behind_more created (deleted ∷ described ∷ key ∷ []) c.put.new.out c.put-2.new.out c.put_if-3.new.out
    c.in_ok-put-2.ensures
    (behind_more deleted (described ∷ key ∷ []) c.put-2.new.out c.put_if.new.out c.put_if-3.new.out
    c.in_ok-put_if.ensures
    (behind_more described (key ∷ []) c.put_if.new.out c.put_if-2.new.out c.put_if-3.new.out
    c.in_ok-put_if-2.ensures
    c.in_ok-put_if-3.ensures)))
