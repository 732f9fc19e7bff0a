use Rattle.sm_reply.specs.Shown.{got_members}
use Rattle.sm_reply.proofs.TokenLemmas.{object_written}
use Rattle.sm_reply.proofs.secrets.GotSecretRender.render.Goals as goal

pub returns : goal.returns
returns c =
    object_written (got_members c.args.self.now) c.args.out.now c.begin_object.new.self c.got_members.new.out
    c.end_object.new.self c.in_ok-begin_object.ensures c.in_ok-got_members.ensures c.in_ok-end_object.ensures
