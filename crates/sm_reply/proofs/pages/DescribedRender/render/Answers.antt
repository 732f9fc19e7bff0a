use Rattle.sm_reply.specs.Shown.{listed_members}
use Rattle.sm_reply.proofs.TokenLemmas.{object_written}
use Rattle.sm_reply.proofs.pages.DescribedRender.render.Goals as goal

pub returns : goal.returns
returns c =
    object_written (listed_members c.args.self.now) c.args.out.now c.begin_object.new.self c.listed_members.new.out
    c.end_object.new.self c.in_ok-begin_object.ensures c.in_ok-listed_members.ensures c.in_ok-end_object.ensures
