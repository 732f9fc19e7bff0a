use Rattle.std.proofs.Common.{ap, sym, ◌∙◌}
use Rattle.serde_json.specs.View.{members_view}
use Rattle.serde_json.proofs.Views.{Entry}
use Rattle.sm_policy_text.specs.Kinds.{all_members}
use Rattle.sm_policy_text.proofs.ItemLemmas.{with_front}
use Rattle.sm_policy_text.proofs.MemberLemmas.{members_more}
use Rattle.sm_policy_text.proofs.condition.all_members.Goals as goal

pub loop-key-preserved : goal.loop-key-preserved
loop-key-preserved g c =
    let e : Entry = (c.in-Some.key.now, c.in-Some.value.now) in
    members_more g.R.MemberReader.reads c.loop-key.key-iterator c.next.new.self e c.in-Some.ensures.steps _
    c.loop-key.parts c.as_str.result.now c.in-Is.part c.as_str.ensures.value c.in-Is.ensures c.loop-key.invariant
    ∙ ap (λ front. with_front front (all_members g.R.MemberReader.reads (members_view c.next.new.self)))
    (sym c.in-Ok.ensures.ok)
