use Rattle.std.proofs.Common.{◌∷◌, [], map, ap, ◌∙◌}
use Rattle.sm_http.specs.Reading.{pair_of}
use Rattle.sm_drill.specs.Messages.{target_field, target_of}
use Rattle.sm_drill.specs.Steps.{step_of}
use Rattle.sm_drill.proofs.AskedLemmas.{message_asks}
use Rattle.sm_drill.proofs.message.message_of.Goals as goal

pub returns-clause-asks : goal.returns-clause-asks
returns-clause-asks c =
    let step = c.step_of-step.ensures in
    message_asks (step_of c.args.index c.args.word) c.args.index c.args.word (map pair_of c.in_ok-fields.fields)
    c.in_ok-body.body (c.in_ok-fields.ensures ∙ ap (λ t. target_field t ∷ []) (c.target_of.ensures ∙ ap target_of step))
    (rw step at c.in_ok-body.ensures.asks)
