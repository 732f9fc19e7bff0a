use Rattle.std.proofs.Common.{ap, ◌∙◌}
use Rattle.sm_lock.proofs.Stories.{mine-more}
use Rattle.sm_lock.proofs.gate.Gate.leave.Goals as goal

pub returns-clause-added : goal.returns-clause-added
returns-clause-added g c = λ entry is.
    let stay = c.args.held.stay in let v = stay.place.me.0 in let w = c.put.new.place.me.0 in
    mine-more stay.number v.built w.built v.own.seen w.own.seen entry
    (ap (λ m. m.0.built) c.put.ensures.place) stay.begins (ap (λ m. m.0.own.seen) c.put.ensures.place ∙ is)
