use Rattle.std.proofs.Common.{ap, subst}
use Rattle.sm_lock.specs.Story.{Grows}
use Rattle.sm_lock.proofs.Stories.{mine-same}
use Rattle.sm_lock.proofs.gate.Gate.hear.Goals as goal

pub returns-clause-mine : goal.returns-clause-mine
returns-clause-mine g c =
    let pass = c.args.pass in let v = pass.place.me.0 in let w = c.join.new.place.me.0 in
    mine-same pass.number v.built w.built v.own.seen w.own.seen (ap (λ m. m.0.built) c.join.ensures.place) pass.begins
    (subst (λ ns. Grows ns v.own.seen w.own.seen) pass.rests.numbers c.join.ensures.seen)
