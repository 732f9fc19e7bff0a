use Rattle.std.proofs.Common.{◌∙◌, arith}
use Rattle.sm_forms.proofs.KeyOrderLemmas.{once_in_order}
use Rattle.sm_forms.proofs.key_order.once_in_order.Goals as goal

pub returns : goal.returns
returns c =
    once_in_order c.args.tags.now c.number.new.places c.sort.new.places c.rise.result
    (c.number.ensures.same_length ∙ c.requires.room)
    (λ k under. c.number.ensures.numbered k (omega (arith, c.number.ensures.same_length)))
    c.sort.ensures.permutation c.sort.ensures.sorted c.rise.ensures
