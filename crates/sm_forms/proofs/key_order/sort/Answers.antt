use Rattle.std.proofs.Common.{rules}
use Rattle.std.proofs.lemmas.Fn.{always_returns_same}
use Rattle.sm_forms.specs.KeyOrder.{comes_before}
use Rattle.sm_forms.proofs.KeyOrderLemmas.{is_order}
use Rattle.sm_forms.proofs.key_order.sort.Goals as goal

pub returns-clause-sorted : goal.returns-clause-sorted
returns-clause-sorted c =
    c.sort_unstable_by.ensures.sorted (comes_before c.args.tags.now) (is_order c.args.tags.now)
    (always_returns_same _ _ _ (λ a r f h. search rules))
