use Rattle.std.proofs.Common.{rules}
use Rattle.std.proofs.lemmas.Fn.{always_returns_same}
use Rattle.sm_forms.specs.KeyOrder.{comes_before}
use Rattle.sm_forms.proofs.key_order.rise.Goals as goal

pub returns : goal.returns
returns c =
    c.is_sorted_by.ensures.cases (comes_before c.args.tags.now)
    (always_returns_same _ _ _ (λ a r f h. search rules))
