use Rattle.std.proofs.Common.{ap, slice_get, ◌∙◌}
use Rattle.sm_account.proofs.account.Account.entry.Goals as goal

pub returns : goal.returns
returns g c =
    c.entry_at.ensures
    ∙ ap (λ entries. slice_get entries c.args.place) (c.as_slice.ensures.value ∙ c.args.self.now.kept.whole)
