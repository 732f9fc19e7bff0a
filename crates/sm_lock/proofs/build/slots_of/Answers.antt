use Rattle.std.proofs.Common.{[], ◌∷◌, ◌++◌, Some, ap, ◌∙◌}
use Rattle.sm_lock.proofs.build.slots_of.Goals as goal

pub returns-in-Ok-new-clause-ok : goal.returns-in-Ok-new-clause-ok
returns-in-Ok-new-clause-ok g c =
    let block = c.in-Ok-new.block in (
      block,
      c.push_reserved.ensures.items ∙ ap (λ slots. slots ++ Some block ∷ []) c.in-Ok.ensures.items,
      c.in-Ok-new.ensures.ok,
    )
