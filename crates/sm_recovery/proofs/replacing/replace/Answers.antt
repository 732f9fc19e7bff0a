use Rattle.std.proofs.Common.{◌≡◌, ◌∙◌, Some, refl, ap}
use Rattle.sm_store.specs.Stores.{disk_of, length_of, disk_in}
use Rattle.sm_recovery.proofs.TakingLemmas.{new_length, base_keeps, new_keeps}
use Rattle.sm_recovery.proofs.replacing.replace.Goals as goal

pub returns-in-Ok-clause-replaces : goal.returns-in-Ok-clause-replaces
returns-in-Ok-clause-replaces g c =
    let size = c.length-after.ensures ∙ new_length c.in-Ok.store _ c.args.base c.in-Ok.ensures.opened
    c.in-Ok.ensures.format in
    record {
      store = c.in-Ok.ensures.opened;
      second = c.in-Ok.ensures.format;
      taken = λ i. record { base = Some c.args.base; entries = c.empty.ensures i };
      replayed_is = refl;
      replaced = ap (λ n. Some (n, c.length-after.result)) c.length-before.ensures
          ∙ ap (λ n. Some (length_of c.args.store, n)) size;
    }

pub returns-in-Ok-clause-any_moment : goal.returns-in-Ok-clause-any_moment
returns-in-Ok-clause-any_moment g c h holds makes =
    new_keeps g.D.Disk c.args.store c.args.base (disk_of c.in-Ok.store) h holds makes
    (c.in-Ok.ensures.any_moment h holds)

pub returns-in-Err-clause-stays : goal.returns-in-Err-clause-stays
returns-in-Err-clause-stays g c h holds makes =
    base_keeps g.D.Disk c.args.store c.args.base (disk_in c.in-Err.refused) h holds makes
    (c.in-Err.ensures.left h holds)
