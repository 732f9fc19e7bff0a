use Rattle.std.proofs.Common.{refl, subst, arith}
use Rattle.sm_store.specs.Stores.{IsOpened, disk_of}
use Rattle.sm_store.specs.Held.{only}
use Rattle.sm_follow.proofs.DiskLemmas.{refused_later, refused_puts, refused_sure}
use Rattle.sm_follow.proofs.promoting.put_base.Goals as goal

pub returns-in-Ok-clause-put : goal.returns-in-Ok-clause-put
returns-in-Ok-clause-put g c held opened = (
  subst (λ n. IsOpened n (only c.args.base.now) c.in-Ok.store) c.requires.sure.under c.in-Ok.ensures.opened,
  refl,
  refl,
)

pub end_refused-requires : goal.end_refused-requires
end_refused-requires g c = record { stopped = (disk_of c.args.follower.store, c.in-Err.ensures.stopped) }

pub returns-in-Err-clause-put : goal.returns-in-Err-clause-put
returns-in-Err-clause-put g c held opened =
    let first = disk_of c.args.follower.store in
    refused_puts first (g.D.Disk.sight first) held c.args.base.now c.args.follower.replica c.args.said c.in-Err.refused
    c.end_refused.result c.in-Err.ensures.stopped (c.in-Err.ensures.left held opened.holds) c.end_refused.ensures

pub returns-in-Err-clause-sure : goal.returns-in-Err-clause-sure
returns-in-Err-clause-sure g c =
    refused_sure (disk_of c.args.follower.store) c.in-Err.refused c.end_refused.result c.end_refused.ensures

pub returns-in-Err-clause-later : goal.returns-in-Err-clause-later
returns-in-Err-clause-later g c =
    refused_later (disk_of c.args.follower.store) c.in-Err.refused c.end_refused.result c.in-Err.ensures.stopped
    c.end_refused.ensures

pub returns-in-Ok-clause-later : goal.returns-in-Ok-clause-later
returns-in-Ok-clause-later g c = omega (arith, c.in-Ok.ensures.no_other)
