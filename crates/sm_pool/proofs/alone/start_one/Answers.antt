use Rattle.std.proofs.Common.{refl}
use Rattle.sm_account.specs.Accounts.{base, history}
use Rattle.sm_account.specs.SeatTraces.{NoGap}
use Rattle.sm_pool.specs.declared.done.Trouble.TheVariants as troubles
use Rattle.sm_pool.proofs.CourseLemmas.{begun_start, undrawn_start}
use Rattle.sm_pool.proofs.alone.start_one.Goals as goal

pub returns-in-Bytes-clause-starts : goal.returns-in-Bytes-clause-starts
returns-in-Bytes-clause-starts g c =
    let account = c.args.account.now in
    begun_start (base account) NoGap (λ h. refl) c.args.seat c.in-Bytes.drawn c.start-begun.result.started
    c.start-begun.result.now _ _ _ (history account) (history c.start-begun.new.account)
    c.done_started.result c.start-begun.ensures.starts c.in-Bytes.ensures.long c.start-begun.ensures.told
    c.in-Bytes.ensures.told c.done_started.ensures

pub returns-in-Failed-clause-starts : goal.returns-in-Failed-clause-starts
returns-in-Failed-clause-starts g c =
    let account = c.args.account.now in
    undrawn_start (base account) NoGap (λ h. refl) c.args.seat troubles.Words _ _ _ (history account) tt
    c.in-Failed.ensures.failed c.in-Failed.ensures.told

pub returns-in-Memory-clause-starts : goal.returns-in-Memory-clause-starts
returns-in-Memory-clause-starts g c =
    let account = c.args.account.now in
    undrawn_start (base account) NoGap (λ h. refl) c.args.seat troubles.Memory _ _ _ (history account) tt tt
    c.in-Memory.ensures.told
