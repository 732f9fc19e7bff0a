use Rattle.std.proofs.Common.{[], ◌∷◌}
use Rattle.sm_account.specs.Accounts.{base}
use Rattle.sm_lock.specs.Handles.{built_with, number, seen}
use Rattle.sm_lock.specs.Story.{Grows}
use Rattle.sm_lock.proofs.Stories.{grows-same}
use Rattle.sm_pool.specs.declared.done.Trouble.TheVariants as troubles
use Rattle.sm_pool.proofs.CourseLemmas.{begun_start, undrawn_start}
use Rattle.sm_pool.proofs.shared.draw_behind.Goals as goal

pub returns-in-Bytes-clause-starts : goal.returns-in-Bytes-clause-starts
returns-in-Bytes-clause-starts g c =
    let pass = c.args.pass in
    begun_start (base (built_with c.args.gate.now)) (Grows (number pass ∷ [])) (grows-same (number pass ∷ []))
    (number pass) c.in-Bytes.drawn c.start_behind-pass.result.begun.started
    c.start_behind-pass.result.begun.now _ _ _ (seen pass) (seen c.start_behind-pass.result.pass)
    c.done_started.result c.start_behind-pass.ensures.starts c.in-Bytes.ensures.long c.start_behind-pass.ensures.told
    c.in-Bytes.ensures.told c.done_started.ensures

pub returns-in-Failed-clause-starts : goal.returns-in-Failed-clause-starts
returns-in-Failed-clause-starts g c =
    let pass = c.args.pass in
    undrawn_start (base (built_with c.args.gate.now)) (Grows (number pass ∷ [])) (grows-same (number pass ∷ []))
    (number pass) troubles.Words _ _ _ (seen pass) tt
    c.in-Failed.ensures.failed c.in-Failed.ensures.told

pub returns-in-Memory-clause-starts : goal.returns-in-Memory-clause-starts
returns-in-Memory-clause-starts g c =
    let pass = c.args.pass in
    undrawn_start (base (built_with c.args.gate.now)) (Grows (number pass ∷ [])) (grows-same (number pass ∷ []))
    (number pass) troubles.Memory _ _ _ (seen pass) tt tt
    c.in-Memory.ensures.told
