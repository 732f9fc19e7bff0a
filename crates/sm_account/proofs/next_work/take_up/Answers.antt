use Rattle.sm_claims.specs.Ready.{first_ready}
use Rattle.sm_account.specs.AccountState.{history_in}
use Rattle.sm_account.proofs.ClaimedLemmas.{claimed_kept, next_is}
use Rattle.sm_account.proofs.CallOutcomeLemmas.{claim_added, room_taken}
use Rattle.sm_account.proofs.RoomLemmas.{room_kept}
use Rattle.sm_account.proofs.next_work.take_up.Goals as goal

pub returns-in-Ok : goal.returns-in-Ok
returns-in-Ok g c =
    let old = c.args.inner.now in
    let new = c.claim.new.inner in
    let work = c.args.work in
    record {
      kept = claimed_kept old new c.args.seat work c.args.moment c.claim.ensures.rest c.in-Ok.ensures.claimed
          c.in-Ok.ensures.counted c.in-Ok.ensures.added c.requires.kept c.requires.ready;
      next = next_is (first_ready (history_in old) c.args.moment old.table.secrets) work c.requires.ready;
      leaves = claim_added old new c.args.seat c.claim.ensures.rest work.arn work.at c.args.moment
          c.in-Ok.ensures.claimed;
    }

pub returns-in-Err : goal.returns-in-Err
returns-in-Err g c =
    let old = c.args.inner.now in
    let new = c.claim.new.inner in
    record {
      kept = room_kept old new c.in-Err.ensures.same c.requires.kept;
      next = tt;
      leaves = room_taken old new c.args.seat c.in-Err.ensures.same.rest;
    }
