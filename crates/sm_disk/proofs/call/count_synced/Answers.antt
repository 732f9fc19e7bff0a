use Rattle.std.proofs.Common.{◌≡◌, true, false, sym, ◌∙◌, arith}
use Rattle.std.proofs.lemmas.Bool.{cond-true, cond-false}
use Rattle.sm_disk.specs.Calls.{syncs}
use Rattle.sm_disk.proofs.Syncs.{count_to_last_more}
use Rattle.sm_disk.proofs.call.count_synced.Goals as goal
use Rattle.sm_disk.proofs.call.count_synced.Goals.{then-is_sync, else-is_sync}

pub loop-index-preserved : goal.loop-index-preserved
loop-index-preserved c =
    let test = syncs c.args.file in
    let more = count_to_last_more test c.args.calls.now c.loop-index.index c.index-calls-index.result
    c.loop-index-test.true c.index-calls-index.is in
    elim c.if-is_sync.branch [
      | then-is_sync w ↦
          let passes : test c.index-calls-index.result ≡ true = sym c.is_sync.ensures ∙ w.if-is_sync.true in
          record { count = w.count-is ∙ sym (more ∙ cond-true _ _ _ passes); within = omega arith }
      | else-is_sync w ↦
          let fails : test c.index-calls-index.result ≡ false = sym c.is_sync.ensures ∙ w.if-is_sync.false in
          record {
            count = w.count-is ∙ c.loop-index.invariant.count
                ∙ sym (more ∙ cond-false _ _ _ fails);
            within = omega arith;
          }
    ]
