use Rattle.std.proofs.Common.{◌∙◌, arith}
use Rattle.std.proofs.lemmas.List.{length_push}
use Rattle.sm_model.specs.declared.rows.SecretRow.{SecretRow}
use Rattle.sm_listing.specs.Pages.{comes, ordered}
use Rattle.sm_listing.proofs.WalkLemmas.{page_full, listed_more}
use Rattle.sm_listing.proofs.pages.shown_rows.Goals as goal

pub returns-then-len-ask : goal.returns-then-len-ask
returns-then-len-ask g c =
    page_full c.args.ask.now.max (λ (row : SecretRow). row.serial) (comes c.args.moment c.args.ask.now c.args.start)
    (ordered c.args.ask.now.descending (g.L.RowList.rows c.args.rows.now)) c.loop-step.step c.row_at-row.result.now
    c.loop-step.serials.items c.row_at-row.ensures (cc) c.loop-step.invariant.0 (omega arith)

pub loop-step-preserved : goal.loop-step-preserved
loop-step-preserved g c =
    let row = c.row_at-row.result.now in
    let pushed = c.in_ok-push.ensures.items in (
      pushed ∙ listed_more (λ (r : SecretRow). r.serial) (comes c.args.moment c.args.ask.now c.args.start)
          (ordered c.args.ask.now.descending (g.L.RowList.rows c.args.rows.now)) c.loop-step.step row
          c.loop-step.serials.items c.row_at-row.ensures (cc) c.loop-step.invariant.0,
      rw pushed (rw (length_push c.loop-step.serials.items row.serial) (omega arith)),
    )
