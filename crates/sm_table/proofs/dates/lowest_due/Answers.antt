use Rattle.std.proofs.Common.{◌∙◌, sym}
use Rattle.sm_table.proofs.DateLemmas.{lowest_ends}
use Rattle.sm_table.proofs.dates.lowest_due.Goals as goal

pub returns-then-due-moment : goal.returns-then-due-moment
returns-then-due-moment c =
    sym (lowest_ends c.args.rows.now.list c.args.moment c.loop-due.lowest c.args.dates.now c.loop-due.due-index _
    c.loop-due-test.true c.requires c.if-due-moment.true)
    ∙ c.loop-due.invariant
