use Rattle.std.proofs.Common.{◌∙◌}
use Rattle.sm_dates.proofs.DayLemmas.{one_date}
use Rattle.sm_dates.proofs.dates.show.Goals as goal

pub returns-clause-date : goal.returns-clause-date
returns-clause-date c = (c.date_of-date.result, c.date_of-date.ensures, c.new.ensures ∙ c.in_ok-format.ensures.ok)

pub returns-clause-only : goal.returns-clause-only
returns-clause-only c =
    λ other date. one_date c.args.moment c.new.result other
    (c.date_of-date.result, c.date_of-date.ensures, c.new.ensures ∙ c.in_ok-format.ensures.ok) date
