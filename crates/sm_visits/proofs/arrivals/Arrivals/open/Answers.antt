use Rattle.std.proofs.Common.{ap, arith, ◌∙◌, sym}
use Rattle.sm_visits.specs.Visits.{ArrivalsState}
use Rattle.sm_visits.proofs.OpenLemmas.{opens_fault, opens_end}
use Rattle.sm_visits.proofs.arrivals.Arrivals.open.Goals as goal

pub returns-in-Fault : goal.returns-in-Fault
returns-in-Fault c =
    let waits = ap (λ (s : ArrivalsState). s.waiting) c.self.view_is in
    let over = ap (λ (s : ArrivalsState). s.over) c.self.view_is in
    let count = ap (λ (s : ArrivalsState). s.in_visit) c.self.view_is in
    opens_fault _ _ _ c.self.inside.start c.as_slice.ensures.value waits _ _ _
    (sym over ∙ c.if-self.false, omega (arith, count, c.if-self-ge-VISIT_LIMIT.false)) c.open_all.ensures.all
    c.open_all.ensures.last c.in-Fault.field-0 c.in-Fault.ensures

pub returns-then-has_ended : goal.returns-then-has_ended
returns-then-has_ended c =
    let waits = ap (λ (s : ArrivalsState). s.waiting) c.self.view_is in
    let over = ap (λ (s : ArrivalsState). s.over) c.self.view_is in
    let count = ap (λ (s : ArrivalsState). s.in_visit) c.self.view_is in
    opens_end _ _ _ c.self.inside.start c.as_slice.ensures.value waits _ _ _
    (sym over ∙ c.if-self.false, omega (arith, count, c.if-self-ge-VISIT_LIMIT.false))
    c.open_all-then-has_ended.ensures.all c.open_all-then-has_ended.ensures.last c.in-Partial.ensures
    c.if-has_ended.true
