use Rattle.std.proofs.Common.{Err, subst, arith}
use Rattle.sm_principal.specs.declared.lines.LineRefused.{LineRefused}
use Rattle.sm_principal.specs.Lines.{with_line}
use Rattle.sm_principal.specs.Outcomes.{IsAdded}
use Rattle.sm_principal.proofs.PeopleLemmas.{shorter, goes_on, line_is_bad, last_line, last_is_bad}
use Rattle.sm_principal.proofs.people.persons_of.Goals as goal

pub returns-in-Err-Bad : goal.returns-in-Err-Bad
returns-in-Err-Bad c =
    line_is_bad _ c.loop-line.number c.loop-line.known c.loop-line.left.now c.in-Some.line.now c.in-Some.rest.now
    c.loop-line.invariant.0 c.in-Some.ensures
    (λ n. subst (λ (r : LineRefused). IsAdded (Err r) n (with_line n c.loop-line.known c.in-Some.line.now))
    c.in-Err-Bad.field-0-is (c.in-Err-Bad.ensures n))

pub loop-line-preserved : goal.loop-line-preserved
loop-line-preserved c = (
  goes_on _ c.loop-line.number c.loop-line.known c.loop-line.left.now c.in-Some.line.now c.in-Some.rest.now
      c.loop-line.invariant.0 c.in-Some.ensures c.in-Ok.more c.in-Ok.ensures,
  let less = shorter c.loop-line.left.now c.in-Some.line.now c.in-Some.rest.now c.in-Some.ensures in
      omega (arith, c.loop-line.invariant.1, less),
)

pub returns-in-Ok-with_line : goal.returns-in-Ok-with_line
returns-in-Ok-with_line c =
    last_line _ c.loop-line.number c.loop-line.known c.loop-line.left.now c.loop-line.invariant.0 c.in_default.ensures
    c.in-Ok-with_line.known c.in-Ok-with_line.ensures

pub returns-in-Err-Bad-with_line : goal.returns-in-Err-Bad-with_line
returns-in-Err-Bad-with_line c =
    last_is_bad _ c.loop-line.number c.loop-line.known c.loop-line.left.now c.loop-line.invariant.0
    c.in_default.ensures
    (λ n. subst (λ (r : LineRefused). IsAdded (Err r) n (with_line n c.loop-line.known c.loop-line.left.now))
    c.in-Err-Bad-with_line.field-0-is (c.in-Err-Bad-with_line.ensures n))
