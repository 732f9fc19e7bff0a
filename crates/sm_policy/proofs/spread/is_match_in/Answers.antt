use Rattle.std.proofs.Common.{◌∙◌, sym}
use Rattle.sm_policy.specs.Patterns.{letters, wild}
use Rattle.sm_policy.proofs.MatchInLemmas.{at_first, ended, nowhere, behind_star, behind_one}
use Rattle.sm_policy.proofs.spread.is_match_in.Goals as goal

pub loop-wanted-init : goal.loop-wanted-init
loop-wanted-init c =
    λ text are. at_first text c.put.new.set (wild (letters c.args.case c.args.pattern.now)) are.short c.put.ensures

pub returns-then-spread-lt-PLACES : goal.returns-then-spread-lt-PLACES
returns-then-spread-lt-PLACES c =
    λ text are. c.has.ensures
    ∙ ended text c.loop-wanted.set _ c.args.spread.now.length are.as_long c.in_default.ensures
    ∙ sym (c.loop-wanted.invariant text are)

pub returns-in_default-lowest : goal.returns-in_default-lowest
returns-in_default-lowest c =
    λ text are. nowhere text c.loop-wanted.set (wild (letters c.args.case c.loop-wanted.rest.now)) are.short
    c.in_default-lowest.ensures
    ∙ sym (c.loop-wanted.invariant text are)

pub loop-wanted-preserved-in-Some-lowest : goal.loop-wanted-preserved-in-Some-lowest
loop-wanted-preserved-in-Some-lowest c =
    λ text are. c.loop-wanted.invariant text are
    ∙ behind_star text c.loop-wanted.set c.fill_from.new.set (letters c.args.case c.loop-wanted.rest.now)
    (letters c.args.case c.in-Some.next.now) c.in-Some.wanted c.in-Some-lowest.low are.short c.in-Some.ensures.front
    c.if-wanted-eq-STAR.true c.in-Some-lowest.ensures c.fill_from.ensures

pub loop-wanted-preserved : goal.loop-wanted-preserved
loop-wanted-preserved c =
    λ text are. c.loop-wanted.invariant text are
    ∙ behind_one text c.loop-wanted.set c.go_on.new.set (letters c.args.case c.loop-wanted.rest.now)
    (letters c.args.case c.in-Some.next.now) c.in-Some.wanted c.in-Some.ensures.front c.if-wanted-eq-STAR.false
    (c.go_on.ensures text are)
