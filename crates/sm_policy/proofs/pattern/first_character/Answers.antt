use Rattle.std.proofs.Common.{arith, ◌∙◌}
use Rattle.sm_policy.proofs.CharacterLemmas.{each_case, one_byte, two_cut, two_bytes, three_cut, three_cut_later, three_bytes, four_cut, four_cut_later, four_cut_last, four_bytes}
use Rattle.sm_policy.proofs.pattern.first_character.Goals as goal

pub returns-then-lead-lt128 : goal.returns-then-lead-lt128
returns-then-lead-lt128 c = one_byte _ _ _ _ c.in-Some.ensures c.if-lead-lt128.true c.from.ensures

pub returns-then-lead-lt224 : goal.returns-then-lead-lt224
returns-then-lead-lt224 c =
    let has = c.from-then-lead-lt224.ensures ∙ c.saturating_sub.ensures in
    each_case c.continued.result _ _ _ _
    (two_cut _ _ _ _ c.in-Some.ensures (omega arith) (omega arith) has)
    (λ x on. two_bytes _ _ _ _ c.in-Some.ensures (omega arith) (omega arith) has x.0 x.1.now on) c.continued.ensures

pub returns-in_default-continued : goal.returns-in_default-continued
returns-in_default-continued c =
    three_cut _ _ _ _ c.in-Some.ensures (omega arith) (omega arith)
    (c.from-then-lead-lt240.ensures ∙ c.saturating_sub-then-lead-lt240.ensures) c.in_default-continued.ensures

pub returns-then-lead-lt240 : goal.returns-then-lead-lt240
returns-then-lead-lt240 c =
    let has = c.from-then-lead-lt240.ensures ∙ c.saturating_sub-then-lead-lt240.ensures in
    each_case c.continued-then-lead-lt240-2.result _ _ _ _
    (three_cut_later _ _ _ _ c.in-Some.ensures (omega arith) (omega arith) has _ _ c.in-Some-continued.ensures)
    (λ x on. three_bytes _ _ _ _ c.in-Some.ensures (omega arith) (omega arith) has _ _ x.0 x.1.now
    c.in-Some-continued.ensures on) c.continued-then-lead-lt240-2.ensures

pub returns-in_default-continued-2 : goal.returns-in_default-continued-2
returns-in_default-continued-2 c =
    four_cut _ _ _ _ c.in-Some.ensures (omega arith)
    (c.from-2.ensures ∙ c.saturating_sub-2.ensures) c.in_default-continued-2.ensures

pub returns-in_default-continued-3 : goal.returns-in_default-continued-3
returns-in_default-continued-3 c =
    four_cut_later _ _ _ _ c.in-Some.ensures (omega arith) (c.from-2.ensures ∙ c.saturating_sub-2.ensures) _ _
    c.in-Some-continued-2.ensures c.in_default-continued-3.ensures

pub returns : goal.returns
returns c =
    let has = c.from-2.ensures ∙ c.saturating_sub-2.ensures in
    each_case c.continued-4.result _ _ _ _
    (four_cut_last _ _ _ _ c.in-Some.ensures (omega arith) has _ _ _ _ c.in-Some-continued-2.ensures
    c.in-Some-continued-3.ensures)
    (λ x on. four_bytes _ _ _ _ c.in-Some.ensures (omega arith) has _ _ _ _ x.0 x.1.now (omega arith)
    c.in-Some-continued-2.ensures c.in-Some-continued-3.ensures on) c.continued-4.ensures
