use Rattle.std.proofs.Common.{◌≡◌, None, take, refl, ap, sym, subst, arith, ◌∙◌}
use Rattle.sm_http.specs.Heads.{Passed, head_limit, head_length}
use Rattle.sm_http.proofs.AheadLemmas.{moves_none, moves_more}
use Rattle.sm_http.proofs.MoreBytesLemmas.{unmoved, passed_more}
use Rattle.sm_http.proofs.ReaderLemmas.{lacks_none}
use Rattle.sm_http.proofs.reader.seek_head.Goals as goal

pub loop-ahead-init : goal.loop-ahead-init
loop-ahead-init g c =
    (moves_none _ _ _ refl, omega arith, refl, unmoved (head_length c.args.ahead.now), λ there. (refl, refl))

pub loop-ahead-preserved : goal.loop-ahead-preserved
loop-ahead-preserved g c =
    let before = c.loop-ahead.invariant in
    let step = c.in-Got.ensures in
    let none : head_length c.loop-ahead.ahead ≡ None
    = sym (c.in-None.ensures.value ∙ ap head_length c.as_slice.ensures) in (
      moves_more _ _ _ _ _ _ before.0 step.moves,
      cc (step.no_other, before.1),
      cc (step.beside, before.2),
      subst (λ bytes. Passed c.saturating_sub-passed.result (take head_limit bytes)) (sym step.moves.grows)
          (passed_more c.loop-ahead.ahead step.moves.taken c.saturating_sub-passed.result none (omega arith)
          (omega arith)),
      λ there. lacks_none _ _ _ _ before.4 (none, omega arith) there,
    )

pub returns-in-End-clause-moves : goal.returns-in-End-clause-moves
returns-in-End-clause-moves g c = moves_more _ _ _ _ _ _ c.loop-ahead.invariant.0 c.in-End.ensures.moves

pub returns-in-Failed-clause-moves : goal.returns-in-Failed-clause-moves
returns-in-Failed-clause-moves g c = moves_more _ _ _ _ _ _ c.loop-ahead.invariant.0 c.in-Failed.ensures.moves

pub returns-in-Memory-clause-moves : goal.returns-in-Memory-clause-moves
returns-in-Memory-clause-moves g c = moves_more _ _ _ _ _ _ c.loop-ahead.invariant.0 c.in-Memory.ensures.moves

pub returns-in-End-clause-still : goal.returns-in-End-clause-still
returns-in-End-clause-still g c =
    lacks_none _ _ _ _ c.loop-ahead.invariant.4
    (sym (c.in-None.ensures.value ∙ ap head_length c.as_slice.ensures), omega arith)

pub returns-in-Failed-clause-still : goal.returns-in-Failed-clause-still
returns-in-Failed-clause-still g c =
    lacks_none _ _ _ _ c.loop-ahead.invariant.4
    (sym (c.in-None.ensures.value ∙ ap head_length c.as_slice.ensures), omega arith)

pub returns-in-Memory-clause-still : goal.returns-in-Memory-clause-still
returns-in-Memory-clause-still g c =
    lacks_none _ _ _ _ c.loop-ahead.invariant.4
    (sym (c.in-None.ensures.value ∙ ap head_length c.as_slice.ensures), omega arith)
