use Rattle.std.proofs.Common.{◌≡◌, ◌∙◌, ◌<◌, false, length, nat_eq, slice_get, sym, ap, arith}
use Rattle.std.specs.Cmp.Lexicographic.{pointwise}
use Rattle.sm_base.specs.Blocks.{passes}
use Rattle.sm_base.specs.Sums.{sum_of}
use Rattle.sm_base.proofs.BlockLemmas.{length_numbered, other_number}
use Rattle.sm_base.proofs.PlaceLemmas.{passed_at, not_passed}
use Rattle.sm_base.proofs.blocks.Blocks.position.Goals as goal
use Rattle.sm_base.proofs.blocks.Blocks.position.Goals.{else-index-sum-via-then-index-sum+else-has_key, else-index-sum-via-else-index-sum}

pub returns-then-has_key : goal.returns-then-has_key
returns-then-has_key g c =
    sym (passed_at (λ item. pointwise nat_eq (g.T.Keyed.key item) c.args.key.now) c.args.self.now c.loop-at.at
    c.loop-at.invariant (sym c.has_key.ensures ∙ c.if-has_key.true))

pub loop-at-preserved : goal.loop-at-preserved
loop-at-preserved g c =
    let here : c.loop-at.at < length c.self.inside.sums.items =
    omega (arith, c.loop-at-test.true, c.len-at-end.ensures, c.self.inside.sums.ok) in
    let all = length_numbered (λ item. sum_of (g.T.Keyed.key item)) c.self.inside.shared.items c.self.inside.sums.items
    c.self.invariant ∙ ap length c.self.view_is in
    let fails : passes (λ item. pointwise nat_eq (g.T.Keyed.key item) c.args.key.now)
    (slice_get c.args.self.now c.loop-at.at) ≡ false =
    elim c.else-index-sum.branch [
      | else-index-sum-via-then-index-sum+else-has_key w ↦ sym w.has_key.ensures ∙ w.if-has_key.false
      | else-index-sum-via-else-index-sum w ↦
          rw (← c.self.view_is)
          (other_number (λ item. g.T.Keyed.key item) c.self.inside.shared.items c.self.inside.sums.items
          c.self.invariant
          c.loop-at.at c.index.result.now c.args.key.now here c.index.ensures
          (λ same. w.if-index-sum.false (same ∙ sym c.requires)))
    ] in
    not_passed (λ item. pointwise nat_eq (g.T.Keyed.key item) c.args.key.now) c.args.self.now c.loop-at.at
    (omega (arith, here, all)) c.loop-at.invariant fails
