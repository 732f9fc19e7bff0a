use Rattle.std.proofs.Common.{◌+◌, option_copied, sym, ap, ◌∙◌, arith}
use Rattle.sm_versions.proofs.PruneLemmas.{kept_then, kept_else, kept_none}
use Rattle.sm_versions.proofs.pruning.kept_count.Goals.{in-Some+then-is_kept, in-Some+else-is_kept, in_default}
use Rattle.sm_versions.proofs.pruning.kept_count.Goals as goal

pub loop-place-preserved : goal.loop-place-preserved
loop-place-preserved c =
    let inv = c.loop-place.invariant in
    elim c.match-get.branch [
      | in-Some+then-is_kept w ↦ (
        w.count-is ∙ ap (λ n. n + 1) inv.0 ∙ sym (kept_then c.args.row.now c.args.moment c.loop-place.place
            w.in-Some.version.now (sym c.get.ensures ∙ ap option_copied w.in-Some.is)
            (sym w.is_kept.ensures ∙ w.if-is_kept.true)),
        omega (arith, w.count-is, inv.1),
      )
      | in-Some+else-is_kept w ↦ (
        w.count-is ∙ inv.0 ∙ sym (kept_else c.args.row.now c.args.moment c.loop-place.place w.in-Some.version.now
            (sym c.get.ensures ∙ ap option_copied w.in-Some.is) (sym w.is_kept.ensures ∙ w.if-is_kept.false)),
        omega (arith, w.count-is, inv.1),
      )
      | in_default w ↦ (
        w.count-is ∙ inv.0 ∙ sym (kept_none c.args.row.now c.args.moment c.loop-place.place
            (omega (arith, c.loop-place-test.true, c.len-place-end.ensures))
            (sym c.get.ensures ∙ ap option_copied w.in_default.is)),
        omega (arith, w.count-is, inv.1),
      )
    ]
