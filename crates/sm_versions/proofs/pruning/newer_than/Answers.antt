use Rattle.std.proofs.Common.{◌+◌, option_copied, sym, ap, ◌∙◌, arith}
use Rattle.std.proofs.lemmas.Bool.Decides.{nat_tests}
use Rattle.sm_versions.proofs.PruneLemmas.{newer_then, newer_else, newer_none}
use Rattle.sm_versions.proofs.pruning.newer_than.Goals.{in-Some+then-serial-version, in-Some+else-serial-version, in_default}
use Rattle.sm_versions.proofs.pruning.newer_than.Goals as goal

pub loop-place-preserved : goal.loop-place-preserved
loop-place-preserved c =
    let inv = c.loop-place.invariant in
    elim c.match-get.branch [
      | in-Some+then-serial-version w ↦ (
        w.newer-is ∙ ap (λ n. n + 1) inv.0 ∙ sym (newer_then c.args.versions.now c.loop-place.place
            w.in-Some.version.now c.args.serial (sym c.get.ensures ∙ ap option_copied w.in-Some.is)
            (grind (arith, nat_tests, w.if-serial-version.true))),
        omega (arith, w.newer-is, inv.1),
      )
      | in-Some+else-serial-version w ↦ (
        w.newer-is ∙ inv.0 ∙ sym (newer_else c.args.versions.now c.loop-place.place w.in-Some.version.now
            c.args.serial (sym c.get.ensures ∙ ap option_copied w.in-Some.is)
            (grind (arith, nat_tests, w.if-serial-version.false))),
        omega (arith, w.newer-is, inv.1),
      )
      | in_default w ↦ (
        w.newer-is ∙ inv.0 ∙ sym (newer_none c.args.versions.now c.loop-place.place c.args.serial
            (omega (arith, c.loop-place-test.true, c.len-place-end.ensures))
            (sym c.get.ensures ∙ ap option_copied w.in_default.is)),
        omega (arith, w.newer-is, inv.1),
      )
    ]
