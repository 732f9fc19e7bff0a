use Rattle.std.proofs.Common.{◌+◌, take, option_copied, sym, ap, ◌∙◌, arith}
use Rattle.std.proofs.lemmas.Bool.Decides.{nat_tests}
use Rattle.sm_model.specs.Versions.{newer_than}
use Rattle.sm_versions.proofs.PruneLemmas.{greatest_then, greatest_else, greatest_none}
use Rattle.sm_versions.proofs.pruning.greatest.Goals.{in-Some+then-greatest-version, in-Some+else-greatest-version, in_default}
use Rattle.sm_versions.proofs.pruning.greatest.Goals as goal

pub loop-place-preserved : goal.loop-place-preserved
loop-place-preserved c =
    elim c.match-get.branch [
      | in-Some+then-greatest-version w ↦
          ap (λ s. newer_than (take (c.loop-place.place + 1) c.args.versions.now) s) w.greatest-is
          ∙ greatest_then c.args.versions.now c.loop-place.place w.in-Some.version.now c.loop-place.greatest
          (sym c.get.ensures ∙ ap option_copied w.in-Some.is) c.loop-place.invariant
          (grind (arith, nat_tests, w.if-greatest-version.true))
      | in-Some+else-greatest-version w ↦
          ap (λ s. newer_than (take (c.loop-place.place + 1) c.args.versions.now) s) w.greatest-is
          ∙ greatest_else c.args.versions.now c.loop-place.place w.in-Some.version.now c.loop-place.greatest
          (sym c.get.ensures ∙ ap option_copied w.in-Some.is) c.loop-place.invariant
          (grind (arith, nat_tests, w.if-greatest-version.false))
      | in_default w ↦
          ap (λ s. newer_than (take (c.loop-place.place + 1) c.args.versions.now) s) w.greatest-is
          ∙ greatest_none c.args.versions.now c.loop-place.place c.loop-place.greatest
          (omega (arith, c.loop-place-test.true, c.len-place-end.ensures))
          (sym c.get.ensures ∙ ap option_copied w.in_default.is) c.loop-place.invariant
    ]
