use Rattle.std.proofs.Common.{option_copied, sym, ap, ◌∙◌}
use Rattle.sm_versions.proofs.VersionLemmas.{found_there}
use Rattle.sm_rotation.proofs.StepLemmas.{marked_by, marked_not_found}
use Rattle.sm_rotation.proofs.finishing.marked.Goals.{in-Some+in-Some-get+in_ok-tested_version+in_ok-replace, in-Some+in_default-get, in_default}
use Rattle.sm_rotation.proofs.finishing.marked.Goals as goal

pub returns : goal.returns
returns c = elim c.match-position_of.branch [
  | in-Some+in-Some-get+in_ok-tested_version+in_ok-replace w ↦ marked_by c.args.versions.now c.in_ok-all.all
      c.match-position_of.all w.in-Some.place w.in-Some-get.version.now w.in_ok-tested_version.field-0 c.args.id.now
      c.args.tested c.in_ok-all.ensures (sym c.position_of.ensures ∙ w.in-Some.is)
      (sym w.get.ensures ∙ ap option_copied w.in-Some-get.is) w.in_ok-tested_version.ensures
      (w.all-is ∙ w.in_ok-replace.ensures.ok)
  | in-Some+in_default-get w ↦ absurd (found_there c.args.versions.now w.in-Some.place c.args.id.now
      (sym c.position_of.ensures ∙ w.in-Some.is) (sym w.get.ensures ∙ ap option_copied w.in_default-get.is))
  | in_default w ↦ w.all-is ∙ c.in_ok-all.ensures ∙ marked_not_found c.args.versions.now c.args.id.now c.args.tested
      (sym c.position_of.ensures ∙ w.in_default.is)
]
