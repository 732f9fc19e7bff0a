use Rattle.std.proofs.Common.{option_copied, sym, ap, ◌∙◌}
use Rattle.sm_versions.proofs.VersionLemmas.{filled_by, found_there, filled_not_found}
use Rattle.sm_versions.proofs.versions.filled.Goals.{in-Some+in-Some-get+in_ok-with_value+in_ok-replace, in-Some+in_default-get, in_default}
use Rattle.sm_versions.proofs.versions.filled.Goals as goal

pub returns : goal.returns
returns c = elim c.match-position_of.branch [
  | in-Some+in-Some-get+in_ok-with_value+in_ok-replace w ↦ filled_by c.args.versions.now c.in_ok-all.all
      c.match-position_of.all w.in-Some.place w.in-Some-get.version.now w.in_ok-with_value.field-0 c.args.id.now
      c.args.value c.in_ok-all.ensures (sym c.position_of.ensures ∙ w.in-Some.is)
      (sym w.get.ensures ∙ ap option_copied w.in-Some-get.is) w.in_ok-with_value.ensures
      (w.all-is ∙ w.in_ok-replace.ensures.ok)
  | in-Some+in_default-get w ↦ absurd (found_there c.args.versions.now w.in-Some.place c.args.id.now
      (sym c.position_of.ensures ∙ w.in-Some.is) (sym w.get.ensures ∙ ap option_copied w.in_default-get.is))
  | in_default w ↦ w.all-is ∙ c.in_ok-all.ensures ∙ filled_not_found c.args.versions.now c.args.id.now c.args.value
      (sym c.position_of.ensures ∙ w.in_default.is)
]
