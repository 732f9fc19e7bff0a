-- A secret with another rotation or another job: what has to hold of them so that it stays sound.
use Rattle.std.proofs.Common.{Option, IfSome, IsTrue}
use Rattle.std.proofs.lemmas.Bool.{and_parts, and_from}
use Rattle.std.proofs.lemmas.Option.{IfSome_then}
use Rattle.sm_model.specs.declared.rows.Job.{Job}
use Rattle.sm_model.specs.declared.rows.Rotation.{Rotation}
use Rattle.sm_model.specs.declared.rows.SecretRow.{SecretRow}
use Rattle.sm_model.specs.Bounds.{fits, is_description, are_days, is_date, is_rotation_date}
use Rattle.sm_versions.specs.Kept.{JobFits}
use Rattle.sm_cron.specs.Spelling.{is_schedule_expression}
use Rattle.sm_versions.specs.Sound.{is_rotation, is_job, UnsettledSound}

-- each part of a rotation fits
pub record RotationFits (rotation : Rotation) : Type 0 where
  pub lambda : IsTrue (fits is_description rotation.lambda)
  pub days : IsTrue (fits are_days rotation.days)
  pub schedule : IsTrue (fits is_schedule_expression rotation.schedule)
  pub next : IsTrue (fits is_rotation_date rotation.next)
  pub last : IsTrue (fits is_date rotation.last)

pub parts_of : (rotation : Rotation) → IsTrue (is_rotation rotation) → RotationFits rotation
parts_of rotation fit =
    let last = and_parts _ (fits is_date rotation.last) fit in
    let next = and_parts _ (fits is_rotation_date rotation.next) last.0 in
    let schedule = and_parts _ (fits is_schedule_expression rotation.schedule) next.0 in
    let parts = and_parts (fits is_description rotation.lambda) (fits are_days rotation.days) schedule.0 in
    record { lambda = parts.0; days = parts.1; schedule = schedule.1; next = next.1; last = last.1 }

pub of_parts : (rotation : Rotation) → RotationFits rotation → IsTrue (is_rotation rotation)
of_parts rotation parts =
    and_from _ _
    (and_from _ _ (and_from _ _ (and_from _ _ parts.lambda parts.days) parts.schedule) parts.next)
    parts.last

-- the row with this rotation and this job
abbrev pub rerotated : Rotation → Option Job → SecretRow → SecretRow
rerotated rotation job row = record row { rotation = rotation; job = job }

pub rerotated_sound : (rotation : Rotation) (job : Option Job) (row : SecretRow) → IsTrue (is_rotation rotation)
    → IfSome job (JobFits row) → IsTrue (fits is_job job) → UnsettledSound row
    → UnsettledSound (rerotated rotation job row)
rerotated_sound rotation job row rotates kept fit sound = record {
  kept = record {
    versions = assumption sound.kept.versions;
    job = IfSome_then job kept (λ job fits. assumption fits);
  };
  fits = assumption (rotates, fit, sound.fits);
}
