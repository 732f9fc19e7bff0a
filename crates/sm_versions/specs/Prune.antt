-- Old versions dropped with a change.
-- AWS Secrets Manager User Guide: "Secret versions" (old versions are removed).
use Rattle.std.specs.Prelude.{◌≡◌, ℕ, true, List, nat_le, nat_lt}
use Rattle.sm_base.specs.declared.limits.TheConstants.{NEWEST_KEPT}
use Rattle.sm_base.specs.declared.moment.Moment.{Moment}
use Rattle.sm_model.specs.Versions.{When, newer_than, counted}
use Rattle.sm_model.specs.declared.rows.SecretRow.{SecretRow}
use Rattle.sm_model.specs.declared.rows.VersionRow.{VersionRow}

-- at the moment, and versions that need not be kept are dropped with it
abbrev pub pruning : Moment → When
pruning moment = record { moment = moment; prunes = true }

-- the secret with the versions that count: without those that need not be kept, where they are dropped
abbrev pub pruned : SecretRow → When → SecretRow
pruned row when = record row { versions = counted row when }

-- versions with this serial or a greater one are among the newest, and no others
pub record IsLeast (versions : List VersionRow) (least : ℕ) : Type 0 where
  pub is : (serial : ℕ) → nat_le least serial ≡ nat_lt (newer_than versions serial) NEWEST_KEPT
