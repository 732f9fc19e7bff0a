-- The versions of a secret, and how they are counted.
-- AWS Secrets Manager User Guide: "Secret versions" (old versions are removed); "AWS Secrets Manager quotas" (versions
-- of a secret).
use Rattle.std.specs.Prelude.{ℕ, ◌+◌, Bool, false, ◌||◌, nat_le, nat_lt, List, [], ◌∷◌, filter, length, if◌then◌else◌}
use Rattle.sm_base.specs.Texts.{same_text}
use Rattle.sm_base.specs.declared.limits.TheConstants.{VERSIONS_LIMIT, NEWEST_KEPT, SECONDS_KEPT, NO_SERIAL}
use Rattle.sm_base.specs.declared.moment.Moment.{Moment}
use Rattle.sm_model.specs.Labels.{is_labelled}
use Rattle.sm_model.specs.declared.rows.SecretRow.{SecretRow}
use Rattle.sm_model.specs.declared.rows.VersionRow.{VersionRow}

-- some version has the id
abbrev pub has_version : List VersionRow → List ℕ → Bool
has_version [] id = false
has_version (v ∷ vs) id = same_text v.id id || has_version vs id

-- how many versions were made after the one with the serial
abbrev pub newer_than : List VersionRow → ℕ → ℕ
newer_than [] serial = 0
newer_than (v ∷ vs) serial = if nat_lt serial v.serial then newer_than vs serial + 1 else newer_than vs serial

-- a version is kept that has a label, that was made less than a day ago, or that is among the newest
abbrev pub is_kept : SecretRow → Moment → VersionRow → Bool
is_kept row moment version =
    is_labelled row.labels version.id || nat_lt moment.0 (version.made.0 + SECONDS_KEPT)
    || nat_lt (newer_than row.versions version.serial) NEWEST_KEPT

-- the secret without the versions that need not be kept
abbrev pub kept : SecretRow → Moment → SecretRow
kept row moment = record row { versions = filter (is_kept row moment) row.versions }

-- when something is asked or done, and whether versions that need not be kept are dropped with it
pub record When : Type 0 where
  pub moment : Moment
  pub prunes : Bool

-- the versions that count
abbrev pub counted : SecretRow → When → List VersionRow
counted row when = if when.prunes then (kept row when.moment).versions else row.versions

-- no version may be added: as many count as there may be, or there is no serial left
abbrev pub is_full_when : SecretRow → When → Bool
is_full_when row when = nat_le VERSIONS_LIMIT (length (counted row when)) || nat_le NO_SERIAL row.next_version
