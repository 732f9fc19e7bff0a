-- A version by its id, by a label, or by both.
-- AWS Secrets Manager API Reference: GetSecretValue (VersionId, VersionStage).
use Rattle.std.specs.Prelude.{ℕ, List, Option, Some, None, if◌then◌else◌}
use Rattle.sm_model.specs.declared.rows.VersionRow.{VersionRow}
use Rattle.sm_model.specs.declared.rows.SecretRow.{SecretRow}
use Rattle.sm_versions.specs.declared.lookup.Found.{Found}
use Rattle.sm_versions.specs.declared.lookup.Found.TheVariants.{Version, None as Missing, Differ}
use Rattle.sm_base.specs.Texts.{same_text}
use Rattle.sm_model.specs.Labels.{aws_current, holder}
use Rattle.sm_versions.specs.Versions.{version_of}

-- a version, none, or two that differ
pub data Lookup : Type 0 where
  here : VersionRow → Lookup
  nowhere : Lookup
  apart : Lookup

-- what a call found
abbrev pub looked_up : Found → Lookup
looked_up (Version version) = here version.now
looked_up Missing = nowhere
looked_up Differ = apart

-- the version of the id that is there
abbrev pub version_held : List VersionRow → Option (List ℕ) → Option VersionRow
version_held versions None = None
version_held versions (Some id) = version_of versions id

-- the version that has the label
abbrev pub version_labelled : SecretRow → List ℕ → Option VersionRow
version_labelled row label = version_held row.versions (holder row.labels label)

-- by one name
abbrev pub lookup_of : Option VersionRow → Lookup
lookup_of None = nowhere
lookup_of (Some version) = here version

-- by two names: each has to name a version, and both the same
abbrev pub lookup_of_both : Option VersionRow → Option VersionRow → Lookup
lookup_of_both None other = nowhere
lookup_of_both (Some version) None = nowhere
lookup_of_both (Some version) (Some other) = if same_text version.id other.id then here version else apart

-- the version by its id, its label, or both; AWSCURRENT where neither is given
abbrev pub lookup : SecretRow → Option (List ℕ) → Option (List ℕ) → Lookup
lookup row (Some id) (Some label) = lookup_of_both (version_of row.versions id) (version_labelled row label)
lookup row (Some id) None = lookup_of (version_of row.versions id)
lookup row None (Some label) = lookup_of (version_labelled row label)
lookup row None None = lookup_of (version_labelled row aws_current)
