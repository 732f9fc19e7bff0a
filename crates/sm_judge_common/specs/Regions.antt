-- The replica regions of a secret: how some are added, and how they are shown.
-- AWS Secrets Manager API Reference: ReplicateSecretToRegions, ReplicationStatusType.
use Rattle.std.specs.Prelude.{ℕ, if◌then◌else◌, List, [], ◌∷◌, ◌++◌, map, codes, Option, Some, None}
use Rattle.sm_model.specs.declared.reply.ReplicationStatus.{ReplicationStatus}
use Rattle.sm_versions.specs.Texts.{is_among}

-- the regions with one more, in order of adding; one that is there changes nothing
abbrev pub with_region : List (List ℕ) → List ℕ → List (List ℕ)
with_region kept region = if is_among kept region then kept else kept ++ region ∷ []

-- the regions with those that are given, one after the other
abbrev pub with_regions : List (List ℕ) → List (List ℕ) → List (List ℕ)
with_regions kept [] = kept
with_regions kept (region ∷ regions) = with_regions (with_region kept region) regions

-- a replica asks for what it lacks and says nothing to its primary, so each stays in progress
abbrev pub region_status : List ℕ → ReplicationStatus
region_status region = record { region = region; status = codes "InProgress" }

abbrev pub region_statuses : List (List ℕ) → List ReplicationStatus
region_statuses regions = map region_status regions

-- they are shown where there is one
abbrev pub replicas_shown : List (List ℕ) → Option (List ReplicationStatus)
replicas_shown [] = None
replicas_shown (region ∷ regions) = Some (region_statuses (region ∷ regions))
