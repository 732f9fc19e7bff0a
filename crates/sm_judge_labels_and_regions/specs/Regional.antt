-- A secret with other replica regions, and the reply that shows them.
-- AWS Secrets Manager API Reference, RemoveRegionsFromReplication, ReplicateSecretToRegions.
use Rattle.std.specs.Prelude.{ℕ, List}
use Rattle.sm_model.specs.declared.reply.ReplicatedSecret.{ReplicatedSecret}
use Rattle.sm_model.specs.declared.rows.SecretRow.{SecretRow}
use Rattle.sm_judge_common.specs.Regions.{region_statuses}

-- the row with these regions in place of its own
abbrev pub in_regions : List (List ℕ) → SecretRow → SecretRow
in_regions regions row = record row { regions = regions }

-- the regions are shown in order of adding, also where there are none
abbrev pub replicated_secret : SecretRow → ReplicatedSecret
replicated_secret row = record { arn = row.arn; replication_status = region_statuses row.regions }
