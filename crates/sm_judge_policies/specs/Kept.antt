-- The policy that a secret keeps, and the reply that names the secret.
-- AWS Secrets Manager API Reference, PutResourcePolicy and DeleteResourcePolicy.
use Rattle.std.specs.Prelude.{ℕ, List, Option}
use Rattle.sm_model.specs.declared.reply.NamedSecret.{NamedSecret}
use Rattle.sm_model.specs.declared.rows.SecretRow.{SecretRow}

-- the row with this policy, or without one
abbrev pub with_policy : Option (List ℕ) → SecretRow → SecretRow
with_policy policy row = record row { policy = policy }

abbrev pub named : SecretRow → NamedSecret
named row = record { arn = row.arn; name = row.name }
