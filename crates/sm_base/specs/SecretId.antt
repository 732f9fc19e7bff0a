-- The SecretId of a request (AWS Secrets Manager API Reference, GetSecretValue).
use Rattle.std.specs.Prelude.{ℕ, List, if◌then◌else◌}
use Rattle.sm_base.specs.Spelling.{is_arn_like}
use Rattle.sm_base.specs.declared.secret_id.SecretId.{SecretId}
use Rattle.sm_base.specs.declared.secret_id.SecretId.TheVariants.{Name, Arn}

-- the SecretId that a text spells
abbrev pub secret_id : List ℕ → SecretId
secret_id text = if is_arn_like text then Arn text else Name text
