-- The values of versions.
use Rattle.std.specs.Prelude.{ℕ, length}
use Rattle.sm_model.specs.declared.value.Value.{Value}
use Rattle.sm_model.specs.declared.value.Value.TheVariants.{Text, Bytes}

-- how many bytes a value has
abbrev pub byte_count : Value → ℕ
byte_count (Text bytes) = length bytes
byte_count (Bytes bytes) = length bytes
