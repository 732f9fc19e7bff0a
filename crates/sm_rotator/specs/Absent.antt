-- The answers of no rotator.
use Rattle.std.specs.Prelude.{Bool, true, false}
use Rattle.sm_model.specs.declared.entry.Answer.{Answer}
use Rattle.sm_model.specs.declared.entry.Answer.TheVariants.{Yes, No, Failed, Value}

abbrev pub is_failed : Answer → Bool
is_failed (Value value) = false
is_failed Yes = false
is_failed No = false
is_failed Failed = true
