-- Which values a step of a rotation has: AWS Secrets Manager User Guide, "Lambda rotation functions".
use Rattle.std.specs.Prelude.{Bool, true, false}
use Rattle.sm_model.specs.declared.rows.Stage.{Stage}
use Rattle.sm_model.specs.declared.rows.Stage.TheVariants.{Create, Set, Test, Finish}

-- createSecret and setSecret have the current value
abbrev pub needs_current : Stage → Bool
needs_current Create = true
needs_current Set = true
needs_current Test = false
needs_current Finish = false

-- each step but createSecret has the pending value
abbrev pub needs_pending : Stage → Bool
needs_pending Create = false
needs_pending Set = true
needs_pending Test = true
needs_pending Finish = true
