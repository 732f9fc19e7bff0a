-- What was read of a policy's text, beside what it is.
use Rattle.std.specs.Prelude.{◌≡◌, ℕ, List, Option, Some, None, Result, Ok, Err, ⊤}
use Rattle.serde_json.specs.Data as shapes
use Rattle.serde_json.specs.Data.{Data}
use Rattle.serde_json.specs.View.{view}
use Rattle.sm_policy_text.specs.declared.document.Body.{Body}
use Rattle.sm_policy_text.specs.declared.document.Body.TheVariants as bodies
use Rattle.sm_policy_text.specs.declared.read.Fault.{Fault}
use Rattle.sm_policy_text.specs.Reads.{Flawed}

-- out of memory, or the value, or that there is none
abbrev pub IsBody : Body → Option Data → Type 0
IsBody (bodies.Json value) is = is ≡ Some (view value)
IsBody bodies.NotJson is = is ≡ None
IsBody bodies.Memory is = ⊤

-- out of memory, or the member at fault, or the statements, as they are shown, where there is none
abbrev pub IsDocument : {A : Type 0} → (A → shapes.Items) → Result A Fault → Option (List ℕ)
    → Option shapes.Items → Type 0
IsDocument shown (Ok values) flaw is = (flaw ≡ None) × (is ≡ Some (shown values))
IsDocument shown (Err fault) flaw is = Flawed fault flaw
