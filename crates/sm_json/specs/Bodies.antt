-- What a body was read as, beside what it is.
use Rattle.std.specs.Prelude.{◌≡◌, Option, Some, None, ⊤}
use Rattle.serde_json.specs.Data.{Data}
use Rattle.serde_json.specs.View.{view}
use Rattle.sm_json.specs.declared.body.Body.{Body}
use Rattle.sm_json.specs.declared.body.Body.TheVariants as bodies

-- out of memory, or the value, or that there is none
abbrev pub IsBody : Body → Option Data → Type 0
IsBody (bodies.Object value) is = is ≡ Some (view value)
IsBody bodies.NotJson is = is ≡ None
IsBody bodies.Memory is = ⊤
