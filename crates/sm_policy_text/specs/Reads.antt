-- What a function that may want memory returned, beside what is to be returned.
use Rattle.std.specs.Prelude.{◌≡◌, ℕ, List, Option, Some, None, Result, Ok, Err, ⊤}
use Rattle.sm_policy_text.specs.declared.read.Fault.{Fault}
use Rattle.sm_policy_text.specs.declared.read.Fault.TheVariants as faults
use Rattle.sm_policy_text.specs.declared.read.Read.{Read}
use Rattle.sm_policy_text.specs.declared.read.Read.TheVariants as read

-- out of memory, or what a value is, or that it isn't
abbrev pub IsRead : {A : Type 0} → Read A → Option A → Type 0
IsRead (read.Is x) is = is ≡ Some x
IsRead read.Not is = is ≡ None
IsRead read.Memory is = ⊤

-- out of memory, or the member at fault
abbrev pub Flawed : Fault → Option (List ℕ) → Type 0
Flawed (faults.At name) flaw = flaw ≡ Some name
Flawed faults.Memory flaw = ⊤

-- out of memory, or the member at fault, or that there is none
abbrev pub Passes : {A : Type 0} → Result A Fault → Option (List ℕ) → Type 0
Passes (Ok x) flaw = flaw ≡ None
Passes (Err fault) flaw = Flawed fault flaw

-- out of memory, or the member at fault, or a value where there is none
abbrev pub Reads : {A : Type 0} → Result A Fault → Option (List ℕ) → A → Type 0
Reads (Ok x) flaw value = (flaw ≡ None) × (x ≡ value)
Reads (Err fault) flaw value = Flawed fault flaw

-- the same of a value that must be there
abbrev pub Needs : {A : Type 0} → Result A Fault → Option (List ℕ) → Option A → Type 0
Needs (Ok x) flaw value = (flaw ≡ None) × (value ≡ Some x)
Needs (Err fault) flaw value = Flawed fault flaw
