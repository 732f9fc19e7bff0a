-- What a function that may want memory returned, beside what is to be returned.
use Rattle.std.specs.Prelude.{◌≡◌, Option, Some, None, Result, Ok, Err, ⊤}
use Rattle.sm_json.specs.declared.fields.Fault.{Fault}
use Rattle.sm_json.specs.declared.fields.Fault.TheVariants as faults
use Rattle.sm_json.specs.declared.fields.Mark.{Mark}
use Rattle.sm_json.specs.declared.fields.Read.{Read}
use Rattle.sm_json.specs.declared.fields.Read.TheVariants as read
use Rattle.sm_json.specs.Fields.{Flaw}

-- out of memory, or what a value is
abbrev pub IsRead : {A : Type 0} → Read A → Result A Mark → Type 0
IsRead (read.Is x) is = is ≡ Ok x
IsRead (read.Not mark) is = is ≡ Err mark
IsRead read.Memory is = ⊤

-- out of memory, or the flaw
abbrev pub Flawed : Fault → Option Flaw → Type 0
Flawed (faults.At name mark) flaw = flaw ≡ Some (name, mark)
Flawed faults.Memory flaw = ⊤

-- out of memory, or the flaw, or that there is none
abbrev pub Passes : {A : Type 0} → Result A Fault → Option Flaw → Type 0
Passes (Ok x) flaw = flaw ≡ None
Passes (Err fault) flaw = Flawed fault flaw

-- out of memory, or the flaw, or a value where there is none
abbrev pub Reads : {A : Type 0} → Result A Fault → Option Flaw → A → Type 0
Reads (Ok x) flaw value = (flaw ≡ None) × (x ≡ value)
Reads (Err fault) flaw value = Flawed fault flaw

-- the same of a value that must be there
abbrev pub Needs : {A : Type 0} → Result A Fault → Option Flaw → Option A → Type 0
Needs (Ok x) flaw value = (flaw ≡ None) × (value ≡ Some x)
Needs (Err fault) flaw value = Flawed fault flaw
