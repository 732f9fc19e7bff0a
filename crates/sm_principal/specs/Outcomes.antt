-- What was returned, beside what is to be returned.
use Rattle.std.specs.Prelude.{◌≡◌, ℕ, List, Option, Some, None, Result, Ok, Err, ⊤}
use Rattle.sm_principal.specs.Persons.{Known}
use Rattle.sm_principal.specs.declared.lines.Line.{Line}
use Rattle.sm_principal.specs.declared.lines.Line.TheVariants as lines
use Rattle.sm_principal.specs.declared.lines.LineRefused.{LineRefused}
use Rattle.sm_principal.specs.declared.lines.LineRefused.TheVariants.{Bad, Memory}

-- out of memory, or the person of a line, or that it is bad
abbrev pub IsLine : Line → Option Known → Type 0
IsLine (lines.Is known) is = is ≡ Some known
IsLine lines.Bad is = is ≡ None
IsLine lines.Memory is = ⊤

-- out of memory, or the persons known, or that the line of this number is bad
abbrev pub IsAdded : Result (List Known) LineRefused → ℕ → Result (List Known) ℕ → Type 0
IsAdded (Ok known) number is = is ≡ Ok known
IsAdded (Err Bad) number is = is ≡ Err number
IsAdded (Err Memory) number is = ⊤
