-- What readers of spelled texts answer.
use Rattle.std.specs.Prelude.{ℕ, Bool, IsTrue, List}
use Rattle.sm_base.specs.FirstFault.{IsFirstFault}
use Rattle.sm_base.specs.declared.spelling.ReadRefused.{ReadRefused}
use Rattle.sm_base.specs.declared.spelling.ReadRefused.TheVariants.{Spelling, Memory}

-- Why a text is not read: it is no spelling, with the place of the first fault, or it is one and there was no memory.
abbrev pub IsRefusal : (List ℕ → Bool) → List ℕ → ReadRefused → Type 0
IsRefusal is_spelled text (Spelling place) = IsFirstFault is_spelled text place
IsRefusal is_spelled text Memory = IsTrue (is_spelled text)
