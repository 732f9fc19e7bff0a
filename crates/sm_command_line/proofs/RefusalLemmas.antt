-- The kind of an error decides what is said of it.
use Rattle.std.proofs.Common.{◌≡◌, List, [], ◌∷◌, Some, refl, ap, inl, inr}
use Rattle.clap.specs.Words.{IsAmong, Kinds, Text}
use Rattle.clap.specs.Simple.{built}
use Rattle.clap.specs.declared.error.kind.ErrorKind.{ErrorKind}
use Rattle.sm_command_line.specs.Command.{app, faults}
use Rattle.sm_command_line.specs.Refusals.{asked_by, is_asked}
use Rattle.sm_command_line.proofs.OneFault.{IsSingle, built_fault-single}

faults-single : (words : List Text) → IsSingle (faults words)
unfolding faults
faults-single words = built_fault-single (built app).top refl words

asked_by-single : (kind : ErrorKind) (kinds : Kinds) → IsSingle kinds → IsAmong kind kinds
    → Some (is_asked kind) ≡ asked_by kinds
asked_by-single kind [] single among = absurd among
asked_by-single kind (one ∷ []) single (inl is) = ap (λ (k : ErrorKind). Some (is_asked k)) is
asked_by-single kind (one ∷ []) single (inr none) = absurd none
asked_by-single kind (one ∷ other ∷ kinds) single among = absurd single

-- an error of the words says whether they ask
pub asked_by_kind : (kind : ErrorKind) (words : List Text) → IsAmong kind (faults words)
    → Some (is_asked kind) ≡ asked_by (faults words)
asked_by_kind kind words among = asked_by-single kind (faults words) (faults-single words) among
