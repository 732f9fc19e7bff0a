-- What there is to do at a history and a moment.
-- AWS Secrets Manager User Guide: "Lambda rotation functions", "Rotation schedules".
use Rattle.std.specs.Prelude.{◌≡◌, ⊤, ℕ, Bool, true, false, List, Option, None, IsSomeAnd}
use Rattle.sm_base.specs.declared.moment.Moment.{Moment}
use Rattle.sm_model.specs.declared.entry.Mark.{Mark}
use Rattle.sm_claims.specs.Due.{has_due}
use Rattle.sm_claims.specs.Works.{IsWorkOf}
use Rattle.sm_account.specs.Claims.{ready_at}
use Rattle.sm_account.specs.CallOutcomes.{CallOutcome, Nothing, Claimed}
use Rattle.sm_account.specs.States.{Base, state_at}
use Rattle.sm_pool.specs.declared.holds.Found.{Found}
use Rattle.sm_pool.specs.declared.holds.Found.TheVariants as finds

-- some rotation is due, or there is nothing to do
abbrev pub due_or_nothing : Bool → Found
due_or_nothing true = finds.Due
due_or_nothing false = finds.Nothing

-- whether some rotation is due at the history and the moment
abbrev pub due_there : Base → List (ℕ × Mark) → Moment → Bool
due_there base history moment = has_due (state_at base history).rows.secrets moment

-- The work of the step that is ready; where none is, whether some rotation is due. Memory may be wanted.
abbrev pub FoundAs : Base → List (ℕ × Mark) → Moment → Found → Type 0
FoundAs base history moment (finds.Work work) = IsSomeAnd (ready_at base history moment) (λ row. IsWorkOf row work)
FoundAs base history moment finds.Due =
    (ready_at base history moment ≡ None) × (due_there base history moment ≡ true)
FoundAs base history moment finds.Nothing =
    (ready_at base history moment ≡ None) × (due_there base history moment ≡ false)
FoundAs base history moment finds.Memory = ⊤

-- a work is claimed
abbrev pub found_by : Found → Moment → CallOutcome
found_by (finds.Work work) moment = Claimed work.arn work.at moment
found_by finds.Due moment = Nothing
found_by finds.Nothing moment = Nothing
found_by finds.Memory moment = Nothing
