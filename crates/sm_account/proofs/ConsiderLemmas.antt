-- A request that is accepted with a change is none that only reads.
use Rattle.std.proofs.Common.{◌≡◌, ℕ, Bool, true, false, ◌||◌, List, Some, None, refl}
use Rattle.sm_base.specs.declared.moment.Moment.{Moment}
use Rattle.sm_model.specs.declared.request.Request.{Request}
use Rattle.sm_model.specs.declared.rows.Rows.{Rows}
use Rattle.sm_judge_common.specs.declared.judged.Judged.{Judged}
use Rattle.sm_judge_common.specs.declared.judged.Judged.TheVariants.{Accept, Refuse, Memory}
use Rattle.sm_judge_common.specs.Judged.{IfAccepted, IfChange}
use Rattle.sm_core.specs.Judging.{is_reading, is_of_nobody, repeat, IsUnchanged}

first_fails : (a b c : Bool) → false ≡ (a || b || c) → a ≡ false
first_fails true b c e = let f : false ≡ true = e in cc
first_fails false b c e = refl

pub request_changes : (rows : Rows) (moment : Moment) (drawn : List ℕ) (request : Request) (judged : Judged)
    → IfAccepted judged (IsUnchanged rows moment drawn request)
    → IfChange judged (λ _. is_reading request ≡ false)
request_changes rows moment drawn request (Accept reply None) h = tt
request_changes rows moment drawn request (Accept reply (Some change)) h =
    first_fails (is_reading request) (is_of_nobody rows moment request) (repeat rows moment drawn request) h
request_changes rows moment drawn request (Refuse why) h = tt
request_changes rows moment drawn request Memory h = tt
