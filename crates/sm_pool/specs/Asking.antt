-- What a rotator is asked in a turn, where it tells it.
-- AWS Secrets Manager User Guide: "Lambda rotation functions".
use Rattle.std.specs.Prelude.{◌≡◌, ◌⊎◌, ⊤, List, [], ◌∷◌, Option}
use Rattle.sm_model.specs.declared.entry.Answer.{Answer}
use Rattle.sm_rotator.specs.declared.work.Work.{Work}
use Rattle.sm_rotator.specs.declared.told.Told.{Told}
use Rattle.sm_rotator.specs.Told.{append_told}
use Rattle.sm_pool.specs.declared.done.Done.{Done}
use Rattle.sm_pool.specs.declared.done.Done.TheVariants as ends
use Rattle.sm_pool.specs.declared.done.Trouble.{Trouble}
use Rattle.sm_pool.specs.declared.done.Trouble.TheVariants as troubles

-- what a rotator told before and after, where it tells something
pub record Asking : Type 0 where
  pub before : Option (List Told)
  pub after : Option (List Told)

-- it was asked for these works, each once and in order, and for nothing else
abbrev pub Asks : Asking → List Told → Type 0
Asks asking told = asking.after ≡ append_told asking.before told

-- it was not asked
abbrev pub IsUnasked : Asking → Type 0
IsUnasked asking = asking.after ≡ asking.before

-- it was asked once, for such a work
abbrev pub AsksOnce : Asking → (Work → Type 0) → Type 0
AsksOnce asking P =
    (work : Work) × (answer : Answer) × P work × Asks asking (record { work = work; answer = answer } ∷ [])

abbrev pub AsksOnceAtMost : Asking → Type 0
AsksOnceAtMost asking = IsUnasked asking ⊎ AsksOnce asking (λ work. ⊤)

-- no work was taken where the random source failed
abbrev pub TroubleAsks : Trouble → Asking → Type 0
TroubleAsks troubles.Disk asking = AsksOnceAtMost asking
TroubleAsks troubles.Words asking = IsUnasked asking
TroubleAsks troubles.Memory asking = AsksOnceAtMost asking
TroubleAsks (troubles.Limit limit) asking = AsksOnceAtMost asking

-- By what a turn did: a step that was done was asked for once, and an answer that came too late was asked for once. A
-- turn that started a rotation, or found nothing to do, did not ask.
abbrev pub DoneAsks : Done → Asking → Type 0
DoneAsks (ends.Did arn at) asking = AsksOnce asking (λ work. (work.arn ≡ arn) × (work.at ≡ at))
DoneAsks (ends.Started arn) asking = IsUnasked asking
DoneAsks ends.Idle asking = IsUnasked asking
DoneAsks (ends.Stale at) asking = AsksOnce asking (λ work. ⊤)
DoneAsks (ends.Trouble trouble) asking = TroubleAsks trouble asking
