-- What a rotator is asked in a turn.
use Rattle.std.proofs.Common.{◌≡◌, ℕ, List, [], ◌∷◌, ◌++◌, Option, None, Some, refl, sym, ap, ◌∙◌, subst, inl, inr, append-nil, append_assoc}
use Rattle.sm_model.specs.declared.entry.Answer.{Answer}
use Rattle.sm_rotation.specs.Vouched.{Replies}
use Rattle.sm_rotator.specs.declared.work.Work.{Work}
use Rattle.sm_rotator.specs.declared.told.Told.{Told}
use Rattle.sm_rotator.specs.Told.{append_told}
use Rattle.sm_account.specs.declared.report.Reported.{Reported}
use Rattle.sm_account.specs.declared.report.Reported.TheVariants as reports
use Rattle.sm_account.specs.declared.start_due.StartedDue.{StartedDue}
use Rattle.sm_account.specs.declared.start_due.StartedDue.TheVariants as starts
use Rattle.sm_account.specs.States.{Base}
use Rattle.sm_account.specs.SeatTraces.{History}
use Rattle.sm_pool.specs.declared.done.Done.{Done}
use Rattle.sm_pool.specs.declared.done.Trouble.{Trouble}
use Rattle.sm_pool.specs.declared.done.Trouble.TheVariants as troubles
use Rattle.sm_pool.specs.Asking.{Asking, Asks, DoneAsks, IsUnasked, TroubleAsks}
use Rattle.sm_pool.specs.Ends.{due_ends, report_ends}
use Rattle.sm_pool.specs.Turns.{Asked, Begins, Course, Passing, Rests, Starts, TurnAsks, Unasked, Undrawn, Wants, Works, asks_of, done_of}

-- nothing more
pub append_told-nil : (known : Option (List Told)) → append_told known [] ≡ known
append_told-nil None = refl
append_told-nil (Some told) = ap Some (append-nil told)

-- what follows what was told before
pub asked_more : (before now after : Option (List Told)) (xs ys : List Told) → now ≡ append_told before xs
    → after ≡ append_told now ys → after ≡ append_told before (xs ++ ys)
asked_more None now after xs ys first then = then ∙ ap (λ known. append_told known ys) first
asked_more (Some told) now after xs ys first then =
    then ∙ ap (λ known. append_told known ys) first ∙ ap Some (append_assoc told xs ys)

-- a rotator that stays was not asked
pub asks_none : (known : Option (List Told)) → Asks (record { before = known; after = known }) []
asks_none known = sym (append_told-nil known)

pub unasked_none : (asking : Asking) → IsUnasked asking → Asks asking []
unasked_none asking unasked = unasked ∙ asks_none asking.before

none_unasked : (asking : Asking) → Asks asking [] → IsUnasked asking
none_unasked asking asks = asks ∙ append_told-nil asking.before

module _ (asking : Asking) where
  drawn_asks : (trouble : Trouble) → IsUnasked asking → TroubleAsks trouble asking
  drawn_asks troubles.Disk unasked = inl unasked
  drawn_asks troubles.Words unasked = unasked
  drawn_asks troubles.Memory unasked = inl unasked
  drawn_asks (troubles.Limit limit) unasked = inl unasked

  started_asks : (started : StartedDue) → IsUnasked asking → DoneAsks (due_ends started) asking
  started_asks (starts.Started arn) unasked = unasked
  started_asks starts.None unasked = unasked
  started_asks (starts.Limit limit) unasked = inl unasked
  started_asks starts.DiskFault unasked = inl unasked
  started_asks starts.Memory unasked = inl unasked

  reported_asks : (work : Work) (answer : Answer) (reported : Reported)
      → Asks asking (record { work = work; answer = answer } ∷ []) → DoneAsks (report_ends work reported) asking
  reported_asks work answer reports.Moved asks = (work, answer, (refl, refl), asks)
  reported_asks work answer (reports.Stale at) asks = (work, answer, tt, asks)
  reported_asks work answer (reports.Limit limit) asks = inr (work, answer, tt, asks)
  reported_asks work answer reports.DiskFault asks = inr (work, answer, tt, asks)
  reported_asks work answer reports.Memory asks = inr (work, answer, tt, asks)

  course_asks : (course : Course) → Asks asking (asks_of course) → DoneAsks (done_of course) asking
  course_asks (Wants hold) asks = inl (none_unasked asking asks)
  course_asks (Rests hold) asks = none_unasked asking asks
  course_asks (Starts hold (Undrawn trouble)) asks = drawn_asks trouble (none_unasked asking asks)
  course_asks (Starts hold (Begins drawn next started)) asks = started_asks started (none_unasked asking asks)
  course_asks (Works hold work Unasked) asks = inl (none_unasked asking asks)
  course_asks (Works hold work (Asked answer next reported)) asks = reported_asks work answer reported asks

  -- what a turn did tells what was asked for
  pub done_asks : (replies : Replies) (base : Base) (gap : History → History → Type 0) (seat : ℕ) (passing : Passing)
      (from to : History) (done : Done) → TurnAsks replies base gap seat passing asking from to done
      → DoneAsks done asking
  done_asks replies base gap seat passing from to done turn =
      subst (λ d. DoneAsks d asking) (sym turn.0.takes.done_is) (course_asks turn.0.course turn.1)
