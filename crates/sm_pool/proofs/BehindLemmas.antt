-- Holds of an account that stands behind a lock.
use Rattle.std.proofs.Common.{◌≡◌, ◌⊎◌, ℕ, List, [], ◌∷◌, ◌++◌, drop, length, sym, ap, ◌∙◌, subst, inl, inr, append-nil}
use Rattle.sm_base.specs.declared.moment.Moment.{Moment}
use Rattle.sm_model.specs.declared.entry.Answer.{Answer}
use Rattle.sm_model.specs.declared.entry.Mark.{Mark}
use Rattle.sm_model.specs.declared.entry.Mark.TheVariants.{Claim, Entry, Fault}
use Rattle.sm_rotator.specs.declared.work.Work.{Work}
use Rattle.sm_account.specs.Accounts.{base}
use Rattle.sm_account.specs.CallOutcomes.{Claimed, CallOutcome, Failed, Made, Nothing, marks_by}
use Rattle.sm_account.specs.History.{by_seat}
use Rattle.sm_account.specs.Report.{report_at, reported_by}
use Rattle.sm_account.specs.StartDue.{start_at, started_by}
use Rattle.sm_account.specs.States.{Base, state_at}
use Rattle.sm_core.specs.Histories.{later}
use Rattle.sm_account.specs.declared.report.Reported.{Reported}
use Rattle.sm_account.specs.declared.start_due.StartedDue.{StartedDue}
use Rattle.sm_lock.specs.Handles.{IsIn, built, mine, number, seen}
use Rattle.sm_lock.specs.Story.{Grows, entries_of}
use Rattle.sm_lock.specs.declared.gate.Gate.{Gate}
use Rattle.sm_lock.specs.declared.pass.Pass.{Pass}
use Rattle.sm_lock.specs.declared.storied.Storied.{Ghosts}
use Rattle.sm_account.specs.SeatTraces.{History, SeatTrace, marks_in, NoGap}
use Rattle.sm_account.proofs.SeatTraceLaws.{trace_mine}
use Rattle.sm_pool.specs.declared.holds.Found.{Found}
use Rattle.sm_pool.specs.Found.{found_by}
use Rattle.sm_pool.specs.Holds.{HeldAt, Hold, LookHeld, ReportHeld, StartHeld, hold_of, hold_shape}

-- a call leaves one mark at most
one_mark : (seat : ℕ) (before after : History) (call_outcome : CallOutcome)
    → after ≡ before ++ by_seat seat (marks_by call_outcome)
    → (after ≡ before) ⊎ ((mark : Mark) × (after ≡ before ++ (seat, mark) ∷ []))
one_mark seat before after Nothing is = inl (is ∙ append-nil before)
one_mark seat before after (Claimed arn at moment) is = inr (Claim arn at moment, is)
one_mark seat before after (Made entry) is = inr (Entry entry, is)
one_mark seat before after (Failed entry) is = inr (Fault, is)

-- such a hold leaves one mark at most, of the seat that holds the account
module _ (seat own : ℕ) (same : seat ≡ own) (from entered to : History) (at : from ≡ entered) where
  one_of : (before : History) (call_outcome : CallOutcome) → before ≡ from
      → to ≡ before ++ by_seat seat (marks_by call_outcome)
      → (to ≡ entered) ⊎ ((mark : Mark) × (to ≡ entered ++ (own, mark) ∷ []))
  one_of before call_outcome comes stands =
      one_mark own entered to call_outcome
      (subst (λ s. to ≡ entered ++ by_seat s (marks_by call_outcome)) same
      (stands ∙ ap (λ (h : History). h ++ by_seat seat (marks_by call_outcome)) (comes ∙ at)))

  module _ (base : Base) (now : Moment) where
    pub look_once : (found : Found) → LookHeld base NoGap seat from to now found
        → (to ≡ entered) ⊎ ((mark : Mark) × (to ≡ entered ++ (own, mark) ∷ []))
    look_once found look =
        one_of look.before (found_by found (later (state_at base look.before).last now)) look.held.comes
        look.held.stands

    pub start_once : (drawn : List ℕ) (started : StartedDue) → StartHeld base NoGap seat from to now drawn started
        → (to ≡ entered) ⊎ ((mark : Mark) × (to ≡ entered ++ (own, mark) ∷ []))
    start_once drawn started start =
        one_of start.before (started_by started (start_at (state_at base start.before) now drawn)) start.held.comes
        start.held.stands

    pub report_once : (work : Work) (answer : Answer) (reported : Reported)
        → ReportHeld base NoGap seat from to now work answer reported
        → (to ≡ entered) ⊎ ((mark : Mark) × (to ≡ entered ++ (own, mark) ∷ []))
    report_once work answer reported report =
        one_of report.before (reported_by reported (report_at (state_at base report.before) now work answer))
        report.held.comes report.held.stands

-- a hold of the account itself is one behind the lock, with what others added before it
module _ (gap : History → History → Type 0) (seat own : ℕ) (same_seat : seat ≡ own) (from entered left to : History)
    (entering : gap from entered) (leaving : to ≡ left) where
  held_behind : (hold : Hold) → HeldAt NoGap seat entered left hold → HeldAt gap own from to hold
  held_behind hold held = subst (λ s. HeldAt gap s from to hold) same_seat (record {
    comes = subst (gap from) (sym held.comes) entering;
    stands = leaving ∙ held.stands;
  })

  module _ (one two : Base) (same : one ≡ two) (now : Moment) where
    pub look_held : (found : Found) → LookHeld one NoGap seat entered left now found
        → LookHeld two gap own from to now found
    look_held found look =
        subst (λ b. LookHeld b gap own from to now found) same (record {
          before = look.before;
          sound = look.sound;
          finds = look.finds;
          held = held_behind
              (hold_of look.before now (found_by found (later (state_at one look.before).last now))) look.held;
        })

    pub start_held : (drawn : List ℕ) (started : StartedDue) → StartHeld one NoGap seat entered left now drawn started
        → StartHeld two gap own from to now drawn started
    start_held drawn started start =
        subst (λ b. StartHeld b gap own from to now drawn started) same (record {
          before = start.before;
          starts = start.starts;
          held = held_behind
              (hold_of start.before now (started_by started (start_at (state_at one start.before) now drawn)))
              start.held;
        })

    pub report_held : (work : Work) (answer : Answer) (reported : Reported)
        → ReportHeld one NoGap seat entered left now work answer reported
        → ReportHeld two gap own from to now work answer reported
    report_held work answer reported report =
        subst (λ b. ReportHeld b gap own from to now work answer reported) same (record {
          before = report.before;
          reports = report.reports;
          held = held_behind (hold_of report.before now
              (reported_by reported (report_at (state_at one report.before) now work answer))) report.held;
        })

-- what a seat's own marks are after holds
module _ {T O : Type 0} {g : Ghosts T O Mark} (gate : Gate T O Mark) (pass after : Pass T O Mark g) where
  pub holds_mine : (holds : List Hold) → IsIn gate pass → IsIn gate after → number after ≡ number pass
      → SeatTrace hold_shape (Grows (number pass ∷ [])) (number pass) (λ hold. Unit {0}) (seen pass) holds (seen after)
      → mine after ≡ mine pass ++ marks_in hold_shape holds
  holds_mine holds in_gate after_in same seat_trace =
      ap (λ (b : History). entries_of (number after) (drop (length b) (seen after))) (after_in.2 ∙ sym in_gate.2)
      ∙ ap (λ n. entries_of n (drop (length (built pass)) (seen after))) same
      ∙ trace_mine hold_shape (number pass) (λ hold. Unit {0}) (built pass) (seen pass) (seen after) holds pass.begins
      seat_trace
