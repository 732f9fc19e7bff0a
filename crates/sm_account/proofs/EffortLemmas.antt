-- What becomes of an entry of a rotation that is due.
use Rattle.std.proofs.Common.{◌≡◌, ℕ, ◌+◌, ◌<◌, ◌≤◌, ◌||◌, Bool, true, false, cond, List, Option, Some, None, option_map, refl, sym, ap, ◌∙◌, subst, arith}
use Rattle.std.specs.Prelude.{nat_le, nat_lt, if◌then◌else◌}
use Rattle.std.proofs.lemmas.Bool.Decides.{nat_tests}
use Rattle.sm_base.specs.declared.limits.TheConstants.{ENTRIES_LIMIT}
use Rattle.sm_base.specs.declared.moment.Moment.{Moment}
use Rattle.sm_base.specs.Drawn.{drawn_token}
use Rattle.sm_claims.specs.Due.{first_due}
use Rattle.sm_claims.specs.Fresh.{is_fresh, step_of}
use Rattle.sm_core.specs.Histories.{later}
use Rattle.sm_disk.specs.declared.disk.Disk.{Ghosts}
use Rattle.sm_model.specs.declared.entry.Answer.{Answer}
use Rattle.sm_model.specs.declared.entry.At.{At}
use Rattle.sm_model.specs.declared.entry.Entry.{Entry as entries}
use Rattle.sm_model.specs.declared.rows.SecretRow.{SecretRow}
use Rattle.sm_recovery.specs.Following.{entries_limit}
use Rattle.sm_rotator.specs.declared.work.Work.{Work}
use Rattle.sm_table.specs.Found.{found_arn}
use Rattle.sm_account.specs.declared.account_state.AccountState.{AccountState}
use Rattle.sm_account.specs.declared.entering.Entered.{Entered}
use Rattle.sm_account.specs.declared.entering.Entered.TheVariants as ends
use Rattle.sm_account.specs.declared.entering.Passed.{Passed}
use Rattle.sm_account.specs.declared.report.Reported.{Reported}
use Rattle.sm_account.specs.declared.report.Reported.TheVariants as reported
use Rattle.sm_account.specs.declared.start_due.DueStart.{DueStart}
use Rattle.sm_account.specs.declared.start_due.StartedDue.{StartedDue}
use Rattle.sm_account.specs.declared.start_due.StartedDue.TheVariants as started
use Rattle.sm_account.specs.AccountState.{state_in}
use Rattle.sm_account.specs.CallOutcomes.{Leaves, Nothing, Made, Failed}
use Rattle.sm_account.specs.Efforts.{Undue, effort_within}
use Rattle.sm_account.specs.Growing.{SameButRoom}
use Rattle.sm_account.specs.Limits.{EntersAs, entered_by, passed_at}
use Rattle.sm_account.specs.Report.{ReportsAs, report_at, report_of, reported_by, reported_entry, secret_of}
use Rattle.sm_account.specs.StartDue.{Starts, StartsAs, due_at, start_at, start_for, start_of, started_by}
use Rattle.sm_account.specs.States.{State, size_of}
use Rattle.sm_account.proofs.CallOutcomeLemmas.{behind_room}
use Rattle.sm_account.proofs.RoomLemmas.{same_state}

module _ {D : Type 0} {G : Ghosts D} (old new : AccountState D G) (seat : ℕ) (entry : entries) where
  -- the start of a rotation
  pub start_made : (passed : Option Passed) (arn : List ℕ) → Starts arn entry → EntersAs ends.Made passed
      → Leaves G old new seat (Made entry)
      → StartsAs (started.Started arn) (effort_within passed entry)
      × Leaves G old new seat (started_by (started.Started arn) (effort_within passed entry))
  start_made None arn its is leaves = (its, leaves)
  start_made (Some passed) arn its is leaves = absurd is

  pub start_over : (passed : Option Passed) (over : Passed) → EntersAs (ends.Over over) passed
      → Leaves G old new seat Nothing
      → StartsAs (started.Limit over.limit) (effort_within passed entry)
      × Leaves G old new seat (started_by (started.Limit over.limit) (effort_within passed entry))
  start_over None over is leaves = absurd is
  start_over (Some passed) over is leaves = (ap (λ (p : Passed). p.limit) is, leaves)

  pub start_faulted : (passed : Option Passed) → EntersAs ends.DiskFault passed → Leaves G old new seat (Failed entry)
      → StartsAs started.DiskFault (effort_within passed entry)
      × Leaves G old new seat (started_by started.DiskFault (effort_within passed entry))
  start_faulted None is leaves = (tt, leaves)
  start_faulted (Some passed) is leaves = absurd is

  -- the entry of an answer
  pub report_made : (passed : Option Passed) → EntersAs ends.Made passed → Leaves G old new seat (Made entry)
      → ReportsAs reported.Moved (effort_within passed entry)
      × Leaves G old new seat (reported_by reported.Moved (effort_within passed entry))
  report_made None is leaves = (tt, leaves)
  report_made (Some passed) is leaves = absurd is

  pub report_over : (passed : Option Passed) (over : Passed) → EntersAs (ends.Over over) passed
      → Leaves G old new seat Nothing
      → ReportsAs (reported.Limit over.limit) (effort_within passed entry)
      × Leaves G old new seat (reported_by (reported.Limit over.limit) (effort_within passed entry))
  report_over None over is leaves = absurd is
  report_over (Some passed) over is leaves = (ap (λ (p : Passed). p.limit) is, leaves)

  pub report_faulted : (passed : Option Passed) → EntersAs ends.DiskFault passed → Leaves G old new seat (Failed entry)
      → ReportsAs reported.DiskFault (effort_within passed entry)
      × Leaves G old new seat (reported_by reported.DiskFault (effort_within passed entry))
  report_faulted None is leaves = (tt, leaves)
  report_faulted (Some passed) is leaves = absurd is

-- no limit is passed by an entry that passes none
no_parts : (made all long : Bool) (first second : Passed)
    → (if made || all then Some first else (if long then Some second else None)) ≡ None
    → (made ≡ false) × (all ≡ false) × (long ≡ false)
no_parts true all long first second e = absurd (cc)
no_parts false true long first second e = absurd (cc)
no_parts false false true first second e = absurd (cc)
no_parts false false false first second e = (refl, refl, refl)

pub within_limits : (state : State) (entry : entries) → passed_at state entry ≡ None
    → (state.made < ENTRIES_LIMIT) × (state.before + state.made < entries_limit)
    × (state.bytes + size_of entry ≤ state.limit)
within_limits state entry none =
    let no = no_parts (nat_le ENTRIES_LIMIT state.made) (nat_le entries_limit (state.before + state.made))
    (nat_lt state.limit (state.bytes + size_of entry)) _ _ none in
    (grind (arith, nat_tests, no.0), grind (arith, nat_tests, no.1), grind (arith, nat_tests, no.2))

-- the limit that an entry passes
pub over_so : (passed : Option Passed) (over : Passed) → passed ≡ Some over → EntersAs (ends.Over over) passed
over_so passed over is = subst (EntersAs (ends.Over over)) (sym is) refl

pub made_so : (passed : Option Passed) → passed ≡ None → EntersAs ends.Made passed
made_so passed is = subst (EntersAs ends.Made) (sym is) tt

pub fault_so : (passed : Option Passed) → passed ≡ None → EntersAs ends.DiskFault passed
fault_so passed is = subst (EntersAs ends.DiskFault) (sym is) tt

-- an entry for whose mark there is room
module _ {D : Type 0} {G : Ghosts D} (old mid new : AccountState D G) (seat : ℕ) (room : SameButRoom old mid)
    (entry : entries) (due : entries) (is : due ≡ entry) (entered : Entered) where
  pub enters_behind : EntersAs entered (passed_at (state_in mid) due)
      → EntersAs entered (passed_at (state_in old) entry)
  enters_behind enters =
      subst (λ e. EntersAs entered (passed_at (state_in old) e)) is
      (subst (λ s. EntersAs entered (passed_at s due)) (same_state old mid room) enters)

  pub leaves_behind : Leaves G mid new seat (entered_by entered due) → Leaves G old new seat (entered_by entered entry)
  leaves_behind leaves =
      subst (λ e. Leaves G old new seat (entered_by entered e)) is
      (behind_room old mid new seat room (entered_by entered due) leaves)

-- the start that there is is of the secret that is due
pub start_is : (moment : Moment) (drawn : List ℕ) (found : Option SecretRow) (start : DueStart)
    → Some start ≡ option_map (start_for moment drawn) found
    → (row : SecretRow) × (found ≡ Some row) × (start ≡ start_for moment drawn row)
start_is moment drawn None start e = absurd (cc)
start_is moment drawn (Some row) start e = (row, refl, cc)

pub none_due : (moment : Moment) (drawn : List ℕ) (found : Option SecretRow)
    → None ≡ option_map (start_for moment drawn) found → found ≡ None
none_due moment drawn None e = refl
none_due moment drawn (Some row) e = absurd (cc)

-- from the start of the secret that is due to what the call comes to
module _ {D : Type 0} {G : Ghosts D} (old new : AccountState D G) (seat : ℕ) (now : Moment) (drawn : List ℕ)
    (moment : Moment) (at : moment ≡ later old.last now) (start : DueStart) (row : SecretRow)
    (first : first_due old.table.secrets moment (drawn_token drawn) ≡ Some row)
    (is : start ≡ start_for moment drawn row) (result : StartedDue) where
  same_effort : effort_within (passed_at (state_in old) start.entry) start.entry ≡ start_at (state_in old) now drawn
  same_effort =
      ap (λ (s : DueStart). effort_within (passed_at (state_in old) s.entry) s.entry) is
      ∙ ap (start_of (state_in old) moment drawn) (sym first)
      ∙ ap (λ m. start_of (state_in old) m drawn (due_at (state_in old) m drawn)) at

  pub starts_so : StartsAs result (effort_within (passed_at (state_in old) start.entry) start.entry)
      → StartsAs result (start_at (state_in old) now drawn)
  starts_so starts = subst (StartsAs result) same_effort starts

  pub started_so : Leaves G old new seat
      (started_by result (effort_within (passed_at (state_in old) start.entry) start.entry))
      → Leaves G old new seat (started_by result (start_at (state_in old) now drawn))
  started_so leaves = subst (λ wanted. Leaves G old new seat (started_by result wanted)) same_effort leaves

-- nothing is due
pub starts_none : (state : State) (now : Moment) (drawn : List ℕ) (moment : Moment) → moment ≡ later state.last now
    → first_due state.rows.secrets moment (drawn_token drawn) ≡ None
    → StartsAs started.None (start_at state now drawn)
starts_none state now drawn moment at none =
    subst (λ m. StartsAs started.None (start_of state m drawn (due_at state m drawn))) at
    (subst (λ found. StartsAs started.None (start_of state moment drawn found)) (sym none) tt)

-- from the entry of an answer that holds to what the call comes to, and from one that does not
module _ {D : Type 0} {G : Ghosts D} (old new : AccountState D G) (seat : ℕ) (now : Moment) (work : Work)
    (answer : Answer) (moment : Moment) (at : moment ≡ later old.last now) (result : Reported) where
  fresh_effort : is_fresh (found_arn old.table moment work.arn) work ≡ true
      → effort_within (passed_at (state_in old) (reported_entry moment work answer)) (reported_entry moment work answer)
      ≡ report_at (state_in old) now work answer
  fresh_effort fresh =
      ap (λ b. cond b (effort_within (passed_at (state_in old) (reported_entry moment work answer))
      (reported_entry moment work answer)) (Undue (step_of (found_arn old.table moment work.arn)))) (sym fresh)
      ∙ ap (λ m. report_of (state_in old) m work answer (secret_of (state_in old) m work)) at

  pub reports_so : is_fresh (found_arn old.table moment work.arn) work ≡ true
      → ReportsAs result (effort_within (passed_at (state_in old) (reported_entry moment work answer))
      (reported_entry moment work answer))
      → ReportsAs result (report_at (state_in old) now work answer)
  reports_so fresh reports = subst (ReportsAs result) (fresh_effort fresh) reports

  pub reported_so : is_fresh (found_arn old.table moment work.arn) work ≡ true
      → Leaves G old new seat (reported_by result (effort_within (passed_at (state_in old)
      (reported_entry moment work answer)) (reported_entry moment work answer)))
      → Leaves G old new seat (reported_by result (report_at (state_in old) now work answer))
  reported_so fresh leaves = subst (λ wanted. Leaves G old new seat (reported_by result wanted)) (fresh_effort fresh)
      leaves

-- a verdict that does not hold is stale
pub reports_stale : (state : State) (now : Moment) (work : Work) (answer : Answer) (moment : Moment)
    → moment ≡ later state.last now → (step : Option At)
    → is_fresh (found_arn state.rows moment work.arn) work ≡ false
    → step ≡ step_of (found_arn state.rows moment work.arn)
    → ReportsAs (reported.Stale step) (report_at state now work answer)
reports_stale state now work answer moment at step stale is =
    subst (λ m. ReportsAs (reported.Stale step) (report_of state m work answer (secret_of state m work))) at
    (subst (λ b. ReportsAs (reported.Stale step) (cond b
    (effort_within (passed_at state (reported_entry moment work answer)) (reported_entry moment work answer))
    (Undue (step_of (found_arn state.rows moment work.arn))))) (sym stale) is)
