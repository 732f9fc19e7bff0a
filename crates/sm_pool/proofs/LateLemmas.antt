-- A verdict on a work whose step was just claimed is not late.
use Rattle.std.proofs.Common.{◌≡◌, ℕ, Bool, [], ◌∷◌, ◌++◌, Option, Some, None, IsSomeAnd, ap, ◌∙◌, subst}
use Rattle.std.specs.Prelude.{if◌then◌else◌}
use Rattle.sm_base.specs.declared.moment.Moment.{Moment}
use Rattle.sm_model.specs.declared.entry.Answer.{Answer}
use Rattle.sm_model.specs.declared.entry.At.{At}
use Rattle.sm_model.specs.declared.entry.Entry.{Entry}
use Rattle.sm_model.specs.declared.entry.Mark.TheVariants.{Claim}
use Rattle.sm_claims.specs.Fresh.{step_of}
use Rattle.sm_claims.specs.Works.{IsWorkOf}
use Rattle.sm_claims.proofs.HeldLemmas.{ready_holds}
use Rattle.sm_core.specs.Histories.{later}
use Rattle.sm_rotator.specs.declared.work.Work.{Work}
use Rattle.sm_table.specs.Found.{found_arn}
use Rattle.sm_table.specs.Sound.{Sound}
use Rattle.sm_account.specs.declared.entering.Passed.{Passed}
use Rattle.sm_account.specs.declared.report.Reported.{Reported}
use Rattle.sm_account.specs.declared.report.Reported.TheVariants as reports
use Rattle.sm_account.specs.Claims.{ready_at}
use Rattle.sm_account.specs.Efforts.{Undue, effort_within}
use Rattle.sm_account.specs.History.{by_seat, entries_in}
use Rattle.sm_account.specs.Limits.{passed_at}
use Rattle.sm_account.specs.Report.{ReportsAs, report_at, reported_entry}
use Rattle.sm_account.specs.States.{Base, State, state_after, state_at}
use Rattle.sm_account.proofs.StateLaws.{state_claimed}
use Rattle.sm_account.specs.SeatTraces.{History}
use Rattle.sm_pool.specs.Holds.{Hold, ReportsIn}
use Rattle.sm_pool.specs.Turns.{IsLate}

-- an entry that is due, or would pass a limit, is not late
within_not_stale : (at : Option At) (passed : Option Passed) (entry : Entry)
    → ReportsAs (reports.Stale at) (effort_within passed entry) → ⊥
within_not_stale at None entry is = is
within_not_stale at (Some passed) entry is = is

module _ (base : Base) (seat : ℕ) (before : History) (moment : Moment) (work : Work)
    (sound : Sound (state_at base before).rows)
    (ready : IsSomeAnd (ready_at base before moment) (λ row. IsWorkOf row work)) where
  not_late : (state : State) (now : Moment) (answer : Answer) (at : Option At) → state ≡ state_at base before
      → ReportsAs (reports.Stale at) (report_at state now work answer) → ⊥
  not_late state now answer at same is =
      let s : State = state_at base before in
      let stands : Moment = later s.last now in
      let entry : Entry = reported_entry stands work answer in
      let fresh = ready_holds s.rows before moment stands work sound ready in
      let is' : ReportsAs (reports.Stale at) (report_at s now work answer) =
      subst (λ t. ReportsAs (reports.Stale at) (report_at t now work answer)) same is in
      within_not_stale at (passed_at s entry) entry
      (subst (λ (b : Bool). ReportsAs (reports.Stale at) (if b then effort_within (passed_at s entry) entry
      else Undue (step_of (found_arn s.rows stands work.arn)))) fresh is')

  pub late_apart : (answer : Answer) (hold : Hold) (reported : Reported) → ReportsIn base hold work answer reported
      → IsLate reported
      → entries_in hold.before ≡ entries_in (before ++ by_seat seat (Claim work.arn work.at moment ∷ [])) → ⊥
  late_apart answer hold reports.Moved is late same = late
  late_apart answer hold (reports.Stale at) is late same =
      not_late (state_at base hold.before) hold.now answer at
      (ap (state_after base) same ∙ state_claimed base before seat work.arn work.at moment) is.0
  late_apart answer hold (reports.Limit limit) is late same = late
  late_apart answer hold reports.DiskFault is late same = late
  late_apart answer hold reports.Memory is late same = late
