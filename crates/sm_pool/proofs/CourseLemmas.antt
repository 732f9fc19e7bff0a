-- The courses of a work and of a start.
use Rattle.std.proofs.Common.{◌≡◌, ℕ, true, List, [], ◌∷◌, length, refl, sym, subst}
use Rattle.std.specs.Prelude.{Option}
use Rattle.sm_base.specs.declared.moment.Moment.{Moment}
use Rattle.sm_model.specs.declared.entry.Answer.{Answer}
use Rattle.sm_model.specs.declared.entry.Answer.TheVariants as answers
use Rattle.sm_rotation.specs.Vouched.{Replies}
use Rattle.sm_rotator.specs.declared.work.Work.{Work}
use Rattle.sm_account.specs.declared.report.Reported.{Reported}
use Rattle.sm_account.specs.declared.start_due.StartedDue.{StartedDue}
use Rattle.sm_account.specs.Report.{report_at, reported_by}
use Rattle.sm_account.specs.StartDue.{start_at, started_by}
use Rattle.sm_account.specs.States.{Base, state_at}
use Rattle.sm_account.specs.SeatTraces.{History}
use Rattle.sm_pool.specs.declared.done.Done.{Done}
use Rattle.sm_pool.specs.declared.done.Done.TheVariants as ends
use Rattle.sm_pool.specs.declared.done.Trouble.{Trouble}
use Rattle.sm_pool.specs.declared.done.Trouble.TheVariants as troubles
use Rattle.sm_pool.specs.Asking.{Asking, Asks, IsUnasked}
use Rattle.sm_pool.specs.Ends.{due_ends, report_ends}
use Rattle.sm_pool.specs.Holds.{ReportHeld, StartHeld, hold_of}
use Rattle.sm_pool.specs.Turns.{Asked, Begins, Count, HasRisen, IsOfDraw, OnRandom, StartDone, Telling, Tells, Unasked, Undrawn, WorkDone}
use Rattle.sm_pool.proofs.AskingLemmas.{unasked_none}
use Rattle.sm_pool.proofs.HoldLemmas.{trace_of_one}
use Rattle.sm_io.proofs.Known.{append_known-nil}

module _ (base : Base) (gap : History → History → Type 0) (still : (h : History) → gap h h) (seat : ℕ) where
  module _ (replies : Replies) where
    -- the rotator was asked, and its answer reported
    pub reported_work : (asked work : Work) → asked ≡ work → (answer : Answer) (reported : Reported) (now : Moment)
        (clock : Telling) (asking : Asking) (rotator : Count) (from to : History) (done : Done)
        → ReportHeld base gap seat from to now asked answer reported
        → replies asked.arn asked.at asked.current asked.pending answer ≡ true → Tells clock (now.0 ∷ [])
        → Asks asking (record { work = asked; answer = answer } ∷ [])
        → (answer ≡ answers.Failed → HasRisen rotator) → done ≡ report_ends asked reported
        → WorkDone replies base gap seat work clock asking rotator from to done
    reported_work asked work same answer reported now clock asking rotator from to done held allowed told asks fails e =
        let hold = hold_of held.before now
        (reported_by reported (report_at (state_at base held.before) now asked answer)) in
        subst (λ w. WorkDone replies base gap seat w clock asking rotator from to done) same (record {
          course = Asked answer hold reported;
          does = record {
            is = (allowed, (held.reports, refl));
            done_is = e;
            readings = told;
            asks = asks;
            failed = fails;
          };
          seat_trace = trace_of_one gap seat still from to hold held.held;
        })

    -- it was not asked
    pub unasked_work : (work : Work) (known : Option (List ℕ)) (asking : Asking) (rotator : Count) (from : History)
        → IsUnasked asking
        → WorkDone replies base gap seat work (record { before = known; after = known }) asking rotator from from
        (ends.Trouble troubles.Memory)
    unasked_work work known asking rotator from unasked = record {
      course = Unasked;
      does = record {
        is = tt;
        done_is = refl;
        readings = sym (append_known-nil known);
        asks = unasked_none asking unasked;
        failed = tt;
      };
      seat_trace = still from;
    }

  -- random bytes were drawn, and a start tried
  pub begun_start : (drawn : List ℕ) (started : StartedDue) (now : Moment) (clock words : Telling) (failures : Count)
      (from to : History) (done : Done) → StartHeld base gap seat from to now drawn started → length drawn ≡ 16
      → Tells clock (now.0 ∷ []) → Tells words drawn → done ≡ due_ends started
      → StartDone base gap seat clock words failures from to done
  begun_start drawn started now clock words failures from to done held long told random is =
      let hold = hold_of held.before now (started_by started (start_at (state_at base held.before) now drawn)) in
      record {
        course = Begins drawn hold started;
        starts = record {
          is = (long, (held.starts, refl));
          done_is = is;
          readings = told;
          drawn = random;
          failed = tt;
        };
        seat_trace = trace_of_one gap seat still from to hold held.held;
      }

  -- none were drawn
  pub undrawn_start : (trouble : Trouble) (known : Option (List ℕ)) (words : Telling) (failures : Count)
      (from : History) → IsOfDraw trouble → OnRandom trouble (HasRisen failures) → Tells words []
      → StartDone base gap seat (record { before = known; after = known }) words failures from from
      (ends.Trouble trouble)
  undrawn_start trouble known words failures from is failed random = record {
    course = Undrawn trouble;
    starts = record {
      is = is;
      done_is = refl;
      readings = sym (append_known-nil known);
      drawn = random;
      failed = failed;
    };
    seat_trace = still from;
  }
