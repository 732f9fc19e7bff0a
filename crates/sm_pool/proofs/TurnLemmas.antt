-- The course of a turn.
use Rattle.std.proofs.Common.{◌≡◌, ℕ, List, [], ◌∷◌, IsSomeAnd, refl, subst}
use Rattle.std.specs.Prelude.{Option}
use Rattle.std.specs.Io.KnownBytes.{append_known}
use Rattle.sm_base.specs.declared.moment.Moment.{Moment}
use Rattle.sm_claims.specs.Works.{IsWorkOf}
use Rattle.sm_core.specs.Histories.{later}
use Rattle.sm_rotation.specs.Vouched.{Replies}
use Rattle.sm_rotator.specs.declared.work.Work.{Work}
use Rattle.sm_table.specs.Sound.{Sound}
use Rattle.sm_account.specs.Claims.{ready_at}
use Rattle.sm_account.specs.States.{Base, state_at}
use Rattle.sm_account.specs.SeatTraces.{History}
use Rattle.sm_pool.specs.declared.done.Done.{Done}
use Rattle.sm_pool.specs.declared.done.Done.TheVariants as ends
use Rattle.sm_pool.specs.declared.done.Trouble.TheVariants as troubles
use Rattle.sm_pool.specs.declared.holds.Found.{Found}
use Rattle.sm_pool.specs.declared.holds.Found.TheVariants as finds
use Rattle.sm_pool.specs.Asking.{Asking, Asks}
use Rattle.sm_pool.specs.Found.{found_by}
use Rattle.sm_pool.specs.Holds.{Hold, LookHeld, hold_of}
use Rattle.sm_pool.specs.Turns.{Asked, IsWorkCourse, LateApart, Passing, Rests, Starts, StartDone, Tells, TurnAsks, Unasked, Wants, WorkCourse, WorkDone, Works, readings_of, start_holds, work_holds}
use Rattle.sm_pool.proofs.HoldLemmas.{trace_of_one, one_then_trace}
use Rattle.sm_io.proofs.Known.{told_more}
use Rattle.sm_pool.proofs.LateLemmas.{late_apart}

module _ (replies : Replies) (base : Base) (gap : History → History → Type 0) (still : (h : History) → gap h h)
    (seat : ℕ) (now : Moment) (found : Found) where
  -- the hold in which somebody looked
  abbrev look_hold : History → Found → Hold
  look_hold before what = hold_of before now (found_by what (later (state_at base before).last now))

  -- what there is to do decides
  as_found : (from to : History) (what : Found) → found ≡ what → LookHeld base gap seat from to now found
      → LookHeld base gap seat from to now what
  as_found from to what is look = subst (LookHeld base gap seat from to now) is look

  pub rests_turn : (passing : Passing) (asking : Asking) (from to : History) → found ≡ finds.Nothing
      → LookHeld base gap seat from to now found → Tells passing.clock (now.0 ∷ []) → Tells passing.words []
      → Asks asking [] → TurnAsks replies base gap seat passing asking from to ends.Idle
  rests_turn passing asking from to is held told random unasked =
      let look = as_found from to finds.Nothing is held in
      let hold : Hold = look_hold look.before finds.Nothing in (
        record {
          course = Rests hold;
          takes = record {
            is = ((look.finds.0, refl), look.finds.1);
            done_is = refl;
            readings = told;
            drawn = random;
            rotator = tt;
            words = tt;
          };
          seat_trace = trace_of_one gap seat still from to hold look.held;
          late = tt;
        },
        unasked,
      )

  pub wants_turn : (passing : Passing) (asking : Asking) (from to : History) → found ≡ finds.Memory
      → LookHeld base gap seat from to now found → Tells passing.clock (now.0 ∷ []) → Tells passing.words []
      → Asks asking [] → TurnAsks replies base gap seat passing asking from to (ends.Trouble troubles.Memory)
  wants_turn passing asking from to is held told random unasked =
      let look = as_found from to finds.Memory is held in
      let hold : Hold = look_hold look.before finds.Memory in (
        record {
          course = Wants hold;
          takes = record { is = refl; done_is = refl; readings = told; drawn = random; rotator = tt; words = tt };
          seat_trace = trace_of_one gap seat still from to hold look.held;
          late = tt;
        },
        unasked,
      )

  -- the clock told the first reading, and then what it told for the rest
  module _ (from mid to : History) (passing : Passing) (asking : Asking) (between : Option (List ℕ)) (done : Done)
      (told : between ≡ append_known passing.clock.before (now.0 ∷ [])) where
    pub starts_turn : found ≡ finds.Due → LookHeld base gap seat from mid now found
        → StartDone base gap seat (record { before = between; after = passing.clock.after }) passing.words
        passing.words_count mid to done
        → Asks asking [] → TurnAsks replies base gap seat passing asking from to done
    starts_turn is held start unasked =
        let look = as_found from mid finds.Due is held in
        let hold : Hold = look_hold look.before finds.Due in (
          record {
            course = Starts hold start.course;
            takes = record {
              is = ((look.finds.0, refl), look.finds.1, start.starts.is);
              done_is = start.starts.done_is;
              readings = told_more passing.clock.before between passing.clock.after (now.0 ∷ [])
                  (readings_of (start_holds start.course)) told start.starts.readings;
              drawn = start.starts.drawn;
              rotator = tt;
              words = start.starts.failed;
            };
            seat_trace = one_then_trace gap seat from mid to hold (start_holds start.course) look.held start.seat_trace;
            late = tt;
          },
          unasked,
        )

    late_work : (before : History) (work : Work) → Sound (state_at base before).rows
        → IsSomeAnd (ready_at base before (later (state_at base before).last now)) (λ row. IsWorkOf row work)
        → (course : WorkCourse) → IsWorkCourse replies base work course
        → LateApart seat (Works (look_hold before (finds.Work work)) work course)
    late_work before work sound ready Unasked is = tt
    late_work before work sound ready (Asked answer hold reported) is =
        late_apart base seat before (later (state_at base before).last now) work sound ready answer hold reported is.1

    pub works_turn : (work : Work) → found ≡ finds.Work work → LookHeld base gap seat from mid now found
        → Tells passing.words []
        → WorkDone replies base gap seat work (record { before = between; after = passing.clock.after }) asking
        passing.rotator_count mid to done
        → TurnAsks replies base gap seat passing asking from to done
    works_turn work is held random does =
        let look = as_found from mid (finds.Work work) is held in
        let hold : Hold = look_hold look.before (finds.Work work) in (
          record {
            course = Works hold work does.course;
            takes = record {
              is = ((look.finds, refl), does.does.is);
              done_is = does.does.done_is;
              readings = told_more passing.clock.before between passing.clock.after (now.0 ∷ [])
                  (readings_of (work_holds does.course)) told does.does.readings;
              drawn = random;
              rotator = does.does.failed;
              words = tt;
            };
            seat_trace = one_then_trace gap seat from mid to hold (work_holds does.course) look.held does.seat_trace;
            late = late_work look.before work look.sound look.finds does.course does.does.is;
          },
          does.does.asks,
        )
