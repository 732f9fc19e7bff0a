-- What a worker did, and what it left.
use Rattle.std.proofs.Common.{◌≡◌, Bool, [], ◌∷◌, ◌++◌, length, take, drop, Some, None, refl, sym, ap, ◌∙◌, subst, arith}
use Rattle.std.specs.Prelude.{⊤, Option}
use Rattle.sm_account.specs.States.{Base}
use Rattle.sm_lock.specs.Handles.{built, number, seen, IsIn}
use Rattle.sm_lock.specs.Story.{Grows, entries_of}
use Rattle.sm_lock.specs.declared.gate.Gate.{Gate}
use Rattle.sm_lock.specs.declared.pass.Pass.{Pass}
use Rattle.sm_lock.specs.declared.storied.Storied.{Ghosts}
use Rattle.sm_model.specs.declared.entry.Mark.{Mark}
use Rattle.sm_pool.specs.Holds.{hold_shape}
use Rattle.sm_principal.specs.declared.people.People.{People}
use Rattle.sm_session.specs.Sessions.{IsRight, Place, LocalState, turn_shape}
use Rattle.sm_account.specs.SeatTraces.{History}
use Rattle.sm_account.proofs.SeatTraceLaws.{trace_mine, trace_goes_on}
use Rattle.sm_workers.specs.declared.worker.Task.{Task}
use Rattle.sm_workers.specs.declared.worker.Task.TheVariants.{Door, Turner}
use Rattle.sm_workers.specs.declared.worker.WorkerBy.{WorkerBy}
use Rattle.sm_workers.specs.Chains.{Waits}
use Rattle.sm_workers.specs.RotationWorkers.{RotationTurn, WaitsAt, holds_in}
use Rattle.sm_workers.specs.Views.{Views}
use Rattle.sm_workers.specs.Visits.{Visit, turns_in}
use Rattle.sm_workers.specs.Workers.{Did, EndsAs, HasWorked, Works, WorksWithItsPass, marks_by, marks_of, local_state_of}
use Rattle.sm_workers.proofs.ChainLemmas.{chain_on, joins, waits_at_both, waits_both}

module _ {E K C W R : Type 0} (views : Views E K C W R) (people : People) (place : Place) where
  -- the marks of the seat since a list that the history began with
  pub did_mine : (built : History) (old new : Task E R) (from to : LocalState)
      (did : Did views people place old new from to) → take (length built) from.seen ≡ built
      → entries_of place.seat (drop (length built) to.seen)
      ≡ entries_of place.seat (drop (length built) from.seen) ++ marks_by views people place old new from to did
  did_mine built (Door old) (Door new) from to did begins =
      trace_mine turn_shape place.seat (IsRight people place.base) built from.seen to.seen
      (turns_in views.sides people place did.visits) begins did.seat_trace
  did_mine built (Turner old) (Turner new) from to did begins =
      trace_mine hold_shape place.seat (λ hold. ⊤) built from.seen to.seen (holds_in views.replies place did.turns)
      begins did.seat_trace
  did_mine built (Door old) (Turner new) from to did begins = absurd did
  did_mine built (Turner old) (Door new) from to did begins = absurd did

  -- seen from a later history
  pub did_later : (old new : Task E R) (from to later : LocalState) → Did views people place old new from to
      → Waits place.seat to later → Did views people place old new from later
  did_later (Door old) (Door new) from to later did waits = record {
    visits = did.visits;
    left = did.left;
    handed = did.handed;
    back = did.back;
    chain = chain_on (Waits place.seat) (λ (v : Visit views.sides people place). v.from) (λ v. v.to)
        (waits_both place.seat) from to later did.visits did.chain waits;
    seat_trace = trace_goes_on turn_shape (Grows (place.seat ∷ [])) place.seat (IsRight people place.base)
        (joins place.seat)
        from.seen to.seen later.seen (turns_in views.sides people place did.visits) did.seat_trace waits.seen;
    later = did.later;
    random_later = omega (arith, did.random_later, waits.random);
  }
  did_later (Turner old) (Turner new) from to later did waits = record {
    turns = did.turns;
    rests = did.rests;
    chain = chain_on (WaitsAt place.seat) (λ (t : RotationTurn views.replies place). t.from) (λ t. t.to)
        (waits_at_both place.seat) (record { own = from; rotator = views.rotator old })
        (record { own = to; rotator = views.rotator new }) (record { own = later; rotator = views.rotator new })
        did.turns did.chain (record { own = waits; rotator = refl });
    seat_trace = trace_goes_on hold_shape (Grows (place.seat ∷ [])) place.seat (λ hold. ⊤) (joins place.seat) from.seen
        to.seen later.seen (holds_in views.replies place did.turns) did.seat_trace waits.seen;
    later = record {
      random = omega (arith, did.later.random, waits.random);
      rotator = did.later.rotator;
    };
  }
  did_later (Door old) (Turner new) from to later did waits = absurd did
  did_later (Turner old) (Door new) from to later did waits = absurd did

-- what an option has
abbrev pub the_one : {P : Type 0} → P → Option P → P
the_one other None = other
the_one other (Some p) = p

pub one_only : {P : Type 0} (p q : P) (option : Option P) → option ≡ Some p → option ≡ Some q → p ≡ q
one_only p q option is_p is_q = ap (the_one p) (sym is_p ∙ is_q)

module _ {E K C W R : Type 0} (views : Views E K C W R) (people : People) {A O : Type 0} {g : Ghosts A O Mark} where
  -- what a worker did, seen from a later history
  pub works_later : (place : Place) (old new : WorkerBy E C W R A O Mark g) (from to later : History)
      → Works views people place old new from to → Grows (place.seat ∷ []) to later
      → Works views people place old new from later
  works_later place old new from to later works grows = record {
    did = did_later views people place old.task new.task (local_state_of views old from) (local_state_of views new to)
        (local_state_of views new later) works.did
        (record { seen = grows; readings = refl; drawn = refl; random = refl });
    ends = works.ends;
  }

  -- the marks of its seat since a list that the history began with
  pub works_mine : (place : Place) (begun : History) (old new : WorkerBy E C W R A O Mark g) (from to : History)
      (works : Works views people place old new from to) → take (length begun) from ≡ begun
      → entries_of place.seat (drop (length begun) to)
      ≡ entries_of place.seat (drop (length begun) from) ++ marks_of views people works
  works_mine place begun old new from to works begins =
      did_mine views people place begun old.task new.task (local_state_of views old from) (local_state_of views new to)
      works.did begins

  module _ (base : Base) (gate : Gate A O Mark) (before after : Pass A O Mark g) (was_in : IsIn gate before)
      (is_in : IsIn gate after) (same : number after ≡ number before) where
    -- what a worker did with its pass
    pub has_worked : (old new : WorkerBy E C W R A O Mark g)
        → Works views people (record { base = base; seat = number before }) old new (seen before) (seen after)
        → HasWorked views people base gate before after old new
    has_worked old new works = record {
      gate_stays = is_in;
      number_stays = same;
      works = works;
      own =
          ap (λ (b : History). entries_of (number after) (drop (length b) (seen after))) (is_in.2 ∙ sym was_in.2)
          ∙ ap (λ n. entries_of n (drop (length (built before)) (seen after))) same
          ∙ works_mine (record { base = base; seat = number before }) (built before) old new (seen before) (seen after)
          works before.begins;
    }

    -- it took the pass out, and put it in again
    pub works_with_pass : (old out new : WorkerBy E C W R A O Mark g) (task : Task E R) (clock : C) (words : W)
        (failed : Bool)
        → old.pass ≡ Some before → out ≡ record old { pass = None }
        → new ≡ record { task = task; clock = clock; words = words; pass = Some after; failed = failed }
        → Did views people (record { base = base; seat = number before }) out.task task
        (local_state_of views out (seen before))
        (record {
          seen = seen after;
          readings = views.readings clock;
          drawn = views.drawn words;
          random = views.random words;
        })
        → EndsAs views failed out.task task → WorksWithItsPass views people base gate old new
    works_with_pass old out new task clock words failed had left put did ends =
        let there : WorkerBy E C W R A O Mark g =
        record { task = task; clock = clock; words = words; pass = Some after; failed = failed } in
        let place : Place = record { base = base; seat = number before } in
        let works : Works views people place out there (seen before) (seen after) = record { did = did; ends = ends } in
        let bare : Works views people place (record old { pass = None }) there (seen before) (seen after) =
        subst (λ (w : WorkerBy E C W R A O Mark g). Works views people place w there (seen before) (seen after)) left
        works in
        let own : Works views people place old there (seen before) (seen after) =
        record { did = bare.did; ends = bare.ends } in
        subst (λ (w : WorkerBy E C W R A O Mark g). WorksWithItsPass views people base gate old w) (sym put)
        (record {
          before = before;
          after = after;
          had = had;
          has = refl;
          worked = has_worked old there own;
        })

  -- a worker was given a pass and worked, and the pass was taken from it
  module _ (base : Base) (gate : Gate A O Mark) where
    pub worked_between : (old out back new : WorkerBy E C W R A O Mark g) (pass given : Pass A O Mark g)
        → out ≡ record old { pass = Some pass } → WorksWithItsPass views people base gate out back
        → back.pass ≡ Some given → new ≡ record back { pass = None }
        → HasWorked views people base gate pass given old new
    worked_between old out back new pass given gave works took left =
        let there : WorksWithItsPass views people base gate (record old { pass = Some pass }) back =
        subst (λ (w : WorkerBy E C W R A O Mark g). WorksWithItsPass views people base gate w back) gave works in
        let did = there.worked in
        let bare : HasWorked views people base gate there.before there.after old (record back { pass = None }) =
        record {
          gate_stays = did.gate_stays;
          number_stays = did.number_stays;
          works = record { did = did.works.did; ends = did.works.ends };
          own = did.own;
        } in
        subst (λ (w : WorkerBy E C W R A O Mark g). HasWorked views people base gate pass given old w) (sym left)
        (subst
        (λ (p : Pass A O Mark g). HasWorked views people base gate p given old (record back { pass = None }))
        (one_only there.before pass (Some pass) there.had refl)
        (subst
        (λ (p : Pass A O Mark g). HasWorked views people base gate there.before p old (record back { pass = None }))
        (one_only there.after given back.pass there.has took) bare))
