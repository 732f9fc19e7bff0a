-- The turns of a rotation worker, one after the other.
use Rattle.std.proofs.Common.{◌≡◌, ℕ, List, [], ◌∷◌, ◌++◌, ◌∙◌, subst, arith}
use Rattle.std.specs.Prelude.{⊤}
use Rattle.sm_account.specs.States.{Base}
use Rattle.sm_lock.specs.Story.{Grows}
use Rattle.sm_pool.specs.declared.done.Done.{Done}
use Rattle.sm_pool.specs.Holds.{hold_shape}
use Rattle.sm_pool.specs.Rounds.{ComesToRest}
use Rattle.sm_pool.specs.Turns.{TurnDone, holds_of}
use Rattle.sm_rotation.specs.Vouched.{Replies}
use Rattle.sm_session.specs.Sessions.{Place}
use Rattle.sm_account.specs.SeatTraces.{SeatTrace}
use Rattle.sm_account.proofs.SeatTraceLaws.{traces_join}
use Rattle.sm_workers.specs.Chains.{Chain}
use Rattle.sm_workers.specs.RotationWorkers.{ComeToRest, NoneFellInTurns, Post, RotationTurn, RotationWorkerDid, WaitsAt, holds_in, passing}
use Rattle.sm_workers.proofs.ChainLemmas.{chain_more, chain_on, joins, waits_at_both, waits_at_still}

module _ (replies : Replies) (place : Place) where
  abbrev Turns : Type 0
  Turns = List (RotationTurn replies place)

  abbrev Follow : Post → Turns → Post → Type 0
  Follow = Chain (WaitsAt place.seat) (λ (turn : RotationTurn replies place). turn.from) (λ turn. turn.to)

  -- the holds of turns are one trace
  pub turns_trace : (from to : Post) (turns : Turns) → Follow from turns to
      → SeatTrace hold_shape (Grows (place.seat ∷ [])) place.seat (λ hold. ⊤) from.own.seen
      (holds_in replies place turns) to.own.seen
  turns_trace from to [] chain = chain.own.seen
  turns_trace from to (turn ∷ turns) chain =
      let gap = Grows (place.seat ∷ []) in
      let own = holds_of turn.turn.course in
      let more = holds_in replies place turns in
      traces_join hold_shape gap place.seat (λ hold. ⊤) (joins place.seat) from.own.seen turn.from.own.seen to.own.seen
      [] (own ++ more) chain.0.own.seen
      (traces_join hold_shape gap place.seat (λ hold. ⊤) (joins place.seat) turn.from.own.seen turn.to.own.seen
      to.own.seen own more turn.turn.seat_trace (turns_trace turn.to to turns chain.1))

  -- no count falls
  pub turns_later : (from to : Post) (turns : Turns) → Follow from turns to → NoneFellInTurns from to
  turns_later from to [] chain = record {
    random = omega (arith, chain.own.random);
    rotator = omega (arith, chain.rotator);
  }
  turns_later from to (turn ∷ turns) chain =
      let more = turns_later turn.to to turns chain.1 in
      record {
        random = omega (arith, chain.0.own.random, turn.later.random, more.random);
        rotator = omega (arith, chain.0.rotator, turn.later.rotator, more.rotator);
      }

  -- a turn more comes to rest
  rests_more : (turns : Turns) (turn : RotationTurn replies place) → ComesToRest turn.done
      → ComeToRest replies place (turns ++ turn ∷ [])
  rests_more [] turn rests = rests
  rests_more (first ∷ []) turn rests = rests
  rests_more (first ∷ next ∷ turns) turn rests = rests_more (next ∷ turns) turn rests

  -- the turns so far
  pub record SoFar (from to : Post) : Type 0 where
    pub turns : Turns
    pub chain : Follow from turns to

  pub so_far_first : (from : Post) → SoFar from from
  so_far_first from = record { turns = []; chain = waits_at_still place.seat from }

  module _ (from mid : Post) (so_far : SoFar from mid) where
    -- a waiting behind them
    pub so_far_waits : (to : Post) → WaitsAt place.seat mid to → SoFar from to
    so_far_waits to waits = record {
      turns = so_far.turns;
      chain = chain_on (WaitsAt place.seat) (λ (t : RotationTurn replies place). t.from) (λ t. t.to)
          (waits_at_both place.seat) from mid to so_far.turns so_far.chain waits;
    }

    module _ (at : Post) (done : Done)
        (turn : TurnDone replies place.base (Grows (place.seat ∷ [])) place.seat (passing mid at) mid.own.seen
        at.own.seen done) (later : NoneFellInTurns mid at) (to : Post) (waits : WaitsAt place.seat at to) where
      abbrev turned : RotationTurn replies place
      turned = record { from = mid; to = at; done = done; turn = turn; later = later }

      longer : Follow from (so_far.turns ++ turned ∷ []) to
      longer = chain_more (WaitsAt place.seat) (λ (t : RotationTurn replies place). t.from) (λ t. t.to)
          (waits_at_both place.seat) from mid to so_far.turns turned so_far.chain (waits_at_still place.seat mid) waits

      -- one turn more, and a waiting
      pub so_far_more : SoFar from to
      so_far_more = record { turns = so_far.turns ++ turned ∷ []; chain = longer }

      -- one that came to rest, and was the last
      pub rotation_worker_did : ComesToRest done → RotationWorkerDid replies place from to
      rotation_worker_did rests = record {
        turns = so_far.turns ++ turned ∷ [];
        rests = rests_more so_far.turns turned rests;
        chain = longer;
        seat_trace = turns_trace from to (so_far.turns ++ turned ∷ []) longer;
        later = turns_later from to (so_far.turns ++ turned ∷ []) longer;
      }

-- The same, where the seat's number has two names.
module _ (replies : Replies) (base : Base) (own seat : ℕ) (same : own ≡ seat) (from mid at : Post)
    (so_far : SoFar replies (record { base = base; seat = seat }) from mid) (done : Done)
    (turn : TurnDone replies base (Grows (own ∷ [])) own (passing mid at) mid.own.seen at.own.seen done)
    (later : NoneFellInTurns mid at) (again : ℕ) (to : Post) (same_again : again ≡ own)
    (seen : Grows (again ∷ []) at.own.seen to.own.seen) (readings : to.own.readings ≡ at.own.readings)
    (drawn : to.own.drawn ≡ at.own.drawn) (random : to.own.random ≡ at.own.random) (rotator : to.rotator ≡ at.rotator)
  where
    turn_there : TurnDone replies base (Grows (seat ∷ [])) seat (passing mid at) mid.own.seen at.own.seen done
    turn_there =
        subst (λ n. TurnDone replies base (Grows (n ∷ [])) n (passing mid at) mid.own.seen at.own.seen done) same turn

    waits_there : WaitsAt seat at to
    waits_there = record {
      own = record {
        seen = subst (λ n. Grows (n ∷ []) at.own.seen to.own.seen) (same_again ∙ same) seen;
        readings = readings;
        drawn = drawn;
        random = random;
      };
      rotator = rotator;
    }

    -- a turn, and a rest behind it
    pub turned_on : SoFar replies (record { base = base; seat = seat }) from to
    turned_on = so_far_more replies (record { base = base; seat = seat }) from mid so_far at done turn_there later to
        waits_there

    -- the last of them
    pub turned_last : ComesToRest done → RotationWorkerDid replies (record { base = base; seat = seat }) from to
    turned_last = rotation_worker_did replies (record { base = base; seat = seat }) from mid so_far at done turn_there
        later to waits_there
