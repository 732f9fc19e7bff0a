-- The visits of a connection worker, one after the other.
use Rattle.std.proofs.Common.{◌≡◌, ℕ, ◌≤◌, List, [], ◌∷◌, ◌++◌, map, sym, ap, ◌∙◌, subst, arith}
use Rattle.std.specs.Prelude.{Option}
use Rattle.std.proofs.lemmas.List.{map-append}
use Rattle.sm_io.specs.Edge.{told_first, told_more}
use Rattle.sm_account.specs.States.{Base}
use Rattle.sm_lock.specs.Story.{Grows}
use Rattle.sm_principal.specs.declared.people.People.{People}
use Rattle.sm_session.specs.Endings.{Sides}
use Rattle.sm_session.specs.Sessions.{Place, LocalState, IsRight, turn_shape}
use Rattle.sm_account.specs.SeatTraces.{SeatTrace}
use Rattle.sm_account.proofs.SeatTraceLaws.{traces_join}
use Rattle.sm_workers.specs.declared.worker.ConnEnd.{ConnEnd}
use Rattle.sm_workers.specs.Chains.{Chain, Waits}
use Rattle.sm_workers.specs.ConnectionWorkers.{ConnectionWorkerDid, EdgeState}
use Rattle.sm_workers.specs.Known.{told_ahead, told_behind}
use Rattle.sm_workers.specs.Visits.{Visit, turns_in}
use Rattle.sm_workers.proofs.ChainLemmas.{chain_more, chain_on, joins, waits_both, waits_same, waits_still}
use Rattle.sm_workers.proofs.KnownLemmas.{ahead-nil, ahead-one, behind-nil, behind-one}

module _ {K : Type 0} (sides : K → Sides) (people : People) (place : Place) where
  abbrev Visits : Type 0
  Visits = List (Visit sides people place)

  abbrev Follow : LocalState → Visits → LocalState → Type 0
  Follow = Chain (Waits place.seat) (λ (visit : Visit sides people place). visit.from) (λ visit. visit.to)

  -- the turns of visits are one trace
  pub visits_trace : (from to : LocalState) (visits : Visits) → Follow from visits to
      → SeatTrace turn_shape (Grows (place.seat ∷ [])) place.seat (IsRight people place.base) from.seen
      (turns_in sides people place visits) to.seen
  visits_trace from to [] chain = chain.seen
  visits_trace from to (visit ∷ visits) chain =
      let right = IsRight people place.base in
      let gap = Grows (place.seat ∷ []) in
      traces_join turn_shape gap place.seat right (joins place.seat) from.seen visit.from.seen to.seen []
      (visit.session.turns ++ turns_in sides people place visits) chain.0.seen
      (traces_join turn_shape gap place.seat right (joins place.seat) visit.from.seen visit.to.seen to.seen
      visit.session.turns (turns_in sides people place visits) visit.session.seat_trace
      (visits_trace visit.to to visits chain.1))

  -- the count of the random source does not fall
  pub visits_random : (from to : LocalState) (visits : Visits) → Follow from visits to → from.random ≤ to.random
  visits_random from to [] chain = omega (arith, chain.random)
  visits_random from to (visit ∷ visits) chain =
      omega (arith, chain.0.random, visit.later.random, visits_random visit.to to visits chain.1)

  -- the visits so far
  pub record SoFar (old now : EdgeState K) (from to : LocalState) : Type 0 where
    pub visits : Visits
    pub left : old.left ≡ told_ahead (map (λ visit. visit.conn) visits) now.left
    pub handed : now.handed ≡ told_behind old.handed (map (λ visit. visit.conn) visits)
    pub back : now.back ≡ told_behind old.back (map (λ visit. (visit.came, visit.note)) visits)
    pub chain : Follow from visits to
    pub later : old.faults ≤ now.faults

  pub so_far_first : (edge : EdgeState K) (from : LocalState) → SoFar edge edge from from
  so_far_first edge from = record {
    visits = [];
    left = sym (ahead-nil edge.left);
    handed = sym (behind-nil edge.handed);
    back = sym (behind-nil edge.back);
    chain = waits_still place.seat from;
    later = omega arith;
  }

  module _ (old at : EdgeState K) (from mid : LocalState) (so_far : SoFar old at from mid) where
    -- no connection was handed out
    pub so_far_waits : (now : EdgeState K) (to : LocalState) → now.left ≡ at.left → now.handed ≡ at.handed
        → now.back ≡ at.back → at.faults ≤ now.faults → Waits place.seat mid to → SoFar old now from to
    so_far_waits now to left handed back later waits = record {
      visits = so_far.visits;
      left = so_far.left ∙ ap (told_ahead (map (λ (v : Visit sides people place). v.conn) so_far.visits)) (sym left);
      handed = handed ∙ so_far.handed;
      back = back ∙ so_far.back;
      chain = chain_on (Waits place.seat) (λ (v : Visit sides people place). v.from) (λ v. v.to)
          (waits_both place.seat) from mid to so_far.visits so_far.chain waits;
      later = omega (arith, so_far.later, later);
    }

    -- one visit more
    pub so_far_more : (now : EdgeState K) (to : LocalState) (visit : Visit sides people place)
        → at.left ≡ told_first visit.conn now.left → now.handed ≡ told_more at.handed visit.conn
        → now.back ≡ told_more at.back (visit.came, visit.note) → at.faults ≤ now.faults → visit.from ≡ mid
        → visit.to ≡ to → SoFar old now from to
    so_far_more now to visit left handed back later begins ends =
        let conn : Visit sides people place → K = λ v. v.conn in
        let returned : Visit sides people place → K × ConnEnd = λ v. (v.came, v.note) in
        record {
          visits = so_far.visits ++ visit ∷ [];
          left = so_far.left ∙ ap (told_ahead (map conn so_far.visits)) left
              ∙ ahead-one now.left (map conn so_far.visits) visit.conn
              ∙ ap (λ (cs : List K). told_ahead cs now.left) (sym (map-append conn so_far.visits (visit ∷ [])));
          handed = handed ∙ ap (λ told. told_more told visit.conn) so_far.handed
              ∙ behind-one old.handed (map conn so_far.visits) visit.conn
              ∙ ap (told_behind old.handed) (sym (map-append conn so_far.visits (visit ∷ [])));
          back = back ∙ ap (λ told. told_more told (returned visit)) so_far.back
              ∙ behind-one old.back (map returned so_far.visits) (returned visit)
              ∙ ap (told_behind old.back) (sym (map-append returned so_far.visits (visit ∷ [])));
          chain = chain_more (Waits place.seat) (λ (v : Visit sides people place). v.from) (λ v. v.to)
              (waits_both place.seat) from mid to so_far.visits visit so_far.chain
              (waits_same place.seat mid visit.from begins) (waits_same place.seat visit.to to (sym ends));
          later = omega (arith, so_far.later, later);
        }

    -- all that the connection worker did
    pub connection_worker_did : ConnectionWorkerDid sides people place old at from mid
    connection_worker_did = record {
      visits = so_far.visits;
      left = so_far.left;
      handed = so_far.handed;
      back = so_far.back;
      chain = so_far.chain;
      seat_trace = visits_trace from mid so_far.visits so_far.chain;
      later = so_far.later;
      random_later = visits_random from mid so_far.visits so_far.chain;
    }

-- The same, where the seat's number has two names.
module _ {K : Type 0} (sides : K → Sides) (people : People) (base : Base) (own seat : ℕ) (same : own ≡ seat)
    (old at now : EdgeState K) (from mid to : LocalState)
    (so_far : SoFar sides people (record { base = base; seat = seat }) old at from mid) where
  -- a visit of this connection, beside what the edge told of it before and after
  abbrev pub Brings : K → Option (List (K × ConnEnd)) → ℕ → Type 0
  Brings conn back number = (visit : Visit sides people (record { base = base; seat = number })) × (visit.conn ≡ conn)
      × (now.back ≡ told_more back (visit.came, visit.note)) × (visit.from ≡ mid) × (visit.to ≡ to)

  -- a connection was handed out and visited
  pub visited : (conn : K) (out : EdgeState K) → at.left ≡ told_first conn out.left
      → out.handed ≡ told_more at.handed conn → out.back ≡ at.back → at.faults ≤ out.faults → now.left ≡ out.left
      → now.handed ≡ out.handed → now.faults ≡ out.faults → Brings conn out.back own
      → SoFar sides people (record { base = base; seat = seat }) old now from to
  visited conn out first handed back later left_stays handed_stays faults_stay brings =
      let (visit, is, came, begins, ends) = subst (Brings conn out.back) same brings in
      so_far_more sides people (record { base = base; seat = seat }) old at from mid so_far now to visit
      (first ∙ ap (told_first conn) (sym left_stays) ∙ ap (λ (k : K). told_first k now.left) (sym is))
      (handed_stays ∙ handed ∙ ap (told_more at.handed) (sym is))
      (came ∙ ap (λ (told : Option (List (K × ConnEnd))). told_more told (visit.came, visit.note)) back)
      (omega (arith, later, faults_stay)) begins ends

  -- the door was closed
  pub left_connection_worker : now.left ≡ at.left → now.handed ≡ at.handed → now.back ≡ at.back → at.faults ≤ now.faults
      → Grows (own ∷ []) mid.seen to.seen → to ≡ record mid { seen = to.seen }
      → ConnectionWorkerDid sides people (record { base = base; seat = seat }) old now from to
  left_connection_worker left handed back later seen stays =
      let place : Place = record { base = base; seat = seat } in
      let waits : Waits seat mid to = record {
        seen = subst (λ n. Grows (n ∷ []) mid.seen to.seen) same seen;
        readings = ap (λ (s : LocalState). s.readings) stays;
        drawn = ap (λ (s : LocalState). s.drawn) stays;
        random = ap (λ (s : LocalState). s.random) stays;
      } in
      connection_worker_did sides people place old now from to
      (so_far_waits sides people place old at from mid so_far now to left handed back later waits)
