-- A step that changes one view keeps the rule.
use Rattle.std.proofs.Common.{◌≡◌, ℕ, ◌+◌, ◌%◌, ◌^◌, ◌<◌, ◌≤◌, ◌≢◌, ◌⊎◌, List, [], ◌∷◌, ◌++◌, length, set, sym, ap, subst, inl, inr, ⊎_elim, arith, Option, length-append}
use mathlib.Core.Option.{some, none, some-injective}
use mathlib.Core.Option as maybe
use lib.ListN.{get_elem?}
use Rattle.atomic_table.specs.Table.{State}
use Rattle.atomic_table.proofs.Lists.{at_set}
use Rattle.sm_lock.specs.declared.view.QueuePlace.{QueuePlace}
use Rattle.sm_lock.specs.declared.view.QueuePlace.TheVariants.{Out, Waiting, Flagged, Parked, Inside, Holding, Waking, Rousing}
use Rattle.sm_lock.specs.declared.view.View.{View}
use Rattle.sm_lock.specs.Story.{times, made_by}
use Rattle.sm_lock.specs.View.{has_ticket, has, holds, parks, wakes, numbers}
use Rattle.sm_lock.specs.Rule.{total, within, Fits, IsServed, IsHome, IsAway, AreFlags, NoneSleepsOn, Counted}
use Rattle.sm_lock.proofs.Sums.{total-set, term_le, terms_le, total_le, if_same, within_le, within-is}

module _ {T O E : Type 0} (org : T → O) (sty : T → List (ℕ × E)) (o : O) (built : List (ℕ × E)) (seats : ℕ) where
  abbrev V : Type 0
  V = View O E

  abbrev St : Type 0
  St = State (Option T) V

  abbrev pub Rule : St → Type 0
  Rule = Counted org sty o built seats

  abbrev Homes : Type 0
  Homes = List (maybe.Option (Option T))

  abbrev pub state : List ℕ → Homes → List V → St
  state words homes views = record { words = words; homes = homes; views = views }

  abbrev pub Slot : List (ℕ × E) → St → Type 0
  Slot log s = IsHome org sty o log s ⊎ IsAway s

  -- what holds of each view after one has changed
  pub each_set : (K : V → Type 0) (views : List V) (id : ℕ) (w : V) → K w
      → ((j : ℕ) (u : V) → j ≢ id → get_elem? views j ≡ some u → K u)
      → (j : ℕ) (u : V) → get_elem? (set views id w) j ≡ some u → K u
  each_set K views id w mine others j u e =
      ⊎_elim (λ (t : (j ≡ id) × (w ≡ u)). subst K t.1 mine)
      (λ (t : (j ≢ id) × (get_elem? views j ≡ some u)). others j u t.0 t.1) (at_set views id j w u e)

  -- the slot stays as it is, where the changed view has the value no more and no less than before
  pub slot_stays : (s : St) (r : Rule s) (words' : List ℕ) (id : ℕ) (v w : V) → get_elem? s.views id ≡ some v
      → holds w.turn ≡ holds v.turn
      → Slot r.log (state words' s.homes (set s.views id w))
  slot_stays s r words' id v w at same = let t = total-set (λ (x : V). holds x.turn) s.views id v w at in
      ⊎_elim (λ home. inl (home.0, home.1, home.2, home.3, omega (arith, home.4, t, same)))
      (λ away. inr (away.0, omega (arith, away.1, t, same))) r.slot

  -- no wake-up is lost where the flags stay, and the changed view parks no more and wakes no less than before
  pub flags_stay : (s : St) (r : Rule s) (id : ℕ) (v w : V) → get_elem? s.views id ≡ some v
      → parks r.served w.turn ≤ parks r.served v.turn → wakes r.served v.turn ≤ wakes r.served w.turn
      → NoneSleepsOn r.served r.flags (set s.views id w)
  flags_stay s r id v w at fewer more = λ parked up.
      let waking = r.none_sleeps_on
      (omega (arith, parked, fewer, total-set (λ (x : V). parks r.served x.turn) s.views id v w at)) up in
      omega (arith, waking, more, total-set (λ (x : V). wakes r.served x.turn) s.views id v w at)

  pub moved : (s : St) (r : Rule s) (id : ℕ) (v w : V) (words' : List ℕ) (homes' : Homes) (log' added' : List (ℕ × E))
      (drawn' served' : ℕ) (flags' : List ℕ)
      → get_elem? s.views id ≡ some v
      → words' ≡ (drawn' % 2 ^ 64) ∷ (served' % 2 ^ 64) ∷ length log' ∷ flags'
      → AreFlags flags'
      → NoneSleepsOn served' flags' (set s.views id w)
      → drawn' + r.served + has_ticket v.turn ≡ r.drawn + served' + has_ticket w.turn
      → ((t : ℕ) → within served' drawn' t + has t v.turn ≡ within r.served r.drawn t + has t w.turn)
      → Slot log' (state words' homes' (set s.views id w))
      → log' ≡ built ++ added' → ((n : ℕ) → 0 < made_by (n ∷ []) added' → (1 ≤ n) × (n < r.next))
      → w.given ≡ v.given → numbers w ≡ numbers v
      → Fits o built log' served' r.next w
      → ((j : ℕ) (u : V) → j ≢ id → get_elem? s.views j ≡ some u → Fits o built log' served' r.next u)
      → Rule (state words' homes' (set s.views id w))
  moved s r id v w words' homes' log' added' drawn' served' flags' at words_are all_flags none_sleeps_on queue tickets
      slot begins numbered given numbers_are mine others = record {
        log = log';
        added = added';
        drawn = drawn';
        served = served';
        next = r.next;
        flags = flags';
        words_are = words_are;
        all_flags = all_flags;
        none_sleeps_on = none_sleeps_on;
        queue = omega (arith, queue, r.queue, total-set (λ (x : V). has_ticket x.turn) s.views id v w at);
        tickets = λ t. omega (arith, tickets t, r.tickets t, total-set (λ (x : V). has t x.turn) s.views id v w at);
        slot = slot;
        begins = begins;
        numbered = numbered;
        given = omega (arith, given, r.given, total-set (λ (x : V). x.given) s.views id v w at);
        once = λ n. omega (
          arith,
          ap (times n) numbers_are,
          r.once n,
          total-set
              (λ (x : V). times n (numbers x)) s.views id v w at,
        );
        many =
            omega (arith, ap length numbers_are, r.many, total-set (λ (x : V). length (numbers x)) s.views id v w at);
        few = r.few;
        each = each_set (Fits o built log' served' r.next) s.views id w mine others;
      }

  -- a view that fits, after a step that leaves the log and what is served
  pub fits_turned : (log : List (ℕ × E)) (served next : ℕ) (v : V) (turn : QueuePlace)
      → IsServed log served v.own.seen turn → has_ticket turn ≤ length v.own.numbers
      → Fits o built log served next v → Fits o built log served next (record v { turn = turn })
  fits_turned log served next v turn inside numbered f =
      record { based = f.based; own = f.own; told = f.told; inside = inside; numbered = numbered; counts = f.counts }

  -- a seat that has a ticket, and the tickets that are out
  pub in_line : (s : St) (r : Rule s) (id : ℕ) (v : V) (t : ℕ) → get_elem? s.views id ≡ some v → has t v.turn ≡ 1
      → (r.served ≤ t) × (t < r.drawn)
  in_line s r id v t at mine = within-is r.served r.drawn t
      (omega (arith, mine, r.tickets t, term_le (λ (x : V). has t x.turn) s.views id v at))

  pub others_none : (s : St) (r : Rule s) (id j : ℕ) (v u : V) (t : ℕ) → get_elem? s.views id ≡ some v
      → has t v.turn ≡ 1 → j ≢ id → get_elem? s.views j ≡ some u → has t u.turn ≡ 0
  others_none s r id j v u t at mine other there =
      omega (
        arith,
        mine,
        r.tickets t,
        within_le r.served r.drawn t,
        terms_le
            (λ (x : V). has t x.turn) s.views id j v u other at there,
      )

  -- there are no more tickets out than seats
  pub few_tickets : (s : St) (r : Rule s) → r.drawn ≤ r.served + seats
  few_tickets s r = let le : total (λ (x : V). has_ticket x.turn) s.views ≤ total
      (λ (x : V). length (numbers x)) s.views =
      total_le (λ (x : V). has_ticket x.turn) (λ (x : V). length (numbers x)) s.views
      (λ j u e. let f = r.each j u e in omega (arith, f.numbered, length-append u.own.numbers u.told.numbers)) in
      omega (arith, le, r.queue, r.many, r.few)

  -- a seat whose ticket is not served is not inside
  pub elsewhere : (log log' seen : List (ℕ × E)) (served served' : ℕ) (turn : QueuePlace) → has served turn ≡ 0
      → IsServed log served seen turn → IsServed log' served' seen turn
  elsewhere log log' seen served served' Out h f = tt
  elsewhere log log' seen served served' (Waiting t) h f = tt
  elsewhere log log' seen served served' (Flagged t) h f = tt
  elsewhere log log' seen served served' (Parked t) h f = tt
  elsewhere log log' seen served served' (Inside t) h f = absurd (omega (arith, h, if_same served t (sym f.0)))
  elsewhere log log' seen served served' (Holding t) h f = absurd (omega (arith, h, if_same served t (sym f.0)))
  elsewhere log log' seen served served' (Waking t) h f = tt
  elsewhere log log' seen served served' (Rousing t) h f = tt

  -- who has the value has the ticket that is served
  pub holder_served : (log seen : List (ℕ × E)) (served : ℕ) (turn : QueuePlace) → 0 < holds turn
      → IsServed log served seen turn → has served turn ≡ 1
  holder_served log seen served Out h f = absurd (omega arith)
  holder_served log seen served (Waiting t) h f = absurd (omega arith)
  holder_served log seen served (Flagged t) h f = absurd (omega arith)
  holder_served log seen served (Parked t) h f = absurd (omega arith)
  holder_served log seen served (Inside t) h f = absurd (omega arith)
  holder_served log seen served (Holding t) h f = if_same served t (sym f.0)
  holder_served log seen served (Waking t) h f = absurd (omega arith)
  holder_served log seen served (Rousing t) h f = absurd (omega arith)
