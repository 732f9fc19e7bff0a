-- All workers, with the passes of their places, and what they did in the end.
use Rattle.std.proofs.Common.{◌≡◌, ℕ, zero, suc, ◌+◌, ◌<◌, List, [], ◌∷◌, ◌++◌, All, length, map, drop, get_or, refl, sym, ap, ◌∙◌, subst, arith}
use Rattle.std.proofs.lemmas.List.{drop_all, get_or-map, length-map, take_all}
use Rattle.std.proofs.lemmas.List.FromFn.{get_or-range_with_len}
use Rattle.std.specs.List.{Contains, range_with_len}
use Rattle.sm_account.specs.States.{Base}
use Rattle.sm_lock.specs.Handles.{number, seen, IsIn}
use Rattle.sm_lock.specs.Story.{Grows, entries_of}
use Rattle.sm_lock.specs.declared.gate.Gate.{Gate}
use Rattle.sm_lock.specs.declared.pass.Pass.{Pass}
use Rattle.sm_lock.specs.declared.storied.Storied.{Ghosts}
use Rattle.sm_model.specs.declared.entry.Mark.{Mark}
use Rattle.sm_principal.specs.declared.people.People.{People}
use Rattle.sm_account.specs.SeatTraces.{History}
use Rattle.sm_workers.specs.declared.worker.WorkerBy.{WorkerBy}
use Rattle.sm_workers.specs.Closed.{Closed, Filled, IsOfSeat}
use Rattle.sm_workers.specs.Given.{IsGiven, IsTaken}
use Rattle.sm_workers.specs.Views.{Views}
use Rattle.sm_workers.specs.Workers.{AllWorked, HasNoPass, HasPass, IsFresh, IsReady, Works, WorksWithItsPass, marks_of}
use Rattle.sm_workers.proofs.WorkerLemmas.{worked_between, works_later, works_mine}

-- some item stands at a place within a list
pub item_at : {X : Type 0} (xs : List X) (k : ℕ) → k < length xs → X
item_at [] k lt = absurd (omega (arith, lt))
item_at (x ∷ xs) zero lt = x
item_at (x ∷ xs) (suc k) lt = item_at xs k (omega (arith, lt))

module _ {E C W R A O M : Type 0} {g : Ghosts A O M} (gate : Gate A O M) (passes : List (Pass A O M g))
    (old out : List (WorkerBy E C W R A O M g)) where
  -- all that were given passes are ready
  pub all_ready : length passes ≡ length old → length out ≡ length old → All (IsIn gate) passes → All IsFresh old
      → IsGiven passes old out → All (IsReady gate) out
  all_ready many many_out belong fresh given k worker lt =
      let high : k < length old = omega (arith, lt, many_out) in
      let low : k < length passes = omega (arith, high, many) in
      let pass = item_at passes k low in
      subst (λ w. IsReady gate w) (sym (given k pass worker high)) (record {
        pass = get_or passes k pass;
        has = refl;
        belongs = belong k pass low;
        failed = (fresh k worker high).failed;
      })

module _ {E C W R A O M : Type 0} {g : Ghosts A O M} (passes : List (Pass A O M g))
    (old new : List (WorkerBy E C W R A O M g)) where
  -- none has a pass that was taken
  pub none_left : length passes ≡ length old → length new ≡ length old → IsTaken passes old new → All HasNoPass new
  none_left many many_new taken k worker lt =
      let high : k < length old = omega (arith, lt, many_new) in
      let pass = item_at passes k (omega (arith, high, many)) in
      ap (λ (w : WorkerBy E C W R A O M g). w.pass) (taken k pass worker high).1

module _ {E K C W R : Type 0} (views : Views E K C W R) (people : People) {A O : Type 0} {g : Ghosts A O Mark}
    (base : Base) (gate : Gate A O Mark) where
  -- each worked with its pass, at its place
  abbrev pub EachWorks : List (WorkerBy E C W R A O Mark g) → List (WorkerBy E C W R A O Mark g) → Type 0
  EachWorks out back = (k : ℕ) (worker : WorkerBy E C W R A O Mark g) → k < length out
      → WorksWithItsPass views people base gate (get_or out k worker) (get_or back k worker)

  pub all_have : (out back : List (WorkerBy E C W R A O Mark g)) → length back ≡ length out → EachWorks out back
      → All HasPass back
  all_have out back many each k worker lt =
      let works = each k worker (omega (arith, lt, many)) in
      (works.after, works.has)

  pub all_worked : (passes given : List (Pass A O Mark g)) (old out back new : List (WorkerBy E C W R A O Mark g))
      → length out ≡ length old → length back ≡ length out → IsGiven passes old out → EachWorks out back
      → IsTaken given back new → AllWorked views people base gate passes given old new
  all_worked passes given old out back new many many_back gave each took k pass worker high =
      let there : k < length back = omega (arith, high, many, many_back) in
      let taken = took k pass worker there in
      worked_between views people base gate (get_or old k worker) (get_or out k worker) (get_or back k worker)
      (get_or new k worker) (get_or passes k pass) (get_or given k pass) (gave k pass worker high)
      (each k worker (omega (arith, high, many))) taken.0 taken.1

module _ {E K C W R : Type 0} (views : Views E K C W R) (people : People) {A O : Type 0} {g : Ghosts A O Mark}
    (base : Base) (gate : Gate A O Mark) (passes given : List (Pass A O Mark g))
    (old new : List (WorkerBy E C W R A O Mark g)) where
  -- each pass that came back is of the gate
  pub all_in : length given ≡ length old → AllWorked views people base gate passes given old new
      → All (IsIn gate) given
  all_in many worked k pass lt =
      let high : k < length old = omega (arith, lt, many) in
      (worked k pass (item_at old k high) high).gate_stays

-- the number of the pass at a place
number_at : {A O M : Type 0} {g : Ghosts A O M} (passes : List (Pass A O M g)) (seats k : ℕ) (pass : Pass A O M g)
    → map number passes ≡ range_with_len 1 seats → k < length passes → k < seats
    → number (get_or passes k pass) ≡ k + 1
number_at passes seats k pass numbers lt high =
    let at : get_or (range_with_len 1 seats) k 0 ≡ 1 + k = get_or-range_with_len 1 seats k 0 high in
    let here : number (get_or passes k pass) ≡ 1 + k =
    sym (get_or-map number passes k pass 0 lt) ∙ ap (λ (l : List ℕ). get_or l k 0) numbers ∙ at in
    omega (arith, here)

module _ {E K C W R : Type 0} (views : Views E K C W R) (people : People) {A O : Type 0} {g : Ghosts A O Mark}
    (base : Base) (built whole : History) where
  -- what a worker did from the list that was built in, where all marks of its seat are its own
  filled : (seat : ℕ) (old new : WorkerBy E C W R A O Mark g)
      → Works views people (record { base = base; seat = seat }) old new built whole
      → Filled views people base built whole seat old new
  filled seat old new works = record {
    works = works;
    own = works_mine views people (record { base = base; seat = seat }) built old new built whole works
        (take_all (length built) built (omega arith))
        ∙ ap (λ (l : History). entries_of seat l ++ marks_of views people works)
        (drop_all (length built) built (omega arith));
  }

  module _ (gate : Gate A O Mark) (passes given : List (Pass A O Mark g))
      (old new : List (WorkerBy E C W R A O Mark g)) (many : length passes ≡ length old)
      (many_given : length given ≡ length old) (numbers : map number passes ≡ range_with_len 1 (length old))
      (seens : All (λ p. seen p ≡ built) passes) (worked : AllWorked views people base gate passes given old new)
      (grows : All (λ p. Grows (number p ∷ []) (seen p) whole) given) where
    filled_at : (k : ℕ) (worker : WorkerBy E C W R A O Mark g) → k < length old
        → Filled views people base built whole (k + 1) (get_or old k worker) (get_or new k worker)
    filled_at k worker high =
        let low : k < length passes = omega (arith, high, many) in
        let pass = item_at passes k low in
        let before = get_or passes k pass in
        let after = get_or given k pass in
        let before_is : number before ≡ k + 1 = number_at passes (length old) k pass numbers low high in
        let did = worked k pass worker high in
        let more : Grows (number before ∷ []) (seen after) whole =
        subst (λ n. Grows (n ∷ []) (seen after) whole) did.number_stays (grows k pass (omega (arith, high, many_given)))
        in
        let ended : Works views people (record { base = base; seat = number before }) (get_or old k worker)
        (get_or new k worker) (seen before) whole =
        works_later views people (record { base = base; seat = number before }) (get_or old k worker)
        (get_or new k worker) (seen before) (seen after) whole did.works more in
        let begun : Works views people (record { base = base; seat = number before }) (get_or old k worker)
        (get_or new k worker) built whole =
        subst
        (λ h. Works views people (record { base = base; seat = number before }) (get_or old k worker)
        (get_or new k worker) h whole) (seens k pass low) ended in
        filled (k + 1) (get_or old k worker) (get_or new k worker)
        (subst
        (λ n. Works views people (record { base = base; seat = n }) (get_or old k worker) (get_or new k worker) built
        whole) before_is begun)

    -- each entry is of the seat of one of the passes
    of_seat : (entry : ℕ × Mark) → Contains (map number given) entry.0 → IsOfSeat (length old) entry
    of_seat entry (i, lt, is) =
        let size : length (map number given) ≡ length given = length-map given number in
        let low : i < length given = omega (arith, lt, size) in
        let high : i < length old = omega (arith, low, many_given) in
        let here : i < length passes = omega (arith, high, many) in
        let pass = item_at passes i here in
        let at : number (get_or given i pass) ≡ entry.0 = sym (get_or-map number given i pass entry.0 low) ∙ is in
        let same : number (get_or given i pass) ≡ number (get_or passes i pass) =
        (worked i pass (item_at old i high) high).number_stays in
        let first : number (get_or passes i pass) ≡ i + 1 = number_at passes (length old) i pass numbers here high in
        (omega (arith, at, same, first), omega (arith, at, same, first, high))

    pub closed_over : whole ≡ built ++ drop (length built) whole
        → All (λ entry. Contains (map number given) entry.0) (drop (length built) whole)
        → Closed views people base built whole old new
    closed_over begins among = record {
      begins = begins;
      each = filled_at;
      seats = λ j entry lt. of_seat (get_or (drop (length built) whole) j entry) (among j entry lt);
    }
