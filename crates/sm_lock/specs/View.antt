-- What a seat knows, and what it knows after each step.
use Rattle.std.specs.Prelude.{ℕ, ◌+◌, List, [], ◌∷◌, ◌++◌, Some, None, if◌then◌else◌, ◌==◌}
use Rattle.sm_lock.specs.declared.view.QueuePlace.{QueuePlace}
use Rattle.sm_lock.specs.declared.view.QueuePlace.TheVariants.{Out, Waiting, Flagged, Parked, Inside, Holding, Waking, Rousing}
use Rattle.sm_lock.specs.declared.view.Known.{Known}
use Rattle.sm_lock.specs.declared.view.View.{View}
use Rattle.sm_lock.specs.Story.{longer}

-- 1 where it stands in the queue, and else 0
abbrev pub has_ticket : QueuePlace → ℕ
has_ticket Out = 0
has_ticket (Waiting t) = 1
has_ticket (Flagged t) = 1
has_ticket (Parked t) = 1
has_ticket (Inside t) = 1
has_ticket (Holding t) = 1
has_ticket (Waking t) = 0
has_ticket (Rousing t) = 0

-- 1 where its ticket is n, and else 0
abbrev pub has : ℕ → QueuePlace → ℕ
has n Out = 0
has n (Waiting t) = if n == t then 1 else 0
has n (Flagged t) = if n == t then 1 else 0
has n (Parked t) = if n == t then 1 else 0
has n (Inside t) = if n == t then 1 else 0
has n (Holding t) = if n == t then 1 else 0
has n (Waking t) = 0
has n (Rousing t) = 0

-- 1 where the value is with it, and else 0
abbrev pub holds : QueuePlace → ℕ
holds Out = 0
holds (Waiting t) = 0
holds (Flagged t) = 0
holds (Parked t) = 0
holds (Inside t) = 0
holds (Holding t) = 1
holds (Waking t) = 0
holds (Rousing t) = 0

-- 1 where it may be parked with ticket n, and else 0
abbrev pub parks : ℕ → QueuePlace → ℕ
parks n Out = 0
parks n (Waiting t) = 0
parks n (Flagged t) = 0
parks n (Parked t) = if n == t then 1 else 0
parks n (Inside t) = 0
parks n (Holding t) = 0
parks n (Waking t) = 0
parks n (Rousing t) = 0

-- 1 where it has yet to see to the flag of ticket n, and else 0
abbrev pub wakes : ℕ → QueuePlace → ℕ
wakes n Out = 0
wakes n (Waiting t) = 0
wakes n (Flagged t) = 0
wakes n (Parked t) = 0
wakes n (Inside t) = 0
wakes n (Holding t) = 0
wakes n (Waking t) = if n == t then 1 else 0
wakes n (Rousing t) = 0

-- its ticket, or the one that it served, and 0 where there is none
abbrev pub ticket : QueuePlace → ℕ
ticket Out = 0
ticket (Waiting t) = t
ticket (Flagged t) = t
ticket (Parked t) = t
ticket (Inside t) = t
ticket (Holding t) = t
ticket (Waking t) = t
ticket (Rousing t) = t

module _ {E : Type 0} where
  -- a list that was seen, with the numbers whose entries are all in it
  abbrev pub known : List (ℕ × E) → List ℕ → Known E
  known seen numbers = record { seen = seen; numbers = numbers }

  abbrev pub nothing : Known E
  nothing = known [] []

module _ {O E : Type 0} where
  abbrev pub numbers : View O E → List ℕ
  numbers v = v.own.numbers ++ v.told.numbers

  -- the builder's, which gives this number next
  abbrev pub builders : O → List (ℕ × E) → ℕ → View O E
  builders origin built next = record {
    turn = Out;
    origin = Some origin;
    built = built;
    own = nothing;
    told =
        nothing;
    given = next;
  }

  -- the builder's, before it gave any number
  abbrev pub first_view : O → List (ℕ × E) → View O E
  first_view origin built = builders origin built 1

  abbrev pub spent : View O E
  spent = record { turn = Out; origin = None; built = []; own = nothing; told = nothing; given = 0 }

  abbrev pub turned : QueuePlace → View O E → View O E
  turned turn v = record v { turn = turn }

  abbrev pub saw : List (ℕ × E) → View O E → View O E
  saw seen v = record v { own = known seen v.own.numbers }

  -- the builder's, once it gave its next number
  abbrev pub counted_up : View O E → View O E
  counted_up v = record v { given = v.given + 1 }

  -- the view of the seat that is given the builder's next number
  abbrev pub newcomer : View O E → View O E
  newcomer v = record {
    turn = Out;
    origin = v.origin;
    built = v.built;
    own = known v.built (v.given ∷ []);
    told =
        nothing;
    given = 0;
  }

  -- the view of a note, which has a copy of the list and no number
  abbrev pub noted : View O E → View O E
  noted v = record {
    turn = Out;
    origin = v.origin;
    built = v.built;
    own = known v.own.seen [];
    told = nothing;
    given =
        0;
  }

  -- what the other knew, put beside what it knows
  abbrev pub beside : View O E → View O E → View O E
  beside v w = record v { told = w.own }

  -- what it was told, taken in
  abbrev pub merged : View O E → View O E
  merged v = record v { own = known (longer v.own.seen v.told.seen) (numbers v); told = nothing }
