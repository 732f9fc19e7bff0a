-- What clauses read of a gate, a pass, a note and a held value.
use Rattle.std.specs.Prelude.{◌≡◌, ℕ, List, length, drop, Option, Some}
use Rattle.atomic_table.specs.declared.shared.Seat.{Seat}
use Rattle.sm_lock.specs.declared.storied.Storied.{Ghosts}
use Rattle.sm_lock.specs.declared.view.View.{View}
use Rattle.sm_lock.specs.declared.pass.Pass.{Pass}
use Rattle.sm_lock.specs.declared.pass.Note.{Note}
use Rattle.sm_lock.specs.declared.pass.Held.{Held}
use Rattle.sm_lock.specs.declared.gate.Gate.{Gate}
use Rattle.std.specs.List.{Contains}
use Rattle.sm_lock.specs.Story.{entries_of}

module _ {T O E : Type 0} where
  -- the value that a gate was built with, and for how many seats
  abbrev pub built_with : Gate T O E → T
  built_with gate = gate.board.shared.key.built.value

  abbrev pub seats : Gate T O E → ℕ
  seats gate = gate.seats

  abbrev pub IsSeatOf : {B : Type 0} → (T → O) → (T → List (ℕ × E)) → Gate T O E → Seat (Option B) (View O E) → Type 0
  IsSeatOf origin story gate seat =
      (seat.table_id ≡ gate.board.shared.table_id) × (seat.me.0.origin ≡ Some (origin (built_with gate)))
      × (seat.me.0.built ≡ story (built_with gate))

module _ {T O E : Type 0} {g : Ghosts T O E} where
  -- the number of a pass, the list that its owner has seen, the list that its gate was built with, and the entries that
  -- it made since
  abbrev pub number : Pass T O E g → ℕ
  number pass = pass.number

  abbrev pub seen : Pass T O E g → List (ℕ × E)
  seen pass = pass.place.me.0.own.seen

  abbrev pub built : Pass T O E g → List (ℕ × E)
  built pass = pass.place.me.0.built

  abbrev pub mine : Pass T O E g → List E
  mine pass = entries_of (number pass) (drop (length (built pass)) (seen pass))

  -- the same of who holds the value, as it entered
  abbrev pub holder : Held T O E g → ℕ
  holder held = held.stay.number

  abbrev pub entered : Held T O E g → List (ℕ × E)
  entered held = held.stay.place.me.0.own.seen

  abbrev pub holder_made : Held T O E g → List E
  holder_made held = entries_of (holder held) (drop (length held.stay.place.me.0.built) (entered held))

  -- the list that a note has
  abbrev pub noted : Note T O E g → List (ℕ × E)
  noted note = note.place.me.0.own.seen

  -- the pass is of this gate, and so has its origin and the list that it was built with
  abbrev pub IsIn : Gate T O E → Pass T O E g → Type 0
  IsIn gate pass = IsSeatOf g.origin g.story gate pass.place

  abbrev pub IsNoteOf : Gate T O E → Note T O E g → Type 0
  IsNoteOf gate note = IsSeatOf g.origin g.story gate note.place

  abbrev pub IsOutOf : Gate T O E → Held T O E g → Type 0
  IsOutOf gate held = IsSeatOf g.origin g.story gate held.stay.place

  -- the pass of the entry's seat has seen it, after the list that the gate was built with
  abbrev pub StandsWithItsSeat : List (ℕ × E) → List (Pass T O E g) → ℕ × E → Type 0
  StandsWithItsSeat built passes entry =
      (pass : Pass T O E g) × Contains passes pass × (number pass ≡ entry.0)
      × Contains (drop (length built) (seen pass)) entry
