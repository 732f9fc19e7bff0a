-- The connections of one worker, each at its place, and what each call does to them.
use Rattle.std.specs.Prelude.{◌≡◌, ℕ, ◌+◌, ◌<◌, Option, Some, None, slice_set}
use Rattle.slab.specs.Slab.{Slab, get, ContainsKey, slab_len, with_value, Updates}
use Rattle.sm_visits.specs.declared.connection_table.HandedOut.{HandedOut}

-- At each place nothing; or a connection that is handed out, as `Some None`; or one that is here.
abbrev pub Table : Type 0 → Type 0
Table C = Slab (Option C)

module _ {C : Type 0} where
  abbrev pub if_here : Option (Option C) → Option C
  if_here None = None
  if_here (Some now) = now

  -- the connection at a place, where it is not handed out
  abbrev pub here : Table C → ℕ → Option C
  here t place = if_here (get t place)

  -- all connections have places below this
  abbrev pub HasPlacesBelow : Table C → ℕ → Type 0
  HasPlacesBelow t most = (place : ℕ) → ContainsKey t place → place < most

  -- a connection came, and has a place that was free; all others are as they were
  pub record Came (old : Table C) (place : ℕ) (connection : C) (new : Table C) : Type 0 where
    pub free : get old place ≡ None
    pub updates : Updates old new place (Some (Some connection))
    pub count : slab_len new ≡ slab_len old + 1

  -- the connection at a place is handed out
  abbrev pub with_handed_out : Table C → ℕ → Table C
  with_handed_out t place = with_value t place None

  -- it was here and is handed out, as it was; or none was here, and nothing changes
  abbrev pub HandsOut : Table C → ℕ → Option (HandedOut C) → Table C → Type 0
  HandsOut old place (Some handed) new = (handed.place ≡ place) × (here old place ≡ Some handed.connection)
      × (new ≡ with_handed_out old place)
  HandsOut old place None new = (here old place ≡ None) × (new ≡ old)

  -- what was at the place decides: only where a connection is handed out, one comes back ..
  abbrev pub taken_back_at : Option (Option C) → Table C → ℕ → C → Table C
  taken_back_at None t place connection = t
  taken_back_at (Some None) t place connection = with_value t place (Some connection)
  taken_back_at (Some (Some other)) t place connection = t

  abbrev pub with_taken_back : Table C → ℕ → C → Table C
  with_taken_back t place connection = taken_back_at (get t place) t place connection

  -- .. or is removed; its place is the next that is given
  abbrev pub removed_at : Option (Option C) → Table C → ℕ → Table C
  removed_at None t place = t
  removed_at (Some None) t place = record t { slots = slice_set t.slots place None; vacant_key = place }
  removed_at (Some (Some other)) t place = t

  abbrev pub with_removed : Table C → ℕ → Table C
  with_removed t place = removed_at (get t place) t place
