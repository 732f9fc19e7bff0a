-- Rows that are gathered one after the other.
use Rattle.std.proofs.Common.{◌≡◌, inl, inr, ℕ, zero, suc, ◌+◌, ◌-◌, ◌<◌, ◌≤◌, leb, eqb, Bool, true, false, not, ◌||◌, cond, List, [], ◌∷◌, ◌++◌, length, take, get_or, None, refl, sym, ap, subst, ◌∙◌, arith}
use Rattle.std.proofs.lemmas.Bool.{and_parts, false≢true}
use Rattle.std.proofs.lemmas.Bool.Decides.{nat_tests}
use Rattle.std.proofs.lemmas.List.{take_more, take_all}
use Rattle.sm_base.specs.Texts.{same_text}
use Rattle.sm_model.specs.declared.rows.SecretRow.{SecretRow}
use Rattle.sm_versions.specs.Serials.{rises}
use Rattle.sm_versions.specs.Texts.{is_among, once}
use Rattle.sm_versions.proofs.TextLemmas.{same_text_tells, same_text_itself}
use Rattle.sm_table.specs.declared.indexed.Indexed.{Indexed}
use Rattle.sm_table.specs.Changes.{row_with}
use Rattle.sm_table.specs.Found.{row_named}
use Rattle.sm_table.specs.Indexed.{HasRoom, IsIndexed}
use Rattle.sm_table.specs.Kept.{row_names, row_serials, IsRising}

-- ---- the row at a place

-- its serial is not below the others' least
at_least : (rows : List SecretRow) (k low next : ℕ) (row : SecretRow) → rises low (row_serials rows) next ≡ true
    → k < length rows → row ≡ get_or rows k row → low ≤ row.serial
at_least [] k low next row h lt is = absurd (omega (arith, lt))
at_least (r ∷ rs) zero low next row h lt is =
    let parts = and_parts (leb low r.serial) (rises (r.serial + 1) (row_serials rs) next) h in
    let same : row.serial ≡ r.serial = ap (λ (q : SecretRow). q.serial) is in
    grind (arith, nat_tests, parts.0, same)
at_least (r ∷ rs) (suc k) low next row h lt is =
    let parts = and_parts (leb low r.serial) (rises (r.serial + 1) (row_serials rs) next) h in
    grind (arith, nat_tests, parts.0, at_least rs k (r.serial + 1) next row parts.1 (omega (arith, lt)) is)

-- none before it has its serial
serial_new : (rows : List SecretRow) (k low next : ℕ) (row : SecretRow) → rises low (row_serials rows) next ≡ true
    → k < length rows → row ≡ get_or rows k row → row_with (take k rows) row.serial ≡ None
serial_new [] k low next row h lt is = absurd (omega (arith, lt))
serial_new (r ∷ rs) zero low next row h lt is = refl
serial_new (r ∷ rs) (suc k) low next row h lt is =
    let parts = and_parts (leb low r.serial) (rises (r.serial + 1) (row_serials rs) next) h in
    let after = at_least rs k (r.serial + 1) next row parts.1 (omega (arith, lt)) is in
    let other : eqb r.serial row.serial ≡ false = grind (arith, nat_tests, after) in
    rw other (serial_new rs k (r.serial + 1) next row parts.1 (omega (arith, lt)) is)

-- and none before it its name
lacks_is : (b : Bool) → not b ≡ true → b ≡ false
lacks_is true h = absurd (false≢true h)
lacks_is false h = refl

differ : (a b : List ℕ) → same_text a b ≡ false → same_text b a ≡ false
differ a b h = elim (same_text_tells b a) [
  | inl same ↦ absurd (false≢true (sym h ∙ subst (λ (t : List ℕ). same_text t b ≡ true) same.1 (same_text_itself b)))
  | inr other ↦ other.0
]

lacks_at : (rows : List SecretRow) (k : ℕ) (row : SecretRow) (t : List ℕ) → is_among (row_names rows) t ≡ false
    → k < length rows → row ≡ get_or rows k row → same_text row.name t ≡ false
lacks_at [] k row t h lt is = absurd (omega (arith, lt))
lacks_at (r ∷ rs) zero row t h lt is = rw (ap (λ (q : SecretRow). q.name) is) (or_first (same_text r.name t) _ h)
  where
    or_first : (a b : Bool) → (a || b) ≡ false → a ≡ false
    or_first true b h = h
    or_first false b h = refl
lacks_at (r ∷ rs) (suc k) row t h lt is =
    lacks_at rs k row t (or_second (same_text r.name t) _ h) (omega (arith, lt)) is
  where
    or_second : (a b : Bool) → (a || b) ≡ false → b ≡ false
    or_second true b h = absurd (false≢true (sym h))
    or_second false b h = h

name_new : (rows : List SecretRow) (k : ℕ) (row : SecretRow) → once (row_names rows) ≡ true → k < length rows
    → row ≡ get_or rows k row → row_named (take k rows) row.name ≡ None
name_new [] k row h lt is = absurd (omega (arith, lt))
name_new (r ∷ rs) zero row h lt is = refl
name_new (r ∷ rs) (suc k) row h lt is =
    let parts = and_parts (not (is_among (row_names rs) r.name)) (once (row_names rs)) h in
    let lacks = lacks_is (is_among (row_names rs) r.name) parts.0 in
    let other : same_text r.name row.name ≡ false =
    differ row.name r.name (lacks_at rs k row r.name lacks (omega (arith, lt)) is) in
    rw other (name_new rs k row parts.1 (omega (arith, lt)) is)

-- ---- the rows before a place

rises_below : (low : ℕ) (ns : List ℕ) (next : ℕ) → rises low ns next ≡ true → low ≤ next
rises_below low [] next h = grind (arith, nat_tests)
rises_below low (n ∷ ns) next h =
    let parts = and_parts (leb low n) (rises (n + 1) ns next) h in
    grind (arith, nat_tests, parts.0, rises_below (n + 1) ns next parts.1)

front_rises : (rows : List SecretRow) (k low next : ℕ) → rises low (row_serials rows) next ≡ true
    → rises low (row_serials (take k rows)) next ≡ true
front_rises [] zero low next h = h
front_rises [] (suc k) low next h = h
front_rises (r ∷ rs) zero low next h =
    let below = rises_below low (row_serials (r ∷ rs)) next h in grind (arith, nat_tests, below)
front_rises (r ∷ rs) (suc k) low next h =
    let parts = and_parts (leb low r.serial) (rises (r.serial + 1) (row_serials rs) next) h in
    rw parts.0 (front_rises rs k (r.serial + 1) next parts.1)

-- ---- the rows of a loop

-- so many of the rows are gathered, and there is room for the others, and for so many more
pub record Gathered (rows : List SecretRow) (more k : ℕ) (indexed : Indexed) : Type 0 where
  pub kept : IsIndexed indexed
  pub list : indexed.rows.list ≡ take k rows
  pub left_is : indexed.left ≡ more
  pub room : HasRoom indexed (length rows - k + more)

room_as : (indexed : Indexed) (count other : ℕ) → other ≤ count → HasRoom indexed count → HasRoom indexed other
room_as indexed count other le room = record {
  rows = omega (arith, le, room.rows);
  names = omega (arith, le, room.names);
  signs = record {
    jobs = omega (arith, le, room.signs.jobs);
    dates = omega (arith, le, room.signs.dates);
    deletions = omega (arith, le, room.signs.deletions);
  };
}

pub none_gathered : (rows : List SecretRow) (more : ℕ) (indexed : Indexed) → IsIndexed indexed
    → indexed.rows.list ≡ [] → indexed.left ≡ more → HasRoom indexed (length rows + more)
    → Gathered rows more 0 indexed
none_gathered rows more indexed kept none left room = record {
  kept = kept;
  list = none;
  left_is = left;
  room = room_as indexed (length rows + more) (length rows - 0 + more) (omega arith) room;
}

pub all_gathered : (rows : List SecretRow) (more k : ℕ) (indexed : Indexed) → length rows ≤ k
    → Gathered rows more k indexed → (indexed.rows.list ≡ rows) × HasRoom indexed more
all_gathered rows more k indexed le here = (
  here.list ∙ take_all k rows le,
  room_as indexed (length rows - k + more) more (omega arith) here.room,
)

module _ (rows : List SecretRow) (more k : ℕ) (row : SecretRow) (lt : k < length rows)
    (is : row ≡ get_or rows k row) (indexed : Indexed) (here : Gathered rows more k indexed) where
  one_more : take (k + 1) rows ≡ take k rows ++ row ∷ []
  one_more = take_more rows k row lt ∙ ap (λ (q : SecretRow). take k rows ++ q ∷ []) (sym is)

  pub new_serial : IsRising rows → row_with indexed.rows.list row.serial ≡ None
  new_serial rising = rw here.list (serial_new rows k 0 rising.0 row rising.1 lt is)

  pub new_name : once (row_names rows) ≡ true → row_named indexed.rows.list row.name ≡ None
  new_name names = rw here.list (name_new rows k row names lt is)

  pub still_rising : IsRising rows → IsRising (indexed.rows.list ++ row ∷ [])
  still_rising rising = rw here.list (subst IsRising one_more (rising.0, front_rises rows (k + 1) 0 rising.0 rising.1))

  pub room_for_one : HasRoom indexed 1
  room_for_one = room_as indexed (length rows - k + more) 1 (omega (arith, lt)) here.room

  pub gathered_more : (next : Indexed) → IsIndexed next → next.rows.list ≡ indexed.rows.list ++ row ∷ []
      → next.left ≡ indexed.left
      → ((count : ℕ) → HasRoom indexed (suc count) → HasRoom next count) → Gathered rows more (k + 1) next
  gathered_more next kept list left room = record {
    kept = kept;
    list = list ∙ ap (λ (rs : List SecretRow). rs ++ row ∷ []) here.list ∙ sym one_more;
    left_is = left ∙ here.left_is;
    room = room (length rows - (k + 1) + more)
        (room_as indexed (length rows - k + more) (suc (length rows - (k + 1) + more)) (omega (arith, lt)) here.room);
  }
