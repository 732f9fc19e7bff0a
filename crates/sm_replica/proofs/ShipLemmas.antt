-- The frames of an account, one after the other.
use Rattle.std.proofs.Common.{◌≡◌, ℕ, zero, suc, ◌+◌, ◌-◌, ◌<◌, ◌≤◌, min, List, [], ◌∷◌, ◌++◌, length, take, drop, get_or, Option, Some, None, IfSome, slice_get, sym, ap, subst, ◌∙◌, inl, inr, append_assoc, append-nil, arith, length-take, length-drop, get_or-drop}
use Rattle.std.proofs.lemmas.Bool.{cases_lt}
use Rattle.std.proofs.lemmas.List.{take_all, take_more}
use Rattle.std.proofs.lemmas.Option.{slice_get_within, get_or_from_slice_get}
use Rattle.sm_replication.specs.declared.frame.Frame.{Frame}
use Rattle.sm_replication.specs.declared.frame.Frame.TheVariants.{Rows}
use Rattle.sm_replication.specs.declared.frame.TheConstants.{FRAME_ENTRIES}
use Rattle.sm_replication.specs.Spelled.{AreSpelled}
use Rattle.sm_model.specs.declared.entry.Entry.{Entry}
use Rattle.sm_record.specs.declared.base.Base.{Base}
use Rattle.sm_record.specs.Snapshots.{HasSnapshot}
use Rattle.sm_record.specs.declared.edition.Edition.{Edition}
use Rattle.sm_record.specs.declared.edition.Edition.TheVariants.{Second}
use Rattle.sm_rotator.specs.declared.rotator.Rotator.{Ghosts as RotatorGhosts}
use Rattle.sm_account.specs.declared.account.Account.{Account}
use Rattle.sm_disk.specs.declared.disk.Disk.{Ghosts as DiskGhosts}
use Rattle.sm_store.specs.Held.{AreEntries, edition_of}
use Rattle.sm_base_check.specs.Bases.{IsSound}
use Rattle.sm_replica.specs.Shipping.{entries_at, next_frame, end_of, Ships}
use Rattle.sm_replica.proofs.PrefixLaws.{Next, rows_next, entries_next, next_is}
use Rattle.sm_replica.specs.Shipped.{entries_of, IsShippable, AreShippable}

-- ---- entries

pub spelled_entries : (entries : List Entry) → AreEntries Second entries → AreSpelled entries
spelled_entries [] all = tt
spelled_entries (e ∷ es) all = (all.0, spelled_entries es all.1)

pub spelled_front : (n : ℕ) (entries : List Entry) → AreSpelled entries → AreSpelled (take n entries)
spelled_front zero entries all = tt
spelled_front (suc n) [] all = tt
spelled_front (suc n) (e ∷ es) all = (all.0, spelled_front n es all.1)

pub spelled_behind : (n : ℕ) (entries : List Entry) → AreSpelled entries → AreSpelled (drop n entries)
spelled_behind zero entries all = all
spelled_behind (suc n) [] all = tt
spelled_behind (suc n) (e ∷ es) all = spelled_behind n es all.1

-- ---- frames

-- the frames up to here, and those from here on
pub record Shipped (base : Base) (entries : List Entry) (position : ℕ) (frames : List Frame) (at : ℕ) : Type 0 where
  pub ships : (rest : List Frame) → Ships base entries at rest → Ships base entries position (frames ++ rest)
  pub shippable : AreShippable frames

pub none_shipped : (base : Base) (entries : List Entry) (position : ℕ) → Shipped base entries position [] position
none_shipped base entries position = record { ships = λ rest s. s; shippable = tt }

pub rows_shippable : (position : ℕ) (base copy : Base) → copy ≡ base → HasSnapshot Second base → IsSound base
    → IsShippable (Rows position copy)
rows_shippable position base copy same spelled sound = record {
  parts = subst (HasSnapshot Second) (sym same) spelled;
  sound = subst IsSound (sym same) sound;
}

pub entries_shippable : (position : ℕ) (entries part : List Entry) (answer : Option Frame)
    → answer ≡ entries_at position entries → entries ≡ part → AreSpelled part → IfSome answer IsShippable
entries_shippable position entries part answer answer_is same spelled =
    subst (λ (o : Option Frame). IfSome o IsShippable) (sym (answer_is ∙ ap (entries_at position) same))
    (of_part part spelled)
  where
    of_part : (es : List Entry) → AreSpelled es → IfSome (entries_at position es) IsShippable
    of_part [] all = tt
    of_part (e ∷ es) all = record { parts = all; sound = tt }

shippable_push : (frames : List Frame) (f : Frame) → AreShippable frames → IsShippable f
    → AreShippable (frames ++ f ∷ [])
shippable_push [] f all one = (one, tt)
shippable_push (g ∷ gs) f all one = (all.0, shippable_push gs f all.1 one)

module _ (base : Base) (entries : List Entry) (position : ℕ) (frames : List Frame) (at : ℕ)
    (s : Shipped base entries position frames at) where
  one_more : (f : Frame) → next_frame base entries at ≡ Some f → IsShippable f
      → Shipped base entries position (frames ++ f ∷ []) (end_of f)
  one_more f next one = record {
    ships = λ rest ships. subst (λ (fs : List Frame). Ships base entries position fs)
        (sym (append_assoc frames (f ∷ []) rest)) (s.ships (f ∷ rest) (next, ships));
    shippable = shippable_push frames f s.shippable one;
  }

  pub shipped_more : (f : Frame) (more : List Frame) (place : ℕ) → Some f ≡ next_frame base entries at → IsShippable f
      → more ≡ frames ++ f ∷ [] → place ≡ end_of f → Shipped base entries position more place
  shipped_more f more place next one more_is place_is =
      subst (λ (fs : List Frame). Shipped base entries position fs place) (sym more_is)
      (subst (Shipped base entries position (frames ++ f ∷ [])) (sym place_is) (one_more f (sym next) one))

  pub shipped_all : (all : List Frame) → None ≡ next_frame base entries at → all ≡ frames
      → Ships base entries position all
  shipped_all all none same =
      subst (Ships base entries position) (append-nil frames ∙ sym same) (s.ships [] (sym none))

  pub shippable_all : (all : List Frame) → all ≡ frames → AreShippable all
  shippable_all all same = subst AreShippable (sym same) s.shippable

-- each frame brings it further, and never past the end
module _ (base : Base) (entries : List Entry) (at : ℕ) (f : Frame) (next : Some f ≡ next_frame base entries at) where
  ends_within : (at < end_of f) × (end_of f ≤ base.entries + length entries)
  ends_within = by (next_is base entries at f (sym next))
    where
      by : Next base entries at f → (at < end_of f) × (end_of f ≤ base.entries + length entries)
      by (rows_next lt e) =
          subst (λ (g : Frame). (at < end_of g) × (end_of g ≤ base.entries + length entries)) e
          (lt, omega arith)
      by (entries_next le part part_is some e) =
          subst (λ (g : Frame). (at < end_of g) × (end_of g ≤ base.entries + length entries)) e (
            omega (arith, some),
            omega (
              arith,
              ap length part_is,
              length-take FRAME_ENTRIES (drop (at - base.entries) entries),
              length-drop (at - base.entries) entries,
              le,
              some,
            ),
          )

  pub ends_further : at < end_of f
  ends_further = ends_within.0

  pub ends_in : end_of f ≤ base.entries + length entries
  ends_in = ends_within.1

-- ---- the entries of an account

-- all entries of an account have a spelling in the second format
module _ {D R : Type 0} {G : DiskGhosts D} {V : RotatorGhosts R} (account : Account D R G V) where
  pub account_spelled : AreSpelled (entries_of account)
  account_spelled =
      spelled_entries (entries_of account)
      (subst (λ (edition : Edition). AreEntries edition (entries_of account)) (ap edition_of account.kept.second)
      account.kept.holds.spelled.entries)

  pub taken_spelled : (place : ℕ) → AreSpelled (take FRAME_ENTRIES (drop place (entries_of account)))
  taken_spelled place =
      spelled_front FRAME_ENTRIES (drop place (entries_of account))
      (spelled_behind place (entries_of account) account_spelled)

-- ---- entries that are copied one after the other

some_no : (e : Entry) → Some e ≡ None → ⊥
some_no e none = cc

none_past : (es : List Entry) (i : ℕ) → slice_get es i ≡ None → length es ≤ i
none_past [] i none = omega arith
none_past (e ∷ es) zero none = absurd (some_no e none)
none_past (e ∷ es) (suc i) none = omega (arith, none_past es i none)

-- two fronts that have all entries are alike
whole_alike : (es : List Entry) (k n : ℕ) → length es ≤ k → k ≤ n → take k es ≡ take n es
whole_alike es k n all le = take_all k es all ∙ sym (take_all n es (omega (arith, all, le)))

module _ (entries : List Entry) (place k : ℕ) (copied : List Entry)
    (so_far : copied ≡ take k (drop place entries)) where
  pub entries_more : (entry : Entry) (more : List Entry) → Some entry ≡ slice_get entries (place + k)
      → more ≡ copied ++ entry ∷ [] → more ≡ take (k + 1) (drop place entries)
  entries_more entry more there more_is =
      let within : place + k < length entries = slice_get_within entries (place + k) entry (sym there) in
      let inside : k < length (drop place entries) = omega (arith, length-drop place entries, within) in
      let is : get_or (drop place entries) k entry ≡ entry
      = get_or-drop place entries k entry ∙ get_or_from_slice_get entries (place + k) entry entry (sym there) in
      more_is ∙ ap (λ (es : List Entry). es ++ entry ∷ []) so_far
      ∙ ap (λ (e : Entry). take k (drop place entries) ++ e ∷ []) (sym is)
      ∙ sym (take_more (drop place entries) k entry inside)

  pub entries_cut : None ≡ slice_get entries (place + k) → k ≤ FRAME_ENTRIES
      → copied ≡ take FRAME_ENTRIES (drop place entries)
  entries_cut none le =
      so_far ∙ whole_alike (drop place entries) k FRAME_ENTRIES
      (omega (arith, length-drop place entries, none_past entries (place + k) (sym none))) le

  pub entries_all : min (length entries - place) FRAME_ENTRIES ≤ k → k ≤ FRAME_ENTRIES
      → copied ≡ take FRAME_ENTRIES (drop place entries)
  entries_all enough le =
      elim (cases_lt k FRAME_ENTRIES) [
        | inl few ↦ so_far ∙ whole_alike (drop place entries) k FRAME_ENTRIES
            (omega (arith, length-drop place entries, enough, few)) le
        | inr many ↦
            let same : k ≡ FRAME_ENTRIES = omega (arith, many, le) in
            so_far ∙ ap (λ (n : ℕ). take n (drop place entries)) same
      ]
