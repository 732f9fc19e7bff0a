-- How a file is filled, body by body.
use Rattle.std.proofs.Common.{◌≡◌, ℕ, ◌+◌, ◌<◌, ◌≤◌, false, List, [], ◌∷◌, ◌++◌, length, flat_map, take, drop, get_or, Result, Ok, Err, refl, sym, ap, subst, ◌∙◌, append_assoc, append-nil, arith}
use Rattle.std.proofs.lemmas.List.{take_more, take_all}
use Rattle.std.proofs.lemmas.List.Concat.{flat_map-append}
use Rattle.std.proofs.Common.{take-append-drop, Bool, IsTrue, Some, slice_get}
use Rattle.std.specs.List.{list_all}
use Rattle.std.proofs.lemmas.Option.{slice_get_within, get_or_from_slice_get}
use Rattle.sm_record.proofs.ReadingLemmas.{item_fits}
use Rattle.sm_base.proofs.FaultCounts.{rose_within}
use Rattle.sm_base.specs.Faults.{Rose}
use Rattle.sm_disk.specs.Sight.{Image, Sight}
use Rattle.sm_journal.proofs.Settings.{starts}
use Rattle.sm_disk.specs.OneFile.{Anyhow, Leaves}
use Rattle.sm_disk.specs.declared.disk.Disk.{Ghosts}
use Rattle.sm_disk.proofs.Runs.{joined}
use Rattle.sm_journal.specs.Freshes.{disk_of, file_of, Makes}
use Rattle.sm_journal.specs.Records.{size, AreWithin}
use Rattle.sm_journal.specs.declared.fresh.Fresh.{Fresh}
use Rattle.sm_store.specs.Filling.{MayBeAdded, HasAdded, GoesOn, Fills}
use Rattle.sm_store.specs.declared.filling.FillRefused.{FillRefused}
use Rattle.sm_store.specs.declared.filling.FillRefused.TheVariants.{Failed, Memory}

pub size-append : (xs ys : List (List ℕ)) → size (xs ++ ys) ≡ size xs + size ys
size-append [] ys = omega arith
size-append (x ∷ xs) ys = omega (arith, size-append xs ys)

within_front : (xs ys : List (List ℕ)) → AreWithin (xs ++ ys) → AreWithin xs
within_front [] ys all = tt
within_front (x ∷ xs) ys all = (all.0, within_front xs ys all.1)

within_back : (xs ys : List (List ℕ)) → AreWithin (xs ++ ys) → AreWithin ys
within_back [] ys all = all
within_back (x ∷ xs) ys all = within_back xs ys all.1

-- a run after one of which nothing is said
pub run_then : (file same : ℕ) (P Q : List ℕ → List ℕ → Type 0) (old mid now : Sight) → same ≡ file
    → Leaves file Anyhow Anyhow old mid → Leaves same P Q mid now → Leaves file Anyhow Anyhow old now
run_then file same P Q old mid now is first second =
    joined file Anyhow Anyhow P Q old mid now first
    (subst (λ f. Leaves f P Q mid now) is second) (λ x y z a b. tt) Anyhow (λ x y z a b. tt)

-- the next of a slice
pub next_of : {A : Type 0} (xs : List A) (i : ℕ) (x : A) → i < length xs → x ≡ get_or xs i x
    → take (i + 1) xs ≡ take i xs ++ x ∷ []
next_of xs i x lt is = take_more xs i x lt ∙ ap (λ y. take i xs ++ y ∷ []) (sym is)

module _ {A : Type 0} (g : A → List (List ℕ)) (xs : List A) (i : ℕ) (x : A)
    (next : take (i + 1) xs ≡ take i xs ++ x ∷ []) where
  next_part : flat_map g (take (i + 1) xs) ≡ flat_map g (take i xs) ++ g x
  next_part =
      ap (flat_map g) next
      ∙ flat_map-append g (take i xs) (x ∷ [])
      ∙ ap (λ (t : List (List ℕ)). flat_map g (take i xs) ++ t) (append-nil (g x))

  whole_part : flat_map g xs ≡ flat_map g (take i xs) ++ (g x ++ flat_map g (drop (i + 1) xs))
  whole_part =
      ap (flat_map g) (sym (take-append-drop (i + 1) xs))
      ∙ flat_map-append g (take (i + 1) xs) (drop (i + 1) xs)
      ∙ ap (λ (t : List (List ℕ)). t ++ flat_map g (drop (i + 1) xs)) next_part
      ∙ append_assoc (flat_map g (take i xs)) (g x) (flat_map g (drop (i + 1) xs))

module _ {D : Type 0} {G : Ghosts D} where
  -- nothing was added yet
  pub none_added : (a : Fresh D G) → a.failed ≡ false → HasAdded [] a a
  none_added a sure = record {
    sure = sure;
    length = omega arith;
    makes = λ before makes. subst (Makes a) (sym (append-nil before)) makes;
    no_fault = refl;
  }

  pub added_more : (xs ys : List (List ℕ)) (a b c : Fresh D G) → HasAdded xs a b → HasAdded ys b c
      → HasAdded (xs ++ ys) a c
  added_more xs ys a b c first second = record {
    sure = second.sure;
    length = omega (arith, first.length, second.length, size-append xs ys);
    makes = λ before makes. subst (Makes c) (append_assoc before xs ys)
        (second.makes (before ++ xs) (first.makes before makes));
    no_fault = second.no_fault ∙ first.no_fault;
  }

  pub room_front : (xs ys : List (List ℕ)) (a : Fresh D G) → MayBeAdded (xs ++ ys) a → MayBeAdded xs a
  room_front xs ys a room = record {
    sure = room.sure;
    within = within_front xs ys room.within;
    room = omega (arith, room.room, size-append xs ys);
  }

  pub room_behind : (xs ys : List (List ℕ)) (a b : Fresh D G) → MayBeAdded (xs ++ ys) a → HasAdded xs a b
      → MayBeAdded ys b
  room_behind xs ys a b room added = record {
    sure = added.sure;
    within = within_back xs ys room.within;
    room = omega (arith, room.room, size-append xs ys, added.length);
  }

  pub went_on : (a b c : Fresh D G) → GoesOn a b → GoesOn b c → GoesOn a c
  went_on a b c first second = record {
    same = record {
      file = second.same.file ∙ first.same.file;
      limit = second.same.limit ∙ first.same.limit;
    };
    run = run_then (file_of a) (file_of b) Anyhow Anyhow (G.sight (disk_of a)) (G.sight (disk_of b))
        (G.sight (disk_of c))
        first.same.file first.run second.run;
    later = omega (arith, first.later, second.later);
  }

  -- a fault since a later moment is one since an earlier one
  pub rose_on : (a b c : Fresh D G) → GoesOn a b → Rose (G.faults (disk_of b)) (G.faults (disk_of c))
      → Rose (G.faults (disk_of a)) (G.faults (disk_of c))
  rose_on a b c first rose = rose_within _ _ _ _ first.later rose (omega arith)

  -- what a step after some bodies says of all of them
  pub fills_on : (xs ys : List (List ℕ)) (a b c : Fresh D G) (result : Result (Unit {0}) FillRefused) → HasAdded xs a b
      → GoesOn a b → Fills ys b c result → Fills (xs ++ ys) a c result
  fills_on xs ys a b c (Ok x) first goes then_ = added_more xs ys a b c first then_
  fills_on xs ys a b c (Err Failed) first goes then_ = rose_on a b c goes then_
  fills_on xs ys a b c (Err Memory) first goes then_ = then_ ∙ first.no_fault

  -- ---- the bodies of many things, one thing after the other

  module _ {A : Type 0} (g : A → List (List ℕ)) (xs : List A) (i : ℕ) (x : A)
      (next : take (i + 1) xs ≡ take i xs ++ x ∷ []) where
    pub room_here : (a b : Fresh D G) → MayBeAdded (flat_map g xs) a → HasAdded (flat_map g (take i xs)) a b
        → MayBeAdded (g x) b
    room_here a b room added =
        room_front (g x) (flat_map g (drop (i + 1) xs)) b
        (room_behind (flat_map g (take i xs)) (g x ++ flat_map g (drop (i + 1) xs)) a b
        (subst (λ (bodies : List (List ℕ)). MayBeAdded bodies a) (whole_part g xs i x next) room) added)

    pub added_here : (a b c : Fresh D G) → HasAdded (flat_map g (take i xs)) a b → HasAdded (g x) b c
        → HasAdded (flat_map g (take (i + 1) xs)) a c
    added_here a b c first second =
        subst (λ (bodies : List (List ℕ)). HasAdded bodies a c) (sym (next_part g xs i x next))
        (added_more (flat_map g (take i xs)) (g x) a b c first second)

  pub added_all : {A : Type 0} (g : A → List (List ℕ)) (xs : List A) (i : ℕ) → length xs ≤ i → (a b : Fresh D G)
      → HasAdded (flat_map g (take i xs)) a b → HasAdded (flat_map g xs) a b
  added_all g xs i le a b added =
      subst (λ l. HasAdded (flat_map g l) a b) (take_all i xs le) added

-- nothing was done yet
pub rests : {D : Type 0} {G : Ghosts D} (a : Fresh D G)
    → ((c : Image) → (G.sight (disk_of a)).left_since (G.sight (disk_of a)).moment c → (G.sight (disk_of a)).images c)
    → GoesOn a a
rests {D} {G} a only_now = record {
  same = record { file = refl; limit = refl };
  run = (starts (file_of a) (G.sight (disk_of a)) Anyhow only_now (λ image was. tt)).leaves;
  later = omega arith;
}

-- what all pass, the one at a place passes
pub passes_at : {A : Type 0} (test : A → Bool) (xs : List A) (i : ℕ) (x : A) → slice_get xs i ≡ Some x
    → IsTrue (list_all test xs) → IsTrue (test x)
passes_at test xs i x e all =
    subst (λ y. IsTrue (test y)) (get_or_from_slice_get xs i x x e)
    (item_fits test xs i x (slice_get_within xs i x e) all)

pub passes_next : {A : Type 0} (test : A → Bool) (xs : List A) (i : ℕ) (x : A) → i < length xs → x ≡ get_or xs i x
    → IsTrue (list_all test xs) → IsTrue (test x)
passes_next test xs i x lt is all = subst (λ y. IsTrue (test y)) (sym is) (item_fits test xs i x lt all)
