-- What is said of a base and entries on a disk has one proof at most.
use Rattle.std.proofs.Common.{◌≡◌, ℕ, true, List, [], ◌∷◌, length, Option, None, Some, ap, arith, length-append}
use mathlib.Core.Bool.{Bool-set}
use mathlib.Core.HLevel.{Unit-prop, ×_prop, Π_prop}
use native.Mathlib.Nat.{ℕ_set}
use Rattle.std.specs.Option.{option_map}
use Rattle.sm_disk.specs.declared.disk.Disk.{Ghosts}
use Rattle.sm_journal.proofs.OneProof.{recovers_prop, stands_prop}
use Rattle.sm_journal.specs.Roots.{named}
use Rattle.sm_journal.specs.declared.format.Format.{Format}
use Rattle.sm_journal.specs.declared.root.TheConstants.{ROOT}
use Rattle.sm_model.specs.declared.entry.Entry.{Entry}
use Rattle.sm_record.specs.Snapshots.{has_snapshot}
use Rattle.sm_record.specs.Spelling.{spelling, has_spelling}
use Rattle.sm_record.specs.declared.base.Base.{Base}
use Rattle.sm_record.specs.declared.edition.Edition.{Edition}
use Rattle.sm_store.proofs.HeldLaws.{one_held}
use Rattle.sm_store.proofs.OneProof.{either_side}
use Rattle.sm_store.specs.Files.{HoldsAs, HoldsEither}
use Rattle.sm_store.specs.Stores.{bodies_edition, Holds}
use Rattle.sm_store.specs.Held.{edition_of, Held, with_entry, bodies_in, IsSnapshot, AreEntries, IsEntry, IsSpelledIn}
use Rattle.sm_store.specs.declared.store.Store.{Store}

base_prop : (edition : Edition) (base : Option Base) → IsProp (IsSnapshot edition base)
base_prop edition None = Unit-prop
base_prop edition (Some base) = Bool-set (has_snapshot edition base) true

entries_prop : (edition : Edition) (list : List Entry) → IsProp (AreEntries edition list)
entries_prop edition [] = Unit-prop
entries_prop edition (e ∷ list) = ×_prop (Bool-set (has_spelling edition e) true) (entries_prop edition list)

last_prop : (edition : Edition) (failed : Option Entry) → IsProp (IsEntry edition failed)
last_prop edition None = Unit-prop
last_prop edition (Some e) = Bool-set (has_spelling edition e) true

spelled_prop : (edition : Edition) (h : Held) → IsProp (IsSpelledIn edition h)
spelled_prop edition h a b = λ i. record {
  base = base_prop edition h.base a.base b.base i;
  entries = entries_prop edition h.entries a.entries b.entries i;
}

as_prop : (f : Format) (h : Held) (bytes : List ℕ) → IsProp (HoldsAs f h bytes)
as_prop f h bytes = ×_prop (recovers_prop bytes f (bodies_in (edition_of f) h)) (spelled_prop (edition_of f) h)

-- a thing isn't the one with an entry more
not_more : (h : Held) (e : Entry) → h ≡ with_entry h e → ⊥
not_more h e same =
    absurd (omega (arith, ap (λ (g : Held). length g.entries) same, length-append h.entries (e ∷ [])))

pub either_held_prop : (f : Format) (h : Held) (failed : Option Entry) (bytes : List ℕ)
    → IsProp (HoldsEither f h failed bytes)
either_held_prop f h None bytes = as_prop f h bytes
either_held_prop f h (Some e) bytes = either_side (as_prop f h bytes) (as_prop f (with_entry h e) bytes)
    (λ without with_it. not_more h e (one_held bytes h (with_entry h e) (f, without.0, without.1)
    (f, with_it.0, with_it.1)))

pub base_holds_prop : {D : Type 0} {G : Ghosts D} (store : Store D G) (h : Held) (failed : Option Entry)
    → IsProp (Holds store h failed)
base_holds_prop store h failed a b = λ i. record {
  stands = stands_prop store.journal (bodies_in (bodies_edition store) h)
      (option_map (spelling (bodies_edition store)) failed) a.stands b.stands i;
  spelled = spelled_prop (bodies_edition store) h a.spelled b.spelled i;
  last = last_prop (bodies_edition store) failed a.last b.last i;
  named = Π_prop (λ c. Π_prop (λ was. ℕ_set (named (c ROOT)) store.file)) a.named b.named i;
}
