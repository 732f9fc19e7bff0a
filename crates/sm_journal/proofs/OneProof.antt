-- What is said of a file has one proof at most.
use Rattle.std.proofs.Common.{◌≡◌, ◌≢◌, ℕ, ◌+◌, ◌<◌, ◌≤◌, List, [], ◌∷◌, ◌++◌, length, drop, Option, None, Some, sym, ◌∙◌, ap, inl, inr, ◌⊎◌, refl, arith, length-append}
use mathlib.Core.HLevel.{⊥_prop, Unit-prop, ¬_prop, ×_prop, ×₃_prop, Π_prop, is_prop→PathP}
use mathlib.Core.List.{is_set}
use native.Mathlib.Nat.{ℕ_set}
use native.Mathlib.Bridge.{le_prop}
use Rattle.sm_disk.specs.declared.disk.Disk.{Ghosts}
use Rattle.sm_journal.specs.Journals.{Stands}
use Rattle.sm_journal.specs.declared.journal.Journal.{Journal}
use Rattle.sm_journal.specs.Records.{front, entry_of, body_limit, AreWithin, IsWithin, Short, Closed, AtRest, Loose, Gated, Recovers, RecoversEither}
use Rattle.sm_journal.specs.Tails.{Ends}
use Rattle.sm_journal.specs.declared.format.Format.{Format}
use Rattle.sm_journal.specs.declared.tail.Tail.{Tail}
use Rattle.sm_journal.specs.declared.tail.Tail.TheVariants.{Sure, Body, Gate}
use Rattle.sm_journal.proofs.Front.{same_front, first_of_lists, one_list}

bytes_set : IsSet (List ℕ)
bytes_set = is_set ℕ_set

bodies_set : IsSet (List (List ℕ))
bodies_set = is_set bytes_set

-- two sides that exclude each other
either_side : {A B : Type 0} → IsProp A → IsProp B → (A → B → ⊥) → IsProp (A ⊎ B)
either_side one other apart (inl a) (inl b) = ap inl (one a b)
either_side one other apart (inl a) (inr b) = absurd (apart a b)
either_side one other apart (inr a) (inl b) = absurd (apart b a)
either_side one other apart (inr a) (inr b) = ap inr (other a b)

-- what stands behind one front is one list
same_rest : (before : List ℕ) (g h : ℕ) (r q bytes : List ℕ) → bytes ≡ before ++ g ∷ r → bytes ≡ before ++ h ∷ q
    → g ∷ r ≡ h ∷ q
same_rest before g h r q bytes one other = (same_front before before (g ∷ r) (h ∷ q) refl (sym one ∙ other)).1

module _ (before : List ℕ) where
  closed_prop : (behind bytes : List ℕ) → IsProp (Closed before behind bytes)
  closed_prop behind bytes a b =
      let same : a.gate ≡ b.gate = first_of_lists _ _ _ _
      (same_rest before a.gate b.gate behind behind bytes a.split b.split) in
      λ i. record {
        gate = same i;
        closed = is_prop→PathP (λ i. same i ≢ 1) (λ i. ¬_prop) a.closed b.closed i;
        split = is_prop→PathP (λ i. bytes ≡ before ++ same i ∷ behind)
            (λ i. bytes_set bytes (before ++ same i ∷ behind)) a.split b.split i;
      }

  gated_prop : (behind bytes : List ℕ) → IsProp (Gated before behind bytes)
  gated_prop behind bytes a b =
      let same : a.gate ≡ b.gate = first_of_lists _ _ _ _
      (same_rest before a.gate b.gate behind behind bytes a.split b.split) in
      λ i. record {
        gate = same i;
        split = is_prop→PathP (λ i. bytes ≡ before ++ same i ∷ behind)
            (λ i. bytes_set bytes (before ++ same i ∷ behind)) a.split b.split i;
      }

  loose_prop : (bytes : List ℕ) → IsProp (Loose before bytes)
  loose_prop bytes a b =
      let same : a.rest ≡ b.rest = ap (λ (l : List ℕ). drop 1 l)
      (same_rest before a.is.gate b.is.gate a.rest b.rest bytes a.is.split b.is.split) in
      λ i. record {
        rest = same i;
        is = is_prop→PathP (λ i. Closed before (same i) bytes)
            (λ i. closed_prop (same i) bytes) a.is b.is i;
      }

within_prop : (bodies : List (List ℕ)) → IsProp (AreWithin bodies)
within_prop [] = Unit-prop
within_prop (body ∷ bodies) = ×_prop le_prop (within_prop bodies)

pub recovers_prop : (bytes : List ℕ) (f : Format) (bodies : List (List ℕ)) → IsProp (Recovers bytes f bodies)
recovers_prop bytes f bodies =
    either_side
    (×_prop le_prop (bodies_set bodies []))
    (×₃_prop le_prop (within_prop bodies) (loose_prop (front f bodies) bytes))
    (λ short long. absurd (omega (arith, short.0, long.0)))

-- a list isn't the one with a body more
not_more : (bodies : List (List ℕ)) (body : List ℕ) → bodies ≡ bodies ++ body ∷ [] → ⊥
not_more bodies body same = absurd (omega (arith, ap length same, length-append bodies (body ∷ [])))

pub either_prop : (f : Format) (bodies : List (List ℕ)) (failed : Option (List ℕ)) (bytes : List ℕ)
    → IsProp (RecoversEither f bodies failed bytes)
either_prop f bodies None bytes = recovers_prop bytes f bodies
either_prop f bodies (Some body) bytes =
    either_side (recovers_prop bytes f bodies) (recovers_prop bytes f (bodies ++ body ∷ []))
    (λ without with_it. not_more bodies body (one_list bytes f f bodies (bodies ++ body ∷ []) without with_it))

pub ends_prop : (f : Format) (tail : Tail) (bodies : List (List ℕ)) (failed : Option (List ℕ)) (bytes : List ℕ)
    → IsProp (Ends f tail bodies failed bytes)
ends_prop f Sure bodies failed bytes = closed_prop (front f bodies) [] bytes
ends_prop f Body bodies failed bytes = loose_prop (front f bodies) bytes
ends_prop f Gate bodies None bytes = ⊥_prop
ends_prop f Gate bodies (Some body) bytes = gated_prop (front f bodies) (entry_of body ++ 0 ∷ []) bytes

last_prop : (failed : Option (List ℕ)) → IsProp (IsWithin failed)
last_prop None = Unit-prop
last_prop (Some body) = le_prop

-- and so is what stands on a journal's disk
pub stands_prop : {D : Type 0} {G : Ghosts D} (journal : Journal D G) (bodies : List (List ℕ))
    (failed : Option (List ℕ)) → IsProp (Stands journal bodies failed)
stands_prop journal bodies failed a b = λ i. record {
  length = ℕ_set _ _ a.length b.length i;
  within = within_prop bodies a.within b.within i;
  last = last_prop failed a.last b.last i;
  recovers = Π_prop (λ c. Π_prop (λ was. either_prop journal.format bodies failed (c journal.file))) a.recovers
      b.recovers
      i;
  ends = Π_prop (λ c. Π_prop (λ was. ends_prop journal.format journal.tail bodies failed (c journal.file))) a.ends
      b.ends
      i;
}
