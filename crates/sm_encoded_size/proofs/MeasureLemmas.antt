-- How long the records of many things are, one more as at a step of a loop.
use Rattle.std.proofs.Common.{◌≡◌, ℕ, zero, suc, ◌+◌, ◌^◌, ◌<◌, ◌≤◌, Bool, List, [], ◌∷◌, ◌++◌, length, flat_map, take, drop, get_or, slice_get, Some, IfSome, refl, sym, ap, subst, ◌∙◌, arith, append-nil, take-append-drop}
use Rattle.std.specs.Prelude.{IsTrue}
use Rattle.std.specs.List.{list_all}
use Rattle.std.proofs.lemmas.Bool.{and_parts}
use Rattle.std.proofs.lemmas.List.{take_more, take_all}
use Rattle.std.proofs.lemmas.List.Concat.{flat_map-append}
use Rattle.sm_journal.specs.Records.{size}
use Rattle.sm_model.specs.declared.rows.SecretRow.{SecretRow}
use Rattle.sm_record.specs.Snapshots.{snapshot, start_body, secret_bodies}
use Rattle.sm_record.specs.declared.base.Base.{Base}
use Rattle.sm_record.specs.declared.edition.Edition.TheVariants.{Second}
use Rattle.sm_record.proofs.SnapshotLaws.{snapshot_bodies}
use Rattle.sm_base_check.proofs.DifferLemmas.{more}

-- what all pass, the one at a place passes
pub fits_at : {A : Type 0} (test : A → Bool) (xs : List A) (i : ℕ) (x : A) → slice_get xs i ≡ Some x
    → IsTrue (list_all test xs) → IsTrue (test x)
fits_at test [] i x e all = absurd (cc)
fits_at test (y ∷ ys) zero x e all =
    let same : y ≡ x = cc in subst (λ z. IsTrue (test z)) same (and_parts (test y) (list_all test ys) all).0
fits_at test (y ∷ ys) (suc i) x e all = fits_at test ys i x e (and_parts (test y) (list_all test ys) all).1

pub fits_of : {A : Type 0} (test : A → Bool) (xs : List A) (i : ℕ) (x : A) → i < length xs → x ≡ get_or xs i x
    → IsTrue (list_all test xs) → IsTrue (test x)
fits_of test [] i x lt is all = absurd (omega (arith, lt))
fits_of test (y ∷ ys) zero x lt is all =
    subst (λ z. IsTrue (test z)) (sym is) (and_parts (test y) (list_all test ys) all).0
fits_of test (y ∷ ys) (suc i) x lt is all =
    fits_of test ys i x (omega (arith, lt)) is (and_parts (test y) (list_all test ys) all).1

size_append : (xs ys : List (List ℕ)) → size (xs ++ ys) ≡ size xs + size ys
size_append [] ys = omega arith
size_append (x ∷ xs) ys = omega (arith, size_append xs ys)

module _ {A : Type 0} (g : A → List (List ℕ)) (xs : List A) (i : ℕ) where
  -- all records are those before a place, and the others
  fewer : size (flat_map g (take i xs)) ≤ size (flat_map g xs)
  fewer =
      omega (
        arith,
        ap (λ ys. size (flat_map g ys)) (sym (take-append-drop i xs)),
        ap size (flat_map-append g (take i xs) (drop i xs)),
        size_append (flat_map g (take i xs)) (flat_map g (drop i xs)),
      )

  module _ (x : A) (next : take (i + 1) xs ≡ take i xs ++ x ∷ []) where
    pub size_next : size (flat_map g (take (i + 1) xs)) ≡ size (flat_map g (take i xs)) + size (g x)
    size_next =
        ap (λ ys. size (flat_map g ys)) next ∙ ap size (flat_map-append g (take i xs) (x ∷ []))
        ∙ size_append (flat_map g (take i xs)) (flat_map g (x ∷ []))
        ∙ ap (λ t. size (flat_map g (take i xs)) + size t) (append-nil (g x))

-- the records of one of many things are short where all are
pub part_short : {A : Type 0} (g : A → List (List ℕ)) (xs : List A) (i : ℕ) (x : A) → i < length xs
    → x ≡ get_or xs i x → size (flat_map g xs) < 2 ^ 62 → size (g x) < 2 ^ 62
part_short g xs i x lt is short =
    let next : take (i + 1) xs ≡ take i xs ++ x ∷ [] =
    take_more xs i x lt ∙ ap (λ y. take i xs ++ y ∷ []) (sym is) in
    omega (arith, size_next g xs i x next, fewer g xs (i + 1), short)

-- what a sum and one thing more come to
pub record Sums {A : Type 0} (g : A → List (List ℕ)) (xs : List A) (i sum : ℕ) : Type 0 where
  pub is : sum ≡ size (flat_map g (take (i + 1) xs))
  pub small : sum < 2 ^ 62

module _ {A : Type 0} (g : A → List (List ℕ)) (xs : List A) (i before here : ℕ) (lt : i < length xs)
    (short : size (flat_map g xs) < 2 ^ 62) (was : before ≡ size (flat_map g (take i xs))) where
  at_place : (ys : List A) (k : ℕ) → k < length ys → (y : A) × (slice_get ys k ≡ Some y)
  at_place [] k l = absurd (omega (arith, l))
  at_place (y ∷ ys) zero l = (y, refl)
  at_place (y ∷ ys) (suc k) l = at_place ys k (omega (arith, l))

  pub sums_at : IfSome (slice_get xs i) (λ x. here ≡ size (g x)) → Sums g xs i (before + here)
  sums_at h =
      let at = at_place xs i lt in
      let own : here ≡ size (g at.0) = subst (λ o. IfSome o (λ x. here ≡ size (g x))) at.1 h in
      let all : before + here ≡ size (flat_map g (take (i + 1) xs)) =
      omega (arith, size_next g xs i at.0 (more xs i at.0 at.1), own, was) in
      record { is = all; small = omega (arith, all, fewer g xs (i + 1), short) }

  pub sums_of : (x : A) → x ≡ get_or xs i x → here ≡ size (g x) → Sums g xs i (before + here)
  sums_of x is own =
      let next : take (i + 1) xs ≡ take i xs ++ x ∷ [] =
      take_more xs i x lt ∙ ap (λ (y : A). take i xs ++ y ∷ []) (sym is) in
      let all : before + here ≡ size (flat_map g (take (i + 1) xs)) =
      omega (arith, size_next g xs i x next, own, was) in
      record { is = all; small = omega (arith, all, fewer g xs (i + 1), short) }

pub all_sized : {A : Type 0} (g : A → List (List ℕ)) (xs : List A) (i : ℕ) → length xs ≤ i
    → size (flat_map g (take i xs)) ≡ size (flat_map g xs)
all_sized g xs i le = ap (λ ys. size (flat_map g ys)) (take_all i xs le)

-- the records of a base are that before all secrets, and those of its secrets
pub all_size : (base : Base) (secrets : List SecretRow) → secrets ≡ base.rows.secrets
    → size (snapshot Second base) ≡ 5 + length (start_body base) + size (flat_map (secret_bodies Second) secrets)
all_size base secrets is =
    ap size (snapshot_bodies Second base)
    ∙ ap (λ (rows : List SecretRow). 5 + length (start_body base) + size (flat_map (secret_bodies Second) rows))
    (sym is)
