-- The moments that clocks read.
use Rattle.std.proofs.Common.{◌≡◌, ℕ, zero, suc, ◌+◌, ◌-◌, ◌<◌, min, List, [], ◌∷◌, ◌++◌, length, get_or, refl, arith}
use Rattle.std.proofs.lemmas.List.FromFn.{map-range_with_len_more}
use Rattle.sm_base.specs.declared.moment.Moment.{Moment}
use Rattle.sm_io.specs.ListClock.{reading_at, list_readings}

-- the reading at a place of the list is the moment there
pub reading_at-get_or : (moments : List Moment) (at : ℕ) (d : Moment) → at < length moments
    → reading_at moments at ≡ (get_or moments at d).0
reading_at-get_or [] at d h = absurd (omega arith)
reading_at-get_or (moment ∷ []) zero d h = refl
reading_at-get_or (moment ∷ []) (suc at) d h = absurd (omega arith)
reading_at-get_or (moment ∷ (next ∷ rest)) zero d h = refl
reading_at-get_or (moment ∷ (next ∷ rest)) (suc at) d h = reading_at-get_or (next ∷ rest) at d (omega arith)

-- past the last place the reading stays
pub reading_at-last : (moments : List Moment) (k at : ℕ) → at ≡ min k (length moments - 1)
    → reading_at moments at ≡ reading_at moments k
reading_at-last [] k at h = refl
reading_at-last (moment ∷ []) k at h = refl
reading_at-last (moment ∷ (next ∷ rest)) zero zero h = refl
reading_at-last (moment ∷ (next ∷ rest)) zero (suc at) h = absurd (omega arith)
reading_at-last (moment ∷ (next ∷ rest)) (suc k) zero h = absurd (omega arith)
reading_at-last (moment ∷ (next ∷ rest)) (suc k) (suc at) h = reading_at-last (next ∷ rest) k at (omega arith)

-- one reading more
pub list_readings-push : (moments : List Moment) (count : ℕ)
    → list_readings (record { moments = moments; count = count + 1 })
    ≡ list_readings (record { moments = moments; count = count }) ++ reading_at moments count ∷ []
list_readings-push moments count = map-range_with_len_more (λ k. reading_at moments k) 0 count count (omega arith)
