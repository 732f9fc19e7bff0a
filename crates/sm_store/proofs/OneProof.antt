-- What has one proof at most.
use Rattle.std.proofs.Common.{ap, inl, inr, ◌⊎◌}

-- two sides that exclude each other
pub either_side : {A B : Type 0} → IsProp A → IsProp B → (A → B → ⊥) → IsProp (A ⊎ B)
either_side one other apart (inl a) (inl b) = ap inl (one a b)
either_side one other apart (inl a) (inr b) = absurd (apart a b)
either_side one other apart (inr a) (inl b) = absurd (apart b a)
either_side one other apart (inr a) (inr b) = ap inr (other a b)
