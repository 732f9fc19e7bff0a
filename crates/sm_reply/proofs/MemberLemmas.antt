-- Names that ascend, by a test that computes.
use Rattle.std.proofs.Common.{◌≡◌, ℕ, List, [], ◌∷◌, Bool, true, false, ◌&&◌, refl}
use Rattle.std.specs.Cmp.Lexicographic.{slice_cmp}
use Rattle.std.specs.Ordering.{nat_cmp, is_gt}
use Rattle.sm_reply.specs.Members.{Given}

-- both tests pass
pub first_holds : (a b : Bool) → a && b ≡ true → a ≡ true
first_holds true b h = refl
first_holds false b h = h

pub second_holds : (a b : Bool) → a && b ≡ true → b ≡ true
second_holds true b h = h
second_holds false b h = absurd (let e = h in cc)

-- the name stands before the names of all of them
abbrev pub before_all : List ℕ → List Given → Bool
before_all name [] = true
before_all name (given ∷ more) = is_gt (slice_cmp nat_cmp given.0 name) && before_all name more

-- the names ascend
abbrev pub ascend : List Given → Bool
ascend [] = true
ascend (given ∷ more) = before_all given.0 more && ascend more
