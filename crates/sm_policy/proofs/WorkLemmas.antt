-- The matcher ends: what is left of the text behind the last `*`, times the pattern's length, and what is left of the
-- pattern.
use Rattle.std.proofs.Common.{◌≡◌, ℕ, ◌+◌, ◌*◌, ◌<◌, ◌≤◌, Bool, List, length, Option, Some, ap, arith, mul-le-mul_right, add-mul}
use Rattle.sm_policy.specs.declared.pattern.Case.{Case}
use Rattle.sm_policy.specs.declared.pattern.Places.{Places}
use Rattle.sm_policy.specs.Characters.{BeginsAs}
use Rattle.sm_policy.specs.Steps.{PastStar, PastBoth}
use Rattle.sm_policy.proofs.MatchLemmas.{left_of, Goes}

-- how many steps are left at most
abbrev pub work : List ℕ → List ℕ → Option Places → Places → ℕ
work pattern text star here = left_of text star * (length pattern + 1) + length here.pattern.now

less : (a b n x y : ℕ) → a ≤ b → x < y → a * n + x < b * n + y
less a b n x y h k = omega (arith, mul-le-mul_right {m = a} {n = b} n h)

back_less : (a b n x y : ℕ) → a < b → x < n → a * n + x < b * n + y
back_less a b n x y h k = omega (arith, mul-le-mul_right {m = a + 1} {n = b} n (omega arith), add-mul a 1 n)

pub star_work : (whole : Bool) (case : Case) (pattern text : List ℕ) (star : Option Places) (here next : Places)
    → Goes whole case pattern text star here → PastStar case here next
    → work pattern text (Some next) next < work pattern text star here
star_work whole case pattern text star here next goes on =
    less (length next.text.now) (left_of text star) (length pattern + 1) (length next.pattern.now)
    (length here.pattern.now) (omega (arith, goes.text_fits, ap length on.same)) on.shorter

pub both_work : (whole : Bool) (case : Case) (pattern text : List ℕ) (star : Option Places) (here next : Places)
    → Goes whole case pattern text star here → PastBoth case here next
    → work pattern text star next < work pattern text star here
both_work whole case pattern text star here next goes on =
    less (left_of text star) (left_of text star) (length pattern + 1) (length next.pattern.now)
    (length here.pattern.now) (omega arith) on.shorter

pub back_work : (whole : Bool) (case : Case) (pattern text : List ℕ) (last here next : Places) (c : ℕ)
    → Goes whole case pattern text (Some last) here → BeginsAs case last.text.now c next.text.now
    → next.pattern.now ≡ last.pattern.now
    → work pattern text (Some next) next < work pattern text (Some last) here
back_work whole case pattern text last here next c goes front same =
    let k : length last.pattern.now ≤ length pattern = goes.star_fits in
    back_less (length next.text.now) (length last.text.now) (length pattern + 1) (length next.pattern.now)
    (length here.pattern.now) front.shorter (omega (arith, ap length same))
