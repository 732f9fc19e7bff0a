-- What a reader of a field answers.
use Rattle.std.specs.Prelude.{◌≡◌, ℕ, ◌≤◌, List, Result, Ok, Err}
use Rattle.sm_record.specs.declared.unread.Unread.{Unread}
use Rattle.sm_record.specs.declared.unread.Unread.TheVariants.{Left, Memory}

-- out of memory, or how many bytes are left where a field is not spelled
abbrev pub Fails : {Y : Type 0} → Unread → Result Y ℕ → Type 0
Fails (Left n) wanted = wanted ≡ Err n
Fails Memory wanted = Unit {0}

-- out of memory, or exactly what is to be read, seen by view
abbrev pub Gives : {X Y : Type 0} → (X → Y) → Result X Unread → Result Y ℕ → Type 0
Gives view (Ok x) wanted = wanted ≡ Ok (view x)
Gives view (Err unread) wanted = Fails unread wanted

-- out of memory, or what is made of exactly what is to be read
abbrev pub Makes : {A B X : Type 0} → (A → B → Type 0) → (X → B × List ℕ) → Result X Unread → Result (A × List ℕ) ℕ
    → Type 0
Makes {A} made view (Ok x) wanted = (a : A) × (made a (view x).0) × (wanted ≡ Ok (a, (view x).1))
Makes made view (Err unread) wanted = Fails unread wanted

-- what is made of what was read, with the same bytes behind it, or the same failure
abbrev pub IsMade : {A B R : Type 0} → (A → B → Type 0) → Result (A × R) Unread → Result (B × R) Unread → Type 0
IsMade {A} {B} made (Ok x) result = (b : B) × (made x.0 b) × (result ≡ Ok (b, x.1))
IsMade made (Err unread) result = result ≡ Err unread

-- where a field is not spelled, no more bytes are left than these
abbrev pub LeftWithin : {X : Type 0} → Result X Unread → ℕ → Type 0
LeftWithin (Ok x) bound = Unit {0}
LeftWithin (Err (Left n)) bound = n ≤ bound
LeftWithin (Err Memory) bound = Unit {0}
