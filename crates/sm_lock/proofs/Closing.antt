-- What is known of the value once all passes were taken.
use Rattle.std.proofs.Common.{◌≡◌, ℕ, ◌<◌, ◌≤◌, List, [], ◌∷◌, ◌++◌, length, drop, map, sym, ap, ◌∙◌, subst, arith, Option, Some, All, length-append}
use mathlib.Core.Option.{some, some-injective}
use lib.ListN.{get_elem?, length-map}
use Rattle.std.specs.List.{Contains}
use Rattle.std.specs.Option.{unwrap_or}
use Rattle.atomic_table.specs.Table.{Final, Seen}
use Rattle.sm_lock.specs.declared.view.QueuePlace.TheVariants.{Out}
use Rattle.sm_lock.specs.declared.view.View.{View}
use Rattle.sm_lock.specs.Story.{times, Grows}
use Rattle.sm_lock.specs.View.{nothing}
use Rattle.sm_lock.proofs.Moved.{Rule}
use Rattle.sm_lock.proofs.SeatSteps.{closes}
use Rattle.sm_lock.proofs.Passes.{Among, all-grow, drop-built, all-among, among-all, contains-all}

module _ {T O E P : Type 0} (org : T → O) (sty : T → List (ℕ × E)) (o : O) (built : List (ℕ × E)) (seats : ℕ)
    (f : P → ℕ) (s : P → List (ℕ × E)) where
  -- what the value is, and what each pass knew of it
  pub record Closed (passes : List P) (value : T) : Type 0 where
    pub origin : org value ≡ o
    pub begins : sty value ≡ built ++ drop (length built) (sty value)
    pub known : All (λ p. Grows (f p ∷ []) (s p) (sty value)) passes
    pub numbers : All (λ x. Contains (map f passes) x.0) (drop (length built) (sty value))

  module _ (first : P) (others passes : List P) (all : passes ≡ others ++ first ∷ []) (whole : length passes ≡ seats)
      (id : ℕ) (v : View O E)
      (out : v.turn ≡ Out) (plain : v.told ≡ nothing) (are : v.own.numbers ≡ f first ∷ map f others)
      (knows : All (λ p. Grows (f p ∷ []) (s p) v.own.seen) (others ++ first ∷ [])) (ws : List ℕ) (xs : List (Option T))
      (final : Final (Seen (Rule org sty o built seats) id v) ws xs) where
    shows : (value : T) × (get_elem? xs 0 ≡ some (Some value)) × Closed (others ++ first ∷ []) value
    shows =
        let enough : seats ≤ length v.own.numbers =
        omega (arith, whole, ap length all, length-append others (first ∷ []), ap length are, length-map others f)
        in
        let t = closes org sty o built seats id v ws xs out plain enough final in
        let value = t.0 in let added = t.4.0 in
        let rest : drop (length built) (sty value) ≡ added = drop-built built added (sty value) t.4.1 in (
          value,
          t.1,
          record {
            origin = t.2;
            begins = t.4.1 ∙ ap (λ (l : List (ℕ × E)). built ++ l) (sym rest);
            known = all-grow f s v.own.numbers (others ++ first ∷ []) v.own.seen (sty value)
                (subst (λ (ns : List ℕ). Among f ns (others ++ first ∷ [])) (sym are) (among-all f others first)) knows
                t.3;
            numbers = subst (All (λ (x : ℕ × E). Contains (map f (others ++ first ∷ [])) x.0)) (sym rest)
                (all-among (map f (others ++ first ∷ [])) added
                (λ n h. contains-all f others first n (subst (λ (ns : List ℕ). 0 < times n ns) are (t.4.2 n h))));
          },
        )

    pub closed_some : (r : Option T) → get_elem? xs 0 ≡ some r → ((x : T) → r ≡ Some x → ⊥) → ⊥
    closed_some r at none = let t = shows in none t.0 (some-injective r (Some t.0) (sym at ∙ t.1))

    pub closed_value : (value : T) → get_elem? xs 0 ≡ some (Some value) → Closed passes value
    closed_value value at =
        let t = shows in
        let same : t.0 ≡ value = ap (λ (r : Option T). unwrap_or r value)
        (some-injective (Some t.0) (Some value) (sym t.1 ∙ at)) in
        subst (λ (ps : List P). Closed ps value) (sym all) (subst (Closed (others ++ first ∷ [])) same t.2)
