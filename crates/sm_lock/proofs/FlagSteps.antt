-- Raising a ticket's flag, looking once more, and seeing to the flag of the ticket that was served.
use Rattle.std.proofs.Common.{◌≡◌, ℕ, suc, ◌+◌, ◌%◌, ◌^◌, ◌<◌, ◌≤◌, ◌≢◌, ◌⊎◌, List, ◌∷◌, length, set, get_or, sym, ap, ◌∙◌, refl, ⊎_elim, arith, Option}
use mathlib.Core.Logic.{dite}
use native.Mathlib.Decide.{ℕ_discrete}
use mathlib.Core.Option.{some, none}
use lib.ListN.{get_elem?}
use lib.Seq.{set-get_or}
use Rattle.std.proofs.lemmas.List.{get_or-set_same, get_or-set_other, length-set}
use Rattle.std.proofs.lemmas.List.Elements.{All-set}
use Rattle.atomic_table.specs.Table.{State, Me, step, keeps, Allows}
use Rattle.atomic_table.proofs.Lists.{at_set, one_turn}
use Rattle.sm_lock.specs.declared.view.QueuePlace.{QueuePlace}
use Rattle.sm_lock.specs.declared.view.QueuePlace.TheVariants.{Out, Waiting, Flagged, Parked, Inside, Holding, Waking, Rousing}
use Rattle.sm_lock.specs.declared.view.View.{View}
use Rattle.sm_lock.specs.View.{has_ticket, has, holds, parks, wakes, ticket, turned, saw}
use Rattle.sm_lock.specs.Rule.{flag_word, flag, AreFlags, NoneSleepsOn}
use Rattle.sm_lock.specs.Told.{flagged, looked_again, saw_flag, lowered, roused}
use Rattle.sm_lock.proofs.Sums.{total-set, some_term, if_same, if_other}
use Rattle.sm_lock.proofs.Moved.{Rule, slot_stays, flags_stay, moved, fits_turned, in_line, others_none, few_tickets}
use Rattle.sm_lock.proofs.QueueSteps.{unmoved, is_served, lets_in}

parks-has : (n : ℕ) (turn : QueuePlace) → parks n turn ≤ has n turn
parks-has n Out = omega arith
parks-has n (Waiting t) = omega arith
parks-has n (Flagged t) = omega arith
parks-has n (Parked t) = omega arith
parks-has n (Inside t) = omega arith
parks-has n (Holding t) = omega arith
parks-has n (Waking t) = omega arith
parks-has n (Rousing t) = omega arith

-- a ticket's flag is that of its remainder
pub same_flag : (t n i : ℕ) → n ≡ t % 2 ^ 64 → i ≡ flag_word n → i ≡ flag_word t
same_flag t n i is at = omega (arith, is, at)

flags_set : (flags : List ℕ) (k x : ℕ) → x ≤ 1 → AreFlags flags → AreFlags (set flags k x)
flags_set flags k x small are = (
  length-set flags k x ∙ are.0,
  All-set (λ (f : ℕ). f ≤ 1) flags k x small are.1,
)

third : (k : ℕ) → 3 + k ≡ suc (suc (suc k))
third k = omega arith

module _ {T O E : Type 0} (org : T → O) (sty : T → List (ℕ × E)) (o : O) (built : List (ℕ × E)) (seats : ℕ) where
  abbrev V : Type 0
  V = View O E

  abbrev M : Type 0
  M = Me (Option T) V

  abbrev R : State (Option T) V → Type 0
  R = Rule org sty o built seats

  -- the words before the flags
  abbrev front : (s : State (Option T) V) → R s → List ℕ → List ℕ
  front s r flags = (r.drawn % 2 ^ 64) ∷ (r.served % 2 ^ 64) ∷ length r.log ∷ flags

  words_set : (s : State (Option T) V) (r : R s) (t i x : ℕ) → i ≡ flag_word t
      → set s.words i x ≡ front s r (set r.flags (t % 128) x)
  words_set s r t i x at = ap (λ (ws : List ℕ). set ws i x) r.words_are
      ∙ ap (λ (j : ℕ). set (front s r r.flags) j x) (at ∙ third (t % 128))

  words_get : (s : State (Option T) V) (r : R s) (t i : ℕ) → i ≡ flag_word t → get_or s.words i 0 ≡ flag t r.flags
  words_get s r t i at = ap (λ (ws : List ℕ). get_or ws i 0) r.words_are
      ∙ ap (λ (j : ℕ). get_or (front s r r.flags) j 0) (at ∙ third (t % 128))

  -- a flag that is raised is another ticket's than the served one's, or nobody is parked with that one
  raised_flag : (s : State (Option T) V) (r : R s) (id : ℕ) (v w : V) (t : ℕ) → get_elem? s.views id ≡ some v
      → has t v.turn ≡ 1 → parks r.served w.turn ≡ 0 → wakes r.served v.turn ≡ 0 → seats ≤ 128
      → NoneSleepsOn r.served (set r.flags (t % 128) 1) (set s.views id w)
  raised_flag s r id v w t me mine rests sees few = λ parked up.
      dite (ℕ_discrete (r.served % 128) (t % 128))
      (λ same.
      let line = in_line org sty o built seats s r id v t me mine in
      let now : r.served ≡ t = one_turn r.served t 128 line.0
      (omega (arith, line.1, few, few_tickets org sty o built seats s r)) same in
      let its : has r.served v.turn ≡ 1 = ap (λ (k : ℕ). has k v.turn) now ∙ mine in
      let other = some_term (λ (x : V). parks r.served x.turn) (set s.views id w) parked in
      let u = other.1 in
      ⊎_elim
      (λ (x : (other.0 ≡ id) × (w ≡ u)). absurd
      (omega (arith, other.3, rests, ap (λ (y : V). parks r.served y.turn) x.1)))
      (λ (x : (other.0 ≢ id) × (get_elem? s.views other.0 ≡ some u)). absurd
      (omega (
        arith,
        other.3,
        parks-has r.served u.turn,
        others_none org sty o built seats s r id other.0 v u r.served me its x.0 x.1,
      )))
      (at_set s.views id other.0 w u other.2))
      (λ apart.
      let waking = r.none_sleeps_on
      (omega (arith, parked, rests, total-set (λ (x : V). parks r.served x.turn) s.views id v w me))
      (λ down. up (get_or-set_other r.flags (t % 128) (r.served % 128) 1 0 apart ∙ down)) in
      omega (arith, waking, sees, total-set (λ (x : V). wakes r.served x.turn) s.views id v w me))

  pub raises_flag : (n id : ℕ) (m : M) (t i : ℕ) → (m.0.turn ≡ Waiting t) ⊎ (m.0.turn ≡ Parked t) → seats ≤ 128
      → i ≡ flag_word t → Allows R n id m i (λ _. 1) (λ _. flagged (step n i 1 0 none) m 1)
  raises_flag n id m t i waits few at s r wide me _ =
      let v = m.0 in let f = r.each id v me in let w : V = turned (Flagged t) v in
      let its : ticket v.turn ≡ t = ⊎_elim (λ (e : v.turn ≡ Waiting t). ap ticket e)
      (λ (e : v.turn ≡ Parked t). ap ticket e) waits in
      let one : has_ticket v.turn ≡ 1 = ⊎_elim (λ (e : v.turn ≡ Waiting t). ap has_ticket e)
      (λ (e : v.turn ≡ Parked t). ap has_ticket e) waits in
      let mine : (k : ℕ) → has k v.turn ≡ has k (Flagged t) = λ k. ⊎_elim (λ (e : v.turn ≡ Waiting t). ap (has k) e)
      (λ (e : v.turn ≡ Parked t). ap (has k) e) waits in
      let none_held : holds v.turn ≡ 0 = ⊎_elim (λ (e : v.turn ≡ Waiting t). ap holds e)
      (λ (e : v.turn ≡ Parked t). ap holds e) waits in
      let sees : wakes r.served v.turn ≡ 0 = ⊎_elim (λ (e : v.turn ≡ Waiting t). ap (wakes r.served) e)
      (λ (e : v.turn ≡ Parked t). ap (wakes r.served) e) waits in (
        w,
        keeps,
        tt,
        moved org sty o built seats s r id v w (set s.words i 1) s.homes r.log r.added r.drawn r.served
            (set r.flags (t % 128) 1) me (words_set s r t i 1 at)
            (flags_set r.flags (t % 128) 1 (omega arith) r.all_flags)
            (raised_flag s r id v w t me (mine t ∙ if_same t t refl) refl sees few)
            (omega (arith, one)) (λ k. omega (arith, mine k))
            (slot_stays org sty o built seats s r (set s.words i 1) id v w me (sym none_held))
            r.begins r.numbered refl refl
            (fits_turned org sty o built seats r.log r.served r.next v (Flagged t) tt (omega (arith, one, f.numbered))
            f)
            (λ j u _ there. r.each j u there),
        (refl, λ k. (turned (Flagged (sym its k)) v, m.1)),
      )

  -- who looks in vain with its flag raised may park
  pub looks_again : (n id : ℕ) (m : M) (t : ℕ) → m.0.turn ≡ Flagged t → seats < 2 ^ 64
      → Allows R n id m 1 (λ x. x) (looked_again (step n 1 0 0 none) m)
  looks_again n id m t waits few s r wide me _ =
      let v = m.0 in let f = r.each id v me in
      let same_ticket : (t' : ℕ) → v.turn ≡ Flagged t' → t % 2 ^ 64 ≡ t' % 2 ^ 64 =
      λ t' e. ap (λ (x : QueuePlace). ticket x % 2 ^ 64) (sym waits ∙ e) in
      dite (ℕ_discrete (get_or s.words 1 0) (t % 2 ^ 64))
      (λ hit.
      let now = is_served org sty o built seats s r id v t me (ap (has t) waits ∙ if_same t t refl) few hit in (
        turned (Inside t) (saw r.log v),
        keeps,
        tt,
        lets_in org sty o built seats s r id v t me (ap has_ticket waits) (λ k. ap (has k) waits) (ap holds waits)
            (ap (wakes r.served) waits) now,
        λ t' e. (
          (λ _. (r.log, f.own, λ k. (turned (Inside (ap ticket (sym waits ∙ e) k)) (saw r.log v), m.1))),
          λ miss. absurd (miss (hit ∙ same_ticket t' e)),
        ),
      ))
      (λ miss.
      let w : V = turned (Parked t) v in
      let other : r.served ≢ t = λ now. miss
      (ap (λ (ws : List ℕ). get_or ws 1 0) r.words_are ∙ ap (λ (x : ℕ). x % 2 ^ 64) now) in (
        w,
        keeps,
        tt,
        moved org sty o built seats s r id v w (set s.words 1 (get_or s.words 1 0)) s.homes r.log r.added r.drawn
            r.served r.flags me (set-get_or s.words 1 0 ∙ r.words_are) r.all_flags
            (flags_stay org sty o built seats s r id v w me (omega (arith, if_other r.served t other))
            (omega (arith, ap (wakes r.served) waits)))
            (omega (arith, ap has_ticket waits)) (λ k. omega (arith, ap (has k) waits))
            (slot_stays org sty o built seats s r (set s.words 1 (get_or s.words 1 0)) id v w me (ap holds (sym waits)))
            r.begins r.numbered refl refl
            (fits_turned org sty o built seats r.log r.served r.next v (Parked t) tt
            (omega (arith, ap has_ticket waits, f.numbered)) f)
            (λ j u _ there. r.each j u there),
        λ t' e. (
          (λ hit. absurd (miss (hit ∙ sym (same_ticket t' e)))),
          λ _ k. (turned (Parked (ap ticket (sym waits ∙ e) k)) v, m.1),
        ),
      ))

  -- once the flag of the ticket that it served is down, who served it need not see to that flag
  seen_to : (s : State (Option T) V) (r : R s) (id : ℕ) (v w : V) (t : ℕ) (flags : List ℕ)
      → get_elem? s.views id ≡ some v → v.turn ≡ Waking t → parks r.served w.turn ≡ 0 → flag t flags ≡ 0
      → ((k : ℕ) → k ≢ t % 128 → get_or flags k 0 ≡ get_or r.flags k 0)
      → NoneSleepsOn r.served flags (set s.views id w)
  seen_to s r id v w t flags me waking rests down others = λ parked up.
      dite (ℕ_discrete (r.served % 128) (t % 128))
      (λ same. absurd (up (ap (λ (k : ℕ). get_or flags k 0) same ∙ down)))
      (λ apart.
      let before = r.none_sleeps_on
      (omega (arith, parked, rests, total-set (λ (x : V). parks r.served x.turn) s.views id v w me))
      (λ was. up (others (r.served % 128) apart ∙ was)) in
      omega (
        arith,
        before,
        total-set (λ (x : V). wakes r.served x.turn) s.views id v w me,
        ap (wakes r.served) waking,
        if_other r.served t (λ e. apart (ap (λ (k : ℕ). k % 128) e)),
      ))

  pub sees_flag : (n id : ℕ) (m : M) (t i : ℕ) → m.0.turn ≡ Waking t → i ≡ flag_word t
      → Allows R n id m i (λ x. x) (saw_flag (step n i 0 0 none) m)
  sees_flag n id m t i waking at s r wide me _ =
      let v = m.0 in let f = r.each id v me in let w : V = turned Out v in
      dite (ℕ_discrete (get_or s.words i 0) 0)
      (λ down. (
        w,
        keeps,
        tt,
        moved org sty o built seats s r id v w (set s.words i (get_or s.words i 0)) s.homes r.log r.added r.drawn
            r.served r.flags me (set-get_or s.words i 0 ∙ r.words_are) r.all_flags
            (seen_to s r id v w t r.flags me waking refl (sym (words_get s r t i at) ∙ down) (λ _ _. refl))
            (omega (arith, ap has_ticket waking)) (λ k. omega (arith, ap (has k) waking))
            (slot_stays org sty o built seats s r (set s.words i (get_or s.words i 0)) id v w me
            (ap holds (sym waking)))
            r.begins r.numbered refl refl
            (fits_turned org sty o built seats r.log r.served r.next v Out tt (omega arith) f)
            (λ j u _ there. r.each j u there),
        ((t, waking, at), (λ up. absurd (up down)), λ _. refl),
      ))
      (λ up. (
        v,
        keeps,
        tt,
        unmoved org sty o built seats s r i id v me,
        ((t, waking, at), (λ _. refl), λ down. absurd (up down)),
      ))

  pub lowers : (n id : ℕ) (m : M) (t i : ℕ) → m.0.turn ≡ Waking t → i ≡ flag_word t
      → Allows R n id m i (λ _. 0) (λ _. lowered (step n i 0 0 none) m 0)
  lowers n id m t i waking at s r wide me _ =
      let v = m.0 in let f = r.each id v me in let w : V = turned (Rousing t) v in
      let flags : List ℕ = set r.flags (t % 128) 0 in
      let down : flag t flags ≡ 0 = get_or-set_same r.flags (t % 128) 0 0 (omega (arith, r.all_flags.0)) in (
        w,
        keeps,
        tt,
        moved org sty o built seats s r id v w (set s.words i 0) s.homes r.log r.added r.drawn r.served flags me
            (words_set s r t i 0 at) (flags_set r.flags (t % 128) 0 (omega arith) r.all_flags)
            (seen_to s r id v w t flags me waking refl down
            (λ k apart. get_or-set_other r.flags (t % 128) k 0 0 apart))
            (omega (arith, ap has_ticket waking)) (λ k. omega (arith, ap (has k) waking))
            (slot_stays org sty o built seats s r (set s.words i 0) id v w me (ap holds (sym waking)))
            r.begins r.numbered refl refl
            (fits_turned org sty o built seats r.log r.served r.next v (Rousing t) tt (omega arith) f)
            (λ j u _ there. r.each j u there),
        ((t, waking, at), refl, λ k. (turned (Rousing (ap ticket (sym waking) k)) v, m.1)),
      )

  -- who has lowered a flag is out by a load of any word
  pub rouses : (n id : ℕ) (m : M) (t i : ℕ) → m.0.turn ≡ Rousing t
      → Allows R n id m i (λ x. x) (roused (step n i 0 0 none) m)
  rouses n id m t i rousing s r wide me _ =
      let v = m.0 in let f = r.each id v me in let w : V = turned Out v in (
        w,
        keeps,
        tt,
        moved org sty o built seats s r id v w (set s.words i (get_or s.words i 0)) s.homes r.log r.added r.drawn
            r.served r.flags me (set-get_or s.words i 0 ∙ r.words_are) r.all_flags
            (flags_stay org sty o built seats s r id v w me (omega arith) (omega (arith, ap (wakes r.served) rousing)))
            (omega (arith, ap has_ticket rousing)) (λ k. omega (arith, ap (has k) rousing))
            (slot_stays org sty o built seats s r (set s.words i (get_or s.words i 0)) id v w me
            (ap holds (sym rousing)))
            r.begins r.numbered refl refl
            (fits_turned org sty o built seats r.log r.served r.next v Out tt (omega arith) f)
            (λ j u _ there. r.each j u there),
        ((t, rousing), refl),
      )

module _ {T O E : Type 0} where
  -- whoever raises its flag, whether it was parked before or not
  pub flag_raised : (m₀ m m' : Me (Option T) (View O E))
      → (m ≡ m₀) ⊎ (m ≡ (turned (Parked (ticket m₀.0.turn)) m₀.0, m₀.1))
      → m' ≡ (turned (Flagged (ticket m.0.turn)) m.0, m.1) → m' ≡ (turned (Flagged (ticket m₀.0.turn)) m₀.0, m₀.1)
  flag_raised m₀ m m' before after =
      let raise : Me (Option T) (View O E) → Me (Option T) (View O E) =
      λ x. (turned (Flagged (ticket x.0.turn)) x.0, x.1) in
      ⊎_elim (λ (e : m ≡ m₀). after ∙ ap raise e)
      (λ (e : m ≡ (turned (Parked (ticket m₀.0.turn)) m₀.0, m₀.1)). after ∙ ap raise e) before
