-- Taking the value, raising the count of its entries, and returning it.
use Rattle.std.proofs.Common.{◌≡◌, ℕ, ◌+◌, ◌%◌, ◌^◌, ◌<◌, ◌≤◌, ◌≢◌, List, [], ◌∷◌, ◌++◌, length, set, get_or, sym, ap, ◌∙◌, refl, subst, inl, inr, ⊎_elim, arith, Option, Some, length-append}
use mathlib.Core.Logic.{dite}
use mathlib.Core.List.{append_assoc, append-nil}
use Rattle.std.specs.Option.{unwrap_or}
use native.Mathlib.Decide.{ℕ_discrete, dec_lt}
use mathlib.Core.Option.{some, none}
use mathlib.Core.Option as maybe
use lib.ListN.{get_elem?}
use lib.Seq.{set-get_or}
use Rattle.atomic_table.specs.Table.{State, Me, step, keeps, takes, gives, Allows}
use Rattle.sm_lock.specs.declared.view.QueuePlace.TheVariants.{Inside, Holding}
use Rattle.sm_lock.specs.declared.view.View.{View}
use Rattle.sm_lock.specs.Story.{times, made_by, Grows}
use Rattle.sm_lock.specs.View.{has_ticket, has, holds, parks, wakes, ticket, turned, saw, numbers}
use Rattle.sm_lock.specs.Rule.{IsServed, IsHome, IsAway}
use Rattle.sm_lock.specs.SeatStates.{AddsOne}
use Rattle.sm_lock.specs.Told.{took, raised, returned}
use Rattle.sm_lock.proofs.Sums.{total-set, term_le, terms_le, some_term, if_same, times-append, times-here, times-else, within_le, within-is}
use Rattle.sm_lock.proofs.Stories.{made-append, grows-same, grows-trans}
use Rattle.sm_lock.proofs.Moved.{Rule, state, flags_stay, moved, fits_turned, others_none, elsewhere, holder_served}

module _ {T O E : Type 0} (org : T → O) (sty : T → List (ℕ × E)) (o : O) (built : List (ℕ × E)) (seats : ℕ) where
  abbrev V : Type 0
  V = View O E

  abbrev M : Type 0
  M = Me (Option T) V

  abbrev R : State (Option T) V → Type 0
  R = Rule org sty o built seats

  -- while a seat is inside and has not taken the value, the value is in the slot
  at_home : (s : State (Option T) V) (r : R s) (id : ℕ) (v : V) (t : ℕ) → get_elem? s.views id ≡ some v
      → v.turn ≡ Inside t → IsHome org sty o r.log s
  at_home s r id v t me inside = ⊎_elim (λ home. home)
      (λ away.
      let f = r.each id v me in
      let now : t ≡ r.served = (subst (IsServed r.log r.served v.own.seen) inside f.inside).0 in
      let mine : has r.served v.turn ≡ 1 = ap (has r.served) (inside ∙ ap Inside now)
      ∙ if_same r.served r.served refl in
      let other = some_term (λ (x : V). holds x.turn) s.views (omega (arith, away.1)) in
      let u = other.1 in let g = r.each other.0 u other.2 in
      let theirs = holder_served org sty o built seats r.log u.own.seen r.served u.turn other.3 g.inside in
      dite (ℕ_discrete other.0 id)
      (λ same. absurd (omega (
        arith,
        other.3,
        ap holds inside,
        total-set (λ (x : V). holds x.turn) s.views id v u me,
        total-set (λ (x : V). holds x.turn) s.views id u u
            (subst (λ (j : ℕ). get_elem? s.views j ≡ some u) same other.2),
      )))
      (λ apart. absurd
      (omega (arith, theirs, others_none org sty o built seats s r id other.0 v u r.served me mine apart other.2))))
      r.slot

  pub takes_value : (n id : ℕ) (m : M) (t : ℕ) → m.0.turn ≡ Inside t → m.0.origin ≡ Some o
      → Allows R n id m 2 (λ x. x) (took org sty (step n 2 0 0 none) m)
  takes_value n id m t inside mine s r wide me _ =
      let v = m.0 in let f = r.each id v me in let w : V = turned (Holding t) v in
      let here = subst (IsServed r.log r.served v.own.seen) inside f.inside in
      let home = at_home s r id v t me inside in
      let slots : set s.homes 0 none ≡ none ∷ [] = ap (λ (hs : List (maybe.Option (Option T))). set hs 0 none) home.1 in
      let held = total-set (λ (x : V). holds x.turn) s.views id v w me in (
        w,
        takes 0 (Some home.0),
        ap (λ (hs : List (maybe.Option (Option T))). get_elem? hs 0) home.1,
        moved org sty o built seats s r id v w (set s.words 2 (get_or s.words 2 0))
            (set s.homes 0 none) r.log r.added r.drawn r.served r.flags me (set-get_or s.words 2 0 ∙ r.words_are)
            r.all_flags
            (flags_stay org sty o built seats s r id v w me (omega (arith, ap (parks r.served) inside))
            (omega (arith, ap (wakes r.served) inside)))
            (omega (arith, ap has_ticket inside)) (λ k. omega (arith, ap (has k) inside))
            (inr (slots, omega (arith, held, home.4, ap holds inside)))
            r.begins r.numbered refl refl
            (fits_turned org sty o built seats r.log r.served r.next v (Holding t) here
            (omega (arith, ap has_ticket inside, f.numbered)) f) (λ j u _ there. r.each j u there),
        λ t' e. (
          home.0,
          (λ k. (turned (Holding (ap ticket (sym inside ∙ e) k)) v, (0, Some home.0) ∷ m.1)),
          home.2 ∙ sym here.1,
          mine ∙ ap Some (sym home.3),
          ap (λ (ws : List ℕ). get_or ws 2 0) r.words_are ∙ ap length (sym here.1),
        ),
      )

  -- while a seat has the value, the slot is empty
  is_away : (s : State (Option T) V) (r : R s) (id : ℕ) (v : V) (t : ℕ) → get_elem? s.views id ≡ some v
      → v.turn ≡ Holding t → IsAway s
  is_away s r id v t me holding =
      ⊎_elim (λ home.
      absurd (omega (arith, home.4, ap holds holding, term_le (λ (x : V). holds x.turn) s.views id v me)))
      (λ away. away) r.slot

  -- entries that nobody else's numbers made
  abbrev Fresh : (s : State (Option T) V) → R s → ℕ → V → List (ℕ × E) → Type 0
  Fresh s r id v extra =
      (made_by v.told.numbers extra ≡ 0)
      × ((j : ℕ) (u : V) → j ≢ id → get_elem? s.views j ≡ some u → (made_by u.own.numbers extra ≡ 0)
      × (made_by u.told.numbers extra ≡ 0))
      × ((n : ℕ) → 0 < made_by (n ∷ []) extra → (1 ≤ n) × (n < r.next))

  grows_by : (ns : List ℕ) (xs log extra after : List (ℕ × E)) → after ≡ log ++ extra → made_by ns extra ≡ 0
      → Grows ns xs log → Grows ns xs after
  grows_by ns xs log extra after e h a = subst (Grows ns xs) (sym e)
      (grows-trans ns xs log (log ++ extra) a (extra, refl, h))

  raise_by : (s : State (Option T) V) (r : R s) (id : ℕ) (v : V) (t k : ℕ) (after extra : List (ℕ × E))
      → get_elem? s.views id ≡ some v → v.turn ≡ Holding t
      → after ≡ v.own.seen ++ extra → length extra ≡ k → length after < 2 ^ 64 → Fresh s r id v extra
      → R (state org sty o built seats (set s.words 2 ((get_or s.words 2 0 + k) % 2 ^ 64)) s.homes
      (set s.views id (saw after v)))
  raise_by s r id v t k after extra me holding e len small fresh =
      let f = r.each id v me in let w : V = saw after v in
      let here = subst (IsServed r.log r.served v.own.seen) holding f.inside in
      let whole : after ≡ r.log ++ extra = e ∙ ap (λ (l : List (ℕ × E)). l ++ extra) here.1 in
      let mine : has r.served v.turn ≡ 1 = ap (has r.served) (holding ∙ ap Holding here.0)
      ∙ if_same r.served r.served refl in
      let away = is_away s r id v t me holding in
      let sum : (length r.log + k) % 2 ^ 64 ≡ length after =
      omega (arith, ap length whole, length-append r.log extra, len, small) in
      let words : set s.words 2 ((get_or s.words 2 0 + k) % 2 ^ 64) ≡ (r.drawn % 2 ^ 64) ∷ (r.served % 2 ^ 64)
      ∷ length after ∷ r.flags =
      ap (λ (ws : List ℕ). set ws 2 ((get_or ws 2 0 + k) % 2 ^ 64)) r.words_are
      ∙ ap (λ (x : ℕ). (r.drawn % 2 ^ 64) ∷ (r.served % 2 ^ 64) ∷ x ∷ r.flags) sum in
      moved org sty o built seats s r id v w (set s.words 2 ((get_or s.words 2 0 + k) % 2 ^ 64)) s.homes after
      (r.added ++ extra) r.drawn r.served r.flags me words r.all_flags
      (flags_stay org sty o built seats s r id v w me (omega arith) (omega arith)) refl (λ _. refl)
      (inr (away.0, omega (arith, away.1, total-set (λ (x : V). holds x.turn) s.views id v w me)))
      (whole ∙ ap (λ (l : List (ℕ × E)). l ++ extra) r.begins ∙ append_assoc built r.added extra)
      (λ n h. dite (dec_lt 0 (made_by (n ∷ []) r.added)) (λ old. r.numbered n old)
      (λ new. fresh.2 n (omega (arith, h, made-append (n ∷ []) r.added extra))))
      refl refl
      (record {
        based = f.based;
        own = grows-same v.own.numbers after;
        told = grows_by v.told.numbers v.told.seen r.log extra after whole fresh.0 f.told;
        inside = subst (IsServed after r.served after) (sym holding) (here.0, refl);
        numbered = f.numbered;
        counts = f.counts;
      })
      (λ j u other there. let g = r.each j u there in let none_made = fresh.1 j u other there in
      record {
        based = g.based;
        own = grows_by u.own.numbers u.own.seen r.log extra after whole none_made.0 g.own;
        told = grows_by u.told.numbers u.told.seen r.log extra after whole none_made.1 g.told;
        inside = elsewhere org sty o built seats r.log after u.own.seen r.served r.served u.turn
            (others_none org sty o built seats s r id j v u r.served me mine other there) g.inside;
        numbered = g.numbered;
        counts = g.counts;
      })

  one_fresh : (s : State (Option T) V) (r : R s) (id : ℕ) (v : V) (number : ℕ) (entry : E)
      → get_elem? s.views id ≡ some v → v.own.numbers ≡ number ∷ [] → Fresh s r id v ((number, entry) ∷ [])
  one_fresh s r id v number entry me mine =
      let at : (u : V) → times number (numbers u) ≡ times number u.own.numbers + times number u.told.numbers =
      λ u. times-append number u.own.numbers u.told.numbers in
      let own : times number v.own.numbers ≡ 1 = ap (times number) mine ∙ times-here number in
      let here = term_le (λ (x : V). times number (numbers x)) s.views id v me in
      let known = within-is 1 r.next number (omega (arith, here, at v, own, r.once number)) in (
        omega (arith, here, at v, own, r.once number, within_le 1 r.next number),
        (λ j u other there.
            let both = terms_le (λ (x : V). times number (numbers x)) s.views id j v u other me there in (
              omega (arith, both, at v, at u, own, r.once number, within_le 1 r.next number),
              omega (arith, both, at v, at u, own, r.once number, within_le 1 r.next number),
            )),
        (λ n h. dite (ℕ_discrete number n)
            (λ same. (subst (λ (x : ℕ). 1 ≤ x) same known.0, subst (λ (x : ℕ). x < r.next) same known.1))
            (λ other. absurd (omega (arith, h, times-else number n other)))),
      )

  -- the value that a seat carries
  abbrev carried_or : T → List (ℕ × Option T) → T
  carried_or d [] = d
  carried_or d (x ∷ xs) = unwrap_or x.1 d

  pub raises : (n id : ℕ) (m : M) (t : ℕ) (value : T) (k : ℕ) → m.0.turn ≡ Holding t → m.1 ≡ (0, Some value) ∷ []
      → length (sty value) < 2 ^ 64 → AddsOne m.0 (sty value) k
      → Allows R n id m 2 (λ x. (x + k) % 2 ^ 64) (raised sty (step n 2 k 0 none) m)
  raises n id m t value k holding carries small adds s r wide me _ =
      let v = m.0 in (
        saw (sty value) v,
        keeps,
        tt,
        ⊎_elim (λ none_more. raise_by s r id v t k (sty value) [] me holding (none_more.1 ∙ sym (append-nil v.own.seen))
            (sym none_more.0) small (refl, (λ j u _ _. (refl, refl)), λ n' h. absurd (omega arith)))
            (λ one_more. raise_by s r id v t k (sty value) ((one_more.0, one_more.1) ∷ []) me holding one_more.4
            (sym one_more.2) small (one_fresh s r id v one_more.0 one_more.1 me one_more.3))
            adds,
        λ value' more e. let same : value ≡ value' = ap (carried_or value) (sym carries ∙ e) in
            λ i. (saw (sty (same i)) v, m.1),
      )

  returns_at : (n id : ℕ) (v : V) (t : ℕ) (value : T) → v.turn ≡ Holding t → sty value ≡ v.own.seen → org value ≡ o
      → let m : M = (v, (0, Some value) ∷ []) in Allows R n id m 2 (λ x. x) (returned (step n 2 0 0 none) m)
  returns_at n id v t value holding list origin s r wide me _ =
      let f = r.each id v me in let w : V = turned (Inside t) v in
      let here = subst (IsServed r.log r.served v.own.seen) holding f.inside in
      let away = is_away s r id v t me holding in
      let slots : set s.homes 0 (some (Some value)) ≡ some (Some value) ∷ [] =
      ap (λ (hs : List (maybe.Option (Option T))). set hs 0 (some (Some value))) away.0 in
      let held = total-set (λ (x : V). holds x.turn) s.views id v w me in (
        w,
        gives,
        tt,
        moved org sty o built seats s r id v w (set s.words 2 (get_or s.words 2 0))
            (set s.homes 0 (some (Some value))) r.log r.added r.drawn r.served r.flags me
            (set-get_or s.words 2 0 ∙ r.words_are) r.all_flags
            (flags_stay org sty o built seats s r id v w me (omega (arith, ap (parks r.served) holding))
            (omega (arith, ap (wakes r.served) holding)))
            (omega (arith, ap has_ticket holding)) (λ k. omega (arith, ap (has k) holding))
            (inl (value, slots, list ∙ here.1, origin, omega (arith, held, away.1, ap holds holding)))
            r.begins r.numbered refl refl
            (fits_turned org sty o built seats r.log r.served r.next v (Inside t) here
            (omega (arith, ap has_ticket holding, f.numbered)) f) (λ j u _ there. r.each j u there),
        λ t' e k. (turned (Inside (ap ticket (sym holding ∙ e) k)) v, []),
      )

  pub returns_value : (n id : ℕ) (m : M) (t : ℕ) (value : T) → m.0.turn ≡ Holding t → m.1 ≡ (0, Some value) ∷ []
      → sty value ≡ m.0.own.seen → org value ≡ o
      → Allows R n id m 2 (λ x. x) (returned (step n 2 0 0 none) m)
  returns_value n id m t value holding carries list origin =
      let e : m ≡ (m.0, (0, Some value) ∷ []) = λ k. (m.0, carries k) in
      subst (λ (x : M). Allows R n id x 2 (λ y. y) (returned (step n 2 0 0 none) x)) (sym e)
      (returns_at n id m.0 t value holding list origin)
