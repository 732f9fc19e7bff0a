-- Building, splitting and joining seats, and what the last state shows.
use Rattle.std.proofs.Common.{◌≡◌, ℕ, ◌+◌, ◌<◌, ◌≤◌, ◌≢◌, ◌⊎◌, List, [], ◌∷◌, ◌++◌, length, set, get_or, sym, ap, ◌∙◌, refl, subst, inl, inr, ⊎_elim, arith, Option, Some, cond, length-append, ltb, lt-ltb}
use mathlib.Core.Logic.{dite}
use mathlib.Core.List.{append-nil}
use native.Mathlib.Decide.{ℕ_discrete, dec_lt}
use mathlib.Core.Option.{some, none, some-injective, some-ne-none}
use mathlib.Core.Option as maybe
use lib.ListN.{get_elem?}
use lib.Seq.{set-get_or}
use Rattle.atomic_table.specs.Table.{State, Me, step, keeps, Allows, Splits, Joins, opening, Final, Seen}
use Rattle.atomic_table.proofs.Lists.{at_snoc, set_again, set_else}
use Rattle.sm_lock.specs.declared.view.QueuePlace.{QueuePlace}
use Rattle.sm_lock.specs.declared.view.QueuePlace.TheVariants.{Out, Waiting, Flagged, Parked, Inside, Holding, Waking, Rousing}
use Rattle.sm_lock.specs.declared.view.View.{View}
use Rattle.sm_lock.specs.declared.view.Known.{Known}
use Rattle.sm_lock.specs.Story.{times, made_by, Grows}
use Rattle.sm_lock.specs.View.{has_ticket, has, holds, parks, wakes, nothing, numbers, first_view, spent, counted_up, newcomer, noted, beside, merged}
use Rattle.sm_lock.specs.Rule.{total, Fits, IsServed, IsHome, IsAway, AreFlags}
use Rattle.sm_lock.specs.Told.{took_in}
use Rattle.sm_lock.proofs.Sums.{total-append, total-set, terms_le, some_term, times-append, times-length, within-in, within-more, within-after}
use Rattle.sm_lock.proofs.Stories.{grows-nil, grows-none, joins}
use Rattle.sm_lock.proofs.Moved.{Rule, state, slot_stays, flags_stay, moved, each_set}

module _ {T O E : Type 0} (org : T → O) (sty : T → List (ℕ × E)) (o : O) (built : List (ℕ × E)) (seats : ℕ) where
  abbrev V : Type 0
  V = View O E

  abbrev M : Type 0
  M = Me (Option T) V

  abbrev R : State (Option T) V → Type 0
  R = Rule org sty o built seats

  -- the table at the start
  pub opens : (words flags : List ℕ) (value : T) → words ≡ 0 ∷ 0 ∷ length built ∷ flags → AreFlags flags
      → sty value ≡ built → org value ≡ o
      → R (opening words (Some value ∷ []) (first_view o built))
  opens words flags value words_are all_flags list origin = record {
    log = built;
    added = [];
    drawn = 0;
    served = 0;
    next = 1;
    flags = flags;
    words_are = words_are;
    all_flags = all_flags;
    none_sleeps_on = λ parked _. absurd (omega (arith, parked));
    queue = refl;
    tickets = λ t. sym (within-after 0 0 t (omega arith));
    slot = inl (value, refl, list, origin, refl);
    begins = sym (append-nil built);
    numbered = λ n h. absurd (omega arith);
    given = refl;
    once = λ n. sym (dite (dec_lt n 1) (λ a. ap (λ t. cond t 0 (cond (ltb n 1) 1 0)) (lt-ltb n 1 a))
        (λ a. within-after 1 1 n (omega arith)));
    many = refl;
    few = omega arith;
    each = λ j v e. ⊎_elim (λ (x : get_elem? [] j ≡ some v). absurd (some-ne-none v (sym x)))
        (λ (same : first_view o built ≡ v). subst (Fits o built built 0 1) same
        (record {
          based = inr (refl, refl);
          own = grows-nil built;
          told = grows-nil built;
          inside = tt;
          numbered =
              omega arith;
          counts = inr refl;
        }))
        (at_snoc [] (first_view o built) v j e);
  }

  -- one more view, which stands in no queue and has no value
  slot_more : (s : State (Option T) V) (r : R s) (views : List V)
      → total (λ (x : V). holds x.turn) views ≡ total (λ (x : V). holds x.turn) s.views
      → (IsHome org sty o r.log (state org sty o built seats s.words s.homes views)
      ⊎ IsAway (state org sty o built seats s.words s.homes views))
  slot_more s r views same = ⊎_elim (λ home. inl (home.0, home.1, home.2, home.3, same ∙ home.4))
      (λ away. inr (away.0, same ∙ away.1)) r.slot

  -- a note has a copy of the list, and no number
  pub copies : (id : ℕ) (v : V) → Splits R id v v (noted v)
  copies id v s r me =
      let f = r.each id v me in
      let same = set_again s.views id v me in
      let sum : (g : V → ℕ) → g (noted v) ≡ 0 → total g (set s.views id v ++ noted v ∷ []) ≡ total g s.views =
      λ g none_more. omega (arith, total-append g (set s.views id v) (noted v ∷ []), ap (total g) same, none_more) in
      record {
        log = r.log;
        added = r.added;
        drawn = r.drawn;
        served = r.served;
        next = r.next;
        flags = r.flags;
        words_are = r.words_are;
        all_flags = r.all_flags;
        none_sleeps_on = λ parked up.
            let waking = r.none_sleeps_on (omega (arith, parked, sum (λ x. parks r.served x.turn) refl)) up in
            omega (arith, waking, sum (λ x. wakes r.served x.turn) refl);
        queue = r.queue ∙ ap (λ (x : ℕ). r.served + x) (sym (sum (λ x. has_ticket x.turn) refl));
        tickets = λ t. sum (λ x. has t x.turn) refl ∙ r.tickets t;
        slot = slot_more s r (set s.views id v ++ noted v ∷ []) (sum (λ x. holds x.turn) refl);
        begins = r.begins;
        numbered = r.numbered;
        given = sum (λ x. x.given) refl ∙ r.given;
        once = λ n. sum (λ x. times n (numbers x)) refl ∙ r.once n;
        many = omega (arith, sum (λ x. length (numbers x)) refl, r.many);
        few = r.few;
        each = λ j u e. ⊎_elim (λ (x : get_elem? (set s.views id v) j ≡ some u).
            r.each j u (subst (λ (l : List V). get_elem? l j ≡ some u) same x))
            (λ (is : noted v ≡ u). subst (Fits o built r.log r.served r.next) is
            (record {
              based = f.based;
              own = grows-none v.own.seen r.log v.own.numbers f.own;
              told =
                  grows-nil r.log;
              inside = tt;
              numbered = omega arith;
              counts = inl refl;
            }))
            (at_snoc (set s.views id v) (noted v) u j e);
      }

  -- the builder gives its next number
  pub numbers_next : (id : ℕ) (v : V) → 1 ≤ v.given → v.given ≤ seats → v.origin ≡ Some o → v.built ≡ built
      → Splits R id v (counted_up v) (newcomer v)
  numbers_next id v some_given not_all has_origin has_built s r me =
      let f = r.each id v me in
      let next : v.given ≡ r.next = ⊎_elim (λ p. absurd (omega (arith, p))) (λ p. p) f.counts in
      let left : V = counted_up v in let right : V = newcomer v in
      let views : List V = set s.views id left ++ right ∷ [] in
      let sum : (g : V → ℕ) → total g views + g v ≡ total g s.views + g left + g right =
      λ g. omega (arith, total-append g (set s.views id left) (right ∷ []), total-set g s.views id v left me) in
      let later : (u : V) → Fits o built r.log r.served r.next u → u.given ≡ 0
      → Fits o built r.log r.served (r.next + 1) u =
      λ u g none_given. record {
        based = g.based;
        own = g.own;
        told = g.told;
        inside = g.inside;
        numbered =
            g.numbered;
        counts = inl none_given;
      } in
      record {
        log = r.log;
        added = r.added;
        drawn = r.drawn;
        served = r.served;
        next = r.next + 1;
        flags = r.flags;
        words_are = r.words_are;
        all_flags = r.all_flags;
        none_sleeps_on = λ parked up.
            let waking = r.none_sleeps_on (omega (arith, parked, sum (λ x. parks r.served x.turn))) up in
            omega (arith, waking, sum (λ x. wakes r.served x.turn));
        queue = omega (arith, r.queue, sum (λ x. has_ticket x.turn));
        tickets = λ t. omega (arith, sum (λ x. has t x.turn), r.tickets t);
        slot = slot_more s r views (omega (arith, sum (λ x. holds x.turn)));
        begins = r.begins;
        numbered = λ n h. let before = r.numbered n h in (before.0, omega (arith, before.1));
        given = omega (arith, sum (λ x. x.given), r.given);
        once = λ n. omega (
          arith,
          sum (λ x. times n (numbers x)),
          r.once n,
          within-more 1 r.next n
              (omega (arith, next)),
          ap (λ (k : ℕ). times n (k ∷ [])) next,
        );
        many = omega (arith, sum (λ x. length (numbers x)), r.many);
        few = omega (arith, next);
        each = λ j u e. ⊎_elim
            (λ (x : get_elem? (set s.views id left) j ≡ some u).
            each_set org sty o built seats (Fits o built r.log r.served (r.next + 1)) s.views id left
            (record {
              based = f.based;
              own = f.own;
              told = f.told;
              inside = f.inside;
              numbered = f.numbered;
              counts =
                  inr (omega (arith, next));
            })
            (λ k w other there. later w (r.each k w there)
            (omega (arith, next, r.given, terms_le (λ (x : V). x.given) s.views id k v w other me there)))
            j u x)
            (λ (is : right ≡ u). subst (Fits o built r.log r.served (r.next + 1)) is
            (record {
              based = inr (has_origin, has_built);
              own = subst (λ (l : List (ℕ × E)). Grows (v.given ∷ []) l r.log) (sym has_built) (
                r.added,
                r.begins,
                dite (dec_lt 0 (made_by (v.given ∷ []) r.added))
                    (λ h. absurd (omega (arith, next, (r.numbered v.given h).1))) (λ h. omega arith),
              );
              told = grows-nil r.log;
              inside = tt;
              numbered = omega arith;
              counts = inl refl;
            }))
            (at_snoc (set s.views id left) right u j e);
      }

  -- what another seat knew is put beside what the seat knows, and the other is spent
  pub joins_seats : (id : ℕ) (v : V) (other : ℕ) (w : V) → v.told ≡ nothing → w.told ≡ nothing → w.turn ≡ Out
      → w.given ≡ 0 → Joins R id v other w (beside v w) spent
  joins_seats id v other w plain theirs_plain out none_given s r me apart them =
      let both : V = beside v w in let vs : List V = set s.views id both in
      let there : get_elem? s.views other ≡ some w = sym (set_else s.views id other both apart) ∙ them in
      let f = r.each id v me in let g = r.each other w there in
      let sum : (h : V → ℕ) → total h (set vs other spent) + h w + h v ≡ total h s.views + h both + h spent =
      λ h. omega (arith, total-set h s.views id v both me, total-set h vs other w spent them) in
      record {
        log = r.log;
        added = r.added;
        drawn = r.drawn;
        served = r.served;
        next = r.next;
        flags = r.flags;
        words_are = r.words_are;
        all_flags = r.all_flags;
        none_sleeps_on = λ parked up.
            let waking = r.none_sleeps_on
            (omega (arith, parked, sum (λ x. parks r.served x.turn), ap (parks r.served) out)) up in
            omega (arith, waking, sum (λ x. wakes r.served x.turn), ap (wakes r.served) out);
        queue = omega (arith, r.queue, sum (λ x. has_ticket x.turn), ap has_ticket out);
        tickets = λ t. omega (arith, r.tickets t, sum (λ x. has t x.turn), ap (has t) out);
        slot = slot_more s r (set vs other spent) (omega (arith, sum (λ x. holds x.turn), ap holds out));
        begins = r.begins;
        numbered = r.numbered;
        given = omega (arith, r.given, sum (λ x. x.given), none_given);
        once = λ n. omega (
          arith,
          r.once n,
          sum (λ x. times n (numbers x)),
          times-append n v.own.numbers w.own.numbers,
          times-append n v.own.numbers v.told.numbers,
          times-append n w.own.numbers w.told.numbers,
          ap (λ (k : Known E). times n k.numbers) plain,
          ap (λ (k : Known E). times n k.numbers) theirs_plain,
        );
        many = omega (
          arith,
          r.many,
          sum (λ x. length (numbers x)),
          length-append v.own.numbers w.own.numbers,
          length-append v.own.numbers v.told.numbers,
          length-append w.own.numbers w.told.numbers,
          ap (λ (k : Known E). length k.numbers) plain,
          ap (λ (k : Known E). length k.numbers) theirs_plain,
        );
        few = r.few;
        each = each_set org sty o built seats (Fits o built r.log r.served r.next) vs other spent
            (record {
              based = inl refl;
              own = grows-nil r.log;
              told = grows-nil r.log;
              inside = tt;
              numbered =
                  omega arith;
              counts = inl refl;
            })
            (λ j u _ at. each_set org sty o built seats (Fits o built r.log r.served r.next) s.views id both
            (record {
              based = f.based;
              own = f.own;
              told = g.own;
              inside = f.inside;
              numbered = f.numbered;
              counts =
                  f.counts;
            })
            (λ k x _ e. r.each k x e) j u at);
      }

  -- what the seat was told is taken in
  pub takes_in : (n id : ℕ) (m : M) → m.0.turn ≡ Out → Allows R n id m 0 (λ x. x) (took_in (step n 0 0 0 none) m)
  takes_in n id m out s r wide me _ =
      let v = m.0 in let w : V = merged v in let f = r.each id v me in
      let j = joins v.own.numbers v.told.numbers v.own.seen v.told.seen r.log f.own f.told in (
        w,
        keeps,
        tt,
        moved org sty o built seats s r id v w (set s.words 0 (get_or s.words 0 0)) s.homes r.log r.added r.drawn
            r.served r.flags me (set-get_or s.words 0 0 ∙ r.words_are) r.all_flags
            (flags_stay org sty o built seats s r id v w me (omega arith) (omega arith))
            refl (λ _. refl) (slot_stays org sty o built seats s r (set s.words 0 (get_or s.words 0 0)) id v w me refl)
            r.begins r.numbered refl (append-nil (numbers v))
            (record {
              based = f.based;
              own = j.2;
              told = grows-nil r.log;
              inside =
                  subst (IsServed r.log r.served w.own.seen) (sym out) tt;
              numbered =
                  omega (arith, ap has_ticket out);
              counts = f.counts;
            })
            (λ k u _ there. r.each k u there),
        (refl, j.0, j.1),
      )

  holds-ticket : (turn : QueuePlace) → holds turn ≤ has_ticket turn
  holds-ticket Out = omega arith
  holds-ticket (Waiting t) = omega arith
  holds-ticket (Flagged t) = omega arith
  holds-ticket (Parked t) = omega arith
  holds-ticket (Inside t) = omega arith
  holds-ticket (Holding t) = omega arith
  holds-ticket (Waking t) = omega arith
  holds-ticket (Rousing t) = omega arith

  -- what the last state shows to a seat that has all numbers
  pub closes : (id : ℕ) (v : V) (ws : List ℕ) (xs : List (Option T)) → v.turn ≡ Out → v.told ≡ nothing
      → seats ≤ length v.own.numbers → Final (Seen R id v) ws xs
      → (value : T) × (get_elem? xs 0 ≡ some (Some value)) × (org value ≡ o)
      × Grows v.own.numbers v.own.seen (sty value)
      × ((added : List (ℕ × E)) × (sty value ≡ built ++ added)
      × ((n : ℕ) → 0 < made_by (n ∷ []) added → 0 < times n v.own.numbers))
  closes id v ws xs out plain all_numbers final =
      let s = final.0 in let r = final.1.0 in let me = final.1.1 in
      let nobody : (j : ℕ) (u : V) → j ≢ id → get_elem? s.views j ≡ some u → length (numbers u) ≡ 0 =
      λ j u other there. omega (
        arith,
        all_numbers,
        r.many,
        r.few,
        length-append v.own.numbers v.told.numbers,
        terms_le
            (λ (x : V). length (numbers x)) s.views id j v u other me there,
      ) in
      let mine : (u : V) → get_elem? s.views id ≡ some u → v ≡ u = λ u e. some-injective v u (sym me ∙ e) in
      let home : IsHome org sty o r.log s = ⊎_elim (λ h. h) (λ away.
      let other = some_term (λ (x : V). holds x.turn) s.views (omega (arith, away.1)) in let u = other.1 in
      dite (ℕ_discrete other.0 id)
      (λ same. absurd
      (omega (
        arith,
        other.3,
        ap holds out,
        ap (λ (x : V). holds x.turn)
            (mine u (subst (λ (j : ℕ). get_elem? s.views j ≡ some u) same other.2)),
      )))
      (λ apart. absurd
      (omega (
        arith,
        other.3,
        holds-ticket u.turn,
        (r.each other.0 u other.2).numbered,
        length-append u.own.numbers
            u.told.numbers,
        nobody other.0 u apart other.2,
      )))) r.slot in (
        home.0,
        final.4 0 (Some home.0) (ap (λ (hs : List (maybe.Option (Option T))). get_elem? hs 0) home.1),
        home.3,
        subst (Grows v.own.numbers v.own.seen) (sym home.2) (r.each id v me).own,
        (
          r.added,
          home.2 ∙ r.begins,
          λ n h.
              let known = r.numbered n h in
              let other = some_term (λ (x : V). times n (numbers x)) s.views
              (omega (arith, r.once n, within-in 1 r.next n known.0 known.1)) in let u = other.1 in
              dite (ℕ_discrete other.0 id)
              (λ same. omega (
                arith,
                other.3,
                ap (λ (x : V). times n (numbers x))
                    (mine u (subst (λ (j : ℕ). get_elem? s.views j ≡ some u) same other.2)),
                times-append n v.own.numbers v.told.numbers,
                ap (λ (k : Known E). times n k.numbers) plain,
              ))
              (λ apart. absurd (omega (arith, other.3, times-length n (numbers u), nobody other.0 u apart other.2))),
        ),
      )
