-- Drawing a ticket, loading what is served, and raising it.
use Rattle.std.proofs.Common.{◌≡◌, ℕ, ◌+◌, ◌%◌, ◌^◌, ◌<◌, List, ◌∷◌, length, set, get_or, sym, ap, ◌∙◌, refl, subst, arith, Option}
use mathlib.Core.Logic.{dite}
use native.Mathlib.Decide.{ℕ_discrete}
use mathlib.Core.Option.{some, none}
use lib.ListN.{get_elem?}
use lib.Seq.{set-get_or}
use Rattle.atomic_table.specs.Table.{State, Me, step, keeps, Allows}
use Rattle.atomic_table.proofs.Lists.{set_again, one_turn}
use Rattle.sm_lock.specs.declared.view.QueuePlace.{QueuePlace}
use Rattle.sm_lock.specs.declared.view.QueuePlace.TheVariants.{Out, Waiting, Inside, Waking}
use Rattle.sm_lock.specs.declared.view.View.{View}
use Rattle.sm_lock.specs.View.{has_ticket, has, holds, wakes, ticket, turned, saw}
use Rattle.sm_lock.specs.Rule.{IsServed}
use Rattle.sm_lock.specs.Told.{drew, looked, served}
use Rattle.sm_lock.proofs.Sums.{total-set, if_same, within-more, within-less}
use Rattle.sm_lock.proofs.Stories.{grows-same}
use Rattle.sm_lock.proofs.Moved.{Rule, state, slot_stays, flags_stay, moved, fits_turned, in_line, others_none, few_tickets, elsewhere}

module _ {T O E : Type 0} (org : T → O) (sty : T → List (ℕ × E)) (o : O) (built : List (ℕ × E)) (seats : ℕ) where
  abbrev V : Type 0
  V = View O E

  abbrev M : Type 0
  M = Me (Option T) V

  abbrev R : State (Option T) V → Type 0
  R = Rule org sty o built seats

  pub draws : (n id : ℕ) (m : M) → m.0.turn ≡ Out → 0 < length m.0.own.numbers
      → Allows R n id m 0 (λ x. (x + 1) % 2 ^ 64) (drew (step n 0 1 0 none) m)
  draws n id m out has_number s r wide me _ =
      let v = m.0 in let w : V = turned (Waiting r.drawn) v in let f = r.each id v me in
      let words : set s.words 0 ((get_or s.words 0 0 + 1) % 2 ^ 64) ≡ ((r.drawn + 1) % 2 ^ 64) ∷ (r.served % 2 ^ 64)
      ∷ length r.log ∷ r.flags =
      ap (λ (ws : List ℕ). set ws 0 ((get_or ws 0 0 + 1) % 2 ^ 64)) r.words_are
      ∙ (let e : (r.drawn % 2 ^ 64 + 1) % 2 ^ 64 ≡ (r.drawn + 1) % 2 ^ 64 = omega arith in
      ap (λ (x : ℕ). x ∷ (r.served % 2 ^ 64) ∷ length r.log ∷ r.flags) e) in (
        w,
        keeps,
        tt,
        moved org sty o built seats s r id v w (set s.words 0 ((get_or s.words 0 0 + 1) % 2 ^ 64)) s.homes r.log r.added
            (r.drawn + 1) r.served r.flags me words r.all_flags
            (flags_stay org sty o built seats s r id v w me (omega arith) (omega (arith, ap (wakes r.served) out)))
            (omega (arith, ap has_ticket out))
            (λ t. omega (arith, ap (has t) out, within-more r.served r.drawn t (omega (arith, r.queue))))
            (slot_stays org sty o built seats s r (set s.words 0 ((get_or s.words 0 0 + 1) % 2 ^ 64)) id v w me
            (ap holds (sym out)))
            r.begins r.numbered refl refl
            (fits_turned org sty o built seats r.log r.served r.next v (Waiting r.drawn) tt has_number f)
            (λ j u _ there. r.each j u there),
        (r.drawn, ap (λ (ws : List ℕ). get_or ws 0 0) r.words_are, refl),
      )

  -- a load after which nothing has changed
  pub unmoved : (s : State (Option T) V) (r : R s) (i id : ℕ) (v : V) → get_elem? s.views id ≡ some v
      → R (state org sty o built seats (set s.words i (get_or s.words i 0)) s.homes (set s.views id v))
  unmoved s r i id v me = subst (λ (z : List ℕ × List V). R (state org sty o built seats z.0 s.homes z.1))
      (λ k. (sym (set-get_or s.words i 0) k, sym (set_again s.views id v me) k)) r

  -- the ticket of which the word shows that it is served
  pub is_served : (s : State (Option T) V) (r : R s) (id : ℕ) (v : V) (t : ℕ) → get_elem? s.views id ≡ some v
      → has t v.turn ≡ 1 → seats < 2 ^ 64 → get_or s.words 1 0 ≡ t % 2 ^ 64 → r.served ≡ t
  is_served s r id v t me mine few hit =
      let found : get_or s.words 1 0 ≡ r.served % 2 ^ 64 = ap (λ (ws : List ℕ). get_or ws 1 0) r.words_are in
      let line = in_line org sty o built seats s r id v t me mine in
      one_turn r.served t 18446744073709551616 line.0
      (omega (arith, line.1, few_tickets org sty o built seats s r)) (sym found ∙ hit)

  -- who waits and sees its ticket served is inside
  pub lets_in : (s : State (Option T) V) (r : R s) (id : ℕ) (v : V) (t : ℕ) → get_elem? s.views id ≡ some v
      → has_ticket v.turn ≡ 1 → ((k : ℕ) → has k v.turn ≡ has k (Inside t)) → holds v.turn ≡ 0
      → wakes r.served v.turn ≡ 0 → r.served ≡ t
      → R (state org sty o built seats (set s.words 1 (get_or s.words 1 0)) s.homes
      (set s.views id (turned (Inside t) (saw r.log v))))
  lets_in s r id v t me one mine none_held none_woken now =
      let f = r.each id v me in let w : V = turned (Inside t) (saw r.log v) in
      moved org sty o built seats s r id v w (set s.words 1 (get_or s.words 1 0)) s.homes r.log r.added r.drawn
      r.served r.flags me (set-get_or s.words 1 0 ∙ r.words_are) r.all_flags
      (flags_stay org sty o built seats s r id v w me (omega arith) (omega (arith, none_woken)))
      (omega (arith, one)) (λ k. omega (arith, mine k))
      (slot_stays org sty o built seats s r (set s.words 1 (get_or s.words 1 0)) id v w me (sym none_held))
      r.begins r.numbered refl refl
      (record {
        based = f.based;
        own = grows-same v.own.numbers r.log;
        told = f.told;
        inside = (sym now, refl);
        numbered = omega (arith, one, f.numbered);
        counts = f.counts;
      })
      (λ j u _ there. r.each j u there)

  pub looks : (n id : ℕ) (m : M) (t : ℕ) → m.0.turn ≡ Waiting t → seats < 2 ^ 64
      → Allows R n id m 1 (λ x. x) (looked (step n 1 0 0 none) m)
  looks n id m t waits few s r wide me _ =
      let v = m.0 in
      let same_ticket : (t' : ℕ) → v.turn ≡ Waiting t' → t % 2 ^ 64 ≡ t' % 2 ^ 64 =
      λ t' e. ap (λ (x : QueuePlace). ticket x % 2 ^ 64) (sym waits ∙ e) in
      dite (ℕ_discrete (get_or s.words 1 0) (t % 2 ^ 64))
      (λ hit.
      let now = is_served s r id v t me (ap (has t) waits ∙ if_same t t refl) few hit in (
        turned (Inside t) (saw r.log v),
        keeps,
        tt,
        lets_in s r id v t me (ap has_ticket waits) (λ k. ap (has k) waits) (ap holds waits)
            (ap (wakes r.served) waits) now,
        λ t' e. (
          (λ _. (r.log, (r.each id v me).own, λ k. (turned (Inside (ap ticket (sym waits ∙ e) k)) (saw r.log v), m.1))),
          λ miss. absurd (miss (hit ∙ same_ticket t' e)),
        ),
      ))
      (λ miss. (
        v,
        keeps,
        tt,
        unmoved s r 1 id v me,
        λ t' e.
            ((λ hit. absurd (miss (hit ∙ sym (same_ticket t' e)))), λ _. refl),
      ))

  pub serves : (n id : ℕ) (m : M) (t : ℕ) → m.0.turn ≡ Inside t
      → Allows R n id m 1 (λ x. (x + 1) % 2 ^ 64) (served (step n 1 1 0 none) m)
  serves n id m t inside s r wide me _ =
      let v = m.0 in let f = r.each id v me in let w : V = turned (Waking (r.served + 1)) v in
      let now : t ≡ r.served = (subst (IsServed r.log r.served v.own.seen) inside f.inside).0 in
      let turn : v.turn ≡ Inside r.served = inside ∙ ap Inside now in
      let mine : has r.served v.turn ≡ 1 = ap (has r.served) turn ∙ if_same r.served r.served refl in
      let line = in_line org sty o built seats s r id v r.served me mine in
      let words : set s.words 1 ((get_or s.words 1 0 + 1) % 2 ^ 64) ≡ (r.drawn % 2 ^ 64) ∷ ((r.served + 1) % 2 ^ 64)
      ∷ length r.log ∷ r.flags =
      ap (λ (ws : List ℕ). set ws 1 ((get_or ws 1 0 + 1) % 2 ^ 64)) r.words_are
      ∙ (let e : (r.served % 2 ^ 64 + 1) % 2 ^ 64 ≡ (r.served + 1) % 2 ^ 64 = omega arith in
      ap (λ (x : ℕ). (r.drawn % 2 ^ 64) ∷ x ∷ length r.log ∷ r.flags) e) in (
        w,
        keeps,
        tt,
        moved org sty o built seats s r id v w (set s.words 1 ((get_or s.words 1 0 + 1) % 2 ^ 64)) s.homes r.log r.added
            r.drawn (r.served + 1) r.flags me words r.all_flags
            (λ _ _. omega (
              arith,
              total-set (λ (x : V). wakes (r.served + 1) x.turn) s.views id v w me,
              ap (wakes (r.served + 1)) turn,
              if_same (r.served + 1) (r.served + 1) refl,
            ))
            (omega (arith, ap has_ticket turn))
            (λ k. omega (arith, ap (has k) turn, within-less r.served r.drawn k line.1))
            (slot_stays org sty o built seats s r (set s.words 1 ((get_or s.words 1 0 + 1) % 2 ^ 64)) id v w me
            (ap holds (sym turn)))
            r.begins r.numbered refl refl
            (record {
              based = f.based;
              own = f.own;
              told = f.told;
              inside = tt;
              numbered = omega arith;
              counts =
                  f.counts;
            })
            (λ j u other there. let g = r.each j u there in
            record {
              based = g.based;
              own = g.own;
              told = g.told;
              numbered = g.numbered;
              counts = g.counts;
              inside = elsewhere org sty o built seats r.log r.log u.own.seen r.served (r.served + 1) u.turn
                  (others_none org sty o built seats s r id j v u r.served me mine other there) g.inside;
            }),
        λ t' e. let same : t' ≡ r.served = ap ticket (sym e ∙ turn) in (
          ap (λ (ws : List ℕ). get_or ws 1 0) r.words_are ∙ ap (λ (x : ℕ). x % 2 ^ 64) (sym same),
          λ k. (turned (Waking (sym same k + 1)) v, m.1),
        ),
      )
