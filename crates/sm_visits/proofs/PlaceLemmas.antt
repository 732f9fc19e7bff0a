-- Each connection that came and was not removed is at its place, and has the bytes that came on it.
use Rattle.std.proofs.Common.{◌≡◌, ◌≢◌, ◌⊎◌, ℕ, zero, suc, ◌+◌, ◌<◌, List, [], ◌∷◌, ◌++◌, length, get_or, set, Option, Some, None, is_some, cond, count_by, refl, ap, sym, ◌∙◌, arith, inl, inr, length-append}
use Rattle.std.proofs.lemmas.Bool.{cases_eq}
use Rattle.std.proofs.lemmas.List.{get_or-set_same, get_or-set_other, get_or_past, get_or_push, get_or_append_left, length-set}
use Rattle.std.proofs.lemmas.List.Sums.{sum_by-set, sum_by-append}
use Rattle.slab.specs.Slab.{get, slab_len, with_value, Updates}
use Rattle.slab.proofs.SlabLemmas.{Updates-set}
use Rattle.sm_visits.specs.Visits.{ArrivalsState, nothing_arrived}
use Rattle.sm_visits.specs.Histories.{History, nothing_happened}
use Rattle.sm_visits.specs.Connections.{Table, if_here, taken_back_at, removed_at}
use Rattle.sm_visits.specs.Places.{Coming, IsAt, EachIsThere, after_coming, after_change, ThereAtFirst, ThereAtPrepare, ThereAtInsert, ThereAtChange, ThereAtTake, ThereAtPutBack, ThereAtRemove, IsTold, BytesAreTold, FoundIsTold, BytesAtInsert, BytesAtChange, BytesAtTake, BytesAtRemove}
use Rattle.sm_visits.proofs.HistoryLemmas.{told_new}

module _ {X : Type 0} where
  within_some : (xs : List (Option X)) (i : ℕ) (y : X) → get_or xs i None ≡ Some y → i < length xs
  within_some xs i y found = grind (arith, get_or_past)

  -- what is found behind a push was there before, or is what was pushed
  found_at_push : (xs : List (Option X)) (x : X) (i : ℕ) (y : X) → get_or (xs ++ Some x ∷ []) i None ≡ Some y
      → (get_or xs i None ≡ Some y) ⊎ ((i ≡ length xs) × (Some x ≡ Some y))
  found_at_push [] x zero y found = inr (refl, found)
  found_at_push [] x (suc i) y found = absurd (cc)
  found_at_push (o ∷ xs) x zero y found = inl found
  found_at_push (o ∷ xs) x (suc i) y found =
      elim (found_at_push xs x i y found) [
        | inl there ↦ inl there
        | inr last ↦ inr (ap suc last.0, last.1)
      ]

  nothing_in : (xs : List (Option X)) (i : ℕ) (y : X) → xs ≡ [] → get_or xs i None ≡ Some y → ⊥
  nothing_in xs i y empty found = omega (
    arith,
    within_some xs i y found,
    ap
        (λ (ys : List (Option X)). length ys) empty,
  )

  some_is_not_none : (o : Option X) (y : X) → o ≡ None → o ≡ Some y → ⊥
  some_is_not_none o y empty found = absurd (cc)

  kept_at_push : (xs : List (Option X)) (x : X) (i : ℕ) (y : X) → get_or xs i None ≡ Some y
      → get_or (xs ++ Some x ∷ []) i None ≡ Some y
  kept_at_push xs x i y found = get_or_append_left xs (Some x ∷ []) None i (within_some xs i y found) ∙ found

  abbrev one : Option X → ℕ
  one o = cond (is_some o) 1 0

  -- a change of one of them changes how many there are by its own
  count_at_set : (xs : List (Option X)) (i : ℕ) (s : Option X) (y : X) → get_or xs i None ≡ Some y
      → count_by is_some (set xs i s) + 1 ≡ count_by is_some xs + one s
  count_at_set xs i s y found =
      let moved = sum_by-set (λ (o : Option X). cond (is_some o) 1 0) xs i s None (within_some xs i y found) in
      rw found at moved

  count_at_push : (xs : List (Option X)) (x : X) → count_by is_some (xs ++ Some x ∷ []) ≡ count_by is_some xs + 1
  count_at_push xs x = sum_by-append (λ (o : Option X). cond (is_some o) 1 0) xs (Some x ∷ [])

module _ {C : Type 0} where
  pub there_first : ThereAtFirst C
  there_first t none = record {
    there = λ number place now at. elim (nothing_in [] number (place, now) refl at) [ ];
    alone = λ number other place now later at again. elim (nothing_in [] number (place, now) refl at) [ ];
    only = λ place now found. elim (nothing_in t.slots place now none found) [ ];
    count = ap (count_by is_some) none;
  }

  pub there_prepare : ThereAtPrepare C
  there_prepare came t room e = record { there = e.there; alone = e.alone; only = e.only; count = e.count }

  -- a free place is none of those that came
  not_free : (came : Coming C) (t : Table C) (place number p : ℕ) (now : Option C) → EachIsThere came t
      → get t place ≡ None → IsAt came number p now → p ≢ place
  not_free came t place number p now e free at same =
      some_is_not_none (get t place) now free (ap (get t) (sym same) ∙ e.there number p now at)

  abbrev entry_of : ℕ → Option C → Option (ℕ × Option C)
  entry_of p now = Some (p, now)

  same_pair : (p q : ℕ) (x y : Option C) → entry_of p x ≡ entry_of q y → (p ≡ q) × (x ≡ y)
  same_pair p q x y same = (ap place_of same, ap now_of same)
    where
      place_of : Option (ℕ × Option C) → ℕ
      place_of None = p
      place_of (Some e) = e.0

      now_of : Option (ℕ × Option C) → Option C
      now_of None = x
      now_of (Some e) = e.1

  pub there_insert : ThereAtInsert C
  there_insert came old new place connection e c = record {
    there = there;
    alone = alone;
    only = only;
    count = c.count ∙ ap (λ n. n + 1) e.count ∙ sym (count_at_push came (place, Some connection));
  }
    where
      cases : (number p : ℕ) (now : Option C) → IsAt (after_coming came place connection) number p now
          → IsAt came number p now ⊎ ((number ≡ length came) × (place ≡ p) × (Some connection ≡ now))
      cases number p now at =
          elim (found_at_push came (place, Some connection) number (p, now) at) [
            | inl was ↦ inl was
            | inr last ↦ let both = same_pair place p (Some connection) now last.1 in inr (last.0, both.0, both.1)
          ]

      there : (number p : ℕ) (now : Option C) → IsAt (after_coming came place connection) number p now
          → get new p ≡ Some now
      there number p now at =
          elim (cases number p now at) [
            | inl was ↦ c.updates.others p (not_free came old place number p now e c.free was) ∙ e.there number
                p now was
            | inr last ↦ ap (get new) (sym last.1) ∙ c.updates.changed ∙ ap Some last.2
          ]

      alone : (number other p : ℕ) (now later : Option C) → IsAt (after_coming came place connection) number p now
          → IsAt (after_coming came place connection) other p later → number ≡ other
      alone number other p now later at again =
          elim (cases number p now at) [
            | inl was ↦ elim (cases other p later again) [
              | inl before ↦ e.alone number other p now later was before
              | inr last ↦ elim (not_free came old place number p now e c.free was (sym last.1)) [ ]
            ]
            | inr first ↦ elim (cases other p later again) [
              | inl before ↦ elim (not_free came old place other p later e c.free before (sym first.1)) [ ]
              | inr last ↦ first.0 ∙ sym last.0
            ]
          ]

      only : (p : ℕ) (now : Option C) → get new p ≡ Some now
          → (number : ℕ) × IsAt (after_coming came place connection) number p now
      only p now found =
          elim (cases_eq p place) [
            | inl same ↦ (
              length came,
              get_or_push came (Some (place, Some connection)) None (length came) refl
                  ∙ here_is same (sym c.updates.changed ∙ ap (get new) (sym same) ∙ found),
            )
            | inr differs ↦
                let before = e.only p now (sym (c.updates.others p differs) ∙ found) in
                (before.0, kept_at_push came (place, Some connection) before.0 (p, now) before.1)
          ]
        where
          here_is : p ≡ place → Some (Some connection) ≡ Some now → entry_of place (Some connection) ≡ entry_of p now
          here_is same now_is = cc

  -- What is at the place of one of them changes, or goes, and its entry says the same.
  stays : (came : Coming C) (old new : Table C) (number place : ℕ) (was : Option C) (slot : Option (Option C))
      (entry : Option (ℕ × Option C)) → EachIsThere came old → IsAt came number place was
      → ((p : ℕ) (x : Option C) → entry ≡ Some (p, x) → (place ≡ p) × (slot ≡ Some x))
      → ((x : Option C) → slot ≡ Some x → entry ≡ Some (place, x)) → one entry ≡ one slot
      → new.slots ≡ set old.slots place slot → EachIsThere (set came number entry) new
  stays came old new number place was slot entry e at reads writes ones written = record {
    there = there;
    alone = alone;
    only = only;
    count = count;
  }
    where
      present : get old place ≡ Some was
      present = e.there number place was at

      updates : Updates old new place slot
      updates = Updates-set old new place slot (within_some old.slots place was present) written

      within : number < length came
      within = within_some came number (place, was) at

      apart : (other p : ℕ) (now : Option C) → other ≢ number → IsAt came other p now → p ≢ place
      apart other p now differs is same = differs (e.alone other number p now was is
          (ap (λ q. get_or came number None) same ∙ at ∙ ap (λ q. Some (q, was)) (sym same)))

      cases : (other p : ℕ) (now : Option C) → IsAt (set came number entry) other p now
          → ((other ≢ number) × IsAt came other p now) ⊎ ((other ≡ number) × (place ≡ p) × (slot ≡ Some now))
      cases other p now is =
          elim (cases_eq other number) [
            | inl same ↦
                let both = reads p now (sym (get_or-set_same came number entry None within)
                ∙ ap (λ k. get_or (set came number entry) k None) (sym same) ∙ is) in
                inr (same, both.0, both.1)
            | inr differs ↦ inl (differs, sym (get_or-set_other came number other entry None differs) ∙ is)
          ]

      there : (other p : ℕ) (now : Option C) → IsAt (set came number entry) other p now → get new p ≡ Some now
      there other p now is =
          elim (cases other p now is) [
            | inl kept ↦ updates.others p (apart other p now kept.0 kept.1) ∙ e.there other p now kept.1
            | inr own ↦ ap (get new) (sym own.1) ∙ updates.changed ∙ own.2
          ]

      alone : (first second p : ℕ) (now later : Option C) → IsAt (set came number entry) first p now
          → IsAt (set came number entry) second p later → first ≡ second
      alone first second p now later is again =
          elim (cases first p now is) [
            | inl kept ↦ elim (cases second p later again) [
              | inl other ↦ e.alone first second p now later kept.1 other.1
              | inr own ↦ elim (apart first p now kept.0 kept.1 (sym own.1)) [ ]
            ]
            | inr own ↦ elim (cases second p later again) [
              | inl other ↦ elim (apart second p later other.0 other.1 (sym own.1)) [ ]
              | inr both ↦ own.0 ∙ sym both.0
            ]
          ]

      only : (p : ℕ) (now : Option C) → get new p ≡ Some now
          → (other : ℕ) × IsAt (set came number entry) other p now
      only p now found =
          elim (cases_eq p place) [
            | inl same ↦ (
              number,
              get_or-set_same came number entry None within
                  ∙ writes now (sym updates.changed ∙ ap (get new) (sym same) ∙ found) ∙ ap (λ q. Some (q, now))
                  (sym same),
            )
            | inr differs ↦
                let before = e.only p now (sym (updates.others p differs) ∙ found) in
                elim (cases_eq before.0 number) [
                  | inl same ↦ elim (differs (same_pair p place now was
                      (sym before.1 ∙ ap (λ k. get_or came k None) same ∙ at)).0) [ ]
                  | inr away ↦ (before.0, get_or-set_other came number before.0 entry None away ∙ before.1)
                ]
          ]

      count : slab_len new ≡ count_by is_some (set came number entry)
      count =
          let mine = count_at_set came number entry (place, was) at in
          let its = count_at_set old.slots place slot was present in
          ap (count_by is_some) written ∙ omega (arith, mine, its, e.count, ones)

  -- it is so now, at its place
  changed : (came : Coming C) (t : Table C) (number place : ℕ) (was now : Option C) → EachIsThere came t
      → IsAt came number place was → EachIsThere (after_change came number place now) (with_value t place now)
  changed came t number place was now e at =
      stays came t (with_value t place now) number place was (Some now) (Some (place, now)) e at
      (λ p x same. let both = same_pair place p now x same in (both.0, ap Some both.1))
      (λ x same. some_is x same) refl refl
    where
      some_is : (x : Option C) → Some now ≡ Some x → entry_of place now ≡ entry_of place x
      some_is x same = cc

  pub there_change : ThereAtChange C
  there_change came t number place was now e at = changed came t number place (Some was) (Some now) e at

  pub there_take : ThereAtTake C
  there_take came t number place was e at = changed came t number place (Some was) None e at

  pub there_back : ThereAtPutBack C
  there_back came t number place now e at =
      rw (ap (λ slot. taken_back_at slot t place now) (e.there number place None at))
      (changed came t number place None (Some now) e at)

  pub there_remove : ThereAtRemove C
  there_remove came t number place e at =
      rw (ap (λ slot. removed_at slot t place) (e.there number place None at))
      (stays came t (record t { slots = set t.slots place None; vacant_key = place }) number place None None None e at
      (λ p x same. absurd (cc)) (λ x same. absurd (cc)) refl refl)

  same_here : (p q : ℕ) (x y : C) → entry_of p (Some x) ≡ entry_of q (Some y) → y ≡ x
  same_here p q x y same = some_same (sym (same_pair p q (Some x) (Some y) same).1)
    where
      some_same : Some y ≡ Some x → y ≡ x
      some_same is = cc

module _ {C : Type 0} (arrivals : C → ArrivalsState) where
  pub found_is_told : FoundIsTold arrivals
  found_is_told bytes came t place connection e b found =
      let there = e.only place (Some connection) (is_here (get t place) found) in
      (there.0, there.1, b.told there.0 place connection there.1)
    where
      is_here : (slot : Option (Option C)) → if_here slot ≡ Some connection → slot ≡ Some (Some connection)
      is_here None is = absurd (cc)
      is_here (Some now) is = ap Some is

  pub bytes_insert : BytesAtInsert arrivals
  bytes_insert bytes came place connection empty b = record {
    as_many = length-append bytes (nothing_happened ∷ []) ∙ ap (λ n. n + 1) b.as_many
        ∙ sym (length-append came (Some (place, Some connection) ∷ []));
    told = told;
  }
    where
      told : (number p : ℕ) (x : C) → IsAt (after_coming came place connection) number p (Some x)
          → IsTold (get_or (bytes ++ nothing_happened ∷ []) number nothing_happened) (arrivals x)
      told number p x at =
          elim (found_at_push came (place, Some connection) number (p, Some x) at) [
            | inl was ↦
                let within = within_some came number (p, Some x) was in
                rw (get_or_append_left bytes (nothing_happened ∷ []) nothing_happened number
                (omega (arith, within, b.as_many)))
                (b.told number p x was)
            | inr last ↦
                rw (get_or_push bytes nothing_happened nothing_happened number (b.as_many ∙ sym last.0))
                (inl (rw (fresh last.1) told_new))
          ]
        where
          fresh : entry_of place (Some connection) ≡ entry_of p (Some x) → arrivals x ≡ nothing_arrived
          fresh same = ap arrivals (same_here place p connection x same) ∙ empty

  pub bytes_change : BytesAtChange arrivals
  bytes_change bytes came number place was now past at is b = record {
    as_many = length-set bytes number past ∙ b.as_many ∙ sym (length-set came number (Some (place, Some now)));
    told = told;
  }
    where
      within : number < length came
      within = within_some came number (place, was) at

      told : (other p : ℕ) (x : C) → IsAt (after_change came number place (Some now)) other p (Some x)
          → IsTold (get_or (set bytes number past) other nothing_happened) (arrivals x)
      told other p x found =
          elim (cases_eq other number) [
            | inl same ↦
                let own = same_here place p now x (sym (get_or-set_same came number (Some (place, Some now))
                None within)
                ∙ sym (ap (λ k. get_or (after_change came number place (Some now)) k None) same) ∙ found) in
                rw (same, get_or-set_same bytes number past nothing_happened (omega (arith, within, b.as_many)), own) is
            | inr differs ↦
                rw (get_or-set_other bytes number other past nothing_happened differs)
                (b.told other p x (sym (get_or-set_other came number other (Some (place, Some now)) None
                differs) ∙ found))
          ]

  -- an entry that is not here says nothing of bytes
  bytes_away : (bytes : List History) (came : Coming C) (number : ℕ) (entry : Option (ℕ × Option C))
      → ((p : ℕ) (x : C) → entry ≡ Some (p, Some x) → ⊥) → BytesAreTold arrivals bytes came
      → BytesAreTold arrivals bytes (set came number entry)
  bytes_away bytes came number entry away b = record {
    as_many = b.as_many ∙ sym (length-set came number entry);
    told = told;
  }
    where
      told : (other p : ℕ) (x : C) → IsAt (set came number entry) other p (Some x)
          → IsTold (get_or bytes other nothing_happened) (arrivals x)
      told other p x found =
          elim (cases_eq other number) [
            | inl same ↦ elim (away p x (sym (get_or-set_same came number entry None
                (within_set same (within_some (set came number entry) other (p, Some x) found)))
                ∙ ap (λ k. get_or (set came number entry) k None) (sym same) ∙ found)) [ ]
            | inr differs ↦ b.told other p x (sym (get_or-set_other came number other entry None differs) ∙ found)
          ]
        where
          within_set : other ≡ number → other < length (set came number entry) → number < length came
          within_set same within = omega (arith, same, within, length-set came number entry)

  pub bytes_take : BytesAtTake arrivals
  bytes_take bytes came number place b =
      bytes_away bytes came number (Some (place, None))
      (λ p x same. some_is_not_none (Some x) x (sym (same_pair place p None (Some x) same).1) refl) b

  pub bytes_remove : BytesAtRemove arrivals
  bytes_remove bytes came number b =
      bytes_away bytes came number None (λ p x same. some_is_not_none None (p, Some x) refl same) b
