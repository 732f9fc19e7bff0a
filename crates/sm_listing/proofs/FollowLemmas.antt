-- Following the tokens from the start shows each that is listed, once and in order.
use Rattle.std.proofs.Common.{◌≡◌, ℕ, zero, suc, ◌+◌, ◌-◌, ◌<◌, ◌≤◌, ◌^◌, min, Bool, true, false, ◌&&◌, ◌||◌, cond, ltb, List, [], ◌∷◌, ◌++◌, length, map, get_or, reverse, take, drop, Option, None, Some, Result, Ok, Err, IsTrue, is_some, refl, sym, ap, ◌∙◌, subst, arith}
use Rattle.std.specs.List.{filter}
use Rattle.std.proofs.lemmas.Bool.{ltb-true, ltb-false, lt-ltb, le-ltb}
use Rattle.std.proofs.lemmas.List.{append-nil, append_assoc, length-drop, map-append, reverse-append, take-append-drop, take_all}
use Rattle.sm_listing.specs.declared.asks.Listed.{Listed}
use Rattle.sm_listing.specs.declared.asks.PageRefused.{PageRefused}
use Rattle.sm_listing.specs.declared.asks.PageRefused.TheVariants.{BadFilter}
use Rattle.sm_listing.specs.Following.{Follow, all_shown, EachAbove, Rise, AreSerials}
use Rattle.sm_listing.specs.declared.asks.PageAsk.{PageAsk}
use Rattle.sm_listing.specs.declared.tokens.TheConstants.{SECRETS, VERSIONS}
use Rattle.sm_listing.specs.Filters.{first_fault}
use Rattle.sm_listing.specs.Pages.{is_behind, is_listed, ordered, page_of, page_at, secrets_page, start_of, versions_page}
use Rattle.sm_base.specs.declared.moment.Moment.{Moment}
use Rattle.sm_model.specs.declared.rows.SecretRow.{SecretRow}
use Rattle.sm_model.specs.declared.rows.VersionRow.{VersionRow}
use Rattle.sm_model.specs.Labels.{is_labelled}
use Rattle.sm_listing.specs.PageTokens.{spelled}
use Rattle.sm_listing.proofs.TokenLemmas.{spelled_serial}

-- ---- lists in the order of their serials

-- each comes behind the first
abbrev EachBehind : Bool → ℕ → List ℕ → Type 0
EachBehind descending first [] = Unit {0}
EachBehind descending first (serial ∷ serials) =
    (is_behind descending (Some first) serial ≡ true) × EachBehind descending first serials

-- each comes behind those before it
abbrev InOrder : Bool → List ℕ → Type 0
InOrder descending [] = Unit {0}
InOrder descending (serial ∷ serials) = EachBehind descending serial serials × InOrder descending serials

-- who comes behind another does not come before it
not_both : (descending : Bool) (a b : ℕ) → is_behind descending (Some a) b ≡ true
    → is_behind descending (Some b) a ≡ false
not_both true a b h = le-ltb a b (omega (arith, ltb-true b a h))
not_both false a b h = le-ltb b a (omega (arith, ltb-true a b h))

not_itself : (descending : Bool) (a : ℕ) → is_behind descending (Some a) a ≡ false
not_itself true a = le-ltb a a (omega arith)
not_itself false a = le-ltb a a (omega arith)

all_behind : (descending : Bool) (a : ℕ) (serials : List ℕ) → EachBehind descending a serials
    → filter (is_behind descending (Some a)) serials ≡ serials
all_behind descending a [] each = refl
all_behind descending a (s ∷ serials) each = rw each.0 (ap (λ l. s ∷ l) (all_behind descending a serials each.1))

further_on : (descending : Bool) (a : ℕ) (before : List ℕ) (b : ℕ) (after : List ℕ)
    → EachBehind descending a (before ++ b ∷ after) → is_behind descending (Some a) b ≡ true
further_on descending a [] b after each = each.0
further_on descending a (s ∷ before) b after each = further_on descending a before b after each.1

-- of a list in order what comes behind an item is what stands behind it
behind_item : (descending : Bool) (before : List ℕ) (a : ℕ) (after : List ℕ)
    → InOrder descending (before ++ a ∷ after)
    → filter (is_behind descending (Some a)) (before ++ a ∷ after) ≡ after
behind_item descending [] a after order = rw (not_itself descending a) (all_behind descending a after order.0)
behind_item descending (s ∷ before) a after order =
    rw (not_both descending s a (further_on descending s before a after order.0))
    (behind_item descending before a after order.1)

-- the item at a place, between those before it and those behind it
parted : (serials : List ℕ) (n : ℕ) → n < length serials
    → serials ≡ take n serials ++ get_or serials n 0 ∷ drop (suc n) serials
parted [] n h = absurd (omega arith)
parted (s ∷ serials) zero h = refl
parted (s ∷ serials) (suc n) h = ap (λ l. s ∷ l) (parted serials n (omega arith))

serial_within : (serials : List ℕ) (n : ℕ) → n < length serials → AreSerials serials → get_or serials n 0 < 2 ^ 64
serial_within [] n h are = absurd (omega arith)
serial_within (s ∷ serials) zero h are = are.0
serial_within (s ∷ serials) (suc n) h are = serial_within serials n (omega arith) are.1

serials_behind : (before after : List ℕ) → AreSerials (before ++ after) → AreSerials after
serials_behind [] after are = are
serials_behind (s ∷ before) after are = serials_behind before after are.1

-- ---- tokens

-- a token is read as the serial that it spells
token_read : (letter n : ℕ) → n < 2 ^ 64 → start_of letter (Some (spelled letter n)) ≡ Ok (Some n)
unfolding spelled
token_read letter n below = rw (sym (spelled_serial letter (spelled letter n) n below refl)) refl

-- ---- pages

module _ (descending : Bool) (letter max : ℕ) (most : 1 ≤ max) (all : List ℕ) (order : InOrder descending all)
    (are : AreSerials all) where
  abbrev page : Option (List ℕ) → Result Listed PageRefused
  page token =
      page_at (start_of letter token) (λ start. page_of letter max (filter (is_behind descending start) all))

  -- the page of what is left, and whether another follows
  nothing_more : (rest : List ℕ) (token : List ℕ) (further : Bool) → further ≡ ltb max (length rest)
      → cond further (Some token) None ≡ None → take max rest ≡ rest
  nothing_more rest token true is none = absurd (cc)
  nothing_more rest token false is none = take_all max rest (ltb-false max (length rest) (sym is))

  something_more : (rest : List ℕ) (token : List ℕ) (further : Bool) → further ≡ ltb max (length rest)
      → IsTrue (is_some (cond further (Some token) None))
      → (max < length rest) × (cond further (Some token) None ≡ Some token)
  something_more rest token true is some = (ltb-true max (length rest) (sym is), refl)
  something_more rest token false is some = absurd (let h : false ≡ true = some in cc)

  page_at_start : (rest : List ℕ) (token : Option (List ℕ)) (start : Option ℕ) → start_of letter token ≡ Ok start
      → filter (is_behind descending start) all ≡ rest → page token ≡ Ok (page_of letter max rest)
  page_at_start rest token start reads behind = rw reads (ap (λ (l : List ℕ). Ok (page_of letter max l)) behind)

  page_is : (rest : List ℕ) (token : Option (List ℕ)) (start : Option ℕ) (listed : Listed)
      → start_of letter token ≡ Ok start → filter (is_behind descending start) all ≡ rest → page token ≡ Ok listed
      → listed ≡ page_of letter max rest
  page_is rest token start listed reads behind is =
      let same : Ok listed ≡ Ok (page_of letter max rest) = sym is ∙ page_at_start rest token start reads behind in
      cc

  -- the last item of a full page, between those before it and those behind it
  at_last : (before rest : List ℕ) → before ++ rest ≡ all → max < length rest
      → all ≡ (before ++ take (max - 1) rest) ++ get_or rest (max - 1) 0 ∷ drop max rest
  at_last before rest is long =
      let count : suc (max - 1) ≡ max = omega (arith, most) in
      let split : rest ≡ take (max - 1) rest ++ get_or rest (max - 1) 0 ∷ drop max rest =
      subst (λ n. rest ≡ take (max - 1) rest ++ get_or rest (max - 1) 0 ∷ drop n rest) count
      (parted rest (max - 1) (omega (arith, long, most))) in
      sym is
      ∙ ap (λ l. before ++ l) split
      ∙ sym (append_assoc before (take (max - 1) rest) (get_or rest (max - 1) 0 ∷ drop max rest))

  last_within : (before rest : List ℕ) → before ++ rest ≡ all → max < length rest
      → get_or rest (max - 1) 0 < 2 ^ 64
  last_within before rest is long =
      serial_within rest (max - 1) (omega (arith, long, most))
      (serials_behind before rest (subst AreSerials (sym is) are))

  -- what comes behind the last item of a full page
  further_behind : (before rest : List ℕ) → before ++ rest ≡ all → max < length rest
      → filter (is_behind descending (Some (get_or rest (max - 1) 0))) all ≡ drop max rest
  further_behind before rest is long =
      let last = get_or rest (max - 1) 0 in
      let split = at_last before rest is long in
      subst (λ l. filter (is_behind descending (Some last)) l ≡ drop max rest) (sym split)
      (behind_item descending (before ++ take (max - 1) rest) last (drop max rest)
      (subst (InOrder descending) split order))

  -- pages from a token on show what comes behind its start
  pub follows : (before rest : List ℕ) (token : Option (List ℕ)) (start : Option ℕ) (pages : List Listed)
      → before ++ rest ≡ all → start_of letter token ≡ Ok start
      → filter (is_behind descending start) all ≡ rest → Follow page token pages → all_shown pages ≡ rest
  follows before rest token start [] is reads behind f = absurd f
  follows before rest token start (listed ∷ []) is reads behind f =
      let same = page_is rest token start listed reads behind f.0 in
      let none : (page_of letter max rest).next ≡ None = ap (λ (l : Listed). l.next) (sym same) ∙ f.1 in
      append-nil listed.serials
      ∙ ap (λ (l : Listed). l.serials) same
      ∙ nothing_more rest (spelled letter (get_or rest (max - 1) 0)) (ltb max (length rest)) refl none
  follows before rest token start (listed ∷ next ∷ pages) is reads behind f =
      let same = page_is rest token start listed reads behind f.0 in
      let last = get_or rest (max - 1) 0 in
      let some : IsTrue (is_some (page_of letter max rest).next) =
      subst (λ (l : Listed). IsTrue (is_some l.next)) same f.1 in
      let more = something_more rest (spelled letter last) (ltb max (length rest)) refl some in
      let within = last_within before rest is more.0 in
      let token_is : listed.next ≡ Some (spelled letter last) = ap (λ (l : Listed). l.next) same ∙ more.1 in
      let further = further_behind before rest is more.0 in
      let others = follows (before ++ take max rest) (drop max rest) listed.next (Some last) (next ∷ pages)
      (append_assoc before (take max rest) (drop max rest)
      ∙ ap (λ l. before ++ l) (take-append-drop max rest) ∙ is)
      (rw token_is (token_read letter last within)) further f.2 in
      ap (λ (l : Listed). l.serials ++ all_shown (next ∷ pages)) same
      ∙ ap (λ l. take max rest ++ l) others
      ∙ take-append-drop max rest

  joined : (token : Option (List ℕ)) (listed : Listed) (pages : List Listed) → page token ≡ Ok listed
      → IsTrue (is_some listed.next) → Follow page listed.next pages → Follow page token (listed ∷ pages)
  joined token listed [] is some f = absurd f
  joined token listed (next ∷ pages) is some f = (is, some, f)

  -- and there are such pages
  pub there_are : (n : ℕ) (before rest : List ℕ) (token : Option (List ℕ)) (start : Option ℕ) (further : Bool)
      → further ≡ ltb max (length rest) → length rest ≤ n → before ++ rest ≡ all → start_of letter token ≡ Ok start
      → filter (is_behind descending start) all ≡ rest → (pages : List Listed) × Follow page token pages
  there_are n before rest token start false e fits is reads behind =
      (page_of letter max rest ∷ [], (page_at_start rest token start reads behind, rw (sym e) refl))
  there_are zero before rest token start true e fits is reads behind =
      absurd (omega (arith, fits, ltb-true max (length rest) (sym e)))
  there_are (suc m) before rest token start true e fits is reads behind =
      let long = ltb-true max (length rest) (sym e) in
      let last = get_or rest (max - 1) 0 in
      let token_is : (page_of letter max rest).next ≡ Some (spelled letter last) = rw (sym e) refl in
      let shorter : length (drop max rest) ≤ m = omega (arith, fits, most, length-drop max rest) in
      let others = there_are m (before ++ take max rest) (drop max rest) (Some (spelled letter last)) (Some last)
      (ltb max (length (drop max rest))) refl shorter
      (append_assoc before (take max rest) (drop max rest)
      ∙ ap (λ l. before ++ l) (take-append-drop max rest) ∙ is)
      (token_read letter last (last_within before rest is long)) (further_behind before rest is long) in (
        page_of letter max rest ∷ others.0,
        joined token (page_of letter max rest) others.0 (page_at_start rest token start reads behind)
            (rw token_is refl) (subst (λ t. Follow page t others.0) (sym token_is) others.1),
      )

-- ---- secrets and versions

rising : (first : ℕ) (serials : List ℕ) → EachAbove first serials → EachBehind false first serials
rising first [] above = tt
rising first (s ∷ serials) above = (lt-ltb first s above.0, rising first serials above.1)

in_order : (serials : List ℕ) → Rise serials → InOrder false serials
in_order [] rise = tt
in_order (s ∷ serials) rise = (rising s serials rise.0, in_order serials rise.1)

-- what is left of a list is in order too
module _ {A : Type 0} (f : A → ℕ) (p : A → Bool) where
  each_kept : (descending : Bool) (a : ℕ) (xs : List A) → EachBehind descending a (map f xs)
      → EachBehind descending a (map f (filter p xs))
  each_kept descending a [] each = tt
  each_kept descending a (x ∷ xs) each = by (each_kept descending a xs each.1) (p x) refl
    where
      by : EachBehind descending a (map f (filter p xs)) → (b : Bool) → b ≡ p x
          → EachBehind descending a (map f (filter p (x ∷ xs)))
      by others true is = rw (sym is) ((each.0, others))
      by others false is = rw (sym is) others

  order_kept : (descending : Bool) (xs : List A) → InOrder descending (map f xs)
      → InOrder descending (map f (filter p xs))
  order_kept descending [] order = tt
  order_kept descending (x ∷ xs) order = by (order_kept descending xs order.1) (p x) refl
    where
      by : InOrder descending (map f (filter p xs)) → (b : Bool) → b ≡ p x
          → InOrder descending (map f (filter p (x ∷ xs)))
      by others true is = rw (sym is) ((each_kept descending (f x) xs order.0, others))
      by others false is = rw (sym is) others

  are_kept : (xs : List A) → AreSerials (map f xs) → AreSerials (map f (filter p xs))
  are_kept [] are = tt
  are_kept (x ∷ xs) are = by (are_kept xs are.1) (p x) refl
    where
      by : AreSerials (map f (filter p xs)) → (b : Bool) → b ≡ p x → AreSerials (map f (filter p (x ∷ xs)))
      by others true is = rw (sym is) ((are.0, others))
      by others false is = rw (sym is) others

  -- what is listed and comes behind a start, of all that is listed
  listed_behind : (q : ℕ → Bool) (xs : List A)
      → map f (filter (λ x. p x && q (f x)) xs) ≡ filter q (map f (filter p xs))
  listed_behind q [] = refl
  listed_behind q (x ∷ xs) = by (listed_behind q xs) (p x) (q (f x)) refl refl
    where
      by : map f (filter (λ y. p y && q (f y)) xs) ≡ filter q (map f (filter p xs)) → (b c : Bool) → b ≡ p x
          → c ≡ q (f x)
          → map f (filter (λ y. p y && q (f y)) (x ∷ xs)) ≡ filter q (map f (filter p (x ∷ xs)))
      by others true true is passes = rw (sym is) (rw (sym passes) (ap (λ l. f x ∷ l) others))
      by others true false is passes = rw (sym is) (rw (sym passes) others)
      by others false c is passes = rw (sym is) others

each_last : (a b : ℕ) (xs : List ℕ) → EachAbove a xs → a < b → EachAbove a (xs ++ b ∷ [])
each_last a b [] each above = (above, tt)
each_last a b (x ∷ xs) each above = (each.0, each_last a b xs each.1 above)

are_last : (b : ℕ) (xs : List ℕ) → AreSerials xs → b < 2 ^ 64 → AreSerials (xs ++ b ∷ [])
are_last b [] are below = (below, tt)
are_last b (x ∷ xs) are below = (are.0, are_last b xs are.1 below)

behind_last : (a b : ℕ) (xs : List ℕ) → EachBehind true a xs → b < a → EachBehind true a (xs ++ b ∷ [])
behind_last a b [] each below = (lt-ltb b a below, tt)
behind_last a b (x ∷ xs) each below = (each.0, behind_last a b xs each.1 below)

order_last : (b : ℕ) (xs : List ℕ) → InOrder true xs → EachAbove b xs → InOrder true (xs ++ b ∷ [])
order_last b [] order each = (tt, tt)
order_last b (x ∷ xs) order each = (behind_last x b xs order.0 each.0, order_last b xs order.1 each.1)

turned : {A : Type 0} (x : A) (xs : List A) → reverse (x ∷ xs) ≡ reverse xs ++ x ∷ []
turned x xs = reverse-append (x ∷ []) xs

reversed_above : (a : ℕ) (xs : List ℕ) → EachAbove a xs → EachAbove a (reverse xs)
reversed_above a [] each = tt
reversed_above a (x ∷ xs) each =
    subst (EachAbove a) (sym (turned x xs))
    (each_last a x (reverse xs) (reversed_above a xs each.1) each.0)

reversed_order : (xs : List ℕ) → Rise xs → InOrder true (reverse xs)
reversed_order [] rise = tt
reversed_order (x ∷ xs) rise =
    subst (InOrder true) (sym (turned x xs))
    (order_last x (reverse xs) (reversed_order xs rise.1) (reversed_above x xs rise.0))

reversed_are : (xs : List ℕ) → AreSerials xs → AreSerials (reverse xs)
reversed_are [] are = tt
reversed_are (x ∷ xs) are = subst AreSerials (sym (turned x xs)) (are_last x (reverse xs) (reversed_are xs are.1) are.0)

module _ {A : Type 0} (f : A → ℕ) where
  map_reversed : (xs : List A) → map f (reverse xs) ≡ reverse (map f xs)
  map_reversed [] = refl
  map_reversed (x ∷ xs) =
      ap (map f) (turned x xs)
      ∙ map-append f (reverse xs) (x ∷ [])
      ∙ ap (λ l. l ++ f x ∷ []) (map_reversed xs)
      ∙ sym (turned (f x) (map f xs))

  ordered_order : (descending : Bool) (xs : List A) → Rise (map f xs)
      → InOrder descending (map f (ordered descending xs))
  ordered_order true xs rise = rw (map_reversed xs) (reversed_order (map f xs) rise)
  ordered_order false xs rise = in_order (map f xs) rise

  ordered_are : (descending : Bool) (xs : List A) → AreSerials (map f xs)
      → AreSerials (map f (ordered descending xs))
  ordered_are true xs are = rw (map_reversed xs) (reversed_are (map f xs) are)
  ordered_are false xs are = are

-- the same pages
follow_as : (page other : Option (List ℕ) → Result Listed PageRefused)
    → ((token : Option (List ℕ)) → page token ≡ other token) → (token : Option (List ℕ)) (pages : List Listed)
    → Follow page token pages → Follow other token pages
follow_as page other same token [] f = f
follow_as page other same token (listed ∷ []) f = (sym (same token) ∙ f.0, f.1)
follow_as page other same token (listed ∷ next ∷ pages) f =
    (sym (same token) ∙ f.0, f.1, follow_as page other same listed.next (next ∷ pages) f.2)

-- no pages follow where the first is refused
never : (page : Option (List ℕ) → Result Listed PageRefused) (refused : PageRefused) (token : Option (List ℕ))
    → page token ≡ Err refused → (pages : List Listed) → Follow page token pages → ⊥
never page refused token is [] f = f
never page refused token is (listed ∷ []) f = let h : Err refused ≡ Ok listed = sym is ∙ f.0 in (cc)
never page refused token is (listed ∷ next ∷ pages) f = let h : Err refused ≡ Ok listed = sym is ∙ f.0 in (cc)

-- pages that behind each start show what is listed there
module _ {A : Type 0} (f : A → ℕ) (p : A → Bool) (descending : Bool) (letter max : ℕ) (most : 1 ≤ max) (xs : List A)
    (rise : Rise (map f xs)) (are : AreSerials (map f xs)) where
  abbrev listed_of : List ℕ
  listed_of = map f (filter p (ordered descending xs))

  abbrev page_from : Option ℕ → Listed
  page_from start =
      page_of letter max (map f (filter (λ x. p x && is_behind descending start (f x)) (ordered descending xs)))

  abbrev page_by : Option (List ℕ) → Result Listed PageRefused
  page_by token = page_at (start_of letter token) page_from

  none_before : filter (is_behind descending None) listed_of ≡ listed_of
  none_before = all_pass listed_of
    where
      all_pass : (serials : List ℕ) → filter (is_behind descending None) serials ≡ serials
      all_pass [] = refl
      all_pass (s ∷ serials) = ap (λ l. s ∷ l) (all_pass serials)

  at_start : (start : Result (Option ℕ) PageRefused)
      → page_at start page_from
      ≡ page_at start (λ start. page_of letter max (filter (is_behind descending start) listed_of))
  at_start (Ok start) =
      ap (λ l. Ok (page_of letter max l))
      (listed_behind f p (is_behind descending start) (ordered descending xs))
  at_start (Err refused) = refl

  pub all_follow : (pages : List Listed) → Follow page_by None pages → all_shown pages ≡ listed_of
  all_follow pages f' =
      let order = order_kept f p descending (ordered descending xs) (ordered_order f descending xs rise) in
      let serials = are_kept f p (ordered descending xs) (ordered_are f descending xs are) in
      follows descending letter max most listed_of order serials [] listed_of None None pages refl refl none_before
      (follow_as page_by (page descending letter max most listed_of order serials)
      (λ token. at_start (start_of letter token)) None pages f')

  pub some_follow : (pages : List Listed) × Follow page_by None pages
  some_follow =
      let order = order_kept f p descending (ordered descending xs) (ordered_order f descending xs rise) in
      let serials = are_kept f p (ordered descending xs) (ordered_are f descending xs are) in
      let there = there_are descending letter max most listed_of order serials (length listed_of) [] listed_of None None
      (ltb max (length listed_of)) refl (omega arith) refl refl none_before in (
        there.0,
        follow_as (page descending letter max most listed_of order serials) page_by
            (λ token. sym (at_start (start_of letter token))) None there.0 there.1,
      )

-- Following the tokens from the start shows the serials of all secrets that are listed, once and in the order that was
-- asked for;
pub secrets_follow : (rows : List SecretRow) (moment : Moment) (ask : PageAsk)
    → Rise (map (λ (row : SecretRow). row.serial) rows) → AreSerials (map (λ (row : SecretRow). row.serial) rows)
    → 1 ≤ ask.max → (pages : List Listed)
    → Follow (λ token. secrets_page rows moment (record ask { token = token })) None pages
    → all_shown pages
    ≡ map (λ (row : SecretRow). row.serial) (filter (is_listed moment ask) (ordered ask.descending rows))
secrets_follow rows moment ask rise are most pages f =
    by (first_fault 1 ask.filters) refl
  where
    by : (fault : Option ℕ) → fault ≡ first_fault 1 ask.filters
        → all_shown pages
        ≡ map (λ (row : SecretRow). row.serial) (filter (is_listed moment ask) (ordered ask.descending rows))
    by None is =
        all_follow (λ (row : SecretRow). row.serial) (is_listed moment ask) ask.descending SECRETS ask.max most rows
        rise are pages
        (follow_as _ _ (λ token. rw (sym is) refl) None pages f)
    by (Some number) is =
        absurd (never _ (BadFilter (min number (2 ^ 32 - 1))) None (rw (sym is) refl) pages f)

-- and there is an end to it, where no filter is at fault.
pub secrets_end : (rows : List SecretRow) (moment : Moment) (ask : PageAsk)
    → Rise (map (λ (row : SecretRow). row.serial) rows) → AreSerials (map (λ (row : SecretRow). row.serial) rows)
    → 1 ≤ ask.max → first_fault 1 ask.filters ≡ None
    → (pages : List Listed) × Follow (λ token. secrets_page rows moment (record ask { token = token })) None pages
secrets_end rows moment ask rise are most none =
    let some = some_follow (λ (row : SecretRow). row.serial) (is_listed moment ask) ask.descending SECRETS ask.max most
    rows rise are in
    (some.0, follow_as _ _ (λ token. rw none refl) None some.0 some.1)

-- And the same of the versions of a secret.
pub versions_follow : (row : SecretRow) (deprecated : Bool) (max : ℕ)
    → Rise (map (λ (version : VersionRow). version.serial) row.versions)
    → AreSerials (map (λ (version : VersionRow). version.serial) row.versions) → 1 ≤ max → (pages : List Listed)
    → Follow (versions_page row deprecated max) None pages
    → all_shown pages
    ≡ map (λ (version : VersionRow). version.serial)
    (filter (λ (version : VersionRow). deprecated || is_labelled row.labels version.id) row.versions)
versions_follow row deprecated max rise are most pages f =
    all_follow (λ (version : VersionRow). version.serial)
    (λ (version : VersionRow). deprecated || is_labelled row.labels version.id) false VERSIONS max most row.versions
    rise are pages f

pub versions_end : (row : SecretRow) (deprecated : Bool) (max : ℕ)
    → Rise (map (λ (version : VersionRow). version.serial) row.versions)
    → AreSerials (map (λ (version : VersionRow). version.serial) row.versions) → 1 ≤ max
    → (pages : List Listed) × Follow (versions_page row deprecated max) None pages
versions_end row deprecated max rise are most =
    some_follow (λ (version : VersionRow). version.serial)
    (λ (version : VersionRow). deprecated || is_labelled row.labels version.id) false VERSIONS max most row.versions
    rise are
