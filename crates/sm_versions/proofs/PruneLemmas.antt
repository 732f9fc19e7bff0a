-- What is seen of old versions, one after the other.
use Rattle.std.proofs.Common.{◌≡◌, ℕ, zero, suc, ◌+◌, ◌-◌, ◌<◌, ◌≤◌, Bool, true, false, ◌||◌, cond, nat_le, nat_lt, List, [], ◌∷◌, ◌++◌, length, take, filter, Some, None, slice_get, refl, sym, ap, subst, ◌∙◌, arith}
use Rattle.std.proofs.lemmas.Bool.{or_right}
use Rattle.std.proofs.lemmas.Bool.Decides.{nat_tests}
use Rattle.sm_base.specs.declared.limits.TheConstants.{NEWEST_KEPT, SECONDS_KEPT}
use Rattle.sm_base.specs.declared.moment.Moment.{Moment}
use Rattle.sm_base.proofs.PlaceLemmas.{took_one, took_none}
use Rattle.sm_model.specs.Labels.{is_labelled}
use Rattle.sm_model.specs.declared.rows.Pair.{Pair}
use Rattle.sm_model.specs.declared.rows.SecretRow.{SecretRow}
use Rattle.sm_model.specs.declared.rows.VersionRow.{VersionRow}
use Rattle.sm_model.specs.Versions.{When, newer_than, is_kept, kept, counted}
use Rattle.sm_versions.specs.Prune.{IsLeast}

-- ---- how many are newer

pub newer_push : (vs : List VersionRow) (w : VersionRow) (s : ℕ)
    → newer_than (vs ++ w ∷ []) s ≡ cond (nat_lt s w.serial) (newer_than vs s + 1) (newer_than vs s)
newer_push [] w s = refl
newer_push (v ∷ vs) w s = by (nat_lt s v.serial) (nat_lt s w.serial) (newer_push vs w s)
  where
    by : (a b : Bool) → newer_than (vs ++ w ∷ []) s ≡ cond b (newer_than vs s + 1) (newer_than vs s)
        → cond a (newer_than (vs ++ w ∷ []) s + 1) (newer_than (vs ++ w ∷ []) s)
        ≡ cond b (cond a (newer_than vs s + 1) (newer_than vs s) + 1) (cond a (newer_than vs s + 1) (newer_than vs s))
    by true true e = ap (λ n. n + 1) e
    by true false e = ap (λ n. n + 1) e
    by false true e = e
    by false false e = e

-- fewer are newer than a greater serial
pub newer_lower : (vs : List VersionRow) (s t : ℕ) → s ≤ t → newer_than vs t ≤ newer_than vs s
newer_lower [] s t h = omega arith
newer_lower (v ∷ vs) s t h = grind (arith, nat_tests, newer_lower vs s t)

-- one version more, as at a step of a loop
pub newer_more : (vs : List VersionRow) (i : ℕ) (v : VersionRow) (s : ℕ) → slice_get vs i ≡ Some v
    → newer_than (take (i + 1) vs) s ≡ cond (nat_lt s v.serial) (newer_than (take i vs) s + 1)
    (newer_than (take i vs) s)
newer_more vs i v s e = ap (λ ws. newer_than ws s) (took_one vs i v e) ∙ newer_push (take i vs) v s

-- the same by what stands at the place
pub newer_then : (vs : List VersionRow) (i : ℕ) (v : VersionRow) (s : ℕ) → slice_get vs i ≡ Some v
    → nat_lt s v.serial ≡ true → newer_than (take (i + 1) vs) s ≡ newer_than (take i vs) s + 1
newer_then vs i v s e newer = newer_more vs i v s e
    ∙ ap (λ b. cond b (newer_than (take i vs) s + 1) (newer_than (take i vs) s)) newer

pub newer_else : (vs : List VersionRow) (i : ℕ) (v : VersionRow) (s : ℕ) → slice_get vs i ≡ Some v
    → nat_lt s v.serial ≡ false → newer_than (take (i + 1) vs) s ≡ newer_than (take i vs) s
newer_else vs i v s e newer = newer_more vs i v s e
    ∙ ap (λ b. cond b (newer_than (take i vs) s + 1) (newer_than (take i vs) s)) newer

pub newer_none : (vs : List VersionRow) (i : ℕ) (s : ℕ) → i < length vs → slice_get vs i ≡ None
    → newer_than (take (i + 1) vs) s ≡ newer_than (take i vs) s
newer_none vs i s h e = ap (λ ws. newer_than ws s) (took_none vs i h e)

-- ---- the greatest serial

not_self : (s : ℕ) → nat_lt s s ≡ false
not_self s = grind (arith, nat_tests)

pub greatest_then : (vs : List VersionRow) (i : ℕ) (v : VersionRow) (s : ℕ) → slice_get vs i ≡ Some v
    → newer_than (take i vs) s ≡ 0 → nat_lt s v.serial ≡ true → newer_than (take (i + 1) vs) v.serial ≡ 0
greatest_then vs i v s e none greater =
    let lower : newer_than (take i vs) v.serial ≤ newer_than (take i vs) s =
    newer_lower (take i vs) s v.serial (grind (arith, nat_tests, greater)) in
    newer_else vs i v v.serial e (not_self v.serial) ∙ omega (arith, lower, none)

pub greatest_else : (vs : List VersionRow) (i : ℕ) (v : VersionRow) (s : ℕ) → slice_get vs i ≡ Some v
    → newer_than (take i vs) s ≡ 0 → nat_lt s v.serial ≡ false → newer_than (take (i + 1) vs) s ≡ 0
greatest_else vs i v s e none greater = newer_else vs i v s e greater ∙ none

pub greatest_none : (vs : List VersionRow) (i : ℕ) (s : ℕ) → i < length vs → slice_get vs i ≡ None
    → newer_than (take i vs) s ≡ 0 → newer_than (take (i + 1) vs) s ≡ 0
greatest_none vs i s h e none = newer_none vs i s h e ∙ none

pub greatest_is_newest : (vs : List VersionRow) (s : ℕ) → newer_than vs s ≡ 0
    → nat_lt (newer_than vs s) NEWEST_KEPT ≡ true
greatest_is_newest vs s none = rw none refl

-- ---- the least of the newest

-- what is below the serial is not among the newest
pub record NoneBelow (vs : List VersionRow) (serial : ℕ) : Type 0 where
  pub none : (below : ℕ) → below < serial → nat_lt (newer_than vs below) NEWEST_KEPT ≡ false

pub none_from_start : (vs : List VersionRow) → NoneBelow vs 0
none_from_start vs = record { none = λ below h. absurd (omega (arith, h)) }

-- what is below one that is not among the newest is not either
pub none_up_to : (vs : List VersionRow) (serial : ℕ) → nat_lt (newer_than vs serial) NEWEST_KEPT ≡ false
    → NoneBelow vs (serial + 1)
none_up_to vs serial none = record {
  none = λ below h.
      let fewer : newer_than vs serial ≤ newer_than vs below = newer_lower vs below serial (omega (arith, h)) in
      grind (arith, nat_tests, fewer, none);
}

-- it is the least where it is among the newest, and what is below it is not
least_is : (vs : List VersionRow) (least : ℕ) → nat_lt (newer_than vs least) NEWEST_KEPT ≡ true → NoneBelow vs least
    → IsLeast vs least
least_is vs least newest none = record { is = λ serial. by serial (nat_le least serial) refl }
  where
    by : (serial : ℕ) (b : Bool) → b ≡ nat_le least serial → b ≡ nat_lt (newer_than vs serial) NEWEST_KEPT
    by serial true e =
        let above : least ≤ serial = grind (arith, nat_tests, e) in
        let fewer : newer_than vs serial ≤ newer_than vs least = newer_lower vs least serial above in
        grind (arith, nat_tests, fewer, newest)
    by serial false e = sym (none.none serial (grind (arith, nat_tests, e)))

pub least_met : (vs : List VersionRow) (low high : ℕ) → NoneBelow vs low
    → nat_lt (newer_than vs high) NEWEST_KEPT ≡ true → low ≤ high → nat_lt low high ≡ false → IsLeast vs low
least_met vs low high none newest order met =
    let same : low ≡ high = grind (arith, nat_tests, order, met) in
    least_is vs low (ap (λ s. nat_lt (newer_than vs s) NEWEST_KEPT) same ∙ newest) none

pub least_first : (vs : List VersionRow) (serial : ℕ) → nat_lt (newer_than vs serial) NEWEST_KEPT ≡ true
    → serial ≡ 0 → IsLeast vs serial
least_first vs serial newest first =
    least_is vs serial newest (subst (NoneBelow vs) (sym first) (none_from_start vs))

pub least_between : (vs : List VersionRow) (serial : ℕ) → nat_lt (newer_than vs serial) NEWEST_KEPT ≡ true
    → 1 ≤ serial → nat_lt (newer_than vs (serial - 1)) NEWEST_KEPT ≡ false → IsLeast vs serial
least_between vs serial newest above below =
    let next : (serial - 1) + 1 ≡ serial = omega (arith, above) in
    least_is vs serial newest (subst (NoneBelow vs) next (none_up_to vs (serial - 1) below))

-- ---- how many are kept

pub fewer_filtered : (keep : VersionRow → Bool) (vs : List VersionRow) → length (filter keep vs) ≤ length vs
fewer_filtered keep [] = omega arith
fewer_filtered keep (v ∷ vs) = grind (arith, fewer_filtered keep vs)

pub filter_push : (keep : VersionRow → Bool) (vs : List VersionRow) (w : VersionRow)
    → length (filter keep (vs ++ w ∷ [])) ≡ cond (keep w) (length (filter keep vs) + 1) (length (filter keep vs))
filter_push keep [] w = by (keep w)
  where
    by : (b : Bool) → length (cond b (w ∷ []) []) ≡ cond b 1 0
    by true = refl
    by false = refl
filter_push keep (v ∷ vs) w = by (keep v) (keep w) (filter_push keep vs w)
  where
    by : (a b : Bool)
        → length (filter keep (vs ++ w ∷ [])) ≡ cond b (length (filter keep vs) + 1) (length (filter keep vs))
        → length (cond a (v ∷ filter keep (vs ++ w ∷ [])) (filter keep (vs ++ w ∷ [])))
        ≡ cond b (length (cond a (v ∷ filter keep vs) (filter keep vs)) + 1)
        (length (cond a (v ∷ filter keep vs) (filter keep vs)))
    by true true e = grind (arith, e)
    by true false e = ap (λ n. suc n) e
    by false true e = e
    by false false e = e

-- one version more, as at a step of a loop
pub kept_more : (keep : VersionRow → Bool) (vs : List VersionRow) (i : ℕ) (v : VersionRow) → slice_get vs i ≡ Some v
    → length (filter keep (take (i + 1) vs)) ≡ cond (keep v) (length (filter keep (take i vs)) + 1)
    (length (filter keep (take i vs)))
kept_more keep vs i v e = ap (λ ws. length (filter keep ws)) (took_one vs i v e) ∙ filter_push keep (take i vs) v

pub kept_then : (row : SecretRow) (moment : Moment) (i : ℕ) (v : VersionRow) → slice_get row.versions i ≡ Some v
    → is_kept row moment v ≡ true
    → length (filter (is_kept row moment) (take (i + 1) row.versions))
    ≡ length (filter (is_kept row moment) (take i row.versions)) + 1
kept_then row moment i v e keep = kept_more (is_kept row moment) row.versions i v e
    ∙ ap (λ b. cond b (length (filter (is_kept row moment) (take i row.versions)) + 1)
    (length (filter (is_kept row moment) (take i row.versions)))) keep

pub kept_else : (row : SecretRow) (moment : Moment) (i : ℕ) (v : VersionRow) → slice_get row.versions i ≡ Some v
    → is_kept row moment v ≡ false
    → length (filter (is_kept row moment) (take (i + 1) row.versions))
    ≡ length (filter (is_kept row moment) (take i row.versions))
kept_else row moment i v e keep = kept_more (is_kept row moment) row.versions i v e
    ∙ ap (λ b. cond b (length (filter (is_kept row moment) (take i row.versions)) + 1)
    (length (filter (is_kept row moment) (take i row.versions)))) keep

pub kept_none : (row : SecretRow) (moment : Moment) (i : ℕ) → i < length row.versions
    → slice_get row.versions i ≡ None
    → length (filter (is_kept row moment) (take (i + 1) row.versions))
    ≡ length (filter (is_kept row moment) (take i row.versions))
kept_none row moment i h e = ap (λ vs. length (filter (is_kept row moment) vs)) (took_none row.versions i h e)

-- ---- which are kept

either_order : (newest young labelled : Bool) → (newest || young || labelled) ≡ (labelled || young || newest)
either_order true true true = refl
either_order true true false = refl
either_order true false true = refl
either_order true false false = refl
either_order false true true = refl
either_order false true false = refl
either_order false false true = refl
either_order false false false = refl

-- how long ago it was made says whether it is less than a day
young_told : (moment made : ℕ) → nat_lt (moment - made) SECONDS_KEPT ≡ nat_lt moment (made + SECONDS_KEPT)
young_told moment made = grind (arith, nat_tests)

pub kept_told : (row : SecretRow) (moment : Moment) (least : ℕ) (version : VersionRow) → IsLeast row.versions least
    → (nat_le least version.serial || nat_lt (moment.0 - version.made.0) SECONDS_KEPT
    || is_labelled row.labels version.id) ≡ is_kept row moment version
kept_told row moment least version is =
    rw (is.is version.serial, young_told moment.0 version.made.0)
    (either_order (nat_lt (newer_than row.versions version.serial) NEWEST_KEPT)
    (nat_lt moment.0 (version.made.0 + SECONDS_KEPT)) (is_labelled row.labels version.id))

filter_alike : (p q : VersionRow → Bool) (vs : List VersionRow) → ((v : VersionRow) → p v ≡ q v)
    → filter p vs ≡ filter q vs
filter_alike p q [] same = refl
filter_alike p q (v ∷ vs) same =
    ap (λ b. cond b (v ∷ filter p vs) (filter p vs)) (same v)
    ∙ ap (λ ws. cond (q v) (v ∷ ws) ws) (filter_alike p q vs same)

-- the versions that are picked are those that are kept
pub picked_kept : (row : SecretRow) (moment : Moment) (least : ℕ) (labels : List Pair) → IsLeast row.versions least
    → labels ≡ row.labels
    → filter (λ version. is_labelled labels version.id || nat_lt moment.0 (version.made.0 + SECONDS_KEPT)
    || nat_le least version.serial) row.versions ≡ filter (is_kept row moment) row.versions
picked_kept row moment least labels is same =
    filter_alike _ (is_kept row moment) row.versions
    (λ version. rw (same, is.is version.serial) refl)

-- ---- where there are no more versions than are among the newest, all are kept

newer_within : (vs : List VersionRow) (s : ℕ) → newer_than vs s ≤ length vs
newer_within [] s = omega arith
newer_within (v ∷ vs) s = grind (arith, newer_within vs s)

-- than a version fewer are newer than there are
newer_of_one : (vs : List VersionRow) (i : ℕ) (v : VersionRow) → slice_get vs i ≡ Some v
    → newer_than vs v.serial < length vs
newer_of_one [] i v e = absurd (cc)
newer_of_one (w ∷ vs) zero v e =
    let same : w ≡ v = cc in
    let serial : w.serial ≡ v.serial = ap (λ (x : VersionRow). x.serial) same in
    grind (arith, nat_tests, serial, newer_within vs v.serial)
newer_of_one (w ∷ vs) (suc i) v e = grind (arith, newer_of_one vs i v e)

filter_all : (keep : VersionRow → Bool) (vs : List VersionRow)
    → ((i : ℕ) (v : VersionRow) → slice_get vs i ≡ Some v → keep v ≡ true) → filter keep vs ≡ vs
filter_all keep [] all = refl
filter_all keep (v ∷ vs) all =
    ap (λ b. cond b (v ∷ filter keep vs) (filter keep vs)) (all 0 v refl)
    ∙ ap (λ ws. v ∷ ws) (filter_all keep vs (λ i w e. all (suc i) w e))

pub few_kept : (row : SecretRow) (moment : Moment) → length row.versions ≤ NEWEST_KEPT → row ≡ kept row moment
few_kept row moment few =
    ap (λ (versions : List VersionRow). record row { versions = versions })
    (sym (filter_all (is_kept row moment) row.versions all))
  where
    all : (i : ℕ) (v : VersionRow) → slice_get row.versions i ≡ Some v → is_kept row moment v ≡ true
    all i v e =
        let fewer : newer_than row.versions v.serial < length row.versions = newer_of_one row.versions i v e in
        let newest : nat_lt (newer_than row.versions v.serial) NEWEST_KEPT ≡ true =
        grind (arith, nat_tests, fewer, few) in
        or_right (is_labelled row.labels v.id || nat_lt moment.0 (v.made.0 + SECONDS_KEPT)) _ newest

-- ---- how many count

-- no more count than there are
pub counted_within : (row : SecretRow) (when : When) → length (counted row when) ≤ length row.versions
counted_within row when = by when.prunes
  where
    by : (b : Bool) → length (cond b (kept row when.moment).versions row.versions) ≤ length row.versions
    by true = fewer_filtered (is_kept row when.moment) row.versions
    by false = omega arith
