-- How many versions count when one was added or filled.
use Rattle.std.proofs.Common.{◌≡◌, ℕ, ◌+◌, ◌≤◌, Bool, true, false, ◌||◌, cond, nat_lt, List, [], ◌∷◌, ◌++◌, length, filter, Option, Some, None, refl, sym, ap, ◌∙◌, arith, ⊎_elim, length-append}
use Rattle.std.proofs.lemmas.Grind.{common_steps}
use Rattle.std.proofs.lemmas.Bool.{or_right, false≢true}
use Rattle.std.proofs.lemmas.Bool.Decides.{nat_tests}
use Rattle.sm_base.specs.Texts.{same_text}
use Rattle.sm_base.specs.declared.limits.TheConstants.{VERSIONS_LIMIT, NEWEST_KEPT, SECONDS_KEPT}
use Rattle.sm_base.specs.declared.moment.Moment.{Moment}
use Rattle.sm_model.specs.Labels.{aws_current, aws_previous, holder, is_labelled}
use Rattle.sm_model.specs.Versions.{When, has_version, newer_than, is_kept, kept, counted, is_full_when}
use Rattle.sm_model.specs.declared.rows.Pair.{Pair}
use Rattle.sm_model.specs.declared.rows.SecretRow.{SecretRow}
use Rattle.sm_model.specs.declared.rows.VersionRow.{VersionRow}
use Rattle.sm_model.specs.declared.value.Value.{Value}
use Rattle.sm_versions.specs.Labels.{without, moved, with_previous, with_current, place, place_each, place_all, in_order}
use Rattle.sm_versions.specs.Put.{put_placed, put_answer_on, put_answer, new_version, added_row, put_row, put_row_on}
use Rattle.sm_versions.specs.Versions.{version_of}
use Rattle.sm_versions.specs.declared.values.PutDone.TheVariants.{Added}
use Rattle.sm_versions.proofs.PruneLemmas.{newer_push, filter_push, counted_within}
use Rattle.sm_versions.proofs.SoundLaws.{not_full, length_filled}
use Rattle.sm_versions.proofs.TextLemmas.{same_text_itself, same_text_tells}
use Rattle.sm_versions.proofs.ValueLemmas.{version_of_none}

-- ---- placing labels on a version gives no other version a first label

labelled_push : (ps : List Pair) (q : Pair) (x : List ℕ)
    → is_labelled (ps ++ q ∷ []) x ≡ (is_labelled ps x || same_text q.id x)
labelled_push [] q x = grind (arith, common_steps)
labelled_push (p ∷ ps) q x = grind (arith, common_steps, labelled_push ps q x)

labelled_without : (ps : List Pair) (label x : List ℕ) → is_labelled (without ps label) x ≡ true
    → is_labelled ps x ≡ true
labelled_without [] label x h = h
labelled_without (p ∷ ps) label x h = grind (arith, common_steps, labelled_without ps label x)

labelled_moved : (ps : List Pair) (label id x : List ℕ) → same_text id x ≡ false
    → is_labelled (moved ps label id) x ≡ true → is_labelled ps x ≡ true
labelled_moved ps label id x other h =
    grind (
      arith,
      labelled_push (without ps label) (record { label = label; id = id }) x,
      labelled_without ps label x,
      other,
    )

holder_labelled : (ps : List Pair) (label held x : List ℕ) → holder ps label ≡ Some held → same_text held x ≡ true
    → is_labelled ps x ≡ true
holder_labelled [] label held x e same = absurd (cc)
holder_labelled (p ∷ ps) label held x e same = by (same_text p.label label) e (holder_labelled ps label held x)
  where
    by : (b : Bool) → cond b (Some p.id) (holder ps label) ≡ Some held
        → (holder ps label ≡ Some held → same_text held x ≡ true → is_labelled ps x ≡ true)
        → (same_text p.id x || is_labelled ps x) ≡ true
    by true is rest =
        let same_id : p.id ≡ held = cc in ap (λ b. b || is_labelled ps x) (ap (λ i. same_text i x) same_id ∙ same)
    by false is rest = or_right (same_text p.id x) (is_labelled ps x) (rest is same)

-- AWSPREVIOUS goes to a version that had AWSCURRENT
labelled_previous : (all ps : List Pair) (held : Option (List ℕ)) (id x : List ℕ)
    → ((h : List ℕ) → held ≡ Some h → same_text h x ≡ true → is_labelled all x ≡ true)
    → (is_labelled ps x ≡ true → is_labelled all x ≡ true)
    → is_labelled (with_previous ps held id) x ≡ true → is_labelled all x ≡ true
labelled_previous all ps None id x had before h = before h
labelled_previous all ps (Some held) id x had before h = by (same_text held id) h
  where
    on : (s : Bool) → s ≡ same_text held x → is_labelled (moved ps aws_previous held) x ≡ true
        → is_labelled all x ≡ true
    on true e there = had held refl (sym e)
    on false e there = before (labelled_moved ps aws_previous held x (sym e) there)

    by : (b : Bool) → is_labelled (cond b ps (moved ps aws_previous held)) x ≡ true → is_labelled all x ≡ true
    by true there = before there
    by false there = on (same_text held x) refl there

labelled_current : (ps : List Pair) (id x : List ℕ) → same_text id x ≡ false
    → is_labelled (with_current ps id) x ≡ true → is_labelled ps x ≡ true
labelled_current ps id x other h =
    labelled_previous ps (moved ps aws_current id) (holder ps aws_current) id x
    (λ held e same. holder_labelled ps aws_current held x e same) (labelled_moved ps aws_current id x other) h

pub labelled_place : (ps : List Pair) (label id x : List ℕ) → same_text id x ≡ false
    → is_labelled (place ps label id) x ≡ true → is_labelled ps x ≡ true
labelled_place ps label id x other h = by (same_text label aws_current) h
  where
    by : (b : Bool) → is_labelled (cond b (with_current ps id) (moved ps label id)) x ≡ true
        → is_labelled ps x ≡ true
    by true there = labelled_current ps id x other there
    by false there = labelled_moved ps label id x other there

labelled_place_each : (ps : List Pair) (labels : List (List ℕ)) (id x : List ℕ) → same_text id x ≡ false
    → is_labelled (place_each ps labels id) x ≡ true → is_labelled ps x ≡ true
labelled_place_each ps [] id x other h = h
labelled_place_each ps (l ∷ ls) id x other h =
    labelled_place ps l id x other (labelled_place_each (place ps l id) ls id x other h)

pub labelled_place_all : (ps : List Pair) (labels : List (List ℕ)) (id x : List ℕ) → same_text id x ≡ false
    → is_labelled (place_all ps labels id) x ≡ true → is_labelled ps x ≡ true
labelled_place_all ps labels id x other h = labelled_place_each ps (in_order labels) id x other h

-- ---- a version more: of the others no more count than did

fewer_kept : (keep keep' : VersionRow → Bool) (vs : List VersionRow)
    → ((v : VersionRow) → has_version vs v.id ≡ true → keep' v ≡ true → keep v ≡ true)
    → length (filter keep' vs) ≤ length (filter keep vs)
fewer_kept keep keep' [] only = omega arith
fewer_kept keep keep' (v ∷ vs) only =
    let here : has_version (v ∷ vs) v.id ≡ true = ap (λ b. b || has_version vs v.id) (same_text_itself v.id) in
    by (keep v) (keep' v) (only v here)
    (fewer_kept keep keep' vs (λ w there. only w (or_right (same_text v.id w.id) (has_version vs w.id) there)))
  where
    by : (a b : Bool) → (b ≡ true → a ≡ true) → length (filter keep' vs) ≤ length (filter keep vs)
        → length (cond b (v ∷ filter keep' vs) (filter keep' vs)) ≤ length
        (cond a (v ∷ filter keep vs) (filter keep vs))
    by true true h rest = omega (arith, rest)
    by true false h rest = omega (arith, rest)
    by false true h rest = absurd (false≢true (h refl))
    by false false h rest = rest

-- a version of the row is another one than that of a token which names none
another : (vs : List VersionRow) (id token : List ℕ) → has_version vs token ≡ false → has_version vs id ≡ true
    → same_text token id ≡ false
another vs id token none there =
    ⊎_elim (λ (_, e). absurd (false≢true (sym none ∙ ap (has_version vs) e ∙ there))) (λ (other, _). other)
    (same_text_tells token id)

-- what was not labelled, nor among the newest, is not then either
any_kept : (labelled young newest was_labelled was_newest : Bool) → (labelled ≡ true → was_labelled ≡ true)
    → (newest ≡ true → was_newest ≡ true) → (labelled || young || newest) ≡ true
    → (was_labelled || young || was_newest) ≡ true
any_kept true young newest l n labels news h = ap (λ b. b || young || n) (labels refl)
any_kept false true newest true n labels news h = refl
any_kept false true newest false n labels news h = refl
any_kept false false true l n labels news h = or_right (l || false) n (news refl)
any_kept false false false l n labels news h = absurd (false≢true h)

-- whichever labels and job the row has then
more_kept : (row after : SecretRow) (w : VersionRow) (moment : Moment) → has_version row.versions w.id ≡ false
    → after.versions ≡ row.versions ++ w ∷ []
    → ((x : List ℕ) → same_text w.id x ≡ false → is_labelled after.labels x ≡ true → is_labelled row.labels x ≡ true)
    → (v : VersionRow) → has_version row.versions v.id ≡ true → is_kept after moment v ≡ true
    → is_kept row moment v ≡ true
more_kept row after w moment none is labels v there h =
    let other : same_text w.id v.id ≡ false = another row.versions v.id w.id none there in
    let more : newer_than after.versions v.serial ≡ cond (nat_lt v.serial w.serial)
    (newer_than row.versions v.serial + 1) (newer_than row.versions v.serial) =
    ap (λ vs. newer_than vs v.serial) is ∙ newer_push row.versions w v.serial in
    let news : nat_lt (newer_than after.versions v.serial) NEWEST_KEPT ≡ true
    → nat_lt (newer_than row.versions v.serial) NEWEST_KEPT ≡ true =
    λ lower. grind (arith, nat_tests, more, lower) in
    any_kept (is_labelled after.labels v.id) (nat_lt moment.0 (v.made.0 + SECONDS_KEPT))
    (nat_lt (newer_than after.versions v.serial) NEWEST_KEPT) (is_labelled row.labels v.id)
    (nat_lt (newer_than row.versions v.serial) NEWEST_KEPT) (labels v.id other) news h

kept_one_more : (row after : SecretRow) (w : VersionRow) (moment : Moment) → has_version row.versions w.id ≡ false
    → after.versions ≡ row.versions ++ w ∷ []
    → ((x : List ℕ) → same_text w.id x ≡ false → is_labelled after.labels x ≡ true → is_labelled row.labels x ≡ true)
    → length (kept after moment).versions ≤ length (kept row moment).versions + 1
kept_one_more row after w moment none is labels =
    let keep : VersionRow → Bool = is_kept after moment in
    let all : length (kept after moment).versions ≡ length (filter keep (row.versions ++ w ∷ [])) =
    ap (λ vs. length (filter keep vs)) is in
    let most : length (filter keep (row.versions ++ w ∷ [])) ≤ length (filter keep row.versions) + 1 =
    at_most (keep w) (length (filter keep row.versions)) _ (filter_push keep row.versions w) in
    let fewer : length (filter keep row.versions) ≤ length (kept row moment).versions =
    fewer_kept (is_kept row moment) keep row.versions (more_kept row after w moment none is labels) in
    omega (arith, all, most, fewer)
  where
    at_most : (b : Bool) (n m : ℕ) → m ≡ cond b (n + 1) n → m ≤ n + 1
    at_most true n m e = omega (arith, e)
    at_most false n m e = omega (arith, e)

room_for_one : (row : SecretRow) (when : When) → is_full_when row when ≡ false
    → length (counted row when) + 1 ≤ VERSIONS_LIMIT
room_for_one row when h = grind (arith, nat_tests)

-- where a version may be added no more count then than there may be
pub added_counted : (row after : SecretRow) (w : VersionRow) (when : When) → is_full_when row when ≡ false
    → has_version row.versions w.id ≡ false → after.versions ≡ row.versions ++ w ∷ []
    → ((x : List ℕ) → same_text w.id x ≡ false → is_labelled after.labels x ≡ true → is_labelled row.labels x ≡ true)
    → length (counted after when) ≤ VERSIONS_LIMIT
added_counted row after w when room none is labels = by when.prunes (room_for_one row when room)
  where
    by : (b : Bool) → length (cond b (kept row when.moment).versions row.versions) + 1 ≤ VERSIONS_LIMIT
        → length (cond b (kept after when.moment).versions after.versions) ≤ VERSIONS_LIMIT
    by true h =
        let room : length (kept row when.moment).versions + 1 ≤ VERSIONS_LIMIT = h in
        let most = kept_one_more row after w when.moment none is labels in
        omega (arith, room, most)
    by false h =
        let room : length row.versions + 1 ≤ VERSIONS_LIMIT = h in
        let all : length after.versions ≡ length (row.versions ++ w ∷ []) = ap length is in
        omega (arith, room, all, length-append row.versions (w ∷ []))

-- where the versions stay as many as they were no more count than there may be
pub few_counted : (row : SecretRow) (when : When) → length row.versions ≤ VERSIONS_LIMIT
    → length (counted row when) ≤ VERSIONS_LIMIT
few_counted row when few = omega (arith, few, counted_within row when)

put_counted_on : (row : SecretRow) (token : List ℕ) (value : Value) (labels : List (List ℕ)) (when : When)
    (found : Option VersionRow) → version_of row.versions token ≡ found
    → put_answer_on row token value labels when found ≡ Added → length row.versions ≤ VERSIONS_LIMIT
    → length (counted (put_row_on row token value labels when.moment found) when) ≤ VERSIONS_LIMIT
put_counted_on row token value labels when None e h few =
    added_counted row (added_row row token value labels when.moment) (new_version row token value when.moment) when
    (not_full (is_full_when row when) VERSIONS_LIMIT (put_placed (place_all row.labels labels token)) h).0
    (version_of_none row.versions token e) refl (λ x other. labelled_place_all row.labels labels token x other)
put_counted_on row token value labels when (Some version) e h few =
    few_counted (put_row_on row token value labels when.moment (Some version)) when
    (omega (arith, few, length_filled row.versions token value))

-- of the row after a put that is done no more versions count than there may be
pub put_counted : (row : SecretRow) (token : List ℕ) (value : Value) (labels : List (List ℕ)) (when : When)
    → put_answer row token value labels when ≡ Added → length row.versions ≤ VERSIONS_LIMIT
    → length (counted (put_row row token value labels when.moment) when) ≤ VERSIONS_LIMIT
put_counted row token value labels when done few =
    put_counted_on row token value labels when (version_of row.versions token) refl done few
