-- What put, move_label and settle keep of a sound secret.
use Rattle.std.proofs.Common.{◌≡◌, ℕ, suc, ◌+◌, ◌≤◌, Bool, true, false, ◌&&◌, cond, List, [], ◌∷◌, ◌++◌, length, Option, Some, None, IsTrue, refl, ap, ◌∙◌, arith}
use Rattle.std.proofs.lemmas.Grind.{common_steps}
use Rattle.std.proofs.lemmas.Bool.{and_parts, and_from}
use Rattle.std.proofs.lemmas.Bool.Decides.{nat_tests}
use Rattle.std.proofs.lemmas.Option.{IfSome_then}
use Rattle.sm_base.specs.declared.moment.Moment.{Moment}
use Rattle.sm_base.specs.declared.limits.TheConstants.{VERSIONS_LIMIT, LABELS_LIMIT}
use Rattle.sm_model.specs.declared.value.Value.{Value}
use Rattle.sm_model.specs.declared.rows.Pair.{Pair}
use Rattle.sm_model.specs.declared.rows.Job.{Job}
use Rattle.sm_model.specs.declared.rows.Stage.TheVariants.{Set}
use Rattle.sm_model.specs.declared.rows.VersionRow.{VersionRow}
use Rattle.sm_model.specs.declared.rows.SecretRow.{SecretRow}
use Rattle.sm_model.specs.Bounds.{fits, is_small, is_attempt, is_date}
use Rattle.sm_model.specs.Versions.{When, is_full_when}
use Rattle.sm_versions.specs.declared.values.PutDone.{PutDone}
use Rattle.sm_versions.specs.declared.values.PutDone.TheVariants.{Added, Same, Exists, TooMany, TooManyLabels}
use Rattle.sm_versions.specs.declared.moving.Moved.{Moved}
use Rattle.sm_versions.specs.declared.moving.Moved.TheVariants as moves
use Rattle.sm_base.specs.Texts.{same_text}
use Rattle.sm_model.specs.Labels.{aws_current, holder}
use Rattle.sm_versions.specs.Labels.{own_count, without, place, place_all, labels_on}
use Rattle.sm_versions.specs.Versions.{has_value, same_value, version_of, filled}
use Rattle.sm_versions.specs.Put.{has_too_many, put_placed, put_held, put_answer_on, put_answer, new_version, put_row, put_row_on}
use Rattle.sm_versions.specs.Move.{missing, move_placed, move_to, move_held, unless_missing, move_answer, move_row}
use Rattle.sm_versions.specs.Settle.{is_live, is_create, advanced_job, settled_job, settle}
use Rattle.sm_versions.specs.Kept.{will_have_current}
use Rattle.sm_versions.specs.Sound.{is_version, each_version, is_job, RowFits, UnsettledSound, RowSound}
use Rattle.sm_versions.proofs.KeptLaws.{put_keeps, moved_past, moved_held, move_keeps, settle_keeps, unsettled_from_kept}

-- ---- how many labels and versions

pub not_full : (full : Bool) (n : ℕ) (done : PutDone) → cond full (TooMany n) done ≡ Added
    → (full ≡ false) × (done ≡ Added)
not_full true n done h = absurd (cc)
not_full false n done h = (refl, h)

not_many : (many : Bool) (n : ℕ) → cond many (TooManyLabels n) Added ≡ Added → many ≡ false
not_many true n h = absurd (cc)
not_many false n h = refl

few_labels : (pairs : List Pair) → has_too_many pairs ≡ false → own_count pairs ≤ LABELS_LIMIT
few_labels pairs h = grind (arith, nat_tests)

put_few : (pairs : List Pair) → put_placed pairs ≡ Added → own_count pairs ≤ LABELS_LIMIT
put_few pairs h = few_labels pairs (not_many (has_too_many pairs) LABELS_LIMIT h)

no_repeat : (same : Bool) (labels : List (List ℕ)) → cond same (Same labels) Exists ≡ Added → ⊥
no_repeat true labels h = absurd (cc)
no_repeat false labels h = absurd (cc)

held_few : (row : SecretRow) (token : List ℕ) (value : Value) (labels : List (List ℕ)) (kept : Option Value)
    → put_held row token value labels kept ≡ Added → own_count (place_all row.labels labels token) ≤ LABELS_LIMIT
held_few row token value labels None h = put_few (place_all row.labels labels token) h
held_few row token value labels (Some kept) h =
    absurd (no_repeat (same_value kept value) (labels_on row.labels token) h)

-- ---- each version

each_push : (vs : List VersionRow) (w : VersionRow) → each_version vs ≡ true → is_version w ≡ true
    → each_version (vs ++ w ∷ []) ≡ true
each_push [] w each new = and_from _ _ new refl
each_push (v ∷ vs) w each new =
    let parts = and_parts (is_version v) (each_version vs) each in and_from _ _ parts.0 (each_push vs w parts.1 new)

version_filled : (v : VersionRow) (value : Value) → is_version v ≡ true → is_small value ≡ true
    → is_version (record v { value = Some value }) ≡ true
version_filled v value h small =
    let parts = and_parts (fits is_small v.value && fits is_attempt v.rotated) (is_date v.made) h in
    and_from _ _ (and_from _ _ small (and_parts (fits is_small v.value) (fits is_attempt v.rotated) parts.0).1) parts.1

each_filled : (vs : List VersionRow) (id : List ℕ) (value : Value) → each_version vs ≡ true → is_small value ≡ true
    → each_version (filled vs id value) ≡ true
each_filled [] id value each small = refl
each_filled (v ∷ vs) id value each small =
    let parts = and_parts (is_version v) (each_version vs) each in
    by (same_text v.id id) (version_filled v value parts.0 small) parts.0 parts.1
    (each_filled vs id value parts.1 small)
  where
    by : (b : Bool) → is_version (record v { value = Some value }) ≡ true → is_version v ≡ true → each_version vs ≡ true
        → each_version (filled vs id value) ≡ true
        → each_version (cond b (record v { value = Some value } ∷ vs) (v ∷ filled vs id value)) ≡ true
    by true here head tail rest = and_from _ _ here tail
    by false here head tail rest = and_from _ _ head rest

pub length_filled : (vs : List VersionRow) (id : List ℕ) (value : Value) → length (filled vs id value) ≡ length vs
length_filled [] id value = refl
length_filled (v ∷ vs) id value = by (same_text v.id id) (length_filled vs id value)
  where
    by : (b : Bool) → length (filled vs id value) ≡ length vs
        → length (cond b (record v { value = Some value } ∷ vs) (v ∷ filled vs id value)) ≡ length (v ∷ vs)
    by true rest = refl
    by false rest = ap (λ n. suc n) rest

-- ---- a put

put_fits_on : (row : SecretRow) (token : List ℕ) (value : Value) (labels : List (List ℕ)) (when : When)
    (found : Option VersionRow)
    → put_answer_on row token value labels when found ≡ Added → is_small value ≡ true → is_date when.moment ≡ true
    → RowFits row → RowFits (put_row_on row token value labels when.moment found)
put_fits_on row token value labels when None h small date f =
    let parts = not_full (is_full_when row when) VERSIONS_LIMIT (put_placed (place_all row.labels labels token)) h in
    let versions = each_push row.versions (new_version row token value when.moment) f.versions
    (and_from _ _ (and_from _ _ small refl) date) in
    assumption (versions, put_few (place_all row.labels labels token) parts.1, f)
put_fits_on row token value labels when (Some version) h small date f =
    assumption (
      each_filled row.versions token value f.versions small,
      held_few row token value labels version.value h,
      f,
    )

-- a put that is done keeps a sound secret sound before settling, where the value is small and AWSCURRENT has a holder
-- or is placed
pub put_sound : (row : SecretRow) (token : List ℕ) (value : Value) (labels : List (List ℕ)) (when : When)
    → put_answer row token value labels when ≡ Added → IsTrue (will_have_current row labels) → IsTrue (is_small value)
    → IsTrue (is_date when.moment)
    → UnsettledSound row → UnsettledSound (put_row row token value labels when.moment)
put_sound row token value labels when done will small date sound = record {
  kept = put_keeps row token value labels when.moment will sound.kept;
  fits = put_fits_on row token value labels when (version_of row.versions token) done small date sound.fits;
}

put_same_on : (row : SecretRow) (token : List ℕ) (value : Value) (labels : List (List ℕ)) (moment : Moment)
    (found : Option VersionRow)
    → ((put_row_on row token value labels moment found).serial ≡ row.serial)
    × ((put_row_on row token value labels moment found).name ≡ row.name)
    × ((put_row_on row token value labels moment found).arn ≡ row.arn)
put_same_on row token value labels moment None = (refl, refl, refl)
put_same_on row token value labels moment (Some version) = (refl, refl, refl)

-- a put leaves the secret's serial, name and ARN
pub put_same_secret : (row : SecretRow) (token : List ℕ) (value : Value) (labels : List (List ℕ)) (moment : Moment)
    → ((put_row row token value labels moment).serial ≡ row.serial)
    × ((put_row row token value labels moment).name ≡ row.name)
    × ((put_row row token value labels moment).arn ≡ row.arn)
put_same_secret row token value labels moment =
    put_same_on row token value labels moment (version_of row.versions token)

-- ---- a move

fewer_without : (ps : List Pair) (label : List ℕ) → own_count (without ps label) ≤ own_count ps
fewer_without [] label = omega arith
fewer_without (p ∷ ps) label = grind (arith, common_steps, fewer_without ps label)

move_few : (pairs : List Pair) → move_placed pairs ≡ moves.Ok → own_count pairs ≤ LABELS_LIMIT
move_few pairs h = few_labels pairs (by (has_too_many pairs) h)
  where
    by : (many : Bool) → cond many (moves.TooManyLabels LABELS_LIMIT) moves.Ok ≡ moves.Ok → many ≡ false
    by true h = absurd (cc)
    by false h = refl

placed_onto : (b v : Bool) (placed : Moved) (id : List ℕ) → cond b (cond v placed (moves.Empty id)) placed ≡ moves.Ok
    → placed ≡ moves.Ok
placed_onto false v placed id h = h
placed_onto true true placed id h = h
placed_onto true false placed id h = absurd (cc)

moved_fits : (row : SecretRow) (label : List ℕ) (to : Option (List ℕ)) → move_to row label to ≡ moves.Ok → RowFits row
    → RowFits (move_row row label to)
moved_fits row label None h f =
    let labels : own_count (without row.labels label) ≤ LABELS_LIMIT =
    omega (arith, fewer_without row.labels label, f.labels) in
    assumption (labels, f)
moved_fits row label (Some to) h f =
    let placed = placed_onto (same_text label aws_current) (has_value row.versions to)
    (move_placed (place row.labels label to)) to h in
    assumption (move_few (place row.labels label to) placed, f)

-- an accepted move keeps a sound secret sound before settling
pub move_sound : (row : SecretRow) (label : List ℕ) (to from : Option (List ℕ))
    → move_answer row label to from ≡ moves.Ok → UnsettledSound row → UnsettledSound (move_row row label to)
move_sound row label to from accepted sound =
    let past_from = moved_past (missing row.versions from)
    (unless_missing (missing row.versions to) (move_held row label to from)) accepted in
    let past_to = moved_past (missing row.versions to) (move_held row label to from) past_from.1 in
    record {
      kept = move_keeps row label to from accepted sound.kept;
      fits = moved_fits row label to (moved_held _ (move_to row label to) (holder row.labels label) past_to.1)
          sound.fits;
    }

-- ---- settling

advanced_is_job : (row : SecretRow) (job : Job) → is_job (advanced_job row job) ≡ is_job job
advanced_is_job row job = by (is_create job.stage && has_value row.versions job.token)
  where
    by : (b : Bool) → is_job (cond b (record job { stage = Set; attempt = 1 }) job) ≡ is_job job
    by true = refl
    by false = refl

settled_fits : (row : SecretRow) (job : Option Job) → fits is_job job ≡ true → fits is_job (settled_job row job) ≡ true
settled_fits row None h = refl
settled_fits row (Some job) h = by (is_live row job)
  where
    by : (b : Bool) → fits is_job (cond b (Some (advanced_job row job)) None) ≡ true
    by true = advanced_is_job row job ∙ h
    by false = refl

pub settle_fits : (row : SecretRow) → UnsettledSound row → RowFits (settle row)
settle_fits row sound = assumption (settled_fits row row.job sound.fits.job, sound.fits)

-- what is sound before settling, settled, is sound between changes where there are not too many versions
pub settle_sound : (row : SecretRow) → UnsettledSound row → length row.versions ≤ VERSIONS_LIMIT
    → RowSound (settle row)
settle_sound row sound few =
    record { kept = settle_keeps row sound.kept; fits = settle_fits row sound; version_count = few }

-- what is sound between changes is sound before settling too
pub unsettled_sound : (row : SecretRow) → RowSound row → UnsettledSound row
unsettled_sound row sound = record { kept = unsettled_from_kept row sound.kept; fits = sound.fits }

-- a secret changed at a moment
pub changed_sound : (row : SecretRow) (moment : Moment) → IsTrue (is_date moment) → UnsettledSound row
    → UnsettledSound (record row { changed = moment })
changed_sound row moment date sound = record {
  kept = record {
    versions = assumption sound.kept.versions;
    job = IfSome_then row.job sound.kept.job (λ job fits. assumption fits);
  };
  fits = assumption (date, sound.fits);
}
