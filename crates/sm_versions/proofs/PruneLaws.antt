-- What dropping old versions leaves of a secret.
use Rattle.std.proofs.Common.{◌≡◌, ℕ, ◌+◌, ◌≤◌, Bool, true, false, not, ◌&&◌, ◌||◌, cond, nat_le, nat_lt, List, [], ◌∷◌, length, filter, Option, Some, None, is_none, is_some, refl, sym, ap, ◌∙◌, arith, ⊎_elim}
use Rattle.std.proofs.lemmas.Grind.{common_steps}
use Rattle.std.proofs.lemmas.Bool.{and_parts, and_from, or_right, false≢true}
use Rattle.std.proofs.lemmas.Bool.Decides.{nat_tests}
use Rattle.std.proofs.lemmas.Option.{IfSome_then}
use Rattle.sm_base.specs.Texts.{same_text}
use Rattle.sm_base.specs.declared.limits.TheConstants.{VERSIONS_LIMIT, NEWEST_KEPT, SECONDS_KEPT}
use Rattle.sm_base.specs.declared.moment.Moment.{Moment}
use Rattle.sm_model.specs.Labels.{aws_current, aws_pending, holder, is_held_by, is_labelled}
use Rattle.sm_model.specs.Versions.{When, has_version, newer_than, is_kept, kept, counted}
use Rattle.sm_model.specs.declared.rows.Job.{Job}
use Rattle.sm_model.specs.declared.rows.Pair.{Pair}
use Rattle.sm_model.specs.declared.rows.SecretRow.{SecretRow}
use Rattle.sm_model.specs.declared.rows.Stage.TheVariants.{Set}
use Rattle.sm_model.specs.declared.rows.VersionRow.{VersionRow}
use Rattle.sm_versions.specs.Kept.{VersionsKept, JobKept, CurrentKept, pairs_named, ids_once, has_none, holder_has_value}
use Rattle.sm_versions.specs.Prune.{pruned}
use Rattle.sm_versions.specs.Serials.{rises, version_serials}
use Rattle.sm_versions.specs.Settle.{is_live, is_create, advanced_job, settled_job, settle}
use Rattle.sm_versions.specs.Sound.{is_version, each_version, RowFits, RowSound}
use Rattle.sm_versions.specs.Versions.{has_value, value_of}
use Rattle.sm_versions.proofs.TextLemmas.{same_text_itself, same_text_tells}

-- ---- what has a label is kept

-- the version that a label is on has a label
pub held_labelled : (ps : List Pair) (label id : List ℕ) → is_held_by (holder ps label) id ≡ true
    → is_labelled ps id ≡ true
held_labelled [] label id h = absurd (false≢true h)
held_labelled (p ∷ ps) label id h = by (same_text p.label label) h (held_labelled ps label id)
  where
    by : (b : Bool) → is_held_by (cond b (Some p.id) (holder ps label)) id ≡ true
        → (is_held_by (holder ps label) id ≡ true → is_labelled ps id ≡ true)
        → (same_text p.id id || is_labelled ps id) ≡ true
    by true held rest = ap (λ b. b || is_labelled ps id) held
    by false held rest = or_right (same_text p.id id) (is_labelled ps id) (rest held)

-- each version with the id is kept
pub KeepsId : (VersionRow → Bool) → List ℕ → Type 0
KeepsId keep id = (v : VersionRow) → same_text v.id id ≡ true → keep v ≡ true

same_id : (a b : List ℕ) → same_text a b ≡ true → a ≡ b
same_id a b h =
    ⊎_elim (λ (_, e). e) (λ (other, _). absurd (false≢true (sym other ∙ h))) (same_text_tells a b)

pub labelled_kept : (row : SecretRow) (moment : Moment) (id : List ℕ) → is_labelled row.labels id ≡ true
    → KeepsId (is_kept row moment) id
unfolding KeepsId
labelled_kept row moment id labelled v same =
    let e : v.id ≡ id = same_id v.id id same in
    let there : is_labelled row.labels v.id ≡ true = ap (λ i. is_labelled row.labels i) e ∙ labelled in
    ap
    (λ b. b || nat_lt moment.0 (v.made.0 + SECONDS_KEPT) || nat_lt (newer_than row.versions v.serial) NEWEST_KEPT)
    there

pub has_version_filtered : (keep : VersionRow → Bool) (vs : List VersionRow) (id : List ℕ) → KeepsId keep id
    → has_version (filter keep vs) id ≡ has_version vs id
unfolding KeepsId
has_version_filtered keep [] id all = refl
has_version_filtered keep (v ∷ vs) id all =
    grind (arith, common_steps, all v, has_version_filtered keep vs id all)

pub value_of_filtered : (keep : VersionRow → Bool) (vs : List VersionRow) (id : List ℕ) → KeepsId keep id
    → value_of (filter keep vs) id ≡ value_of vs id
unfolding KeepsId
value_of_filtered keep [] id all = refl
value_of_filtered keep (v ∷ vs) id all =
    grind (arith, common_steps, all v, value_of_filtered keep vs id all)

-- ---- who is left was there

has_version_left : (keep : VersionRow → Bool) (vs : List VersionRow) (id : List ℕ)
    → has_version (filter keep vs) id ≡ true → has_version vs id ≡ true
has_version_left keep [] id h = h
has_version_left keep (v ∷ vs) id h = grind (arith, common_steps, has_version_left keep vs id)

ids_filtered : (keep : VersionRow → Bool) (vs : List VersionRow) → ids_once vs ≡ true
    → ids_once (filter keep vs) ≡ true
ids_filtered keep [] h = refl
ids_filtered keep (v ∷ vs) h =
    grind (arith, common_steps, ids_filtered keep vs, has_version_left keep vs v.id)

-- numbers that rise from one on rise from a smaller one on too
rises_lower : (low high : ℕ) (ns : List ℕ) (next : ℕ) → low ≤ high → rises high ns next ≡ true
    → rises low ns next ≡ true
rises_lower low high [] next h e = grind (arith, nat_tests)
rises_lower low high (n ∷ ns) next h e = grind (arith, nat_tests)

serials_filtered : (keep : VersionRow → Bool) (low : ℕ) (vs : List VersionRow) (next : ℕ)
    → rises low (version_serials vs) next ≡ true → rises low (version_serials (filter keep vs)) next ≡ true
serials_filtered keep low [] next h = h
serials_filtered keep low (v ∷ vs) next h =
    let parts = and_parts (nat_le low v.serial) (rises (v.serial + 1) (version_serials vs) next) h in
    by (keep v) parts.0 (serials_filtered keep (v.serial + 1) vs next parts.1)
  where
    by : (b : Bool) → nat_le low v.serial ≡ true
        → rises (v.serial + 1) (version_serials (filter keep vs)) next ≡ true
        → rises low (version_serials (cond b (v ∷ filter keep vs) (filter keep vs))) next ≡ true
    by true above rest = and_from _ _ above rest
    by false above rest =
        rises_lower low (v.serial + 1) (version_serials (filter keep vs)) next (grind (arith, nat_tests)) rest

named_filtered : (keep : VersionRow → Bool) (vs : List VersionRow) (ps : List Pair)
    → ((id : List ℕ) → is_labelled ps id ≡ true → has_version (filter keep vs) id ≡ has_version vs id)
    → pairs_named vs ps ≡ true → pairs_named (filter keep vs) ps ≡ true
named_filtered keep vs [] same h = refl
named_filtered keep vs (p ∷ ps) same h =
    let parts = and_parts (has_version vs p.id) (pairs_named vs ps) h in
    let here : is_labelled (p ∷ ps) p.id ≡ true = ap (λ b. b || is_labelled ps p.id) (same_text_itself p.id) in
    and_from _ _ (same p.id here ∙ parts.0)
    (named_filtered keep vs ps (λ id there. same id (or_right (same_text p.id id) (is_labelled ps id) there)) parts.1)

-- the holder of AWSCURRENT keeps its value
current_filtered : (keep : VersionRow → Bool) (vs : List VersionRow) (held : Option (List ℕ))
    → ((id : List ℕ) → held ≡ Some id → KeepsId keep id) → (has_none vs || holder_has_value vs held) ≡ true
    → (has_none (filter keep vs) || holder_has_value (filter keep vs) held) ≡ true
current_filtered keep [] held all h = h
current_filtered keep (v ∷ vs) None all h = absurd (false≢true h)
current_filtered keep (v ∷ vs) (Some id) all h =
    or_right (has_none (filter keep (v ∷ vs))) _
    (ap (λ o. is_some o) (value_of_filtered keep (v ∷ vs) id (all id refl)) ∙ h)

holder_held : (held : Option (List ℕ)) (id : List ℕ) → held ≡ Some id → is_held_by held id ≡ true
holder_held held id e = ap (λ o. is_held_by o id) e ∙ same_text_itself id

-- ---- what is kept of a secret's versions, labels and job

versions_kept_pruned : (row : SecretRow) (moment : Moment) → VersionsKept row → VersionsKept (kept row moment)
versions_kept_pruned row moment k =
    let keep : VersionRow → Bool = is_kept row moment in
    record {
      once = k.once;
      named = named_filtered keep row.versions row.labels
          (λ id there. has_version_filtered keep row.versions id (labelled_kept row moment id there)) k.named;
      ids = ids_filtered keep row.versions k.ids;
      serials = serials_filtered keep 0 row.versions row.next_version k.serials;
      current = current_filtered keep row.versions (holder row.labels aws_current)
          (λ id e. labelled_kept row moment id
          (held_labelled row.labels aws_current id (holder_held (holder row.labels aws_current) id e))) k.current;
    }

-- the version of a job that holds AWSPENDING is kept
pub pending_kept : (row : SecretRow) (moment : Moment) (token : List ℕ)
    → is_held_by (holder row.labels aws_pending) token ≡ true → KeepsId (is_kept row moment) token
pending_kept row moment token held =
    labelled_kept row moment token (held_labelled row.labels aws_pending token held)

live_alike : (stands there held other there' : Bool) → (held ≡ true → there' ≡ there)
    → (stands && there' && held && other) ≡ (stands && there && held && other)
live_alike stands there true other there' same = ap (λ b. stands && b && true && other) (same refl)
live_alike stands there false other there' same = grind arith

pub live_pruned : (row : SecretRow) (moment : Moment) (job : Job)
    → is_live (kept row moment) job ≡ is_live row job
live_pruned row moment job =
    live_alike (is_none row.deletion) (has_version row.versions job.token)
    (is_held_by (holder row.labels aws_pending) job.token)
    (not (is_held_by (holder row.labels aws_current) job.token))
    (has_version (kept row moment).versions job.token)
    (λ held. has_version_filtered (is_kept row moment) row.versions job.token
    (pending_kept row moment job.token held))

pub live_held : (row : SecretRow) (job : Job) → is_live row job ≡ true
    → is_held_by (holder row.labels aws_pending) job.token ≡ true
live_held row job live = grind (arith, live)

value_pruned : (row : SecretRow) (moment : Moment) (job : Job) → is_live row job ≡ true
    → has_value (kept row moment).versions job.token ≡ has_value row.versions job.token
value_pruned row moment job live =
    ap (λ o. is_some o)
    (value_of_filtered (is_kept row moment) row.versions job.token
    (pending_kept row moment job.token (live_held row job live)))

job_kept_pruned : (row : SecretRow) (moment : Moment) (job : Job) → JobKept row job → JobKept (kept row moment) job
job_kept_pruned row moment job k = record {
  live = live_pruned row moment job ∙ k.live;
  first = k.first;
  last = k.last;
  tested = k.tested;
  valued = value_pruned row moment job k.live ∙ k.valued;
}

pub kept_stays : (row : SecretRow) (moment : Moment) → CurrentKept row → CurrentKept (kept row moment)
kept_stays row moment k = record {
  versions = versions_kept_pruned row moment k.versions;
  job = IfSome_then row.job k.job (λ job. job_kept_pruned row moment job);
}

-- ---- dropping and settling may be done in either order

settled_alike : (row : SecretRow) (moment : Moment) (job : Option Job)
    → settled_job (kept row moment) job ≡ settled_job row job
settled_alike row moment None = refl
settled_alike row moment (Some job) =
    ap (λ b. cond b (Some (advanced_job (kept row moment) job)) None) (live_pruned row moment job)
    ∙ by (is_live row job) refl
  where
    by : (b : Bool) → b ≡ is_live row job
        → cond b (Some (advanced_job (kept row moment) job)) None ≡ cond b (Some (advanced_job row job)) None
    by true e = ap
        (λ v. Some (cond (is_create job.stage && v) (record job { stage = Set; attempt = 1 }) job))
        (value_pruned row moment job (sym e))
    by false e = refl

settle_kept : (row : SecretRow) (moment : Moment) → settle (kept row moment) ≡ kept (settle row) moment
settle_kept row moment =
    ap (λ (j : Option Job). record (kept row moment) { job = j }) (settled_alike row moment row.job)

pub settle_pruned : (row : SecretRow) (when : When) → settle (pruned row when) ≡ pruned (settle row) when
settle_pruned row when = by when.prunes
  where
    by : (b : Bool) → settle (record row { versions = cond b (kept row when.moment).versions row.versions })
        ≡ record (settle row) { versions = cond b (kept row when.moment).versions row.versions }
    by true = settle_kept row when.moment
    by false = refl

-- ---- a sound secret

each_filtered : (keep : VersionRow → Bool) (vs : List VersionRow) → each_version vs ≡ true
    → each_version (filter keep vs) ≡ true
each_filtered keep [] h = refl
each_filtered keep (v ∷ vs) h =
    let parts = and_parts (is_version v) (each_version vs) h in
    by (keep v) parts.0 (each_filtered keep vs parts.1)
  where
    by : (b : Bool) → is_version v ≡ true → each_version (filter keep vs) ≡ true
        → each_version (cond b (v ∷ filter keep vs) (filter keep vs)) ≡ true
    by true here rest = and_from _ _ here rest
    by false here rest = rest

fits_pruned : (row : SecretRow) (moment : Moment) → RowFits row → RowFits (kept row moment)
fits_pruned row moment f = assumption (each_filtered (is_kept row moment) row.versions f.versions, f)

-- a secret of which no more versions count than there may be is sound when the others are dropped
pub pruned_sound : (row : SecretRow) (when : When) → CurrentKept row → RowFits row
    → length (counted row when) ≤ VERSIONS_LIMIT → RowSound (pruned row when)
pruned_sound row when k f few = by when.prunes few
  where
    by : (b : Bool) → length (cond b (kept row when.moment).versions row.versions) ≤ VERSIONS_LIMIT
        → RowSound (record row { versions = cond b (kept row when.moment).versions row.versions })
    by true count = record {
      kept = kept_stays row when.moment k;
      fits = fits_pruned row when.moment f;
      version_count = count;
    }
    by false count = record { kept = k; fits = f; version_count = count }
