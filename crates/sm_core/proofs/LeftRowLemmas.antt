-- The rows of what prunes, against those of the same without pruning: versions that need not be kept are gone from the
-- secret that is changed, and all else is the same.
use Rattle.std.proofs.Common.{◌≡◌, ◌⊎◌, inl, inr, ℕ, ◌≤◌, eqb, Bool, true, false, not, ◌&&◌, cond, nat_eq, List, [], ◌∷◌, map, filter, Option, Some, None, IsSome, refl, sym, ap, subst, ◌∙◌, arith}
use Rattle.std.proofs.lemmas.Bool.{false≢true}
use Rattle.std.proofs.lemmas.Bool.Decides.{nat_tests}
use Rattle.sm_base.specs.declared.moment.Moment.{Moment}
use Rattle.sm_base.specs.declared.secret_id.SecretId.{SecretId}
use Rattle.sm_base.specs.Drawn.{drawn_token}
use Rattle.sm_base.specs.SecretId.{secret_id}
use Rattle.sm_base.specs.Texts.{same_text}
use Rattle.sm_model.specs.declared.entry.Act.{Act}
use Rattle.sm_model.specs.declared.entry.Act.TheVariants.{Asked, Begun, Reported}
use Rattle.sm_model.specs.declared.entry.Entry.{Entry}
use Rattle.sm_model.specs.declared.request.DeleteSecret.{DeleteSecret}
use Rattle.sm_model.specs.declared.request.Request.{Request}
use Rattle.sm_model.specs.declared.request.Request.TheVariants as requests
use Rattle.sm_model.specs.declared.rows.Rows.{Rows}
use Rattle.sm_model.specs.declared.rows.SecretRow.{SecretRow}
use Rattle.sm_model.specs.declared.rows.VersionRow.{VersionRow}
use Rattle.sm_model.specs.declared.value.Value.{Value}
use Rattle.sm_model.specs.Versions.{When, has_version, is_kept, kept}
use Rattle.sm_versions.specs.Prune.{pruned}
use Rattle.sm_versions.specs.Settle.{settle}
use Rattle.sm_versions.specs.Versions.{version_of, value_of}
use Rattle.sm_versions.proofs.PruneLaws.{settle_pruned}
use Rattle.sm_versions.proofs.ValueLemmas.{version_of_none, version_of_some}
use Rattle.sm_dates.specs.Days.{days_after}
use Rattle.sm_rotation.specs.Begin.{begin_row}
use Rattle.sm_table.specs.Changes.{row_with, replaced}
use Rattle.sm_table.specs.Found.{named_by, row_with_arn}
use Rattle.sm_table.specs.Sweep.{sweep}
use Rattle.sm_judge_common.specs.Changes.{with_row, change_named}
use Rattle.sm_judge_values.specs.declared.put_secret_value.PutCall.{PutCall}
use Rattle.sm_judge_values.specs.CreateSecret.{create_effect}
use Rattle.sm_judge_values.specs.PutSecretValue.{put_call, put_into, put_effect_of}
use Rattle.sm_judge_values.specs.UpdateSecret.{update_call, update_into}
use Rattle.sm_judge_labels_and_regions.specs.UpdateSecretVersionStage.{move_call, move_in}
use Rattle.sm_judge_policies.specs.Kept.{with_policy}
use Rattle.sm_judge_labels_and_regions.specs.RemoveRegionsFromReplication.{unreplicated}
use Rattle.sm_judge_labels_and_regions.specs.ReplicateSecretToRegions.{replicated}
use Rattle.sm_judge_rotations.specs.CancelRotateSecret.{cancelled}
use Rattle.sm_judge_rotations.specs.Reported.{answered}
use Rattle.sm_judge_rotations.specs.RotateSecret.{plan_of, token_to_start, rotates}
use Rattle.sm_judge_rotations.specs.WholeArns.{change_with_arn}
use Rattle.sm_judge_deletion_and_tags.specs.DeleteSecret.{window_days, scheduled_at, drop_named, delete_effect}
use Rattle.sm_judge_deletion_and_tags.specs.RestoreSecret.{unscheduled}
use Rattle.sm_judge_deletion_and_tags.specs.TagResource.{tagged}
use Rattle.sm_judge_deletion_and_tags.specs.UntagResource.{untagged}
use Rattle.sm_core.specs.Effects.{when_of, request_effect, act_effect, effect}
use Rattle.sm_core.specs.Tokens.{versions_in, need_not_stay, goes_from, VersionsStay}
use Rattle.sm_core.proofs.StayLemmas.{AllStay}
use Rattle.sm_core.proofs.StayedRowLemmas.{plain}

-- ---- one secret

-- it is the same, or it was changed then, and is without the versions that need not be kept
abbrev IsLeft : When → SecretRow → SecretRow → Type 0
IsLeft when row left =
    (left ≡ row) ⊎ ((when.prunes ≡ true) × (row.changed ≡ when.moment) × (left ≡ kept row when.moment))

-- the same, where there is one
abbrev pub LeftOf : When → Option SecretRow → Option SecretRow → Type 0
LeftOf when None None = Unit {0}
LeftOf when None (Some left) = ⊥
LeftOf when (Some row) None = ⊥
LeftOf when (Some row) (Some left) = IsLeft when row left

left_same : (when : When) (row : Option SecretRow) → LeftOf when row row
left_same when None = tt
left_same when (Some row) = inl refl

pub left_there : (when : When) (row left : Option SecretRow) → LeftOf when row left → IsSome left → IsSome row
left_there when None None of is = is
left_there when None (Some left) of is = absurd of
left_there when (Some row) left of is = refl

-- the first version with an id stays the first, where it is kept
first_kept : (keep : VersionRow → Bool) (vs : List VersionRow) (id : List ℕ) (v : VersionRow)
    → version_of vs id ≡ Some v → keep v ≡ true → version_of (filter keep vs) id ≡ Some v
first_kept keep [] id v e k = absurd (cc)
first_kept keep (w ∷ vs) id v e k = by (same_text w.id id) refl e (λ f. first_kept keep vs id v f k)
  where
    skip : (b : Bool) → version_of (filter keep vs) id ≡ Some v → same_text w.id id ≡ false
        → version_of (cond b (w ∷ filter keep vs) (filter keep vs)) id ≡ Some v
    skip true rest other = rw other rest
    skip false rest other = rest

    by : (b : Bool) → b ≡ same_text w.id id → cond b (Some w) (version_of vs id) ≡ Some v
        → (version_of vs id ≡ Some v → version_of (filter keep vs) id ≡ Some v)
        → version_of (cond (keep w) (w ∷ filter keep vs) (filter keep vs)) id ≡ Some v
    by true t f later =
        let same : w ≡ v = cc in
        let here : keep w ≡ true = ap keep same ∙ k in
        let first : same_text w.id id ≡ true = sym t in
        rw here (rw first f)
    by false t f later = skip (keep w) (later f) (sym t)

-- a version that does not go is there, and has its value
stays_there : (row : SecretRow) (moment : Moment) (token : List ℕ) (found : Option VersionRow)
    → version_of row.versions token ≡ found → need_not_stay row moment found ≡ false
    → has_version row.versions token ≡ true
    → (has_version (kept row moment).versions token ≡ true)
    × (value_of (kept row moment).versions token ≡ value_of row.versions token)
stays_there row moment token None e stay there =
    absurd (false≢true (sym (version_of_none row.versions token e) ∙ there))
stays_there row moment token (Some v) e stay there =
    let keeps : is_kept row moment v ≡ true = no_not (is_kept row moment v) stay in
    let left = version_of_some (kept row moment).versions token v
    (first_kept (is_kept row moment) row.versions token v e keeps) in
    (left.0, left.1 ∙ sym (version_of_some row.versions token v e).1)
  where
    no_not : (b : Bool) → not b ≡ false → b ≡ true
    no_not true h = refl
    no_not false h = absurd (false≢true (sym h))

goes_tells : (when : When) (row : SecretRow) (token : List ℕ) → when.prunes ≡ true → row.changed ≡ when.moment
    → (when.prunes && goes_from (Some row) when.moment token) ≡ false
    → need_not_stay row when.moment (version_of row.versions token) ≡ false
goes_tells when row token prunes changed stays =
    let now : nat_eq row.changed.0 when.moment.0 ≡ true = rw changed (grind (arith, nat_tests)) in
    grind (arith, prunes, now, stays)

some_there : (vs : List VersionRow) (token : List ℕ) (value : Value) → value_of vs token ≡ Some value
    → has_version vs token ≡ true
some_there [] token value e = absurd (cc)
some_there (v ∷ vs) token value e = grind (arith, some_there vs token value)

-- of the versions that were there, and stay without pruning, those stay that do not go
pub left_stay : (when : When) (row left : Option SecretRow) (old : List VersionRow) → LeftOf when row left
    → AllStay old (versions_in row) → IsSome left
    → VersionsStay (λ token. when.prunes && goes_from row when.moment token) old (versions_in left)
left_stay when None None old of all is = absurd (cc)
left_stay when None (Some left) old of all is = absurd of
left_stay when (Some row) None old of all is = absurd of
left_stay when (Some row) (Some left) old (inl e) all is = rw e (record {
  there = λ token stays h. all.there token h;
  valued = λ token value stays h. all.valued token value h;
})
left_stay when (Some row) (Some left) old (inr (prunes, changed, e)) all is = rw e (record {
  there = λ token stays h. (stays_there row when.moment token (version_of row.versions token) refl
      (goes_tells when row token prunes changed stays) (all.there token h)).0;
  valued = λ token value stays h.
      let had = all.valued token value h in
      (stays_there row when.moment token (version_of row.versions token) refl
      (goes_tells when row token prunes changed stays) (some_there row.versions token value had)).1 ∙ had;
})

-- ---- lists of rows

settled_left : (row : SecretRow) (when : When) → row.changed ≡ when.moment
    → IsLeft when (settle row) (settle (pruned row when))
settled_left row when changed = by when.prunes refl
  where
    by : (b : Bool) → b ≡ when.prunes → IsLeft when (settle row) (settle (pruned row when))
    by true e = inr (
      sym e,
      changed,
      settle_pruned row when
          ∙ ap (λ (vs : List VersionRow). record (settle row) { versions = vs })
          (ap (λ b. cond b (kept row when.moment).versions row.versions) (sym e)),
    )
    by false e = inl (
        settle_pruned row when
        ∙ ap (λ (vs : List VersionRow). record (settle row) { versions = vs })
        (ap (λ b. cond b (kept row when.moment).versions row.versions) (sym e)))

replaced_left : (rows : List SecretRow) (row : SecretRow) (when : When) (serial : ℕ) → row.changed ≡ when.moment
    → LeftOf when (row_with (map settle (replaced rows row)) serial)
    (row_with (map settle (replaced rows (pruned row when))) serial)
replaced_left [] row when serial changed = tt
replaced_left (r ∷ rs) row when serial changed =
    by (eqb r.serial row.serial) (replaced_left rs row when serial changed)
  where
    here : (b : Bool) → LeftOf when (cond b (Some (settle row)) (row_with (map settle rs) serial))
        (cond b (Some (settle (pruned row when))) (row_with (map settle rs) serial))
    here true = settled_left row when changed
    here false = left_same when (row_with (map settle rs) serial)

    behind : (b : Bool) → LeftOf when (row_with (map settle (replaced rs row)) serial)
        (row_with (map settle (replaced rs (pruned row when))) serial)
        → LeftOf when (cond b (Some (settle r)) (row_with (map settle (replaced rs row)) serial))
        (cond b (Some (settle r)) (row_with (map settle (replaced rs (pruned row when))) serial))
    behind true rest = inl refl
    behind false rest = rest

    by : (b : Bool) → LeftOf when (row_with (map settle (replaced rs row)) serial)
        (row_with (map settle (replaced rs (pruned row when))) serial)
        → LeftOf when (row_with (map settle (cond b (row ∷ rs) (r ∷ replaced rs row))) serial)
        (row_with (map settle (cond b (pruned row when ∷ rs) (r ∷ replaced rs (pruned row when)))) serial)
    by true rest = here (eqb row.serial serial)
    by false rest = behind (eqb r.serial serial) rest

with_row_left : (secrets : List SecretRow) (found : Option SecretRow) (when : When) (change : SecretRow → SecretRow)
    (serial : ℕ)
    → LeftOf when (row_with (map settle (with_row secrets found (plain when.moment) change)) serial)
    (row_with (map settle (with_row secrets found when change)) serial)
with_row_left secrets None when change serial = left_same when (row_with (map settle secrets) serial)
with_row_left secrets (Some row) when change serial =
    replaced_left secrets (record (change row) { changed = when.moment }) when serial refl

-- ---- each act

-- what is said of the secret with the serial
abbrev SecretLeft : When → Rows → Rows → ℕ → Type 0
SecretLeft when plainly pruning serial =
    LeftOf when (row_with (map settle plainly.secrets) serial) (row_with (map settle pruning.secrets) serial)

named_left : (rows : Rows) (id : SecretId) (when : When) (change : SecretRow → SecretRow) (serial : ℕ)
    → SecretLeft when (change_named rows id (plain when.moment) change) (change_named rows id when change) serial
named_left rows id when change serial =
    with_row_left rows.secrets (named_by rows.secrets id) when change serial

with_arn_left : (rows : Rows) (arn : List ℕ) (when : When) (change : SecretRow → SecretRow) (serial : ℕ)
    → SecretLeft when (change_with_arn rows arn (plain when.moment) change)
    (change_with_arn rows arn when change) serial
with_arn_left rows arn when change serial =
    with_row_left rows.secrets (row_with_arn rows.secrets arn) when change serial

delete_left : (rows : Rows) (when : When) (delete : DeleteSecret) (serial : ℕ)
    → SecretLeft when (delete_effect rows (plain when.moment) delete) (delete_effect rows when delete) serial
delete_left rows when delete serial = by delete.force_delete_without_recovery
  where
    id : SecretId
    id = secret_id delete.secret_id

    change : SecretRow → SecretRow
    change = scheduled_at (days_after when.moment (window_days delete.recovery_window_in_days))

    by : (forced : Bool) → SecretLeft when
        (cond forced (drop_named rows id) (change_named rows id (plain when.moment) change))
        (cond forced (drop_named rows id) (change_named rows id when change)) serial
    by true = left_same when (row_with (map settle (drop_named rows id).secrets) serial)
    by false = named_left rows id when change serial

put_left : (rows : Rows) (when : When) (call : Option PutCall) (serial : ℕ)
    → SecretLeft when (put_effect_of rows (plain when.moment) call) (put_effect_of rows when call) serial
put_left rows when None serial = left_same when (row_with (map settle rows.secrets) serial)
put_left rows when (Some call) serial = named_left rows call.id when (put_into call when.moment) serial

same_rows : (when : When) (rows : Rows) (serial : ℕ) → SecretLeft when rows rows serial
same_rows when rows serial = left_same when (row_with (map settle rows.secrets) serial)

request_left : (rows : Rows) (when : When) (drawn : List ℕ) (request : Request) (serial : ℕ)
    → SecretLeft when (request_effect rows (plain when.moment) drawn request) (request_effect rows when drawn request)
    serial
request_left rows when drawn (requests.CreateSecret create) serial =
    same_rows when (create_effect rows when.moment drawn create) serial
request_left rows when drawn (requests.DeleteSecret delete) serial = delete_left rows when delete serial
request_left rows when drawn (requests.PutSecretValue put) serial = put_left rows when (put_call drawn put) serial
request_left rows when drawn (requests.UpdateSecret update) serial =
    named_left rows (secret_id update.secret_id) when (update_into (update_call drawn update) when.moment) serial
request_left rows when drawn (requests.RotateSecret rotate) serial =
    named_left rows (secret_id rotate.secret_id) when
    (rotates (plan_of rotate) (token_to_start drawn rotate) when.moment) serial
request_left rows when drawn (requests.CancelRotateSecret cancel) serial =
    named_left rows (secret_id cancel.secret_id) when cancelled serial
request_left rows when drawn (requests.RestoreSecret restore) serial =
    named_left rows (secret_id restore.secret_id) when unscheduled serial
request_left rows when drawn (requests.TagResource tag) serial =
    named_left rows (secret_id tag.secret_id) when (tagged tag.tags) serial
request_left rows when drawn (requests.UntagResource untag) serial =
    named_left rows (secret_id untag.secret_id) when (untagged untag.tag_keys) serial
request_left rows when drawn (requests.UpdateSecretVersionStage update) serial =
    named_left rows (secret_id update.secret_id) when (move_in (move_call update)) serial
request_left rows when drawn (requests.DeleteResourcePolicy delete) serial =
    named_left rows (secret_id delete.secret_id) when (with_policy None) serial
request_left rows when drawn (requests.PutResourcePolicy put) serial =
    named_left rows (secret_id put.secret_id) when (with_policy (Some put.resource_policy)) serial
request_left rows when drawn (requests.BatchGetSecretValue r) serial = same_rows when rows serial
request_left rows when drawn (requests.DescribeSecret r) serial = same_rows when rows serial
request_left rows when drawn (requests.GetRandomPassword r) serial = same_rows when rows serial
request_left rows when drawn (requests.GetResourcePolicy r) serial = same_rows when rows serial
request_left rows when drawn (requests.GetSecretValue r) serial = same_rows when rows serial
request_left rows when drawn (requests.ListSecretVersionIds r) serial = same_rows when rows serial
request_left rows when drawn (requests.ListSecrets r) serial = same_rows when rows serial
request_left rows when drawn (requests.RemoveRegionsFromReplication remove) serial =
    named_left rows (secret_id remove.secret_id) when (unreplicated remove.regions) serial
request_left rows when drawn (requests.ReplicateSecretToRegions replicate) serial =
    named_left rows (secret_id replicate.secret_id) when (replicated replicate.regions) serial
request_left rows when drawn (requests.StopReplicationToReplica r) serial = same_rows when rows serial
request_left rows when drawn (requests.ValidateResourcePolicy r) serial = same_rows when rows serial

pub act_left : (rows : Rows) (when : When) (drawn : List ℕ) (act : Act) (serial : ℕ)
    → SecretLeft when (act_effect rows (plain when.moment) drawn act) (act_effect rows when drawn act) serial
act_left rows when drawn (Asked request) serial = request_left rows when drawn request serial
act_left rows when drawn (Begun arn) serial =
    with_arn_left rows arn when (λ row. begin_row row (drawn_token drawn) when.moment) serial
act_left rows when drawn (Reported arn at answer) serial =
    with_arn_left rows arn when (answered answer when.moment) serial

-- ---- the next serial

delete_next : (rows : Rows) (when : When) (delete : DeleteSecret)
    → (delete_effect rows (plain when.moment) delete).next ≡ (delete_effect rows when delete).next
delete_next rows when delete = by delete.force_delete_without_recovery
  where
    id : SecretId
    id = secret_id delete.secret_id

    change : SecretRow → SecretRow
    change = scheduled_at (days_after when.moment (window_days delete.recovery_window_in_days))

    by : (forced : Bool) → (cond forced (drop_named rows id) (change_named rows id (plain when.moment) change)).next
        ≡ (cond forced (drop_named rows id) (change_named rows id when change)).next
    by true = refl
    by false = refl

put_next : (rows : Rows) (when : When) (call : Option PutCall)
    → (put_effect_of rows (plain when.moment) call).next ≡ (put_effect_of rows when call).next
put_next rows when None = refl
put_next rows when (Some call) = refl

request_next : (rows : Rows) (when : When) (drawn : List ℕ) (request : Request)
    → (request_effect rows (plain when.moment) drawn request).next ≡ (request_effect rows when drawn request).next
request_next rows when drawn (requests.CreateSecret create) = refl
request_next rows when drawn (requests.DeleteSecret delete) = delete_next rows when delete
request_next rows when drawn (requests.PutSecretValue put) = put_next rows when (put_call drawn put)
request_next rows when drawn (requests.UpdateSecret update) = refl
request_next rows when drawn (requests.RotateSecret rotate) = refl
request_next rows when drawn (requests.CancelRotateSecret cancel) = refl
request_next rows when drawn (requests.RestoreSecret restore) = refl
request_next rows when drawn (requests.TagResource tag) = refl
request_next rows when drawn (requests.UntagResource untag) = refl
request_next rows when drawn (requests.UpdateSecretVersionStage update) = refl
request_next rows when drawn (requests.DeleteResourcePolicy delete) = refl
request_next rows when drawn (requests.PutResourcePolicy put) = refl
request_next rows when drawn (requests.BatchGetSecretValue r) = refl
request_next rows when drawn (requests.DescribeSecret r) = refl
request_next rows when drawn (requests.GetRandomPassword r) = refl
request_next rows when drawn (requests.GetResourcePolicy r) = refl
request_next rows when drawn (requests.GetSecretValue r) = refl
request_next rows when drawn (requests.ListSecretVersionIds r) = refl
request_next rows when drawn (requests.ListSecrets r) = refl
request_next rows when drawn (requests.RemoveRegionsFromReplication r) = refl
request_next rows when drawn (requests.ReplicateSecretToRegions r) = refl
request_next rows when drawn (requests.StopReplicationToReplica r) = refl
request_next rows when drawn (requests.ValidateResourcePolicy r) = refl

act_next : (rows : Rows) (when : When) (drawn : List ℕ) (act : Act)
    → (act_effect rows (plain when.moment) drawn act).next ≡ (act_effect rows when drawn act).next
act_next rows when drawn (Asked request) = request_next rows when drawn request
act_next rows when drawn (Begun arn) = refl
act_next rows when drawn (Reported arn at answer) = refl

-- the next serial is that of the same entry without pruning
pub next_later : (rows : Rows) (entry : Entry) → rows.next ≤ (effect rows (record entry { prunes = false })).next
    → rows.next ≤ (effect rows entry).next
next_later rows entry later =
    subst (λ n. rows.next ≤ n) (act_next (sweep rows entry.moment) (when_of entry) entry.drawn entry.act) later
