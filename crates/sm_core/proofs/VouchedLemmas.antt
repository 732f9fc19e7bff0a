-- Vouched rows stay vouched along a legal history of allowed entries.
use Rattle.std.proofs.Common.{◌≡◌, ℕ, Bool, true, false, cond, List, [], ◌∷◌, ◌++◌, Option, Some, None, IfSome, IsSome, refl, subst}
use Rattle.sm_base.specs.declared.moment.Moment.{Moment}
use Rattle.sm_base.specs.declared.secret_id.SecretId.{SecretId}
use Rattle.sm_base.specs.SecretId.{secret_id}
use Rattle.sm_base.specs.Drawn.{drawn_token}
use Rattle.sm_model.specs.declared.entry.Act.{Act}
use Rattle.sm_model.specs.declared.entry.Act.TheVariants.{Asked, Begun, Reported}
use Rattle.sm_model.specs.declared.entry.Answer.{Answer}
use Rattle.sm_model.specs.declared.entry.Change.{Change}
use Rattle.sm_model.specs.declared.entry.Entry.{Entry}
use Rattle.sm_model.specs.declared.request.CreateSecret.{CreateSecret}
use Rattle.sm_model.specs.declared.request.DeleteSecret.{DeleteSecret}
use Rattle.sm_model.specs.declared.request.RotateSecret.{RotateSecret}
use Rattle.sm_model.specs.declared.request.UpdateSecret.{UpdateSecret}
use Rattle.sm_model.specs.declared.request.Request.{Request}
use Rattle.sm_model.specs.declared.request.Request.TheVariants as requests
use Rattle.sm_model.specs.declared.rows.Rows.{Rows}
use Rattle.sm_model.specs.declared.rows.SecretRow.{SecretRow}
use Rattle.sm_versions.specs.declared.values.PutDone.{PutDone}
use Rattle.sm_versions.specs.declared.values.PutDone.TheVariants as puts
use Rattle.sm_model.specs.Labels.{aws_current}
use Rattle.sm_model.specs.Versions.{When}
use Rattle.sm_versions.specs.Put.{put_answer, put_row}
use Rattle.sm_versions.specs.Kept.{CurrentKept}
use Rattle.sm_dates.specs.Days.{days_after}
use Rattle.sm_rotation.specs.Begin.{begin_row}
use Rattle.sm_rotation.specs.Vouched.{Replies, RowVouched, AcceptsOnly}
use Rattle.sm_rotation.proofs.AttemptLemmas.{same_vouched, put_vouched}
use Rattle.sm_rotation.proofs.VouchedLemmas.{begin_vouched, applied_vouched}
use Rattle.sm_table.specs.Sweep.{swept, sweep}
use Rattle.sm_table.specs.Found.{found, found_arn}
use Rattle.sm_table.specs.Sound.{Sound}
use Rattle.sm_table.proofs.FoundLaws.{found_is_row}
use Rattle.sm_table.proofs.SoundLaws.{sound_rows_kept}
use Rattle.sm_judge_common.specs.declared.judged.Judged.{Judged}
use Rattle.sm_judge_common.specs.declared.judged.Judged.TheVariants.{Memory}
use Rattle.sm_judge_common.specs.Changes.{change_named, settled}
use Rattle.sm_judge_common.specs.Secrets.{unless_scheduled, on_secret, finished_row}
use Rattle.sm_judge_values.specs.declared.create_secret.CreateCall.{CreateCall}
use Rattle.sm_judge_values.specs.declared.new_value.NewValue.{NewValue}
use Rattle.sm_judge_values.specs.declared.put_secret_value.PutCall.{PutCall}
use Rattle.sm_judge_values.specs.declared.update_secret.UpdateCall.{UpdateCall}
use Rattle.sm_judge_values.specs.CreateSecret.{create_call, empty_row, with_first, created_row, create_effect}
use Rattle.sm_judge_values.specs.NewValue.{token_of, placed_by, judged_by}
use Rattle.sm_judge_values.specs.PutSecretValue.{put_call, labels_placed, put_into, put_accepted, put_repeated, put_on, put_judgement_of, put_effect_of}
use Rattle.sm_judge_values.specs.UpdateSecret.{update_call, redescribed, with_value, update_into, update_placed, update_accepted, update_repeated, update_on, update_judgement, update_effect}
use Rattle.sm_judge_labels_and_regions.specs.UpdateSecretVersionStage.{move_call, move_in}
use Rattle.sm_judge_policies.specs.Kept.{with_policy}
use Rattle.sm_judge_labels_and_regions.specs.RemoveRegionsFromReplication.{unreplicated}
use Rattle.sm_judge_labels_and_regions.specs.ReplicateSecretToRegions.{replicated}
use Rattle.sm_judge_rotations.specs.CancelRotateSecret.{cancelled}
use Rattle.sm_judge_rotations.specs.declared.rotate_secret.Plan.{Plan}
use Rattle.sm_judge_rotations.specs.Reported.{answered, reported_effect}
use Rattle.sm_judge_rotations.specs.RotateSecret.{plan_of, token_to_start, turned_on_in, waits, rotates}
use Rattle.sm_judge_rotations.proofs.WholeArnLemmas.{arn_row_sound}
use Rattle.sm_judge_deletion_and_tags.specs.DeleteSecret.{window_days, scheduled_at, drop_named, delete_effect}
use Rattle.sm_judge_deletion_and_tags.specs.RestoreSecret.{unscheduled}
use Rattle.sm_judge_deletion_and_tags.specs.TagResource.{tagged}
use Rattle.sm_judge_deletion_and_tags.specs.UntagResource.{untagged}
use Rattle.sm_core.specs.Effects.{when_of, request_effect, act_effect, effect}
use Rattle.sm_core.specs.Histories.{replay, IsDue, MayBeAsked, LegalAct, Legal, InTime}
use Rattle.sm_core.specs.Vouching.{Vouched, IsAllowed, EachAllowed}
use Rattle.sm_core.proofs.HistoryLemmas.{act_keeps}
use Rattle.sm_core.proofs.NobodyLemmas.{due_of}
use Rattle.sm_core.proofs.VouchedRowLemmas.{push_each, settled_each, swept_vouched, stay_vouched, named_vouched, with_arn_vouched, others_vouched, drop_vouched}

-- ---- a row that was found

found_kept : (rows : Rows) (moment : Moment) (id : SecretId) (row : SecretRow) → Sound rows
    → found rows moment id ≡ Some row → CurrentKept row
found_kept rows moment id row sound e = (found_is_row rows moment id row (sound_rows_kept rows sound) e).kept

unscheduled_due : (deletion : Option Moment) (judged : Judged) → IsDue (unless_scheduled deletion judged)
    → IsDue judged
unscheduled_due None judged due = due
unscheduled_due (Some date) judged due = absurd due

-- an entry that is due is due on that row
pub on_secret_due : (found : Option SecretRow) (row : SecretRow) (judge : SecretRow → Judged) → found ≡ Some row
    → IsDue (on_secret found judge) → IsDue (judge row)
on_secret_due None row judge e due = absurd due
on_secret_due (Some r) row judge e due =
    let same : r ≡ row = cc in
    subst (λ (q : SecretRow). IsDue (judge q)) same (unscheduled_due r.deletion (judge r) due)

-- ---- new secrets and new values

created_vouched : (replies : Replies) (serial : ℕ) (moment : Moment) (call : CreateCall)
    → RowVouched replies (created_row serial moment call)
created_vouched replies serial moment call = by call.first
  where
    by : (first : Option NewValue)
        → RowVouched replies (with_first (empty_row serial moment call.names call.details) moment first)
    by None = record { versions = refl; job = refl }
    by (Some first) = record { versions = refl; job = refl }

create_vouched : (replies : Replies) (rows : Rows) (moment : Moment) (drawn : List ℕ) (create : CreateSecret)
    → Vouched replies rows → Vouched replies (settled (create_effect (sweep rows moment) moment drawn create))
create_vouched replies rows moment drawn create vouched =
    let row : SecretRow = created_row rows.next moment (create_call drawn create) in
    settled_each replies (swept rows.secrets moment ++ row ∷ [])
    (push_each replies (swept rows.secrets moment) row
    (created_vouched replies rows.next moment (create_call drawn create)) (swept_vouched replies rows moment vouched))

-- a value that is put where an entry is due was not there
pub due_added : (done : PutDone) (after : SecretRow) (token : List ℕ) (accept : SecretRow → Judged) (repeat : Judged)
    → (IsDue repeat → ⊥) → IsDue (judged_by (placed_by done after token) accept repeat) → done ≡ puts.Added
due_added puts.Added after token accept repeat never due = refl
due_added (puts.Same labels) after token accept repeat never due = absurd (never due)
due_added puts.Exists after token accept repeat never due = absurd due
due_added (puts.TooMany limit) after token accept repeat never due = absurd due
due_added (puts.TooManyLabels limit) after token accept repeat never due = absurd due
due_added puts.Memory after token accept repeat never due = absurd due

pub no_change_due : IsSome {T = Change} None → ⊥
no_change_due due = cc

pub put_on_due : (row : SecretRow) (when : When) (call : PutCall) → IsDue (put_on row when call)
    → put_answer row call.value.token call.value.value (labels_placed row call.labels) when ≡ puts.Added
put_on_due row when call due =
    let labels : List (List ℕ) = labels_placed row call.labels in
    due_added (put_answer row call.value.token call.value.value labels when)
    (put_row row call.value.token call.value.value labels when.moment) call.value.token
    (λ after. put_accepted (finished_row after when) call.value.token) (put_repeated row call.value.token)
    no_change_due due

put_of_vouched : (replies : Replies) (rows : Rows) (when : When) (call : Option PutCall) → Sound rows
    → IsDue (put_judgement_of rows when call) → Vouched replies rows
    → Vouched replies (settled (put_effect_of (sweep rows when.moment) when call))
put_of_vouched replies rows when None sound due vouched = stay_vouched replies rows when.moment vouched
put_of_vouched replies rows when (Some call) sound due vouched =
    named_vouched replies rows when call.id (put_into call when.moment)
    (λ row e h. put_vouched replies row call.value.token call.value.value (labels_placed row call.labels) when
    (put_on_due row when call
    (on_secret_due (found rows when.moment call.id) row (λ r. put_on r when call) e due))
    (found_kept rows when.moment call.id row sound e) h)
    vouched

with_value_vouched : (replies : Replies) (row : SecretRow) (when : When) (value : Option NewValue)
    (accept : SecretRow → Judged) (repeat : Judged) → (IsDue repeat → ⊥)
    → IsDue (judged_by (update_placed value row when) accept repeat) → CurrentKept row → RowVouched replies row
    → RowVouched replies (with_value value when.moment row)
with_value_vouched replies row when None accept repeat never due kept h = h
with_value_vouched replies row when (Some new) accept repeat never due kept h =
    let labels : List (List ℕ) = aws_current ∷ [] in
    put_vouched replies row new.token new.value labels when
    (due_added (put_answer row new.token new.value labels when)
    (put_row row new.token new.value labels when.moment) new.token
    accept repeat never due)
    kept h

update_on_vouched : (replies : Replies) (row : SecretRow) (when : When) (call : UpdateCall)
    → IsDue (update_on row when call) → CurrentKept row → RowVouched replies row
    → RowVouched replies (update_into call when.moment row)
update_on_vouched replies row when call due kept h =
    same_vouched replies (with_value call.value when.moment row) (update_into call when.moment row)
    (record { arn = refl; versions = refl; job = refl })
    (with_value_vouched replies row when call.value
    (λ after. update_accepted (finished_row (redescribed call after) when) (token_of call.value))
    (update_repeated row (token_of call.value)) no_change_due due kept h)

update_vouched : (replies : Replies) (rows : Rows) (when : When) (drawn : List ℕ) (update : UpdateSecret)
    → Sound rows → IsDue (update_judgement rows when drawn update) → Vouched replies rows
    → Vouched replies (settled (update_effect (sweep rows when.moment) when drawn update))
update_vouched replies rows when drawn update sound due vouched =
    let call : UpdateCall = update_call drawn update in
    named_vouched replies rows when call.id (update_into call when.moment)
    (λ row e h. update_on_vouched replies row when call
    (on_secret_due (found rows when.moment call.id) row (λ r. update_on r when call) e due)
    (found_kept rows when.moment call.id row sound e) h)
    vouched

-- ---- deletions and rotations

delete_vouched : (replies : Replies) (rows : Rows) (when : When) (delete : DeleteSecret) → Vouched replies rows
    → Vouched replies (settled (delete_effect (sweep rows when.moment) when delete))
delete_vouched replies rows when delete vouched = by delete.force_delete_without_recovery
  where
    id : SecretId
    id = secret_id delete.secret_id

    change : SecretRow → SecretRow
    change = scheduled_at (days_after when.moment (window_days delete.recovery_window_in_days))

    by : (forced : Bool) → Vouched replies (settled (cond forced (drop_named (sweep rows when.moment) id)
        (change_named (sweep rows when.moment) id when change)))
    by true = drop_vouched replies rows when.moment id vouched
    by false = others_vouched replies rows when id change
        (λ row. record { arn = refl; versions = refl; job = refl }) vouched

cancelled_vouched : (replies : Replies) (row : SecretRow) → RowVouched replies row
    → RowVouched replies (cancelled row)
cancelled_vouched replies row h = record { versions = h.versions; job = refl }

rotates_vouched : (replies : Replies) (plan : Plan) (token : Option (List ℕ)) (moment : Moment) (row : SecretRow)
    → RowVouched replies row → RowVouched replies (rotates plan token moment row)
rotates_vouched replies plan None moment row h =
    same_vouched replies row (waits plan moment row) (record { arn = refl; versions = refl; job = refl }) h
rotates_vouched replies plan (Some token) moment row h =
    same_vouched replies (begin_row row token moment) (turned_on_in plan (begin_row row token moment))
    (record { arn = refl; versions = refl; job = refl }) (begin_vouched replies row token moment h)

-- ---- each request

request_vouched : (replies : Replies) (rows : Rows) (when : When) (drawn : List ℕ) (request : Request) → Sound rows
    → MayBeAsked rows when drawn request → Vouched replies rows
    → Vouched replies (settled (request_effect (sweep rows when.moment) when drawn request))
request_vouched replies rows when drawn (requests.CreateSecret create) sound due vouched =
    create_vouched replies rows when.moment drawn create vouched
request_vouched replies rows when drawn (requests.DeleteSecret delete) sound due vouched =
    delete_vouched replies rows when delete vouched
request_vouched replies rows when drawn (requests.PutSecretValue put) sound due vouched =
    put_of_vouched replies rows when (put_call drawn put) sound (due_of _ due) vouched
request_vouched replies rows when drawn (requests.UpdateSecret update) sound due vouched =
    update_vouched replies rows when drawn update sound (due_of _ due) vouched
request_vouched replies rows when drawn (requests.RotateSecret rotate) sound due vouched =
    named_vouched replies rows when (secret_id rotate.secret_id)
    (rotates (plan_of rotate) (token_to_start drawn rotate) when.moment)
    (λ row e h. rotates_vouched replies (plan_of rotate) (token_to_start drawn rotate) when.moment row h) vouched
request_vouched replies rows when drawn (requests.CancelRotateSecret cancel) sound due vouched =
    named_vouched replies rows when (secret_id cancel.secret_id) cancelled
    (λ row e h. cancelled_vouched replies row h) vouched
request_vouched replies rows when drawn (requests.RestoreSecret restore) sound due vouched =
    others_vouched replies rows when (secret_id restore.secret_id) unscheduled
    (λ row. record { arn = refl; versions = refl; job = refl }) vouched
request_vouched replies rows when drawn (requests.TagResource tag) sound due vouched =
    others_vouched replies rows when (secret_id tag.secret_id) (tagged tag.tags)
    (λ row. record { arn = refl; versions = refl; job = refl }) vouched
request_vouched replies rows when drawn (requests.UntagResource untag) sound due vouched =
    others_vouched replies rows when (secret_id untag.secret_id) (untagged untag.tag_keys)
    (λ row. record { arn = refl; versions = refl; job = refl }) vouched
request_vouched replies rows when drawn (requests.UpdateSecretVersionStage update) sound due vouched =
    others_vouched replies rows when (secret_id update.secret_id) (move_in (move_call update))
    (λ row. record { arn = refl; versions = refl; job = refl }) vouched
request_vouched replies rows when drawn (requests.RemoveRegionsFromReplication remove) sound due vouched =
    others_vouched replies rows when (secret_id remove.secret_id) (unreplicated remove.regions)
    (λ row. record { arn = refl; versions = refl; job = refl }) vouched
request_vouched replies rows when drawn (requests.ReplicateSecretToRegions replicate) sound due vouched =
    others_vouched replies rows when (secret_id replicate.secret_id) (replicated replicate.regions)
    (λ row. record { arn = refl; versions = refl; job = refl }) vouched
request_vouched replies rows when drawn (requests.StopReplicationToReplica r) sound due vouched =
    stay_vouched replies rows when.moment vouched
request_vouched replies rows when drawn (requests.BatchGetSecretValue r) sound due vouched =
    stay_vouched replies rows when.moment vouched
request_vouched replies rows when drawn (requests.DeleteResourcePolicy delete) sound due vouched =
    others_vouched replies rows when (secret_id delete.secret_id) (with_policy None)
    (λ row. record { arn = refl; versions = refl; job = refl }) vouched
request_vouched replies rows when drawn (requests.DescribeSecret r) sound due vouched =
    stay_vouched replies rows when.moment vouched
request_vouched replies rows when drawn (requests.GetRandomPassword r) sound due vouched =
    stay_vouched replies rows when.moment vouched
request_vouched replies rows when drawn (requests.GetResourcePolicy r) sound due vouched =
    stay_vouched replies rows when.moment vouched
request_vouched replies rows when drawn (requests.GetSecretValue r) sound due vouched =
    stay_vouched replies rows when.moment vouched
request_vouched replies rows when drawn (requests.ListSecretVersionIds r) sound due vouched =
    stay_vouched replies rows when.moment vouched
request_vouched replies rows when drawn (requests.ListSecrets r) sound due vouched =
    stay_vouched replies rows when.moment vouched
request_vouched replies rows when drawn (requests.PutResourcePolicy put) sound due vouched =
    others_vouched replies rows when (secret_id put.secret_id) (with_policy (Some put.resource_policy))
    (λ row. record { arn = refl; versions = refl; job = refl }) vouched
request_vouched replies rows when drawn (requests.ValidateResourcePolicy r) sound due vouched =
    stay_vouched replies rows when.moment vouched

-- ---- each act

allowed_on : (found : Option SecretRow) (row : SecretRow) (P : SecretRow → Type 0) → found ≡ Some row → IfSome found P
    → P row
allowed_on None row P e all = absurd (cc)
allowed_on (Some r) row P e all = let same : r ≡ row = cc in subst P same all

reported_vouched : (replies : Replies) (rows : Rows) (when : When) (arn : List ℕ) (answer : Answer) → Sound rows
    → IfSome (found_arn rows when.moment arn) (λ row. IfSome row.job (AcceptsOnly replies row answer))
    → Vouched replies rows → Vouched replies (settled (reported_effect (sweep rows when.moment) when arn answer))
reported_vouched replies rows when arn answer sound allowed vouched =
    with_arn_vouched replies rows when arn (answered answer when.moment)
    (λ row e h. applied_vouched replies row answer when.moment (arn_row_sound rows when.moment arn row sound e).kept h
    (allowed_on (found_arn rows when.moment arn) row (λ r. IfSome r.job (AcceptsOnly replies r answer)) e allowed))
    vouched

-- a legal act that is allowed leaves vouched rows
pub act_vouched : (replies : Replies) (rows : Rows) (when : When) (drawn : List ℕ) (act : Act) → Sound rows
    → LegalAct rows when drawn act → IsAllowed replies rows when.moment act → Vouched replies rows
    → Vouched replies (settled (act_effect (sweep rows when.moment) when drawn act))
act_vouched replies rows when drawn (Asked request) sound legal allowed vouched =
    request_vouched replies rows when drawn request sound legal.2 vouched
act_vouched replies rows when drawn (Begun arn) sound legal allowed vouched =
    with_arn_vouched replies rows when arn (λ row. begin_row row (drawn_token drawn) when.moment)
    (λ row e h. begin_vouched replies row (drawn_token drawn) when.moment h) vouched
act_vouched replies rows when drawn (Reported arn at answer) sound legal allowed vouched =
    reported_vouched replies rows when arn answer sound allowed vouched

-- and so does a legal history of allowed entries
pub legal_vouched : (replies : Replies) → (rows : Rows) → (before : Moment) → (entries : List Entry) → Sound rows
    → Legal rows before entries → InTime entries → EachAllowed replies rows entries → Vouched replies rows
    → Vouched replies (replay rows entries)
legal_vouched replies rows before [] sound legal early allowed vouched = vouched
legal_vouched replies rows before (entry ∷ entries) sound legal early allowed vouched =
    legal_vouched replies (effect rows entry) entry.moment entries
    (act_keeps rows (when_of entry) entry.drawn entry.act sound early.0 legal.1.1) legal.2 early.1 allowed.1
    (act_vouched replies rows (when_of entry) entry.drawn entry.act sound legal.1.1 allowed.0 vouched)
