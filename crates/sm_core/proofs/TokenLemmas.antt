-- A legal entry leaves the versions of each secret that stays, and their values, so along a legal history a token acts
-- once.
use Rattle.std.proofs.Common.{◌≡◌, ◌≢◌, ℕ, ◌<◌, ◌≤◌, ◌+◌, eqb, leb, Bool, true, false, cond, List, [], ◌∷◌, Option, Some, None, is_some, IsSome, refl, sym, ap, ◌∙◌, arith}
use Rattle.std.proofs.lemmas.Bool.{and_parts, eqb-true, false≢true}
use Rattle.std.proofs.lemmas.Bool.Decides.{nat_tests}
use Rattle.sm_base.specs.declared.moment.Moment.{Moment}
use Rattle.sm_base.specs.declared.secret_id.SecretId.{SecretId}
use Rattle.sm_base.specs.Drawn.{drawn_token}
use Rattle.sm_base.specs.SecretId.{secret_id}
use Rattle.sm_model.specs.declared.entry.Act.{Act}
use Rattle.sm_model.specs.declared.entry.Act.TheVariants.{Asked, Begun, Reported}
use Rattle.sm_model.specs.declared.entry.Entry.{Entry}
use Rattle.sm_model.specs.declared.request.CreateSecret.{CreateSecret}
use Rattle.sm_model.specs.declared.request.DeleteSecret.{DeleteSecret}
use Rattle.sm_model.specs.declared.request.Request.{Request}
use Rattle.sm_model.specs.declared.request.Request.TheVariants as requests
use Rattle.sm_model.specs.declared.request.UpdateSecret.{UpdateSecret}
use Rattle.sm_model.specs.declared.rows.Rows.{Rows}
use Rattle.sm_model.specs.declared.rows.SecretRow.{SecretRow}
use Rattle.sm_model.specs.declared.rows.VersionRow.{VersionRow}
use Rattle.sm_model.specs.declared.value.Value.{Value}
use Rattle.sm_model.specs.Labels.{aws_current}
use Rattle.sm_model.specs.Versions.{When, has_version}
use Rattle.sm_versions.specs.Put.{put_answer, put_row}
use Rattle.sm_versions.specs.Serials.{rises}
use Rattle.sm_versions.specs.Versions.{value_of, has_value}
use Rattle.sm_dates.specs.Days.{days_after}
use Rattle.sm_rotation.specs.Begin.{begin_row}
use Rattle.sm_table.specs.Changes.{row_with}
use Rattle.sm_table.specs.Found.{found}
use Rattle.sm_table.specs.Kept.{row_serials}
use Rattle.sm_table.specs.Sound.{Sound}
use Rattle.sm_table.specs.Sweep.{sweep}
use Rattle.sm_judge_common.specs.declared.judged.Judged.{Judged}
use Rattle.sm_judge_common.specs.Changes.{change_named, settled}
use Rattle.sm_judge_common.specs.Secrets.{finished_row}
use Rattle.sm_judge_values.specs.declared.create_secret.CreateCall.{CreateCall}
use Rattle.sm_judge_values.specs.declared.new_value.NewValue.{NewValue}
use Rattle.sm_judge_values.specs.declared.put_secret_value.PutCall.{PutCall}
use Rattle.sm_judge_values.specs.declared.update_secret.UpdateCall.{UpdateCall}
use Rattle.sm_judge_values.specs.CreateSecret.{create_call, empty_row, with_first, created_row, create_effect}
use Rattle.sm_judge_values.specs.NewValue.{token_of, judged_by}
use Rattle.sm_judge_values.specs.PutSecretValue.{put_call, labels_placed, put_into, put_on, put_judgement_of, put_effect_of}
use Rattle.sm_judge_values.specs.UpdateSecret.{update_call, redescribed, with_value, update_into, update_placed, update_accepted, update_repeated, update_on, update_judgement, update_effect}
use Rattle.sm_judge_labels_and_regions.specs.UpdateSecretVersionStage.{move_call, move_in}
use Rattle.sm_judge_policies.specs.Kept.{with_policy}
use Rattle.sm_judge_labels_and_regions.specs.RemoveRegionsFromReplication.{unreplicated}
use Rattle.sm_judge_labels_and_regions.specs.ReplicateSecretToRegions.{replicated}
use Rattle.sm_judge_rotations.specs.CancelRotateSecret.{cancelled}
use Rattle.sm_judge_rotations.specs.declared.rotate_secret.Plan.{Plan}
use Rattle.sm_judge_rotations.specs.Reported.{answered}
use Rattle.sm_judge_rotations.specs.RotateSecret.{plan_of, token_to_start, rotates}
use Rattle.sm_judge_rotations.proofs.WholeArnLemmas.{arn_row_sound}
use Rattle.sm_judge_deletion_and_tags.specs.DeleteSecret.{window_days, scheduled_at, drop_named, delete_effect}
use Rattle.sm_judge_deletion_and_tags.specs.RestoreSecret.{unscheduled}
use Rattle.sm_judge_deletion_and_tags.specs.TagResource.{tagged}
use Rattle.sm_judge_deletion_and_tags.specs.UntagResource.{untagged}
use Rattle.sm_core.specs.Effects.{when_of, request_effect, act_effect, effect}
use Rattle.sm_core.specs.Histories.{IsDue, MayBeAsked, LegalAct, LegalEntry, Legal, InTime}
use Rattle.sm_core.specs.Tokens.{HasSecret, versions_in, versions_at, lets_go, VersionsStay, SecretsStay, Adds, Gives, NeverUntil, AtMostOne}
use Rattle.sm_core.proofs.HistoryLemmas.{act_keeps}
use Rattle.sm_core.proofs.NobodyLemmas.{due_of}
use Rattle.sm_core.proofs.StayLemmas.{stay_same, RowStays, begin_stays, put_stays, applied_stays}
use Rattle.sm_core.proofs.LeftRowLemmas.{LeftOf, act_left, left_there, left_stay, next_later}
use Rattle.sm_core.proofs.StayedRowLemmas.{plain, EachStays, none_changed, named_stays, with_arn_stays, drop_stays, push_stays}
use Rattle.sm_core.proofs.VouchedLemmas.{on_secret_due, due_added, no_change_due, put_on_due}

-- ---- each request

-- the row has other parts changed
abbrev Others : (SecretRow → SecretRow) → Type 0
Others change = (row : SecretRow) → RowStays row (change row)

others_stay : (rows : Rows) (moment : Moment) (id : SecretId) (change : SecretRow → SecretRow) → Sound rows
    → Others change → EachStays rows (settled (change_named (sweep rows moment) id (plain moment) change))
others_stay rows moment id change sound stays = named_stays rows moment id change sound (λ row e. stays row)

created_serial : (serial : ℕ) (moment : Moment) (call : CreateCall) → (created_row serial moment call).serial ≡ serial
created_serial serial moment call = by call.first
  where
    by : (first : Option NewValue)
        → (with_first (empty_row serial moment call.names call.details) moment first).serial ≡ serial
    by None = refl
    by (Some first) = refl

create_stays : (rows : Rows) (moment : Moment) (drawn : List ℕ) (create : CreateSecret) → Sound rows
    → EachStays rows (settled (create_effect (sweep rows moment) moment drawn create))
create_stays rows moment drawn create sound =
    push_stays rows moment (created_row rows.next moment (create_call drawn create)) sound
    (created_serial rows.next moment (create_call drawn create))

delete_stays : (rows : Rows) (moment : Moment) (delete : DeleteSecret) → Sound rows
    → EachStays rows (settled (delete_effect (sweep rows moment) (plain moment) delete))
delete_stays rows moment delete sound = by delete.force_delete_without_recovery
  where
    id : SecretId
    id = secret_id delete.secret_id

    change : SecretRow → SecretRow
    change = scheduled_at (days_after moment (window_days delete.recovery_window_in_days))

    by : (forced : Bool) → EachStays rows (settled (cond forced (drop_named (sweep rows moment) id)
        (change_named (sweep rows moment) id (plain moment) change)))
    by true = drop_stays rows moment id sound
    by false = others_stay rows moment id change sound
        (λ row. record { serial = refl; versions = stay_same row.versions })

put_of_stays : (rows : Rows) (when : When) (call : Option PutCall) → Sound rows
    → IsDue (put_judgement_of rows when call)
    → EachStays rows (settled (put_effect_of (sweep rows when.moment) (plain when.moment) call))
put_of_stays rows when None sound due = none_changed rows when.moment sound
put_of_stays rows when (Some call) sound due =
    named_stays rows when.moment call.id (put_into call when.moment) sound
    (λ row e. put_stays row call.value.token call.value.value (labels_placed row call.labels) when
    (put_on_due row when call (on_secret_due (found rows when.moment call.id) row (λ r. put_on r when call) e due)))

with_value_stays : (row : SecretRow) (when : When) (value : Option NewValue) (accept : SecretRow → Judged)
    (repeat : Judged) → (IsDue repeat → ⊥) → IsDue (judged_by (update_placed value row when) accept repeat)
    → RowStays row (with_value value when.moment row)
with_value_stays row when None accept repeat never due =
    record { serial = refl; versions = stay_same row.versions }
with_value_stays row when (Some new) accept repeat never due =
    let labels : List (List ℕ) = aws_current ∷ [] in
    put_stays row new.token new.value labels when
    (due_added (put_answer row new.token new.value labels when)
    (put_row row new.token new.value labels when.moment) new.token
    accept repeat never due)

update_on_stays : (row : SecretRow) (when : When) (call : UpdateCall) → IsDue (update_on row when call)
    → RowStays row (update_into call when.moment row)
update_on_stays row when call due =
    let stay = with_value_stays row when call.value
    (λ after. update_accepted (finished_row (redescribed call after) when) (token_of call.value))
    (update_repeated row (token_of call.value)) no_change_due due in
    record { serial = stay.serial; versions = stay.versions }

update_stays : (rows : Rows) (when : When) (drawn : List ℕ) (update : UpdateSecret) → Sound rows
    → IsDue (update_judgement rows when drawn update)
    → EachStays rows (settled (update_effect (sweep rows when.moment) (plain when.moment) drawn update))
update_stays rows when drawn update sound due =
    let call : UpdateCall = update_call drawn update in
    named_stays rows when.moment call.id (update_into call when.moment) sound
    (λ row e. update_on_stays row when call
    (on_secret_due (found rows when.moment call.id) row (λ r. update_on r when call) e due))

rotates_stays : (plan : Plan) (token : Option (List ℕ)) (moment : Moment) → Others (rotates plan token moment)
rotates_stays plan None moment row = record { serial = refl; versions = stay_same row.versions }
rotates_stays plan (Some token) moment row =
    let stay = begin_stays row token moment in record { serial = refl; versions = stay.versions }

request_stays : (rows : Rows) (when : When) (drawn : List ℕ) (request : Request) → Sound rows
    → MayBeAsked rows when drawn request
    → EachStays rows (settled (request_effect (sweep rows when.moment) (plain when.moment) drawn request))
request_stays rows when drawn (requests.CreateSecret create) sound due =
    create_stays rows when.moment drawn create sound
request_stays rows when drawn (requests.DeleteSecret delete) sound due = delete_stays rows when.moment delete sound
request_stays rows when drawn (requests.PutSecretValue put) sound due =
    put_of_stays rows when (put_call drawn put) sound (due_of _ due)
request_stays rows when drawn (requests.UpdateSecret update) sound due =
    update_stays rows when drawn update sound (due_of _ due)
request_stays rows when drawn (requests.RotateSecret rotate) sound due =
    others_stay rows when.moment (secret_id rotate.secret_id)
    (rotates (plan_of rotate) (token_to_start drawn rotate) when.moment)
    sound (rotates_stays (plan_of rotate) (token_to_start drawn rotate) when.moment)
request_stays rows when drawn (requests.CancelRotateSecret cancel) sound due =
    others_stay rows when.moment (secret_id cancel.secret_id) cancelled sound
    (λ row. record { serial = refl; versions = stay_same row.versions })
request_stays rows when drawn (requests.RestoreSecret restore) sound due =
    others_stay rows when.moment (secret_id restore.secret_id) unscheduled sound
    (λ row. record { serial = refl; versions = stay_same row.versions })
request_stays rows when drawn (requests.TagResource tag) sound due =
    others_stay rows when.moment (secret_id tag.secret_id) (tagged tag.tags) sound
    (λ row. record { serial = refl; versions = stay_same row.versions })
request_stays rows when drawn (requests.UntagResource untag) sound due =
    others_stay rows when.moment (secret_id untag.secret_id) (untagged untag.tag_keys) sound
    (λ row. record { serial = refl; versions = stay_same row.versions })
request_stays rows when drawn (requests.UpdateSecretVersionStage update) sound due =
    others_stay rows when.moment (secret_id update.secret_id) (move_in (move_call update)) sound
    (λ row. record { serial = refl; versions = stay_same row.versions })
request_stays rows when drawn (requests.DeleteResourcePolicy delete) sound due =
    others_stay rows when.moment (secret_id delete.secret_id) (with_policy None) sound
    (λ row. record { serial = refl; versions = stay_same row.versions })
request_stays rows when drawn (requests.PutResourcePolicy put) sound due =
    others_stay rows when.moment (secret_id put.secret_id) (with_policy (Some put.resource_policy)) sound
    (λ row. record { serial = refl; versions = stay_same row.versions })
request_stays rows when drawn (requests.BatchGetSecretValue r) sound due = none_changed rows when.moment sound
request_stays rows when drawn (requests.DescribeSecret r) sound due = none_changed rows when.moment sound
request_stays rows when drawn (requests.GetRandomPassword r) sound due = none_changed rows when.moment sound
request_stays rows when drawn (requests.GetResourcePolicy r) sound due = none_changed rows when.moment sound
request_stays rows when drawn (requests.GetSecretValue r) sound due = none_changed rows when.moment sound
request_stays rows when drawn (requests.ListSecretVersionIds r) sound due = none_changed rows when.moment sound
request_stays rows when drawn (requests.ListSecrets r) sound due = none_changed rows when.moment sound
request_stays rows when drawn (requests.RemoveRegionsFromReplication remove) sound due =
    others_stay rows when.moment (secret_id remove.secret_id) (unreplicated remove.regions) sound
    (λ row. record { serial = refl; versions = stay_same row.versions })
request_stays rows when drawn (requests.ReplicateSecretToRegions replicate) sound due =
    others_stay rows when.moment (secret_id replicate.secret_id) (replicated replicate.regions) sound
    (λ row. record { serial = refl; versions = stay_same row.versions })
request_stays rows when drawn (requests.StopReplicationToReplica r) sound due = none_changed rows when.moment sound
request_stays rows when drawn (requests.ValidateResourcePolicy r) sound due = none_changed rows when.moment sound

-- ---- each act, each entry

pub act_stays : (rows : Rows) (when : When) (drawn : List ℕ) (act : Act) → Sound rows
    → LegalAct rows when drawn act
    → EachStays rows (settled (act_effect (sweep rows when.moment) (plain when.moment) drawn act))
act_stays rows when drawn (Asked request) sound legal = request_stays rows when drawn request sound legal.2
act_stays rows when drawn (Begun arn) sound legal =
    with_arn_stays rows when.moment arn (λ row. begin_row row (drawn_token drawn) when.moment) sound
    (λ row e. begin_stays row (drawn_token drawn) when.moment)
act_stays rows when drawn (Reported arn at answer) sound legal =
    with_arn_stays rows when.moment arn (answered answer when.moment) sound
    (λ row e. applied_stays row answer when.moment (arn_row_sound rows when.moment arn row sound e).kept)

-- a legal entry leaves the versions of each secret that stays, but for those that it lets go
pub entry_stays : (rows : Rows) → (entry : Entry) → Sound rows → LegalEntry rows entry
    → SecretsStay (λ serial token. lets_go serial token rows entry) rows (effect rows entry)
entry_stays rows entry sound legal =
    let mid : Rows = effect rows (record entry { prunes = false }) in
    let all : EachStays rows mid = act_stays rows (when_of entry) entry.drawn entry.act sound legal.1 in
    let left : (serial : ℕ) → LeftOf (when_of entry) (row_with mid.secrets serial)
    (row_with (effect rows entry).secrets serial) =
    λ serial. act_left (sweep rows entry.moment) (when_of entry) entry.drawn entry.act serial in
    record {
      later = next_later rows entry all.later;
      there = λ serial early is. all.there serial early (left_there (when_of entry) (row_with mid.secrets serial)
          (row_with (effect rows entry).secrets serial) (left serial) is);
      stay = λ serial early is. left_stay (when_of entry) (row_with mid.secrets serial)
          (row_with (effect rows entry).secrets serial) (versions_at rows serial) (left serial)
          (all.stay serial early (left_there (when_of entry) (row_with mid.secrets serial)
          (row_with (effect rows entry).secrets serial) (left serial) is)) is;
    }

-- ---- what acts once

rises_above : (low next : ℕ) (serials : List ℕ) → rises low serials next ≡ true → low ≤ next
rises_above low next [] rising = grind (arith, nat_tests, rising)
rises_above low next (n ∷ ns) rising =
    let parts = and_parts (leb low n) (rises (n + 1) ns next) rising in
    grind (arith, nat_tests, parts.0, rises_above (n + 1) next ns parts.1)

-- a secret that is there has a serial below the next one
below_next : (rows : List SecretRow) (low next serial : ℕ) → rises low (row_serials rows) next ≡ true
    → IsSome (row_with rows serial) → serial < next
below_next [] low next serial rising is = absurd (cc)
below_next (r ∷ rs) low next serial rising is =
    let parts = and_parts (leb low r.serial) (rises (r.serial + 1) (row_serials rs) next) rising in
    by (eqb r.serial serial) refl is (rises_above (r.serial + 1) next (row_serials rs) parts.1)
    (below_next rs (r.serial + 1) next serial parts.1)
  where
    by : (b : Bool) → b ≡ eqb r.serial serial → IsSome (cond b (Some r) (row_with rs serial)) → r.serial + 1 ≤ next
        → (IsSome (row_with rs serial) → serial < next) → serial < next
    by true t is above later =
        let same : r.serial ≡ serial = eqb-true r.serial serial (sym t) in omega (arith, same, above)
    by false t is above later = later is

module _ (passes : List VersionRow → Bool) (none : passes [] ≡ false) (serial : ℕ) where
  -- a secret that has versions is there
  has_secret : (rows : Rows) → passes (versions_at rows serial) ≡ true → HasSecret rows serial
  has_secret rows h = by (row_with rows.secrets serial) h
    where
      by : (row : Option SecretRow) → passes (versions_in row) ≡ true → IsSome row
      by None h = absurd (false≢true (sym none ∙ h))
      by (Some row) h = refl

  -- the serial was given, and the secret, if it is there, passes
  record Spent (rows : Rows) : Type 0 where
    pub early : serial < rows.next
    pub spent : HasSecret rows serial → passes (versions_at rows serial) ≡ true

  spent_now : (rows : Rows) → Sound rows → passes (versions_at rows serial) ≡ true → Spent rows
  spent_now rows sound h = record {
    early = below_next rows.secrets 0 rows.next serial sound.serials (has_secret rows h);
    spent = λ is. h;
  }

  -- what passes goes on passing until it is let go, and who does it finds that it does not pass and leaves it passing
  module _ (token : List ℕ)
      (stays : (goes : List ℕ → Bool) (old new : List VersionRow) → VersionsStay goes old new → goes token ≡ false
      → passes old ≡ true → passes new ≡ true)
      (Does : Rows → Entry → Type 0)
      (passed : (rows : Rows) (entry : Entry) → Does rows entry
      → passes (versions_at (effect rows entry) serial) ≡ true)
      (once : (goes : List ℕ → Bool) (rows : Rows) (entry : Entry)
      → VersionsStay goes (versions_at rows serial) (versions_at (effect rows entry) serial) → goes token ≡ false
      → passes (versions_at rows serial) ≡ true → Does rows entry → ⊥) where
    -- what is said of the versions of all secrets at an entry
    abbrev Stay : Rows → Entry → Type 0
    Stay rows entry = SecretsStay (λ serial token. lets_go serial token rows entry) rows (effect rows entry)

    spent_stays : (rows : Rows) (entry : Entry) → Stay rows entry → lets_go serial token rows entry ≡ false
        → Spent rows → Spent (effect rows entry)
    spent_stays rows entry stay left spent = record {
      early = omega (arith, stay.later, spent.early);
      spent = λ is. stays (λ t. lets_go serial t rows entry) (versions_at rows serial)
          (versions_at (effect rows entry) serial) (stay.stay serial spent.early is) left
          (spent.spent (stay.there serial spent.early is));
    }

    spent_refuses : (rows : Rows) (entry : Entry) → Stay rows entry → lets_go serial token rows entry ≡ false
        → Spent rows → Does rows entry → ⊥
    spent_refuses rows entry stay left spent does =
        let is : HasSecret (effect rows entry) serial = has_secret (effect rows entry) (passed rows entry does) in
        once (λ t. lets_go serial t rows entry) rows entry (stay.stay serial spent.early is) left
        (spent.spent (stay.there serial spent.early is)) does

    never_again : (rows : Rows) (before : Moment) (entries : List Entry) → Sound rows → Legal rows before entries
        → InTime entries → Spent rows → NeverUntil (lets_go serial token) Does rows entries
    never_again rows before [] sound legal early spent = tt
    never_again rows before (entry ∷ entries) sound legal early spent = λ left.
        let stay = entry_stays rows entry sound legal.1 in (
          spent_refuses rows entry stay left spent,
          never_again (effect rows entry) entry.moment entries
              (act_keeps rows (when_of entry) entry.drawn entry.act sound early.0 legal.1.1) legal.2 early.1
              (spent_stays rows entry stay left spent),
        )

    at_most_one : (rows : Rows) (before : Moment) (entries : List Entry) → Sound rows → Legal rows before entries
        → InTime entries → AtMostOne (lets_go serial token) Does rows entries
    at_most_one rows before [] sound legal early = tt
    at_most_one rows before (entry ∷ entries) sound legal early =
        let after : Sound (effect rows entry) =
        act_keeps rows (when_of entry) entry.drawn entry.act sound early.0 legal.1.1 in (
          λ does. never_again (effect rows entry) entry.moment entries after legal.2 early.1
              (spent_now (effect rows entry) after (passed rows entry does)),
          at_most_one (effect rows entry) entry.moment entries after legal.2 early.1,
        )

-- ---- a token

some_value : (o : Option Value) → is_some o ≡ true → (value : Value) × (o ≡ Some value)
some_value None h = absurd (false≢true h)
some_value (Some value) h = (value, refl)

value_stays : (token : List ℕ) (goes : List ℕ → Bool) (old new : List VersionRow) → VersionsStay goes old new
    → goes token ≡ false → has_value old token ≡ true → has_value new token ≡ true
value_stays token goes old new stay left h =
    let had = some_value (value_of old token) h in ap is_some (stay.valued token had.0 left had.1)

adds_once : (serial : ℕ) (token : List ℕ) (rows : Rows) (before : Moment) (entries : List Entry) → Sound rows
    → Legal rows before entries → InTime entries → AtMostOne (lets_go serial token) (Adds serial token) rows entries
adds_once serial token =
    at_most_one (λ versions. has_version versions token) refl serial token
    (λ goes old new stay left h. stay.there token left h) (Adds serial token) (λ rows entry adds. adds.after)
    (λ goes rows entry stay left there adds. false≢true (sym adds.before ∙ there))

-- a value that was given stays, so none is given in its place
gives_no_more : (serial : ℕ) (token : List ℕ) (goes : List ℕ → Bool) (rows : Rows) (entry : Entry)
    → VersionsStay goes (versions_at rows serial) (versions_at (effect rows entry) serial) → goes token ≡ false
    → has_value (versions_at rows serial) token ≡ true → Gives serial token rows entry → ⊥
gives_no_more serial token goes rows entry stay left h gives =
    let had = some_value (value_of (versions_at rows serial) token) h in
    let kept : value_of (versions_at (effect rows entry) serial) token ≡ Some had.0 =
    stay.valued token had.0 left had.1 in
    gives.before (had.1 ∙ sym kept ∙ gives.after)

gives_once : (serial : ℕ) (token : List ℕ) (rows : Rows) (before : Moment) (entries : List Entry) → Sound rows
    → Legal rows before entries → InTime entries → AtMostOne (lets_go serial token) (Gives serial token) rows entries
gives_once serial token =
    at_most_one (λ versions. has_value versions token) refl serial token (value_stays token) (Gives serial token)
    (λ rows entry gives. ap is_some gives.after) (gives_no_more serial token)

-- along a legal history each token acts once on each secret
pub legal_once : (rows : Rows) → (before : Moment) → (entries : List Entry) → Sound rows → Legal rows before entries
    → InTime entries → (serial : ℕ) → (token : List ℕ)
    → AtMostOne (lets_go serial token) (Adds serial token) rows entries
    × AtMostOne (lets_go serial token) (Gives serial token) rows entries
legal_once rows before entries sound legal early serial token = (
  adds_once serial token rows before entries sound legal early,
  gives_once serial token rows before entries sound legal early,
)
