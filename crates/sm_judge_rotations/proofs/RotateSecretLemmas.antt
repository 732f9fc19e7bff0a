-- Judging RotateSecret: its members, when it is refused, when it repeats, and what it changes.
use Rattle.std.proofs.Common.{◌≡◌, ℕ, ◌≤◌, ℤ, pos, negsuc, Bool, true, false, not, cond, List, [], ◌∷◌, Option, Some, None, is_none, IfNone, IfSome, IsTrue, refl}
use Rattle.std.specs.Option.{option_or}
use Rattle.std.proofs.lemmas.Bool.{false≢true}
use Rattle.sm_base.specs.declared.moment.Moment.{Moment}
use Rattle.sm_base.specs.declared.moment.TheConstants.{LAST_READING}
use Rattle.sm_base.specs.declared.secret_id.SecretId.{SecretId}
use Rattle.sm_base.specs.SecretId.{secret_id}
use Rattle.sm_model.specs.declared.entry.Change.{Change}
use Rattle.sm_model.specs.declared.entry.Change.TheVariants as changes
use Rattle.sm_base.specs.declared.limits.TheConstants.{VERSIONS_LIMIT}
use Rattle.sm_model.specs.declared.request.RotateSecret.{RotateSecret}
use Rattle.sm_model.specs.declared.request.Rules.{Rules}
use Rattle.sm_model.specs.declared.rows.Rotation.{Rotation}
use Rattle.sm_model.specs.declared.rows.Rows.{Rows}
use Rattle.sm_model.specs.declared.rows.SecretRow.{SecretRow}
use Rattle.sm_model.specs.declared.why.What.TheVariants.{Versions}
use Rattle.sm_model.specs.declared.why.Why.{Why}
use Rattle.sm_model.specs.declared.why.Why.TheVariants.{NoCurrent, Pending, VersionExists, Limit}
use Rattle.sm_model.specs.Bounds.{fits, is_description, are_days, is_date}
use Rattle.sm_model.specs.Needed.{token_bytes_if}
use Rattle.sm_forms.specs.RotateSecret.{is_period, rotate_forms}
use Rattle.sm_forms.proofs.RotateSecretLemmas.{rotate_lambda, rotate_rules, rotate_expression}
use Rattle.sm_base.specs.Texts.{same_text}
use Rattle.sm_model.specs.Labels.{aws_current, aws_pending, holder}
use Rattle.sm_versions.specs.Versions.{version_of}
use Rattle.sm_model.specs.Versions.{When, has_version, is_full_when}
use Rattle.sm_cron.specs.Spelling.{is_schedule_expression}
use Rattle.sm_versions.specs.Sound.{UnsettledSound}
use Rattle.sm_rotation.specs.declared.starting.Began.{Began}
use Rattle.sm_rotation.specs.declared.starting.Began.TheVariants as starts
use Rattle.sm_rotation.specs.Begin.{is_of_rotation, begin_held, begin_answer, begin_row}
use Rattle.sm_rotation.proofs.KeptLemmas.{begins_from}
use Rattle.sm_rotation.proofs.SoundLemmas.{begin_sound, begin_counted}
use Rattle.sm_dates.proofs.RotationLemmas.{rotation_after_fits}
use Rattle.sm_table.specs.Sweep.{sweep}
use Rattle.sm_table.specs.Found.{found}
use Rattle.sm_table.specs.Sound.{Sound}
use Rattle.sm_judge_common.specs.declared.judged.Judged.{Judged}
use Rattle.sm_judge_common.specs.Changes.{settled, IsChange}
use Rattle.sm_judge_common.specs.Judged.{refusal_told, IfAccepted, IfChange}
use Rattle.sm_judge_common.specs.Refusals.{refuse_if, first_refusal}
use Rattle.sm_judge_common.specs.Secrets.{finished_row}
use Rattle.sm_judge_common.proofs.JudgedLemmas.{on_secret_refusal, on_secret_repeat}
use Rattle.sm_judge_common.proofs.ChangeLemmas.{OnRow, on_secret_change, found_row_sound, found_change, found_change_beside}
use Rattle.sm_judge_rotations.specs.declared.rotate_secret.KeptRules.{KeptRules}
use Rattle.sm_judge_rotations.specs.declared.rotate_secret.Plan.{Plan}
use Rattle.sm_judge_rotations.specs.RotateSecret.{days_of, rules_given, plan_of, token_to_start, days_or, schedule_or, turned_on, turned_on_in, dated, waits, rotates, started_by, start_judged, rotate_on, rotate_judgement, starts_again, pending_refusal, start_refusal, rotate_refusal_on, rotate_refusal, rotate_repeat, rotate_effect}
use Rattle.sm_judge_rotations.proofs.RotationLemmas.{RotationFits, parts_of, of_parts, rerotated_sound}

-- ---- the members

-- where a rotation that starts at once has no token, there are 16 bytes for one
pub room_for_start : (now : Bool) (token : Option (List ℕ)) (n : ℕ) → now ≡ true → token_bytes_if now token ≤ n
    → IfNone token (16 ≤ n)
room_for_start true None n h room = room
room_for_start true (Some token) n h room = tt
room_for_start false token n h room = absurd (false≢true h)

-- the judgement by what the start answers
abbrev outcome : Began → SecretRow → SecretRow → When → Plan → List ℕ → Judged
outcome began row after when plan token = start_judged (started_by began after) row when plan token

-- what is answered by the tests on the versions
abbrev new_answer : Bool → Bool → List ℕ → Began
new_answer there full token =
    cond there (starts.Exists token) (cond full (starts.TooMany VERSIONS_LIMIT) starts.Ok)

-- ---- refusals

module _ (row after : SecretRow) (when : When) (plan : Plan) (token : List ℕ) where
  new_refuses : (there full : Bool)
      → refusal_told (outcome (new_answer there full token) row after when plan token)
      ≡ Some (first_refusal
      (refuse_if there (VersionExists token) ∷ refuse_if full (Limit VERSIONS_LIMIT Versions) ∷ []))
  new_refuses true full = refl
  new_refuses false true = refl
  new_refuses false false = refl

  -- the test of the holder of AWSPENDING, which is another version than the current one or not
  pending_refuses : (same there full : Bool) (pending : List ℕ)
      → refusal_told (outcome (cond same (new_answer there full token) (starts.Pending pending)) row after when plan
      token)
      ≡ Some (first_refusal
      (refuse_if (not same) (Pending pending) ∷ refuse_if there (VersionExists token)
      ∷ refuse_if full (Limit VERSIONS_LIMIT Versions) ∷ []))
  pending_refuses true there full pending = new_refuses there full
  pending_refuses false there full pending = refl

  held_refuses : (pending current : Option (List ℕ))
      → refusal_told (outcome (begin_held row token when pending current) row after when plan token)
      ≡ Some (first_refusal
      (refuse_if (is_none current) NoCurrent ∷ pending_refusal pending current
      ∷ refuse_if (has_version row.versions token) (VersionExists token)
      ∷ refuse_if (is_full_when row when) (Limit VERSIONS_LIMIT Versions) ∷ []))
  held_refuses pending None = refl
  held_refuses None (Some current) = new_refuses (has_version row.versions token) (is_full_when row when)
  held_refuses (Some pending) (Some current) =
      pending_refuses (same_text pending current) (has_version row.versions token) (is_full_when row when) pending

  -- a repeat is not refused
  unless_repeat : (made : Bool) (answer : Began) (test : Option Why)
      → refusal_told (outcome answer row after when plan token) ≡ Some test
      → refusal_told (outcome (cond made starts.Same answer) row after when plan token)
      ≡ Some (cond made None test)
  unless_repeat true answer test e = refl
  unless_repeat false answer test e = e

  start_refuses : refusal_told (outcome (begin_answer row token when) row after when plan token)
      ≡ Some (rotate_refusal_on row when (Some token))
  start_refuses =
      unless_repeat (is_of_rotation (version_of row.versions token)) _ (start_refusal row when token)
      (held_refuses (holder row.labels aws_pending) (holder row.labels aws_current))

on_refuses : (row : SecretRow) (when : When) (plan : Plan) (token : Option (List ℕ))
    → refusal_told (rotate_on row when plan token) ≡ Some (rotate_refusal_on row when token)
on_refuses row when plan None = refl
on_refuses row when plan (Some token) = start_refuses row (begin_row row token when.moment) when plan token

pub rotate_refuses : (rows : Rows) (when : When) (drawn : List ℕ) (rotate : RotateSecret)
    → refusal_told (rotate_judgement rows when drawn rotate) ≡ Some (rotate_refusal rows when drawn rotate)
rotate_refuses rows when drawn rotate =
    on_secret_refusal (found rows when.moment (secret_id rotate.secret_id))
    (λ row. rotate_on row when (plan_of rotate) (token_to_start drawn rotate))
    (λ row. rotate_refusal_on row when (token_to_start drawn rotate))
    (λ row. on_refuses row when (plan_of rotate) (token_to_start drawn rotate))

-- ---- repeats

module _ (row after : SecretRow) (when : When) (plan : Plan) (token : List ℕ) where
  new_repeats : (there full : Bool)
      → IfAccepted (outcome (new_answer there full token) row after when plan token)
      (λ change. is_none change ≡ false)
  new_repeats true full = tt
  new_repeats false true = tt
  new_repeats false false = refl

  pending_repeats : (same there full : Bool) (pending : List ℕ)
      → IfAccepted (outcome (cond same (new_answer there full token) (starts.Pending pending)) row after when plan
      token)
      (λ change. is_none change ≡ false)
  pending_repeats true there full pending = new_repeats there full
  pending_repeats false there full pending = tt

  held_repeats : (pending current : Option (List ℕ))
      → IfAccepted (outcome (begin_held row token when pending current) row after when plan token)
      (λ change. is_none change ≡ false)
  held_repeats pending None = tt
  held_repeats None (Some current) = new_repeats (has_version row.versions token) (is_full_when row when)
  held_repeats (Some pending) (Some current) =
      pending_repeats (same_text pending current) (has_version row.versions token) (is_full_when row when) pending

  by_made : (made : Bool) (answer : Began)
      → IfAccepted (outcome answer row after when plan token) (λ change. is_none change ≡ false)
      → IfAccepted (outcome (cond made starts.Same answer) row after when plan token)
      (λ change. is_none change ≡ made)
  by_made true answer h = refl
  by_made false answer h = h

on_repeats : (row : SecretRow) (when : When) (plan : Plan) (token : Option (List ℕ))
    → IfAccepted (rotate_on row when plan token) (λ change. is_none change ≡ starts_again row token)
on_repeats row when plan None = refl
on_repeats row when plan (Some token) =
    let after : SecretRow = begin_row row token when.moment in
    by_made row after when plan token (is_of_rotation (version_of row.versions token)) _
    (held_repeats row after when plan token (holder row.labels aws_pending) (holder row.labels aws_current))

-- nothing is changed exactly by a repeat
pub rotate_repeats : (rows : Rows) (when : When) (drawn : List ℕ) (rotate : RotateSecret)
    → IfAccepted (rotate_judgement rows when drawn rotate)
    (λ change. is_none change ≡ rotate_repeat rows when.moment drawn rotate)
rotate_repeats rows when drawn rotate =
    on_secret_repeat (found rows when.moment (secret_id rotate.secret_id))
    (λ row. rotate_on row when (plan_of rotate) (token_to_start drawn rotate))
    (λ row. starts_again row (token_to_start drawn rotate))
    (λ row. on_repeats row when (plan_of rotate) (token_to_start drawn rotate))

-- ---- the row

-- what is given fits
record PlanFits (plan : Plan) : Type 0 where
  lambda : IfSome plan.lambda (λ t. IsTrue (is_description t))
  days : IfSome plan.rules (λ rules. IsTrue (fits are_days rules.days))
  schedule : IfSome plan.rules (λ rules. IsTrue (fits is_schedule_expression rules.schedule))

days_fit : (days : Option ℤ) → IsTrue (fits is_period days) → IsTrue (fits are_days (days_of days))
days_fit None h = refl
days_fit (Some (pos days)) h = h
days_fit (Some (negsuc n)) h = absurd (false≢true h)

period_fits : (rules : Option Rules) → IfSome rules (λ r. IsTrue (fits is_period r.days))
    → IfSome (rules_given rules) (λ kept. IsTrue (fits are_days kept.days))
period_fits None h = tt
period_fits (Some rules) h = days_fit rules.days h

expression_fits : (rules : Option Rules) → IfSome rules (λ r. IsTrue (fits is_schedule_expression r.schedule))
    → IfSome (rules_given rules) (λ kept. IsTrue (fits is_schedule_expression kept.schedule))
expression_fits None h = tt
expression_fits (Some rules) h = h

plan_fits : (rotate : RotateSecret) → rotate_forms rotate ≡ None → PlanFits (plan_of rotate)
plan_fits rotate forms = record {
  lambda = rotate_lambda rotate forms;
  days = period_fits rotate.rotation_rules (rotate_rules rotate forms);
  schedule = expression_fits rotate.rotation_rules (rotate_expression rotate forms);
}

lambda_fits : (given kept : Option (List ℕ)) → IfSome given (λ t. IsTrue (is_description t))
    → IsTrue (fits is_description kept) → IsTrue (fits is_description (option_or given kept))
lambda_fits None kept new old = old
lambda_fits (Some given) kept new old = new

days_or_fit : (given : Option KeptRules) (kept : Option ℕ) → IfSome given (λ rules. IsTrue (fits are_days rules.days))
    → IsTrue (fits are_days kept) → IsTrue (fits are_days (days_or given kept))
days_or_fit None kept new old = old
days_or_fit (Some rules) kept new old = new

schedule_or_fits : (given : Option KeptRules) (kept : Option (List ℕ))
    → IfSome given (λ rules. IsTrue (fits is_schedule_expression rules.schedule))
    → IsTrue (fits is_schedule_expression kept) → IsTrue (fits is_schedule_expression (schedule_or given kept))
schedule_or_fits None kept new old = old
schedule_or_fits (Some rules) kept new old = new

turned_on_fits : (plan : Plan) (kept : Rotation) → PlanFits plan → RotationFits kept
    → RotationFits (turned_on plan kept)
turned_on_fits plan kept fit parts = record {
  lambda = lambda_fits plan.lambda kept.lambda fit.lambda parts.lambda;
  days = days_or_fit plan.rules kept.days fit.days parts.days;
  schedule = schedule_or_fits plan.rules kept.schedule fit.schedule parts.schedule;
  next = parts.next;
  last = parts.last;
}

-- a secret whose rotation is turned on
turned_on_sound : (plan : Plan) (row : SecretRow) → PlanFits plan → UnsettledSound row
    → UnsettledSound (turned_on_in plan row)
turned_on_sound plan row fit sound =
    let parts = turned_on_fits plan row.rotation fit (parts_of row.rotation sound.fits.rotation) in
    rerotated_sound (turned_on plan row.rotation) row.job row (of_parts (turned_on plan row.rotation) parts)
    sound.kept.job sound.fits.job sound

dated_fits : (rotation : Rotation) (moment : Moment) → moment.0 ≤ LAST_READING → RotationFits rotation
    → RotationFits (dated moment rotation)
dated_fits rotation moment early parts = record {
  lambda = parts.lambda;
  days = parts.days;
  schedule = parts.schedule;
  next = rotation_after_fits rotation moment early parts.days;
  last = parts.last;
}

-- one that waits for its next date
waits_sound : (plan : Plan) (moment : Moment) (row : SecretRow) → moment.0 ≤ LAST_READING → PlanFits plan
    → UnsettledSound row → UnsettledSound (waits plan moment row)
waits_sound plan moment row early fit sound =
    let on : Rotation = turned_on plan row.rotation in
    let parts = dated_fits on moment early
    (turned_on_fits plan row.rotation fit (parts_of row.rotation sound.fits.rotation)) in
    rerotated_sound (dated moment on) row.job row (of_parts (dated moment on) parts) sound.kept.job sound.fits.job sound

-- ---- the change

outcome_change : (began : Began) (row after : SecretRow) (when : When) (plan : Plan) (token : List ℕ)
    (P : Change → Type 0)
    → (began ≡ starts.Ok → P (changes.Replace (finished_row (turned_on_in plan after) when)))
    → IfChange (outcome began row after when plan token) P
outcome_change starts.Ok row after when plan token P h = h refl
outcome_change starts.Same row after when plan token P h = tt
outcome_change starts.NoCurrent row after when plan token P h = tt
outcome_change (starts.Pending id) row after when plan token P h = tt
outcome_change (starts.Exists id) row after when plan token P h = tt
outcome_change (starts.TooMany limit) row after when plan token P h = tt
outcome_change starts.Memory row after when plan token P h = tt

on_change : (rows : Rows) (when : When) (id : SecretId) (plan : Plan) (token : Option (List ℕ)) (row : SecretRow)
    → Sound rows → when.moment.0 ≤ LAST_READING → IsTrue (is_date when.moment) → PlanFits plan
    → found rows when.moment id ≡ Some row
    → IfChange (rotate_on row when plan token) (OnRow rows when id (rotates plan token when.moment))
on_change rows when id plan None row sound early date fit e =
    found_change_beside rows when id (rotates plan None when.moment) row sound date e
    (record { serial = refl; name = refl; arn = refl; versions = refl })
    (waits_sound plan when.moment row early fit)
on_change rows when id plan (Some token) row sound early date fit e =
    outcome_change (begin_answer row token when) row (begin_row row token when.moment) when plan token
    (OnRow rows when id (rotates plan (Some token) when.moment))
    (λ begins. found_change rows when id (rotates plan (Some token) when.moment) row sound date e (record {
      serial = refl;
      name = refl;
      arn = refl;
      sound = turned_on_sound plan (begin_row row token when.moment) fit
          (begin_sound row token when early (begins_from row token when begins)
          (found_row_sound rows when.moment id row sound e));
      few = begin_counted row token when begins;
    }))

-- a change is the entry's
pub rotate_change : (rows : Rows) (when : When) (drawn : List ℕ) (rotate : RotateSecret) → Sound rows
    → when.moment.0 ≤ LAST_READING → IsTrue (is_date when.moment) → rotate_forms rotate ≡ None
    → IfChange (rotate_judgement rows when drawn rotate) (IsChange rows when.moment
    (settled (rotate_effect (sweep rows when.moment) when drawn rotate)))
rotate_change rows when drawn rotate sound early date forms =
    on_secret_change (found rows when.moment (secret_id rotate.secret_id))
    (λ row. rotate_on row when (plan_of rotate) (token_to_start drawn rotate)) _
    (λ row e. on_change rows when (secret_id rotate.secret_id) (plan_of rotate) (token_to_start drawn rotate) row
    sound early date (plan_fits rotate forms) e)
