-- What it says of a RotateSecret that its forms pass.
use Rattle.std.proofs.Common.{◌≡◌, not, Option, Some, None, IfSome}
use Rattle.std.specs.Prelude.{IsTrue, ◌&&◌}
use Rattle.std.proofs.lemmas.Bool.{and_parts}
use Rattle.sm_model.specs.declared.request.RotateSecret.{RotateSecret}
use Rattle.sm_model.specs.declared.request.Rules.{Rules}
use Rattle.sm_model.specs.Bounds.{fits, is_description}
use Rattle.sm_base.specs.Spelling.{is_token, is_secret_id}
use Rattle.sm_cron.specs.Spelling.{is_schedule_expression}
use Rattle.sm_forms.specs.RotateSecret.{is_period, name_both, are_rules, rules_form, rotate_forms}
use Rattle.sm_forms.proofs.MemberLemmas.{none_first, passes, all_pass}

-- rules that pass have days that fit, and a schedule expression that does
each_fits : (rules : Rules) → IsTrue (are_rules rules)
    → IsTrue (fits is_period rules.days) × IsTrue (fits is_schedule_expression rules.schedule)
each_fits rules h =
    let one = and_parts (fits is_period rules.days && fits is_schedule_expression rules.schedule)
    (not (name_both rules)) h in
    and_parts (fits is_period rules.days) (fits is_schedule_expression rules.schedule) one.0

days_pass : (rules : Option Rules) → rules_form rules ≡ None → IfSome rules (λ r. IsTrue (fits is_period r.days))
days_pass None h = tt
days_pass (Some rules) h = (each_fits rules (passes (are_rules rules) _ h)).0

schedule_passes : (rules : Option Rules) → rules_form rules ≡ None
    → IfSome rules (λ r. IsTrue (fits is_schedule_expression r.schedule))
schedule_passes None h = tt
schedule_passes (Some rules) h = (each_fits rules (passes (are_rules rules) _ h)).1

-- each of the members
record Parts (rotate : RotateSecret) : Type 0 where
  token : IfSome rotate.client_request_token (λ t. IsTrue (is_token t))
  lambda : IfSome rotate.rotation_lambda_arn (λ t. IsTrue (is_description t))
  days : IfSome rotate.rotation_rules (λ r. IsTrue (fits is_period r.days))
  schedule : IfSome rotate.rotation_rules (λ r. IsTrue (fits is_schedule_expression r.schedule))
  id : IsTrue (is_secret_id rotate.secret_id)

parts : (rotate : RotateSecret) → rotate_forms rotate ≡ None → Parts rotate
parts rotate h =
    let lambda = none_first _ _ h in
    let rules = none_first _ _ lambda.1 in
    let id = none_first _ _ rules.1 in
    record {
      token = all_pass is_token _ rotate.client_request_token lambda.0;
      lambda = all_pass is_description _ rotate.rotation_lambda_arn rules.0;
      days = days_pass rotate.rotation_rules id.0;
      schedule = schedule_passes rotate.rotation_rules id.0;
      id = passes (is_secret_id rotate.secret_id) _ id.1;
    }

pub rotate_token : (rotate : RotateSecret) → rotate_forms rotate ≡ None
    → IfSome rotate.client_request_token (λ t. IsTrue (is_token t))
rotate_token rotate h = (parts rotate h).token

pub rotate_lambda : (rotate : RotateSecret) → rotate_forms rotate ≡ None
    → IfSome rotate.rotation_lambda_arn (λ t. IsTrue (is_description t))
rotate_lambda rotate h = (parts rotate h).lambda

pub rotate_rules : (rotate : RotateSecret) → rotate_forms rotate ≡ None
    → IfSome rotate.rotation_rules (λ r. IsTrue (fits is_period r.days))
rotate_rules rotate h = (parts rotate h).days

pub rotate_expression : (rotate : RotateSecret) → rotate_forms rotate ≡ None
    → IfSome rotate.rotation_rules (λ r. IsTrue (fits is_schedule_expression r.schedule))
rotate_expression rotate h = (parts rotate h).schedule

pub rotate_id : (rotate : RotateSecret) → rotate_forms rotate ≡ None → IsTrue (is_secret_id rotate.secret_id)
rotate_id rotate h = (parts rotate h).id
