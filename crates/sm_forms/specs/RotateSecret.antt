-- The forms of RotateSecret: AWS Secrets Manager API Reference, RotateSecret, RotationRulesType
-- (AutomaticallyAfterDays, ScheduleExpression).
use Rattle.std.specs.Prelude.{ℤ, pos, negsuc, Bool, false, not, ◌&&◌, Option, Some, None, is_some, codes}
use Rattle.sm_model.specs.declared.request.RotateSecret.{RotateSecret}
use Rattle.sm_model.specs.declared.request.Rules.{Rules}
use Rattle.sm_model.specs.declared.why.Why.{Why}
use Rattle.sm_model.specs.Bounds.{fits, is_description, are_days}
use Rattle.sm_base.specs.Spelling.{is_token, is_secret_id}
use Rattle.sm_cron.specs.Spelling.{is_schedule_expression}
use Rattle.sm_forms.specs.Members.{first_why, form_unless, form_of}

-- 1 to 1,000 days
abbrev pub is_period : ℤ → Bool
is_period (pos days) = are_days days
is_period (negsuc n) = false

-- rules name days and a schedule expression
abbrev pub name_both : Rules → Bool
name_both rules = is_some rules.days && is_some rules.schedule

-- days that are there are 1 to 1,000, a schedule expression is spelled as one, and not both are there
abbrev pub are_rules : Rules → Bool
are_rules rules =
    fits is_period rules.days && fits is_schedule_expression rules.schedule && not (name_both rules)

abbrev pub rules_form : Option Rules → Option Why
rules_form None = None
rules_form (Some rules) = form_unless (are_rules rules) (codes "RotationRules")

-- the members, in ascending byte order of their names
abbrev pub rotate_forms : RotateSecret → Option Why
rotate_forms rotate =
    first_why (form_of is_token (codes "ClientRequestToken") rotate.client_request_token)
    (first_why (form_of is_description (codes "RotationLambdaARN") rotate.rotation_lambda_arn)
    (first_why (rules_form rotate.rotation_rules)
    (form_unless (is_secret_id rotate.secret_id) (codes "SecretId"))))
