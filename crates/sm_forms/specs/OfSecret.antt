-- The form of a request that names a secret and nothing else: AWS Secrets Manager API Reference, DescribeSecret
-- (SecretId).
use Rattle.std.specs.Prelude.{Option, codes}
use Rattle.sm_model.specs.declared.request.OfSecret.{OfSecret}
use Rattle.sm_model.specs.declared.why.Why.{Why}
use Rattle.sm_base.specs.Spelling.{is_secret_id}
use Rattle.sm_forms.specs.Members.{form_unless}

abbrev pub of_secret_forms : OfSecret → Option Why
of_secret_forms asked = form_unless (is_secret_id asked.secret_id) (codes "SecretId")
