use Rattle.sm_versions.proofs.TextLemmas.{same_text_from_equals}
use Rattle.sm_claims.proofs.claims.is_same_arn.Goals as goal

pub returns : goal.returns
returns c = same_text_from_equals c.args.arn.now c.args.other.now c.equals.result c.equals.ensures
