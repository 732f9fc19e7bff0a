use Rattle.std.proofs.Common.{◌∙◌, ℕ, List, codes, option_copied, sym, ap}
use Rattle.sm_base_check.specs.Tests.{behind, is_named_run}
use Rattle.sm_base_check.proofs.ArnLemmas.{begins_so}
use Rattle.sm_base_check.proofs.arn.is_arn_of.Goals as goal

pub returns-in-Some : goal.returns-in-Some
returns-in-Some c =
    begins_so c.args.arn.now c.args.name.now c.in-Some.rest.now c.is_named_run.result
    (ap option_copied (sym c.in-Some.is) ∙ c.behind.ensures
    ∙ ap (λ (text : List ℕ). behind text (codes "arn:aws:secretsmanager:us-east-1:000000000000:secret:"))
    (c.as_bytes.ensures.value ∙ c.as_text.ensures.value))
    (c.is_named_run.ensures
    ∙ ap (is_named_run c.in-Some.rest.now) (c.as_bytes-in-Some.ensures.value ∙ c.as_text-in-Some.ensures.value))
