use Rattle.std.proofs.Common.{◌≡◌, ◌++◌, List, ℕ, IfOk, string_bytes, subst, ap, ◌∙◌, arith}
use Rattle.sm_sigv4.specs.Outcomes.{more_names}
use Rattle.sm_sigv4.proofs.SigningLemmas.{first_and_more}
use Rattle.sm_sigv4.proofs.signing.names_text.Goals as goal

pub returns-in_ok-text-in-len1-up : goal.returns-in_ok-text-in-len1-up
returns-in_ok-text-in-len1-up c =
    let text_is = c.in_ok-text-in-len1-up.ensures.ok ∙ c.as_str.ensures in
    subst (λ (w : List ℕ). IfOk c.with_more_names.result (λ text. string_bytes text ≡ w))
    (ap (λ (t : List ℕ). t ++ more_names c.split_at.result.1.now) text_is
    ∙ first_and_more c.args.names.now c.first-item.result c.split_at.result.1.now (omega arith) c.first-item.is
    c.split_at.ensures.back)
    c.with_more_names.ensures
