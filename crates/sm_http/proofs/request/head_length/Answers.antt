use Rattle.std.proofs.Common.{ap, sym, subst, take, ◌∙◌}
use Rattle.sm_http.specs.Heads.{blank_line, head_limit, Passed}
use Rattle.sm_http.proofs.MessageLemmas.{take_within}
use Rattle.sm_http.proofs.request.head_length.Goals as goal

pub blank_line-requires : goal.blank_line-requires
blank_line-requires c =
    subst (Passed c.args.passed)
    (sym (ap (λ n. take n c.args.bytes.now) c.min.ensures ∙ take_within head_limit c.args.bytes.now)) c.requires

pub returns-clause-value : goal.returns-clause-value
returns-clause-value c =
    c.blank_line.ensures.value
    ∙ ap (λ n. blank_line (take n c.args.bytes.now)) c.min.ensures
    ∙ ap blank_line (take_within head_limit c.args.bytes.now)
