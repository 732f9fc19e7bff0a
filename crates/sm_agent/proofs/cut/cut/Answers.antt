use Rattle.sm_agent.proofs.CutLemmas.{around, uncut}
use Rattle.sm_agent.proofs.cut.cut.Goals as goal

pub returns-clause-around : goal.returns-clause-around
returns-clause-around c =
    around c.args.mark c.args.text.now c.split_once.result (c.split_once.ensures.byte c.requires (λ w o h. h))

pub returns-clause-uncut : goal.returns-clause-uncut
returns-clause-uncut c =
    uncut c.args.mark c.args.text.now c.split_once.result (c.split_once.ensures.byte c.requires (λ w o h. h))
