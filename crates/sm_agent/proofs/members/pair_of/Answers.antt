use Rattle.std.proofs.Common.{cond, None, ap, sym}
use Rattle.std.specs.List.{after_first}
use Rattle.std.specs.Bool.{◌==◌}
use Rattle.sm_agent.specs.Values.{decoded}
use Rattle.sm_agent.proofs.CutLemmas.{all_before}
use Rattle.sm_agent.proofs.members.pair_of.Goals as goal

pub returns-in-None : goal.returns-in-None
returns-in-None c = (
  all_before 61 c.args.piece.now c.in-None.ensures.uncut,
  sym (ap (λ b. cond b (decoded (after_first (λ b. b == 61) c.args.piece.now)) None) c.in-None.ensures.uncut),
)
