use Rattle.std.proofs.Common.{rules}
use Rattle.std.proofs.lemmas.Fn.{filter_same}
use Rattle.sm_claims.specs.LiveClaims.{still_counts}
use Rattle.sm_claims.proofs.live_claims.drop_others.Goals as goal

pub returns-clause-others : goal.returns-clause-others
returns-clause-others c =
    filter_same _ (still_counts c.args.newer.now c.args.from) _ (λ x b q k. search rules) _ _ c.retain.ensures.filtered
