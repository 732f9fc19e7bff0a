use Rattle.sm_policy.proofs.LawLemmas.{matches_as_wild, star_matches_all}
use Rattle.sm_policy.proofs.laws.patterns_match_as_stated.Goals as goal

pub returns-clause-relation : goal.returns-clause-relation
returns-clause-relation c = matches_as_wild

pub returns-clause-star : goal.returns-clause-star
returns-clause-star c = star_matches_all
