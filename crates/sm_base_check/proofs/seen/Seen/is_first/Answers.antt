use Rattle.std.proofs.Common.{◌∙◌, ℕ, not, ◌||◌, List, ap}
use Rattle.sm_base.specs.Texts.{same_text}
use Rattle.sm_versions.specs.Texts.{is_among}
use Rattle.sm_base_check.proofs.SeenLemmas.{is_first, is_with}
use Rattle.sm_base_check.proofs.seen.Seen.is_first.Goals as goal

pub returns-clause-first : goal.returns-clause-first
returns-clause-first c =
    is_first _ c.args.text _ c.in_ok-insert.ensures.added
    ∙ ap (λ (texts : List (List ℕ)). not (is_among texts c.args.text.now)) c.self.view_is

pub returns-clause-seen : goal.returns-clause-seen
returns-clause-seen c =
    λ other. is_with _ _ c.args.text c.in_ok-insert.ensures.updates.0 other
    ∙ ap (λ (texts : List (List ℕ)). same_text c.args.text.now other || is_among texts other) c.self.view_is
