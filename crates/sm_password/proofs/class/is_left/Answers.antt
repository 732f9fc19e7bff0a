use Rattle.std.proofs.Common.{ℕ, ◌==◌, not, ap, rules, tests}
use Rattle.std.proofs.lemmas.Iterator.{YieldsList-from_chars}
use Rattle.std.proofs.lemmas.Iterator.Search.{any_from_yields_List}
use Rattle.sm_password.proofs.class.is_left.Goals as goal

pub returns : goal.returns
returns c =
    rw (← c.as_str.ensures)
    (ap not (any_from_yields_List (λ (excluded : ℕ). excluded == c.args.character) _ _ c.any.result c.any.ensures.ran
    (YieldsList-from_chars c.as_str.result.now c.as_str.utf8 cc) (λ x b q k. search (rules, tests))))
