use Rattle.std.proofs.Common.{◌∙◌, vec_len, sym}
use Rattle.std.proofs.lemmas.Bool.{eqb-true}
use Rattle.sm_base.proofs.ChosenLemmas.{all_told, all_told_within}
use Rattle.sm_base.proofs.front.tell_all.Goals as goal

pub returns-then-is_empty-clause-told : goal.returns-then-is_empty-clause-told
returns-then-is_empty-clause-told g c =
    let none = eqb-true (vec_len c.args.places.now) 0 (sym c.is_empty.ensures ∙ c.if-is_empty.true) in
    all_told c.args.head.now c.args.places.now.items c.tell.new.places.items c.len.result
    (sym c.args.places.now.ok.0 ∙ none) c.len.ensures.count c.tell.ensures.told

pub returns-then-is_empty-clause-within : goal.returns-then-is_empty-clause-within
returns-then-is_empty-clause-within g c =
    let none = eqb-true (vec_len c.args.places.now) 0 (sym c.is_empty.ensures ∙ c.if-is_empty.true) in
    all_told_within c.args.head.now c.args.places.now.items c.tell.new.places.items c.len.result
    (sym c.args.places.now.ok.0 ∙ none) c.len.ensures.count c.tell.ensures.told
