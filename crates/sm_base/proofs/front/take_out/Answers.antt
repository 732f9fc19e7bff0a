use Rattle.std.proofs.Common.{rules, ℕ, Bool, slice_get}
use Rattle.std.proofs.lemmas.Fn.{filter_same}
use Rattle.sm_base.specs.Blocks.{passes}
use Rattle.sm_base.proofs.ChosenLemmas.{kept_is, kept_are}
use Rattle.sm_base.proofs.front.take_out.Goals as goal

pub returns-clause-left : goal.returns-clause-left
returns-clause-left g c =
    let test : ℕ → Bool = λ at. passes (g.P.Picks.picked c.args.picks.now) (slice_get c.args.head.now at) in
    rw (filter_same _ test _ (λ x b f' k. search rules) _ _ c.retain.ensures.filtered)
    (kept_is (g.P.Picks.picked c.args.picks.now) c.args.head.now c.args.places.now.items c.requires)

pub returns-clause-within : goal.returns-clause-within
returns-clause-within g c =
    let test : ℕ → Bool = λ at. passes (g.P.Picks.picked c.args.picks.now) (slice_get c.args.head.now at) in
    rw (filter_same _ test _ (λ x b f' k. search rules) _ _ c.retain.ensures.filtered)
    (kept_are (g.P.Picks.picked c.args.picks.now) c.args.head.now c.args.places.now.items c.requires)
