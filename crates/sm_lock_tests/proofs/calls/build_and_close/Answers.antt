use Rattle.std.proofs.Common.{ap, ◌∙◌, sym}
use Rattle.sm_lock.specs.Handles.{built_with, number, seen}
use Rattle.sm_lock_tests.proofs.Added.{nothing_added}
use Rattle.sm_lock_tests.proofs.calls.build_and_close.Goals as goal

pub returns-in-Ok-clause-list : goal.returns-in-Ok-clause-list
returns-in-Ok-clause-list g c =
    let story = g.T.Storied.story in let closed = c.close.ensures in let built = c.in-Ok.ensures in
    nothing_added number seen (story (built_with c.in-Ok.gate))
    (story c.close.result) c.in-Ok.passes closed.built closed.seen
    (λ k d lt. (built.seen k d lt).1 ∙ ap story (sym built.gate.0)) closed.numbers
    ∙ ap story built.gate.0
