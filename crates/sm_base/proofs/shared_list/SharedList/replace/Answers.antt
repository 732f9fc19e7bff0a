use Rattle.std.proofs.Common.{◌∙◌, ◌-◌, ◌++◌, length, slice_set, sym, ap, arith}
use Rattle.sm_base.proofs.PlaceLemmas.{set_before, set_behind}
use Rattle.sm_base.proofs.shared_list.SharedList.replace.Goals as goal

pub returns-then-place-shared-clause-ok : goal.returns-then-place-shared-clause-ok
returns-then-place-shared-clause-ok g c =
    let front = c.self.inside.front in
    let own = c.self.inside.own.items in
    ap (λ l. l ++ own) c.in_ok-replace.ensures.ok
    ∙ ap (λ item. slice_set front c.args.place item ++ own) c.in_ok-entry.ensures
    ∙ sym (set_before front own c.args.place c.args.item
    (omega (arith, c.if-place-shared.true, c.len-shared.ensures.count)))
    ∙ ap (λ l. slice_set l c.args.place c.args.item) c.self.view_is

pub returns-clause-ok : goal.returns-clause-ok
returns-clause-ok g c =
    let front = c.self.inside.front in
    let own = c.self.inside.own.items in
    ap (λ n. front ++ slice_set own (c.args.place - n) c.in_ok-entry.entry) c.len-shared.ensures.count
    ∙ ap (λ item. front ++ slice_set own (c.args.place - length front) item) c.in_ok-entry.ensures
    ∙ sym (set_behind front own c.args.place c.args.item
    (omega (arith, c.if-place-shared.false, c.len-shared.ensures.count)))
    ∙ ap (λ l. slice_set l c.args.place c.args.item) c.self.view_is
