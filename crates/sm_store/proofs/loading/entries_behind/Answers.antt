use Rattle.std.proofs.Common.{ℕ, ◌+◌, ◌<◌, List, length, drop, length-drop, sym, ap, subst, Err, arith}
use Rattle.sm_model.specs.declared.entry.Entry.{Entry}
use Rattle.sm_store.specs.Loading.{IsNoEntryIn}
use Rattle.sm_store.proofs.EntryRuns.{entries_push, at_fits, listed, next_list, next_at, no_entry_here}
use Rattle.sm_store.proofs.LoadRuns.{body_behind}
use Rattle.sm_store.proofs.loading.entries_behind.Goals as goal

pub returns-in-Err-NoEntry : goal.returns-in-Err-NoEntry
returns-in-Err-NoEntry c =
    let rest = drop c.args.count c.args.bodies.now in
    let lt : c.loop-number.number < length rest =
    omega (arith, c.loop-number-test.true, c.len.ensures, length-drop c.args.count c.args.bodies.now) in
    let is = body_behind c.args.bodies.now c.args.count c.loop-number.number c.body-bytes.result.now
    (omega (arith, c.loop-number-test.true, c.len.ensures)) c.body-bytes.ensures in
    let number = listed c.args.edition rest c.args.gate c.args.count c.loop-number.list.items c.loop-number.number
    c.loop-number.at c.body-bytes.result.now lt is c.loop-number.invariant.0 c.loop-number.invariant.1
    c.loop-number.invariant.2 in
    subst (λ (list : List Entry). IsNoEntryIn c.args.edition list rest c.args.gate c.args.count c.loop-number.at
    (c.args.count + c.loop-number.number)) (sym c.new.ensures)
    (subst (λ (n : ℕ). IsNoEntryIn c.args.edition c.loop-number.list.items rest c.args.gate c.args.count
    c.loop-number.at (c.args.count + n)) number
    (no_entry_here c.args.edition rest c.args.gate c.args.count c.loop-number.list.items c.loop-number.number
    c.loop-number.at c.body-bytes.result.now lt is c.loop-number.invariant.0 c.loop-number.invariant.1
    c.loop-number.invariant.2 (c.in-Err-NoEntry.ensures.no_entry c.in-Err-NoEntry.field-0-0
    (ap Err c.in-Err-NoEntry.field-0-is)).1))

pub overflow_add-at : goal.overflow_add-at
overflow_add-at c =
    let rest = drop c.args.count c.args.bodies.now in
    let lt : c.loop-number.number < length rest =
    omega (arith, c.loop-number-test.true, c.len.ensures, length-drop c.args.count c.args.bodies.now) in
    let is = body_behind c.args.bodies.now c.args.count c.loop-number.number c.body-bytes.result.now
    (omega (arith, c.loop-number-test.true, c.len.ensures)) c.body-bytes.ensures in
    omega (
      arith,
      c.record_size-at.ensures,
      at_fits c.args.edition rest c.args.gate c.args.count c.loop-number.list.items c.loop-number.number
          c.loop-number.at c.body-bytes.result.now lt is c.loop-number.invariant.0 c.loop-number.invariant.1
          c.loop-number.invariant.2 c.requires.place,
    )

pub loop-number-preserved : goal.loop-number-preserved
loop-number-preserved c =
    let rest = drop c.args.count c.args.bodies.now in
    let lt : c.loop-number.number < length rest =
    omega (arith, c.loop-number-test.true, c.len.ensures, length-drop c.args.count c.args.bodies.now) in
    let is = body_behind c.args.bodies.now c.args.count c.loop-number.number c.body-bytes.result.now
    (omega (arith, c.loop-number-test.true, c.len.ensures)) c.body-bytes.ensures in
    let found = c.in-Ok.ensures.found in
    rw (c.in_ok-push-in-Ok.ensures.items, c.record_size-at.ensures) (
      entries_push c.args.edition c.loop-number.list.items c.in-Ok.entry c.loop-number.invariant.0 found.0,
      next_list c.args.edition rest c.args.gate c.args.count c.loop-number.list.items c.loop-number.number
          c.loop-number.at c.body-bytes.result.now lt is c.loop-number.invariant.0 c.loop-number.invariant.1
          c.loop-number.invariant.2 c.in-Ok.entry found.0 found.1,
      next_at c.args.edition rest c.args.gate c.args.count c.loop-number.list.items c.loop-number.number
          c.loop-number.at c.body-bytes.result.now lt is c.loop-number.invariant.0 c.loop-number.invariant.1
          c.loop-number.invariant.2 c.in-Ok.entry found.1,
    )
