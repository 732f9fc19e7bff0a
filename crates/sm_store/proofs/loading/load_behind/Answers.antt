use Rattle.std.proofs.Common.{refl, arith}
use Rattle.std.proofs.lemmas.List.Sums.{prefix_len-le-length}
use Rattle.sm_store.specs.Loading.{is_marked}
use Rattle.sm_store.proofs.LoadRuns.{loads_up_to, size_behind}
use Rattle.sm_store.proofs.loading.load_behind.Goals as goal

pub place_behind-gate-requires-clause-within : goal.place_behind-gate-requires-clause-within
place_behind-gate-requires-clause-within c =
    omega (arith, c.requires.count, prefix_len-le-length is_marked c.args.bodies.now)

pub entries_behind-requires-clause-within : goal.entries_behind-requires-clause-within
entries_behind-requires-clause-within c =
    omega (arith, c.requires.count, prefix_len-le-length is_marked c.args.bodies.now)

pub entries_behind-requires-clause-place : goal.entries_behind-requires-clause-place
entries_behind-requires-clause-place c =
    omega (arith, c.requires.place, c.place_behind-gate.ensures, size_behind c.args.count c.args.bodies.now)

pub returns-in-Ok : goal.returns-in-Ok
returns-in-Ok c =
    loads_up_to c.args.edition c.args.file c.args.bodies.now c.args.count _ _ c.requires.count c.requires.base.0
    c.requires.base.1 refl c.place_behind-gate.ensures c.in-Ok.ensures
