use Rattle.std.proofs.Common.{subst, sym}
use Rattle.sm_core.specs.Histories.{InTime}
use Rattle.sm_store.specs.Openings.{held_of}
use Rattle.sm_recovery.proofs.JudgedLemmas.{made_as, lawful_as, stops_as}
use Rattle.sm_recovery.proofs.PlaceLemmas.{spelled_in_time}
use Rattle.sm_recovery.proofs.lawful.go_behind.Goals as goal

pub go_on-requires : goal.go_on-requires
go_on-requires c = subst InTime (sym c.as_slice.ensures)
    (spelled_in_time c.args.edition c.args.loaded.now.entries c.requires.spelled.entries)

pub returns-in-Ok-clause-made : goal.returns-in-Ok-clause-made
returns-in-Ok-clause-made c =
    made_as (held_of c.args.loaded.now) c.args.replayed c.as_slice.result.now c.requires.begins c.as_slice.ensures
    c.in-Ok.replayed c.in-Ok.ensures.after

pub returns-in-Ok-clause-lawful : goal.returns-in-Ok-clause-lawful
returns-in-Ok-clause-lawful c =
    lawful_as (held_of c.args.loaded.now) c.args.replayed c.as_slice.result.now c.requires.begins c.as_slice.ensures
    c.args.edition c.requires.sound c.in-Ok.ensures.legal c.requires.spelled.entries

pub stopped_behind-requires-clause-stops : goal.stopped_behind-requires-clause-stops
stopped_behind-requires-clause-stops c =
    stops_as (held_of c.args.loaded.now) c.args.replayed c.as_slice.result.now c.requires.begins c.as_slice.ensures
    c.in-Err.stopped c.in-Err.ensures.stopped
