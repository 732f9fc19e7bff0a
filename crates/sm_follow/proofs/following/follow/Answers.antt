use Rattle.sm_store.specs.Openings.{held_of}
use Rattle.sm_store.specs.Stores.{disk_of, format_of}
use Rattle.sm_follow.specs.Disks.{first_state}
use Rattle.sm_follow.specs.Streams.{Around, around_by}
use Rattle.sm_follow.proofs.DiskLemmas.{followed_over}
use Rattle.sm_follow.proofs.following.follow.Goals as goal

pub follow_source-requires : goal.follow_source-requires
follow_source-requires g c = record {
  sure = c.in-Ok.ensures.opened.sure;
  under = c.in-Ok.ensures.opened.under;
}

pub returns-in-Ok-clause-followed : goal.returns-in-Ok-clause-followed
returns-in-Ok-clause-followed g c =
    let held = held_of c.in-Ok.loaded in
    let opened = c.in-Ok.ensures in
    let before : Around = around_by g.Q.Source g.K.Sink g.C.Clock c.args.source.now c.args.sink.now
    c.args.clock.now in
    let after : Around = around_by g.Q.Source g.K.Sink g.C.Clock c.follow_source.new.source c.follow_source.new.sink
    c.follow_source.new.clock in
    followed_over g.D.Disk c.args.people.now c.args.region c.follow_source.result.0 before after c.args.disk
    (disk_of c.in-Ok.store) c.follow_source.result.1 (format_of c.in-Ok.store) held opened.found opened.any_moment
    opened.no_other
    (c.follow_source.ensures.followed (first_state c.args.region held)
    (record { replica = c.new-replica.ensures; store = opened.opened })) c.follow_source.ensures.disk_later

pub returns-in-Err-clause-refused : goal.returns-in-Err-clause-refused
returns-in-Err-clause-refused g c = c.told.ensures c.args.disk c.in-Err.ensures.refused
