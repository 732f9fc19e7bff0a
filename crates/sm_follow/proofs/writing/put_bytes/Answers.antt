use Rattle.sm_follow.proofs.WritingLemmas.{put_part, put_whole}
use Rattle.sm_follow.proofs.writing.put_bytes.Goals as goal

pub returns-in-Ok-clause-puts : goal.returns-in-Ok-clause-puts
returns-in-Ok-clause-puts g c wanted output w is =
    put_whole wanted output c.args.bytes.now c.args.count.now (g.K.Sink.taken c.args.sink.now)
    (g.K.Sink.taken c.put_all.new.sink) (g.K.Sink.sink_faults c.args.sink.now)
    (g.K.Sink.sink_faults c.put_all.new.sink) w is c.saturating_add.result c.in-Ok.ensures.bytes
    c.saturating_add.ensures

pub returns-in-Fault-clause-puts : goal.returns-in-Fault-clause-puts
returns-in-Fault-clause-puts g c wanted output w is =
    put_part wanted output c.args.bytes.now c.args.count.now (g.K.Sink.taken c.args.sink.now)
    (g.K.Sink.taken c.put_all.new.sink) (g.K.Sink.sink_faults c.args.sink.now)
    (g.K.Sink.sink_faults c.put_all.new.sink) w is c.in-Fault.taken c.saturating_add-in-Fault.result
    c.in-Fault.ensures.short c.in-Fault.ensures.bytes c.saturating_add-in-Fault.ensures c.in-Fault.ensures.failed
