use Rattle.std.proofs.Common.{ap, take}
use Rattle.sm_replication.proofs.ReaderLemmas.{whole_there, cut_whole, found_input}
use Rattle.sm_replication.proofs.reader.take_frame.Goals as goal

pub slice_bounds-decode-end : goal.slice_bounds-decode-end
slice_bounds-decode-end c = cut_whole c.args.ahead.now c.as_slice.result.now c.args.size c.as_slice.ensures c.requires

pub returns-in-Ok-clause-found : goal.returns-in-Ok-clause-found
returns-in-Ok-clause-found c =
    found_input c.args.ahead.now (take c.args.size c.as_slice.result.now) c.skip.new.self c.args.at c.args.size
    c.in-Ok.input (whole_there c.args.ahead.now c.args.size c.requires)
    (ap (take c.args.size) c.as_slice.ensures) c.in-Ok.ensures.0 c.in-Ok.ensures.1 c.skip.ensures
