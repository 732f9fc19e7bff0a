use Rattle.std.proofs.Common.{refl}
use Rattle.sm_lock.specs.Handles.{seen}
use Rattle.sm_session.specs.Views.{local_state_by}
use Rattle.sm_workers.proofs.connection_workers.visit.Goals as goal

pub returns-clause-visits : goal.returns-clause-visits
returns-clause-visits g c =
    let served = c.serve-served in (
      record {
        conn = c.args.conn;
        came = served.new.conn;
        note = record { trace = served.result.trace; ended = served.result.ended };
        from = local_state_by g.C.Clock g.W.Words (seen c.args.pass) c.args.clock.now c.args.words.now;
        to = local_state_by g.C.Clock g.W.Words (seen served.result.pass) served.new.clock served.new.words;
        session = served.ensures.served.0;
        complete = served.ensures.served.2;
        later = record {
          source = served.ensures.source_later;
          sink = served.ensures.sink_later;
          random = served.ensures.random_later;
        };
      },
      refl,
      c.done.ensures.back,
      refl,
      refl,
    )
