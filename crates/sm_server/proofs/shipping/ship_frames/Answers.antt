use Rattle.std.proofs.Common.{List, [], inl, refl, sym, subst}
use Rattle.sm_base.specs.Faults.{Rose}
use Rattle.sm_io.proofs.Known.{append_known-nil}
use Rattle.sm_account.specs.Accounts.{all_of}
use Rattle.sm_replication.specs.declared.frame.Frame.{Frame}
use Rattle.sm_server.specs.Ships.{PutsFrames, shipped_bytes}
use Rattle.sm_server.proofs.PutLemmas.{ships_by}
use Rattle.sm_server.proofs.shipping.ship_frames.Goals as goal

pub returns-in-Ok-clause-ships : goal.returns-in-Ok-clause-ships
returns-in-Ok-clause-ships g c =
    let puts = c.put_frames.ensures.puts in
    let status = c.put_frames.result in
    let cause : Type 0 =
    Rose (g.K.Sink.sink_faults c.args.sink.now) (g.K.Sink.sink_faults c.put_frames.new.sink) in (
      puts.0,
      puts.1,
      ships_by cause (all_of c.args.account.now) c.args.position status puts.0 c.in-Ok.frames c.in-Ok.ensures.ships
          (subst (λ (frames : List Frame). PutsFrames cause status (shipped_bytes frames) puts.0) c.as_slice.ensures
          puts.2),
    )

pub returns-in-Err-clause-ships : goal.returns-in-Err-clause-ships
returns-in-Err-clause-ships g c = ([], sym (append_known-nil (g.K.Sink.taken c.args.sink.now)), inl refl)
