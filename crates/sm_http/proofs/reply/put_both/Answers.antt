use Rattle.std.proofs.Common.{ap, sym, ◌∙◌, take}
use Rattle.std.specs.Io.KnownBytes.{append_known}
use Rattle.sm_io.proofs.Known.{append_known-append}
use Rattle.std.proofs.Math.Seq.{take-append-add}
use Rattle.sm_http.proofs.reply.put_both.Goals as goal

pub returns-in-Fault-put_all-clause-bytes : goal.returns-in-Fault-put_all-clause-bytes
returns-in-Fault-put_all-clause-bytes g c =
    let front = c.args.front.now in
    let back = c.args.back.now in
    let n = c.in-Fault-put_all.taken in
    c.in-Fault-put_all.ensures.bytes
    ∙ ap (λ known. append_known known (take n back)) c.in-Ok.ensures.bytes
    ∙ append_known-append (g.K.Sink.taken c.args.sink.now) front (take n back)
    ∙ ap (append_known (g.K.Sink.taken c.args.sink.now)) (sym (take-append-add front back n))
