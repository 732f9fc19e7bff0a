use Rattle.std.proofs.Common.{sym}
use Rattle.sm_http.proofs.HeadLemmas.{one_more_digit}
use Rattle.sm_http.proofs.head.decimal.Goals as goal

pub loop-byte-preserved : goal.loop-byte-preserved
loop-byte-preserved c =
    rw c.from.ensures (one_more_digit c.args.text.now c.loop-byte.byte-index c.loop-byte.value c.loop-byte.invariant
    c.loop-byte-test.true c.requires (sym c.if-not-is_ascii_digit.ensures.value)).0
