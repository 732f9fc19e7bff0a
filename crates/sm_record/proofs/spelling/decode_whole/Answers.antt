use Rattle.std.proofs.Common.{arith}
use Rattle.sm_record.proofs.DecodeLemmas.{rest_within, left_within}
use Rattle.sm_record.proofs.spelling.decode_whole.Goals as goal

pub overflow_sub-result : goal.overflow_sub-result
overflow_sub-result c =
    rest_within c.args.edition c.args.body.now c.in-Ok.entry c.in-Ok.rest.now
    (λ i. omega (arith, c.type_inv.body i)) c.in-Ok.ensures

pub overflow_sub-result-in-Err-Left : goal.overflow_sub-result-in-Err-Left
overflow_sub-result-in-Err-Left c =
    left_within c.args.edition c.args.body.now c.in-Err-Left.left (λ i. omega (arith, c.type_inv.body i))
    (rw c.in-Err-Left.field-0-is at c.in-Err-Left.ensures)
