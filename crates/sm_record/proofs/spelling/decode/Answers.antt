use Rattle.std.proofs.Common.{arith}
use Rattle.sm_record.proofs.DecodeLemmas.{is_found, only_spelled, is_no_entry}
use Rattle.sm_record.proofs.spelling.decode.Goals as goal

pub returns-clause-found : goal.returns-clause-found
returns-clause-found c =
    is_found c.args.edition c.args.body.now c.decode_whole.result (λ i. omega (arith, c.type_inv.body i))
    c.decode_whole.ensures

pub returns-clause-only : goal.returns-clause-only
returns-clause-only c =
    λ e fits same. only_spelled c.args.edition c.args.body.now c.decode_whole.result e c.decode_whole.ensures fits same

pub returns-clause-no_entry : goal.returns-clause-no_entry
returns-clause-no_entry c =
    λ place is. is_no_entry c.args.edition c.args.body.now c.decode_whole.result place c.decode_whole.ensures is
