use Rattle.sm_replication.proofs.DecodeLemmas.{is_one, bad_is_none, partial_is_none}
use Rattle.sm_replication.proofs.decoding.is_one_message.Goals as goal

pub returns-in-Whole : goal.returns-in-Whole
returns-in-Whole c = is_one c.args.bytes.now c.in-Whole.field-0 c.in-Whole.used c.in-Whole.ensures

pub returns-in-Bad : goal.returns-in-Bad
returns-in-Bad c = bad_is_none c.args.bytes.now c.in-Bad.field-0 c.in-Bad.ensures

pub returns-in-Partial : goal.returns-in-Partial
returns-in-Partial c = partial_is_none c.args.bytes.now c.in-Partial.ensures
