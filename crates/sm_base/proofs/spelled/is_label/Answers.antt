use Rattle.std.proofs.Common.{Some, None}
use Rattle.sm_base.proofs.SpelledLemmas.{label_fault_tells}
use Rattle.sm_base.proofs.spelled.is_label.Goals as goal

pub returns-in-Some : goal.returns-in-Some
returns-in-Some c = label_fault_tells c.args.text.now (Some c.in-Some.field-0) c.in-Some.ensures

pub returns-in-None : goal.returns-in-None
returns-in-None c = label_fault_tells c.args.text.now None c.in-None.ensures
