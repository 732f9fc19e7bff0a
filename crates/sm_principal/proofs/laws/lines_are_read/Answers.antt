use Rattle.sm_principal.proofs.SpellingLemmas.{reads_lines, reads_no_other}
use Rattle.sm_principal.proofs.laws.lines_are_read.Goals as goal

pub returns : goal.returns
returns c = record { spelled = reads_lines; no_other = reads_no_other }
