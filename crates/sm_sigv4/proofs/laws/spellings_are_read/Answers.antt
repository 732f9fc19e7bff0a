use Rattle.sm_sigv4.proofs.ReadLemmas.{reads_no_other}
use Rattle.sm_sigv4.proofs.SentenceLemmas.{reads_spellings}
use Rattle.sm_sigv4.proofs.laws.spellings_are_read.Goals as goal

pub returns : goal.returns
returns c = record { spellings = reads_spellings; no_other = reads_no_other }
