use Rattle.sm_http.proofs.OneReadingLemmas as lemmas
use Rattle.sm_http.proofs.laws.one_reading.Goals as goal

pub returns : goal.returns
returns c = lemmas.one_reading
