use Rattle.sm_http.proofs.ChainLemmas.{gave_nothing, goes_on, stays_read}
use Rattle.sm_http.proofs.laws.messages_go_on.Goals as goal

pub returns : goal.returns
returns c = record { begins = gave_nothing; goes_on = goes_on; stays = stays_read }
