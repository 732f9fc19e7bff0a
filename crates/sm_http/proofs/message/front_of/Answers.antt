use Rattle.sm_http.specs.Heads.{head_length}
use Rattle.sm_http.proofs.MoreBytesLemmas.{unmoved}
use Rattle.sm_http.proofs.message.front_of.Goals as goal

pub head_length-requires : goal.head_length-requires
head_length-requires c = unmoved (head_length c.args.bytes.now)
