use Rattle.std.proofs.Common.{None}
use Rattle.sm_journal.proofs.StandsLemmas.{sure_ends}
use Rattle.sm_journal.proofs.journal.Journal.close.Goals as goal

pub returns-clause-idle : goal.returns-clause-idle
returns-clause-idle g c sure bodies stands = record {
  within = stands.within;
  rests = λ image was. sure_ends c.args.self.format c.args.self.tail bodies None sure _ (stands.ends image was);
}
