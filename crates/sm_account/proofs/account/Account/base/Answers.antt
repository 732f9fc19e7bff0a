use Rattle.sm_account.proofs.CountLemmas.{kept_base}
use Rattle.sm_account.proofs.account.Account.base.Goals as goal

pub returns-clause-base : goal.returns-clause-base
returns-clause-base g c = c.args.self.now.kept.based

pub returns-clause-sound : goal.returns-clause-sound
returns-clause-sound g c = kept_base c.args.self.now.inner c.args.self.now.kept
