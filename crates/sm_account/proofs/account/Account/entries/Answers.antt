use Rattle.std.proofs.Common.{◌∙◌, sym}
use Rattle.sm_account.proofs.KeptLemmas.{count_of_all}
use Rattle.sm_account.proofs.account.Account.entries.Goals as goal

pub entries_count-requires : goal.entries_count-requires
entries_count-requires g c = c.args.self.now.kept

pub returns : goal.returns
returns g c = c.entries_count.ensures ∙ sym (count_of_all c.args.self.now.inner c.args.self.now.kept)
