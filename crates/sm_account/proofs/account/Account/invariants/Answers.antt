use Rattle.sm_store.proofs.StoreStands.{holds_recover}
use Rattle.sm_account.specs.Accounts.{all_of, failed}
use Rattle.sm_account.proofs.VouchLemmas.{kept_vouched}
use Rattle.sm_account.proofs.account.Account.invariants.Goals as goal

pub returns-clause-on_disk : goal.returns-clause-on_disk
returns-clause-on_disk g c =
    let account = c.args.self.now in
    record {
      images = holds_recover account.inner.store (all_of account) (failed account) account.kept.holds;
      lawful = account.kept.lawful;
      next = account.kept.next;
    }

pub returns-clause-vouched : goal.returns-clause-vouched
returns-clause-vouched g c =
    kept_vouched g.R.Rotator.replies c.args.self.now.inner c.args.self.now.kept c.args.self.now.allowed
