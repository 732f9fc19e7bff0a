use Rattle.std.proofs.Common.{refl}
use Rattle.sm_account.proofs.DoorLemmas.{doors_alone}
use Rattle.sm_account.proofs.account.Account.close_door.Goals as goal

pub returns : goal.returns
returns g c = doors_alone c.args.self.now _ _ refl refl c.saturating_sub-self.ensures refl
