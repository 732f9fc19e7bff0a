-- What always holds of the account's state has one proof at most, so that a type can keep it.
use Rattle.std.proofs.Props.{props}
use Rattle.sm_disk.specs.declared.disk.Disk.{Ghosts}
use Rattle.sm_store.proofs.HeldProofs.{base_holds_prop}
use Rattle.sm_table.proofs.PropLemmas.{Sound-prop}
use Rattle.sm_account.specs.declared.account_state.AccountState.{AccountState}
use Rattle.sm_account.specs.AccountState.{Kept}

pub Kept-prop : {D : Type 0} {G : Ghosts D} (inner : AccountState D G) → IsProp (Kept G inner)
Kept-prop inner = Prim.hlevel (Sound-prop, base_holds_prop, props)
