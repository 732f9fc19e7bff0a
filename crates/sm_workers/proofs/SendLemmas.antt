-- An account may go to another thread where its disk may.
use denote.Param.Send.{IsSend, plain_send, recorded_send, sendable, struct_send}
use denote.RattleType.{RattleType}
use denote.Struct.Declared.{shape}
use Rattle.std.proofs.Crossing.{crosses}
use Rattle.sm_account.proofs.told.Told.TheSendSync as told
use Rattle.sm_account.specs.contracts.account.Account as account
use Rattle.sm_account.specs.contracts.account_state.AccountState as inner
use Rattle.sm_base.proofs.moment.Moment.TheSendSync as moment
use Rattle.sm_claims.proofs.claims.Claim.TheSendSync as claim
use Rattle.sm_disk.specs.declared.disk.Disk.{Ghosts as DiskGhosts}
use Rattle.sm_model.proofs.entry.Entry.TheSendSync as entry
use Rattle.sm_record.proofs.base.Base.TheSendSync as base
use Rattle.sm_rotator.specs.declared.rotator.Rotator.{Ghosts as RotatorGhosts}
use Rattle.sm_store.proofs.store.Store.TheSendSync as store
use Rattle.sm_table.proofs.table.Table.TheSendSync as table

account_state_field_send : (D : RattleType) (d : DiskGhosts D.Denot) → IsSend D → IsSend (inner.the_field D d).row
account_state_field_send D d sent = struct_send (shape (inner.the_type D d)) (
  search sendable,
  (
    table.the_send,
    (
      store.the_field_send D d sent,
      (
        base.the_field_send,
        (
          search (sendable, crosses, entry.the_send) depth 20,
          (
            search (sendable, crosses, claim.the_send) depth 20,
            (
              told.the_send,
              (
                plain_send _ _ _ _ _,
                (
                  moment.the_field_send,
                  (
                    plain_send _ _ _ _ _,
                    (plain_send _ _ _ _ _, (search sendable, (search sendable, (search sendable, tt)))),
                  ),
                ),
              ),
            ),
          ),
        ),
      ),
    ),
  ),
)

pub account_send : (D R : RattleType) (d : DiskGhosts D.Denot) (r : RotatorGhosts R.Denot) → IsSend D
    → IsSend (account.the_row D R d r)
account_send D R d r sent =
    recorded_send (account.the_field D R d r).row _ _ (account.the_type D R d r).to_one
    (struct_send (shape (account.the_type D R d r)) (
      account_state_field_send D d sent,
      (plain_send _ _ _ _ _, (plain_send _ _ _ _ _, (search sendable, tt))),
    ))
