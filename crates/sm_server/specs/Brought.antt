-- What messages brought, beside what the outside tells.
use Rattle.std.specs.Prelude.{◌≡◌, [], List}
use Rattle.std.specs.Io.KnownBytes.{append_known}
use Rattle.sm_account.specs.States.{Base}
use Rattle.sm_http.specs.Messages.{Message}
use Rattle.sm_principal.specs.declared.people.People.{People}
use Rattle.sm_rotation.specs.Vouched.{Replies}
use Rattle.sm_account.specs.SeatTraces.{History}
use Rattle.sm_server.specs.Outside.{Outside, growth}
use Rattle.sm_server.specs.MessageRounds.{Brought, MessageRounds}

-- what messages brought, from before to now, where the history is this now
pub record Brings (replies : Replies) (people : People) (base : Base) (before now : Outside) (history : History)
    (messages : List Message) (brought : Brought) : Type 0 where
  pub turns : MessageRounds replies people base [] messages brought
  pub disk : growth (λ c. c.disk) before now ≡ brought.disk
  pub random : growth (λ c. c.random) before now ≡ brought.random
  pub rotator : growth (λ c. c.rotator) before now ≡ brought.rotator
  pub stands : history ≡ brought.history
  pub readings : now.readings ≡ append_known before.readings brought.told.readings
  pub drawn : now.drawn ≡ append_known before.drawn brought.told.drawn
