use Rattle.std.proofs.Common.{◌≡◌, List, false, is_some, ap, subst, ◌∙◌, append-nil}
use Rattle.sm_base.specs.Faults.{Rose}
use Rattle.sm_account.specs.Accounts.{all_of, failed, taken}
use Rattle.sm_account.specs.AccountState.{with_entries}
use Rattle.sm_account.specs.History.{entries_in}
use Rattle.sm_model.specs.declared.entry.Entry.{Entry}
use Rattle.sm_account.specs.SeatTraces.{History}
use Rattle.sm_store.specs.Held.{Held}
use Rattle.sm_server.specs.Ships.{ShipsBy}
use Rattle.sm_server.proofs.StoredLemmas.{stays_vouched}
use Rattle.sm_server.proofs.run.ship_opened.Goals as goal

pub returns-clause-ships : goal.returns-clause-ships
returns-clause-ships g c =
    let account = c.args.account in
    let s = c.ship_frames-status.ensures.ships in
    let cause = Rose (g.K.Sink.sink_faults c.args.sink.now) (g.K.Sink.sink_faults c.ship_frames-status.new.sink) in
    let same : all_of account ≡ taken account =
    ap (λ (h : History). with_entries (taken account) (entries_in h)) c.requires.fresh
    ∙ ap (λ (es : List Entry). record { base = (taken account).base; entries = es })
    (append-nil (taken account).entries) in
    (s.0, s.1, subst (λ (h : Held). ShipsBy cause h c.args.position c.ship_frames-status.result s.0) same s.2)

pub returns-clause-stands : goal.returns-clause-stands
returns-clause-stands g c people =
    let holds = c.invariants.ensures in
    record {
      on_disk = holds.on_disk;
      cause = λ some. absurd (let h : is_some (failed c.args.account) ≡ false = ap is_some c.requires.sure in cc);
      faults = holds.faults;
    }

pub returns-clause-vouched : goal.returns-clause-vouched
returns-clause-vouched g c =
    stays_vouched g.R.Rotator.replies c.args.account c.invariants.ensures.rows c.invariants.ensures.vouched
