use Rattle.std.proofs.Common.{◌≡◌, ◌+◌, ℕ, [], false, is_some, length, ap, subst, ◌∙◌, arith}
use Rattle.sm_base.specs.Faults.{Rose}
use Rattle.sm_model.specs.declared.rows.Rows.{Rows}
use Rattle.sm_account.specs.Accounts.{all_of, base, failed, history, rows, taken}
use Rattle.sm_account.proofs.HeldLemmas.{made_count}
use Rattle.sm_recovery.specs.Lawful.{made_of}
use Rattle.sm_account.specs.History.{entries_in}
use Rattle.sm_core.specs.Histories.{replay}
use Rattle.sm_server.specs.Checks.{Shows}
use Rattle.sm_server.proofs.StoredLemmas.{stays_vouched}
use Rattle.sm_server.proofs.run.check_opened.Goals as goal

pub returns-clause-shows : goal.returns-clause-shows
returns-clause-shows g c =
    let account = c.args.account in
    let s = c.summarize-status.ensures.shows in
    let cause = Rose (g.K.Sink.sink_faults c.args.sink.now) (g.K.Sink.sink_faults c.summarize-status.new.sink) in
    let same : rows account ≡ (base account).rows =
    c.invariants.ensures.rows ∙ ap (λ h. replay (base account).rows (entries_in h)) c.requires.fresh in
    let many : (made_of (all_of account)).entries ≡ (made_of (taken account)).entries =
    made_count (taken account) (entries_in (history account))
    ∙ ap (λ h. (made_of (taken account)).entries + length (entries_in h)) c.requires.fresh ∙ omega arith in (
      s.0,
      s.1,
      s.2,
      s.3,
      subst (λ n. Shows cause (base account).rows s.0 n c.summarize-status.result s.1) many
          (subst (λ (r : Rows). Shows cause r s.0 (made_of (all_of account)).entries c.summarize-status.result s.1) same
          s.4),
    )

pub returns-clause-stands : goal.returns-clause-stands
returns-clause-stands g c people =
    let holds = c.invariants.ensures in
    record {
      on_disk = holds.on_disk;
      cause = λ some. absurd (let h : is_some (failed c.args.account) ≡ false = ap is_some c.requires.sure in cc);
      faults = holds.faults;
    }

pub returns-clause-vouched : goal.returns-clause-vouched
returns-clause-vouched g c =
    stays_vouched g.R.Rotator.replies c.args.account c.invariants.ensures.rows c.invariants.ensures.vouched
