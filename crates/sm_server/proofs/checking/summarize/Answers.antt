use Rattle.std.proofs.Common.{[], refl, sym, subst}
use Rattle.sm_summary.specs.Summary.{IsSummary}
use Rattle.sm_base.specs.Faults.{Rose}
use Rattle.sm_model.specs.declared.rows.Rows.{Rows}
use Rattle.sm_account.specs.Accounts.{all_of, rows}
use Rattle.sm_recovery.specs.Lawful.{made_of}
use Rattle.sm_io.proofs.Known.{append_known-nil}
use Rattle.sm_server.proofs.CheckLemmas.{shows_by}
use Rattle.sm_server.proofs.checking.summarize.Goals as goal

pub returns-in-Ok-clause-shows : goal.returns-in-Ok-clause-shows
returns-in-Ok-clause-shows g c =
    let account = c.args.account.now in
    let now = c.now-now.result in
    let text = c.as_bytes.result.now in
    let s = c.show.ensures.shows in
    let cause = Rose (g.K.Sink.sink_faults c.args.sink.now) (g.K.Sink.sink_faults c.show.new.sink) in
    let is : IsSummary (rows account) now (made_of (all_of account)).entries text =
    subst (λ (r : Rows). IsSummary r now (made_of (all_of account)).entries text) c.table.ensures
    (subst (λ n. IsSummary c.table.result.now now n text) c.entries.ensures
    (subst (IsSummary c.table.result.now now c.entries.result) (sym c.as_bytes.ensures.value)
    c.in-Ok.ensures.summary)) in (
      now,
      s.0,
      c.now-now.ensures.told,
      s.1,
      shows_by cause (rows account) now (made_of (all_of account)).entries text is s.0 c.show.result s.2,
    )

pub returns-in-Err-clause-shows : goal.returns-in-Err-clause-shows
returns-in-Err-clause-shows g c = (
  c.now-now.result,
  [],
  c.now-now.ensures.told,
  sym (append_known-nil _),
  refl,
)
