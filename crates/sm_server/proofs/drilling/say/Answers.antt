use Rattle.std.proofs.Common.{◌≡◌, ℕ, List, [], refl, sym, subst, ◌∙◌, option_map}
use Rattle.sm_base.specs.Faults.{Rose}
use Rattle.sm_account.specs.Accounts.{base, history, taken}
use Rattle.sm_recovery.specs.Lawful.{made_of}
use Rattle.sm_drill.specs.Lines.{lines, shown_by}
use Rattle.sm_session.specs.Replies.{reply_of}
use Rattle.sm_io.proofs.Known.{append_known-nil}
use Rattle.sm_server.specs.Checks.{WritesBy}
use Rattle.sm_server.specs.Drills.{totals_after}
use Rattle.sm_server.proofs.DrillLemmas.{says_by}
use Rattle.sm_server.proofs.drilling.say.Goals as goal

pub returns-in-Ok-clause-says : goal.returns-in-Ok-clause-says
returns-in-Ok-clause-says g c =
    let account = c.args.account.now in
    let drilled = c.args.drilled.now in
    let now = c.now-now.result in
    let s = c.show.ensures.shows in
    let cause = Rose (g.K.Sink.sink_faults c.args.sink.now) (g.K.Sink.sink_faults c.show.new.sink) in
    let made : List ℕ = lines drilled.refused
    (totals_after (base account) (made_of (taken account)).entries (history account) now)
    (shown_by (option_map reply_of drilled.last)) in
    let text : c.as_bytes.result.now ≡ made =
    c.as_bytes.ensures.value ∙ c.as_str.ensures.value ∙ c.in-Ok.ensures in (
      now,
      s.0,
      c.now-now.ensures.told,
      s.1,
      says_by cause made s.0 c.show.result
          (subst (λ (t : List ℕ). WritesBy cause c.show.result t s.0) text s.2),
    )

pub returns-in-Err-clause-says : goal.returns-in-Err-clause-says
returns-in-Err-clause-says g c = (
  c.now-now.result,
  [],
  c.now-now.ensures.told,
  sym (append_known-nil _),
  refl,
)
