use Rattle.std.proofs.Common.{◌≡◌, ◌≤◌}
use Rattle.sm_account.specs.Accounts.{base}
use Rattle.sm_lock.specs.Handles.{built_with, number, seen, IsIn}
use Rattle.sm_session.specs.Views.{around_by}
use Rattle.sm_session.proofs.SessionLemmas.{SoFar}
use Rattle.sm_session.proofs.serving.answer_stream.Given as goal

-- as many messages as the number says have been answered, under the seat that the pass has had all along
abbrev pub invariant-loop-number : goal.invariant-loop-number
invariant-loop-number g l = record {
  gate : IsIn l.gate l.pass;
  numbered : number l.pass ≡ number l.initial.pass;
  source_later : g.K.Source.source_faults l.initial.conn ≤ g.K.Source.source_faults l.conn;
  sink_later : g.K.Sink.sink_faults l.initial.conn ≤ g.K.Sink.sink_faults l.conn;
  random_later : g.W.Words.faults l.initial.words ≤ g.W.Words.faults l.words;
  so_far : SoFar l.people (record { base = base (built_with l.gate); seat = number l.initial.pass })
      (around_by g.K.Source g.K.Sink g.C.Clock g.W.Words (seen l.initial.pass) l.initial.conn l.initial.clock
      l.initial.words)
      l.number
      (around_by g.K.Source g.K.Sink g.C.Clock g.W.Words (seen l.pass) l.conn l.clock l.words)
      l.reader l.count l.items.items;
}
