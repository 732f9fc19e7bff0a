-- Runs that show a summary.
use Rattle.std.proofs.Common.{◌≡◌, ℕ, List, [], ◌∷◌, refl, sym, ◌∙◌}
use Rattle.std.specs.Io.KnownBytes.{append_known}
use Rattle.sm_base.specs.Faults.{Rose}
use Rattle.sm_base.specs.declared.moment.Moment.{Moment}
use Rattle.sm_model.specs.declared.rows.Rows.{Rows}
use Rattle.sm_account.specs.States.{Base}
use Rattle.sm_recovery.specs.Lawful.{made_of}
use Rattle.sm_store.specs.Held.{Held}
use Rattle.sm_principal.specs.declared.people.People.{People as Persons}
use Rattle.sm_rotation.specs.Vouched.{Replies}
use Rattle.sm_session.specs.Told.{Told}
use Rattle.sm_io.proofs.Known.{append_known-nil, prepend_known-nil}
use Rattle.sm_summary.specs.Summary.{IsSummary}
use Rattle.sm_server.specs.declared.asked.RunTask.TheVariants.{Summarize}
use Rattle.sm_server.specs.declared.status.Status.{Status}
use Rattle.sm_server.specs.declared.status.Status.TheVariants.{Done, Words, Damaged, OpenFault, Memory, People, SinkFault, SourceFault, EdgeFault, Cut, BadMessage, Enough}
use Rattle.sm_server.specs.Checks.{ChecksAt, ChecksBy, Shows, WritesBy}
use Rattle.sm_server.specs.Outside.{Outside, Trace}
use Rattle.sm_server.specs.Ran.{Checks, Course, Ended, Runs}
use Rattle.sm_server.specs.Status.{WasOpened}
use Rattle.sm_server.proofs.RunLemmas.{passed_by, trace_of}

-- a text that was written, or a part of it
module _ (Cause : Type 0) (rows : Rows) (now : Moment) (entries : ℕ) (summary : List ℕ)
    (is : IsSummary rows now entries summary) (written : List ℕ) where
  pub shows_by : (status : Status) → WritesBy Cause status summary written → Shows Cause rows now entries status written
  shows_by Done writes = record { summary = summary; is = is; writes = writes }
  shows_by Words writes = absurd writes
  shows_by (Damaged at entry) writes = absurd writes
  shows_by OpenFault writes = absurd writes
  shows_by Memory writes = absurd writes
  shows_by (People line) writes = absurd writes
  shows_by (SinkFault counted) writes = record { summary = summary; is = is; writes = writes }
  shows_by SourceFault writes = absurd writes
  shows_by EdgeFault writes = absurd writes
  shows_by (Cut bytes) writes = absurd writes
  shows_by (BadMessage place) writes = absurd writes
  shows_by Enough writes = absurd writes

module _ (Cause : Type 0) (rows : Rows) (now : Moment) (entries : ℕ) (written : List ℕ) where
  abbrev at : (status : Status) → Shows Cause rows now entries status written
      → ChecksAt Cause rows entries status (now.0 ∷ []) written
  at status shows = record { now = now; reading = refl; shows = shows }

  checks_by : (status : Status) → Shows Cause rows now entries status written
      → ChecksBy Cause rows entries status (now.0 ∷ []) written
  checks_by Done shows = at Done shows
  checks_by Words shows = at Words shows
  checks_by (Damaged place entry) shows = at (Damaged place entry) shows
  checks_by OpenFault shows = at OpenFault shows
  checks_by Memory shows = shows
  checks_by (People line) shows = at (People line) shows
  checks_by (SinkFault counted) shows = at (SinkFault counted) shows
  checks_by SourceFault shows = at SourceFault shows
  checks_by EdgeFault shows = at EdgeFault shows
  checks_by (Cut bytes) shows = at (Cut bytes) shows
  checks_by (BadMessage place) shows = at (BadMessage place) shows
  checks_by Enough shows = at Enough shows

  pub shows_opened : (status : Status) → Shows Cause rows now entries status written → WasOpened status
  shows_opened Done shows = tt
  shows_opened Words shows = shows.writes
  shows_opened (Damaged place entry) shows = shows.writes
  shows_opened OpenFault shows = shows.writes
  shows_opened Memory shows = tt
  shows_opened (People line) shows = shows.writes
  shows_opened (SinkFault counted) shows = tt
  shows_opened SourceFault shows = tt
  shows_opened EdgeFault shows = tt
  shows_opened (Cut bytes) shows = tt
  shows_opened (BadMessage place) shows = tt
  shows_opened Enough shows = tt

-- the run that showed it
module _ (replies : Replies) (people : Persons) (base : Base) (held : Held) (before after : Outside) (now : Moment)
    (written : List ℕ) where
  abbrev course : Course
  course = record {
    task = Summarize;
    replies = replies;
    people = people;
    base = base;
    held = held;
    history = [];
  }

  abbrev told : Told
  told = record { readings = now.0 ∷ []; drawn = [] }

  abbrev trace : Trace
  trace = trace_of before after written told

  abbrev Cause : Type 0
  Cause = Rose before.counts.sink after.counts.sink

  abbrev entries : ℕ
  entries = (made_of held).entries

  checked : (status : Status) → Shows Cause base.rows now entries status written → Checks course status [] trace
  checked status shows = record {
    unread = refl;
    unmarked = refl;
    undrawn = refl;
    checks = checks_by Cause base.rows now entries written status shows;
  }

  ended_checked : (status : Status) → Shows Cause base.rows now entries status written
      → Ended course status [] after.left trace
  ended_checked Done shows = checked Done shows
  ended_checked Words shows = absurd shows.writes
  ended_checked (Damaged at entry) shows = absurd shows.writes
  ended_checked OpenFault shows = absurd shows.writes
  ended_checked Memory shows = checked Memory shows
  ended_checked (People line) shows = absurd shows.writes
  ended_checked (SinkFault counted) shows = checked (SinkFault counted) shows
  ended_checked SourceFault shows = checked SourceFault shows
  ended_checked EdgeFault shows = checked EdgeFault shows
  ended_checked (Cut bytes) shows = checked (Cut bytes) shows
  ended_checked (BadMessage place) shows = checked (BadMessage place) shows
  ended_checked Enough shows = checked Enough shows

  pub runs_checked : (status : Status) → Shows Cause base.rows now entries status written
      → after.left ≡ before.left → after.taken ≡ append_known before.taken written
      → after.readings ≡ append_known before.readings (now.0 ∷ []) → after.drawn ≡ before.drawn
      → Runs course status before after
  runs_checked status shows left taken readings drawn = record {
    input = [];
    trace = trace;
    reads = sym left ∙ sym (prepend_known-nil after.left);
    passed = passed_by before after written told taken readings (drawn ∙ sym (append_known-nil before.drawn));
    ended = ended_checked status shows;
  }
