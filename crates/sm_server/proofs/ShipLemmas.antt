-- Runs that ship.
use Rattle.std.proofs.Common.{◌≡◌, ℕ, List, [], refl, sym, ap, ◌∙◌}
use Rattle.std.specs.Io.KnownBytes.{append_known}
use Rattle.sm_base.specs.Faults.{Rose}
use Rattle.sm_account.specs.States.{Base}
use Rattle.sm_principal.specs.declared.people.People.{People as Persons}
use Rattle.sm_rotation.specs.Vouched.{Replies}
use Rattle.sm_session.specs.Told.{nothing_told}
use Rattle.sm_io.proofs.Known.{append_known-nil, prepend_known-nil}
use Rattle.sm_store.specs.Held.{Held}
use Rattle.sm_server.specs.declared.asked.RunTask.TheVariants.{Ship}
use Rattle.sm_server.specs.declared.status.Status.{Status}
use Rattle.sm_server.specs.declared.status.Status.TheVariants.{Done, Words, Damaged, OpenFault, Memory, People, SinkFault, SourceFault, EdgeFault, Cut, BadMessage, Enough}
use Rattle.sm_server.specs.Outside.{Outside, Trace}
use Rattle.sm_server.specs.Ran.{Course, Ended, Runs, Ships}
use Rattle.sm_server.specs.Ships.{ShipsBy}
use Rattle.sm_server.specs.Status.{WasOpened}
use Rattle.sm_server.proofs.RunLemmas.{passed_by, trace_of}

pub ships_opened : (Cause : Type 0) (held : Held) (position : ℕ) (written : List ℕ) (status : Status)
    → ShipsBy Cause held position status written → WasOpened status
ships_opened Cause held position written Done ships = tt
ships_opened Cause held position written Words ships = ships.puts
ships_opened Cause held position written (Damaged at entry) ships = ships.puts
ships_opened Cause held position written OpenFault ships = ships.puts
ships_opened Cause held position written Memory ships = tt
ships_opened Cause held position written (People line) ships = ships.puts
ships_opened Cause held position written (SinkFault counted) ships = tt
ships_opened Cause held position written SourceFault ships = tt
ships_opened Cause held position written EdgeFault ships = tt
ships_opened Cause held position written (Cut bytes) ships = tt
ships_opened Cause held position written (BadMessage place) ships = tt
ships_opened Cause held position written Enough ships = tt

-- the run that shipped so
module _ (replies : Replies) (people : Persons) (base : Base) (held : Held) (position : ℕ) (before after : Outside)
    (written : List ℕ) where
  abbrev course : Course
  course = record {
    task = Ship position;
    replies = replies;
    people = people;
    base = base;
    held = held;
    history = [];
  }

  abbrev trace : Trace
  trace = trace_of before after written nothing_told

  abbrev Cause : Type 0
  Cause = Rose before.counts.sink after.counts.sink

  shipped : (status : Status) → ShipsBy Cause held position status written → Ships course position status [] trace
  shipped status ships = record { unread = refl; unmarked = refl; untold = refl; ships = ships }

  ended_shipped : (status : Status) → ShipsBy Cause held position status written
      → Ended course status [] after.left trace
  ended_shipped Done ships = shipped Done ships
  ended_shipped Words ships = absurd ships.puts
  ended_shipped (Damaged at entry) ships = absurd ships.puts
  ended_shipped OpenFault ships = absurd ships.puts
  ended_shipped Memory ships = shipped Memory ships
  ended_shipped (People line) ships = absurd ships.puts
  ended_shipped (SinkFault counted) ships = shipped (SinkFault counted) ships
  ended_shipped SourceFault ships = shipped SourceFault ships
  ended_shipped EdgeFault ships = shipped EdgeFault ships
  ended_shipped (Cut bytes) ships = shipped (Cut bytes) ships
  ended_shipped (BadMessage place) ships = shipped (BadMessage place) ships
  ended_shipped Enough ships = shipped Enough ships

  pub runs_shipped : (status : Status) → ShipsBy Cause held position status written
      → after.left ≡ before.left → after.taken ≡ append_known before.taken written
      → after.readings ≡ before.readings → after.drawn ≡ before.drawn → Runs course status before after
  runs_shipped status ships left taken readings drawn = record {
    input = [];
    trace = trace;
    reads = sym left ∙ sym (prepend_known-nil after.left);
    passed = passed_by before after written nothing_told taken (readings ∙ sym (append_known-nil before.readings))
        (drawn ∙ sym (append_known-nil before.drawn));
    ended = ended_shipped status ships;
  }
