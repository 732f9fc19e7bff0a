-- How what is outside of a worker shows itself.
use Rattle.std.specs.Prelude.{ℕ, List, Option}
use Rattle.sm_io.specs.declared.clock.Clock.{Ghosts as ClockGhosts}
use Rattle.sm_io.specs.declared.edge.Edge.{Ghosts as EdgeGhosts}
use Rattle.sm_io.specs.declared.sink.Sink.{Ghosts as SinkGhosts}
use Rattle.sm_io.specs.declared.source.Source.{Ghosts as SourceGhosts}
use Rattle.sm_io.specs.declared.random.Words.{Ghosts as WordsGhosts}
use Rattle.sm_rotation.specs.Vouched.{Replies}
use Rattle.sm_rotator.specs.declared.rotator.Rotator.{Ghosts as RotatorGhosts}
use Rattle.sm_session.specs.Endings.{Sides}
use Rattle.sm_session.specs.Views.{sides_by}
use Rattle.sm_workers.specs.declared.worker.ConnEnd.{ConnEnd}
use Rattle.sm_workers.specs.ConnectionWorkers.{EdgeState}

-- what an edge tells, and how often it has failed
abbrev pub edge_by : {E K : Type 0} → EdgeGhosts E ConnEnd K → E → EdgeState K
edge_by ghosts edge = record {
  left = ghosts.left edge;
  handed = ghosts.handed edge;
  back = ghosts.back edge;
  faults = ghosts.edge_faults edge;
}

-- All that is outside of a worker: an edge and its connections, a clock, a random source and a rotator.
pub record Views (E K C W R : Type 0) : Type 0 where
  pub edge : E → EdgeState K
  pub sides : K → Sides
  pub readings : C → Option (List ℕ)
  pub drawn : W → Option (List ℕ)
  pub random : W → ℕ
  pub replies : Replies
  pub rotator : R → ℕ

module _ {E K C W R : Type 0} where
  abbrev pub views_by : EdgeGhosts E ConnEnd K → SourceGhosts K → SinkGhosts K → ClockGhosts C → WordsGhosts W
      → RotatorGhosts R → Views E K C W R
  views_by edges sources sinks clocks words rotators = record {
    edge = edge_by edges;
    sides = sides_by sources sinks;
    readings = clocks.readings;
    drawn = words.drawn;
    random = words.faults;
    replies = rotators.replies;
    rotator = rotators.faults;
  }
