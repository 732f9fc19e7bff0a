-- What a run writes that shows a summary of what the disk holds.
use Rattle.std.specs.Prelude.{◌≡◌, ℕ, ◌<◌, List, [], ◌∷◌, take, length}
use Rattle.sm_base.specs.declared.moment.Moment.{Moment}
use Rattle.sm_model.specs.declared.rows.Rows.{Rows}
use Rattle.sm_summary.specs.Summary.{IsSummary}
use Rattle.sm_server.specs.declared.status.Status.{Status}
use Rattle.sm_server.specs.declared.status.Status.TheVariants.{Done, Memory, SinkFault}

-- How much of a summary was written, where the run ended so. A cause holds where the sink failed.
abbrev pub WritesBy : Type 0 → Status → List ℕ → List ℕ → Type 0
WritesBy Cause Done summary written = written ≡ summary
WritesBy Cause (SinkFault counted) summary written =
    (written ≡ take counted summary) × (counted < length summary) × Cause
WritesBy Cause other summary written = ⊥

-- the summary of these rows at the moment, and of so many entries, as far as it was written
pub record Summarizes (Cause : Type 0) (rows : Rows) (now : Moment) (entries : ℕ) (status : Status) (written : List ℕ)
    : Type 0 where
  pub summary : List ℕ
  pub is : IsSummary rows now entries summary
  pub writes : WritesBy Cause status summary written

-- where memory ran out nothing was written
abbrev pub Shows : Type 0 → Rows → Moment → ℕ → Status → List ℕ → Type 0
Shows Cause rows now entries Memory written = written ≡ []
Shows Cause rows now entries status written = Summarizes Cause rows now entries status written

-- the summary at one reading of the clock
pub record ChecksAt (Cause : Type 0) (rows : Rows) (entries : ℕ) (status : Status) (readings written : List ℕ) : Type 0
  where
    pub now : Moment
    pub reading : readings ≡ now.0 ∷ []
    pub shows : Shows Cause rows now entries status written

-- where memory ran out the clock may not have been read
abbrev pub ChecksBy : Type 0 → Rows → ℕ → Status → List ℕ → List ℕ → Type 0
ChecksBy Cause rows entries Memory readings written = written ≡ []
ChecksBy Cause rows entries status readings written = ChecksAt Cause rows entries status readings written
