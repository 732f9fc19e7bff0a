-- Files of records without a journal over them: one that is being made, and one at rest.
use Rattle.std.specs.Prelude.{ℕ, List}
use Rattle.sm_disk.specs.Sight.{Sight}
use Rattle.sm_disk.specs.OneFile.{EachHas, Anyhow, Leaves}
use Rattle.sm_journal.specs.Records.{front, Whole, AreWithin, AtRest}
use Rattle.sm_journal.specs.declared.format.Format.{Format}
use Rattle.sm_journal.specs.Openings.{ReadsAs}

-- The file is being made since old, and not synced yet: a read gives just these records, of what a crash leaves of it
-- nothing is said, and the other files stay.
pub record IsMaking (file : ℕ) (format : Format) (bodies : List (List ℕ)) (old now : Sight) : Type 0 where
  pub reads : ReadsAs file (Whole format bodies) now
  pub leaves : Leaves file Anyhow Anyhow old now

-- Each image has these records in the file, a closed gate behind them and nothing behind that: what a journal leaves
-- that is closed, and what one can be opened over.
pub record IsIdle (file : ℕ) (format : Format) (bodies : List (List ℕ)) (now : Sight) : Type 0 where
  pub within : AreWithin bodies
  pub rests : EachHas file (AtRest (front format bodies)) now.images
