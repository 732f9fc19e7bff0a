-- What the opening at the start of a run takes.
use Rattle.std.specs.Prelude.{◌≡◌, ℕ, List, [], Some, slice_get}
use Rattle.sm_base.specs.declared.limits.TheConstants.{JOURNAL_LIMIT}
use Rattle.sm_disk.specs.Sight.{Image, Sight}
use Rattle.sm_journal.specs.declared.format.Format.{Format}
use Rattle.sm_recovery.specs.Openings.{IsFound}
use Rattle.sm_recovery.specs.Replacing.{taken_of}
use Rattle.sm_store.specs.Held.{Held}
use Rattle.sm_drive.specs.Stands.{Stand, opened}
use Rattle.sm_drive.specs.declared.call.Call.{Call}
use Rattle.sm_drive.specs.declared.call.Call.TheVariants.{Restart}

-- what a read of the disk gives, or the state that this makes as a base
pub record Begins (now : Sight) (taken : Held) : Type 0 where
  pub format : Format
  pub held : Held
  pub found : IsFound format held now
  pub takes : taken ≡ taken_of format JOURNAL_LIMIT held

-- before the first call
abbrev pub beginning : Held → Stand
beginning taken = opened taken [] []

-- the disk tells what a read gives
abbrev pub Tells : Sight → Type 0
Tells now = (s : Image) × now.reads s

-- where one of the calls is a Restart, the disk tells what a read gives
abbrev pub TellsAtRestarts : List Call → Sight → Type 0
TellsAtRestarts calls now = (place : ℕ) → slice_get calls place ≡ Some Restart → Tells now
