-- What is shipped of an account.
use Rattle.std.specs.Prelude.{⊤, ◌∷◌, [], List}
use Rattle.sm_account.specs.declared.account.Account.{Account}
use Rattle.sm_account.specs.Accounts.{all_of, taken}
use Rattle.sm_disk.specs.declared.disk.Disk.{Ghosts as DiskGhosts}
use Rattle.sm_replication.specs.declared.frame.Frame.{Frame}
use Rattle.sm_replication.specs.declared.frame.Frame.TheVariants as frame
use Rattle.sm_replication.specs.Spelled.{HasParts}
use Rattle.sm_model.specs.declared.entry.Entry.{Entry}
use Rattle.sm_recovery.specs.Lawful.{base_under}
use Rattle.sm_record.specs.declared.base.Base.{Base}
use Rattle.sm_rotator.specs.declared.rotator.Rotator.{Ghosts as RotatorGhosts}
use Rattle.sm_base_check.specs.Bases.{IsSound}

module _ {D R : Type 0} {G : DiskGhosts D} {V : RotatorGhosts R} where
  -- what an account's entries are counted from, and those that it has
  abbrev pub base_of : Account D R G V → Base
  base_of account = base_under (taken account).base

  abbrev pub entries_of : Account D R G V → List Entry
  entries_of account = (all_of account).entries

-- the rows of a frame are sound
abbrev pub HasSound : Frame → Type 0
HasSound (frame.Entries at entries) = ⊤
HasSound (frame.Rows at base) = IsSound base

-- a frame that may be shipped: it has a spelling in the second format, and its rows are sound
pub record IsShippable (f : Frame) : Type 0 where
  pub parts : HasParts f
  pub sound : HasSound f

abbrev pub AreShippable : List Frame → Type 0
AreShippable [] = ⊤
AreShippable (frame ∷ frames) = IsShippable frame × AreShippable frames
