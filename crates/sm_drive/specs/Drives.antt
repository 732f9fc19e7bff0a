-- Every run of calls with restarts.
use Rattle.std.specs.Prelude.{◌≡◌, ℕ, List, take}
use Rattle.sm_core.specs.Histories.{InTime, replay}
use Rattle.sm_core.specs.Vouching.{EachAllowed, Vouched}
use Rattle.sm_disk.specs.Sight.{Sight}
use Rattle.sm_disk.specs.declared.disk.Disk.{Ghosts as DiskGhosts}
use Rattle.sm_model.specs.declared.entry.Entry.{Entry}
use Rattle.sm_recovery.specs.Lawful.{made_of}
use Rattle.sm_record.specs.declared.base.Base.{Base}
use Rattle.sm_recovery.specs.Following.{after_all, MayCome}
use Rattle.sm_rotation.specs.Vouched.{Replies}
use Rattle.sm_rotator.specs.declared.rotator.Rotator.{Ghosts as RotatorGhosts}
use Rattle.sm_base_check.specs.Bases.{IsSound}
use Rattle.sm_store.specs.Held.{Held}
use Rattle.sm_drive.specs.Openings.{Begins, beginning}
use Rattle.sm_drive.specs.Runs.{Runs}
use Rattle.sm_drive.specs.Stands.{Stand, all_at, stand_of}
use Rattle.sm_drive.specs.declared.call.Call.{Call}
use Rattle.sm_drive.specs.declared.driven.Driven.{Driven}
use Rattle.sm_drive.specs.declared.outcome.Outcome.{Outcome}

-- The entries of a run may follow the state at its opening, one after the other: each is legal where it stands, a clock
-- can give its moment, and an answer that accepts a test is one that the rotator may give. What the account has makes
-- what that state and they make.
pub record Follows (replies : Replies) (start : Base) (last : Stand) : Type 0 where
  pub sound : IsSound start
  pub come : MayCome start last.entries
  pub timely : InTime last.entries
  pub allowed : EachAllowed replies start.rows last.entries
  pub made : made_of (all_at last) ≡ after_all start last.entries

-- What these entries make is sound: each label is held by one version at most, a secret whose value was once current
-- has exactly one version with AWSCURRENT, and so on. Where each attempt that a secret remembered at the opening was
-- one at which its rotator may have accepted the test, so is each that a secret remembers then.
pub record StandsAt (replies : Replies) (start : Base) (front : List Entry) : Type 0 where
  pub sound : IsSound (after_all start front)
  pub vouched : Vouched replies start.rows → Vouched replies (replay start.rows front)

-- What came of each call over a disk, from what the opening took to the end, what holds of all entries then, and what
-- holds after each number of them.
pub record Went (replies : Replies) (disk : Sight) (calls : List Call) (outcomes : List Outcome) (last : Stand)
    : Type 0 where
  pub taken : Held
  pub begins : Begins disk taken
  pub runs : Runs replies calls outcomes (beginning taken) last
  pub follows : ∥ Follows replies (made_of taken) last ∥₁
  pub each : (count : ℕ) → ∥ StandsAt replies (made_of taken) (take count last.entries) ∥₁

-- a run over a disk went so, with some list of entries
pub record Drives {D R : Type 0} (G : DiskGhosts D) (V : RotatorGhosts R) (disk : Sight) (calls : List Call)
    (driven : Driven D R G V) : Type 0 where
  pub entries : List Entry
  pub went : Went V.replies disk calls driven.outcomes (stand_of driven.account driven.verdicts entries)
