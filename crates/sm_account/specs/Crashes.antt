-- What a crash leaves of an account's entries.
use Rattle.std.specs.Prelude.{◌⊎◌, Option, Some}
use Rattle.sm_disk.specs.AllFiles.{LeavesBy}
use Rattle.sm_disk.specs.Sight.{Image, Sight}
use Rattle.sm_disk.specs.declared.disk.Disk.{Ghosts}
use Rattle.sm_model.specs.declared.entry.Entry.{Entry}
use Rattle.sm_recovery.specs.Lawful.{IsLawful, MayFollowIf}
use Rattle.sm_store.specs.Held.{Held, RecoveredEither}

-- a crash at any moment since old leaves each image with this, or with it and one entry more, if there is one
abbrev pub AllRecover : {D : Type 0} → Ghosts D → Held → Option Entry → D → D → Type 0
AllRecover G h failed old new =
    LeavesBy (λ _. RecoveredEither h failed) (λ _. RecoveredEither h failed) (G.sight old) (G.sight new)

-- A crash at any moment since old leaves what is held, or it and the entry whose write failed earlier. Where an entry
-- is written, up to some disk in between the same holds, and from that on a crash leaves what is held, or it and that
-- entry.
abbrev pub Throughout : {D : Type 0} → Ghosts D → Held → Option Entry → Entry → D → D → Type 0
Throughout {D} G h failed own old new = AllRecover G h failed old new
    ⊎ ((mid : D) × AllRecover G h failed old mid × AllRecover G h (Some own) mid new)

-- What stands on a disk: each image recovers to this, or to it and the entry, if there is one, whose write failed last;
-- it is lawful, and that entry may be the next one.
pub record HoldsOnDisk (h : Held) (failed : Option Entry) (now : Sight) : Type 0 where
  pub images : (c : Image) → now.images c → RecoveredEither h failed c
  pub lawful : ∥ IsLawful h ∥₁
  pub next : ∥ MayFollowIf h failed ∥₁
