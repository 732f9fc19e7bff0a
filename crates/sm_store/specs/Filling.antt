-- A file that is filled with the bodies of rows.
use Rattle.std.specs.Prelude.{◌≡◌, ℕ, ◌^◌, ◌+◌, ◌≤◌, false, List, ◌++◌, Result, Ok, Err}
use Rattle.sm_base.specs.Faults.{Rose}
use Rattle.sm_disk.specs.OneFile.{Anyhow, Leaves}
use Rattle.sm_disk.specs.declared.disk.Disk.{Ghosts}
use Rattle.sm_journal.specs.Freshes.{disk_of, file_of, length_of, has_failed, Makes, SamePlace}
use Rattle.sm_journal.specs.Records.{size, AreWithin}
use Rattle.sm_journal.specs.declared.fresh.Fresh.{Fresh}
use Rattle.sm_store.specs.declared.filling.FillRefused.{FillRefused}
use Rattle.sm_store.specs.declared.filling.FillRefused.TheVariants.{Failed, Memory}

-- these bodies may be added
pub record MayBeAdded {D : Type 0} {G : Ghosts D} (bodies : List (List ℕ)) (fresh : Fresh D G) : Type 0 where
  pub sure : has_failed fresh ≡ false
  pub within : AreWithin bodies
  pub room : length_of fresh + size bodies ≤ 2 ^ 63

-- these bodies were added, and the count of faults stays
pub record HasAdded {D : Type 0} {G : Ghosts D} (bodies : List (List ℕ)) (old new : Fresh D G) : Type 0 where
  pub sure : has_failed new ≡ false
  pub length : length_of new ≡ length_of old + size bodies
  pub makes : (before : List (List ℕ)) → Makes old before → Makes new (before ++ bodies)
  pub no_fault : G.faults (disk_of new) ≡ G.faults (disk_of old)

-- a crash at any moment leaves the other files, and the count of faults never falls
pub record GoesOn {D : Type 0} {G : Ghosts D} (old new : Fresh D G) : Type 0 where
  pub same : SamePlace old new
  pub run : Leaves (file_of old) Anyhow Anyhow (G.sight (disk_of old)) (G.sight (disk_of new))
  pub later : G.faults (disk_of old) ≤ G.faults (disk_of new)

-- these bodies were added; or the disk failed; or memory was wanted, and the count of faults stays
abbrev pub Fills : {D : Type 0} {G : Ghosts D} → List (List ℕ) → Fresh D G → Fresh D G → Result (Unit {0}) FillRefused
    → Type 0
Fills bodies old new (Ok x) = HasAdded bodies old new
Fills {D} {G} bodies old new (Err Failed) = Rose (G.faults (disk_of old)) (G.faults (disk_of new))
Fills {D} {G} bodies old new (Err Memory) = G.faults (disk_of new) ≡ G.faults (disk_of old)
