-- A file that is being made, of which nothing is sure before it is sealed.
use Rattle.std.specs.Prelude.{◌≡◌, ℕ, ◌+◌, Bool, false, List}
use Rattle.sm_disk.specs.declared.disk.Disk.{Ghosts}
use Rattle.sm_journal.specs.Records.{size, AreWithin, Whole}
use Rattle.sm_journal.specs.Openings.{ReadsAs}
use Rattle.sm_journal.specs.declared.format.Format.TheVariants.{Second}
use Rattle.sm_journal.specs.declared.fresh.Fresh.{Fresh}

module _ {D : Type 0} {G : Ghosts D} where
  abbrev pub disk_of : Fresh D G → D
  disk_of fresh = fresh.disk

  abbrev pub file_of : Fresh D G → ℕ
  file_of fresh = fresh.file

  abbrev pub limit_of : Fresh D G → ℕ
  limit_of fresh = fresh.limit

  -- a write failed, and what stands in the file is not known
  abbrev pub has_failed : Fresh D G → Bool
  has_failed fresh = fresh.failed

  -- the file's length
  abbrev pub length_of : Fresh D G → ℕ
  length_of fresh = fresh.gate + 1

  -- a read gives just these records, in the second format
  pub record Makes (fresh : Fresh D G) (bodies : List (List ℕ)) : Type 0 where
    pub length : length_of fresh ≡ 9 + size bodies
    pub within : AreWithin bodies
    pub reads : ReadsAs fresh.file (Whole Second bodies) (G.sight fresh.disk)

-- the same file of a disk, under the same limit
pub record SamePlace {D : Type 0} {G : Ghosts D} (old new : Fresh D G) : Type 0 where
  pub file : new.file ≡ old.file
  pub limit : new.limit ≡ old.limit

-- a file of which this is being made, under this limit, and no write failed so far
pub record IsBegun {D : Type 0} {G : Ghosts D} (file limit : ℕ) (bodies : List (List ℕ)) (fresh : Fresh D G) : Type 0
  where
    pub makes : Makes fresh bodies
    pub in_file : file_of fresh ≡ file
    pub under : limit_of fresh ≡ limit
    pub sure : has_failed fresh ≡ false
