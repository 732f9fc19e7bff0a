-- A disk over a folder, by its fields.
use Rattle.std.specs.Prelude.{◌≡◌, ℕ, Bool, true, false, IsTrue, ◌==◌, if◌then◌else◌, None, Result, is_ok, IsErr}
use Rattle.sm_disk.specs.Faults.{faults_after}
use Rattle.secretsd.specs.declared.folder_disk.Kept.{Kept}
use Rattle.secretsd.specs.declared.folder_disk.FolderDisk.{FolderDisk}

-- the file of this number, as it is kept
abbrev pub kept_of : FolderDisk → ℕ → Kept
kept_of disk file = if file == 0 then disk.journal_0 else (if file == 1 then disk.journal_1 else disk.root)

-- a sync of the file failed
abbrev pub is_lost : FolderDisk → ℕ → Bool
is_lost disk file = (kept_of disk file).is_lost

-- the disk without a fault so far, and with each file as it was opened, of whose name nothing was seen yet
pub record IsFresh (disk : FolderDisk) : Type 0 where
  pub faults : disk.faults ≡ 0
  pub journal_0 : disk.journal_0.is_lost ≡ false
  pub journal_1 : disk.journal_1.is_lost ≡ false
  pub root : disk.root.is_lost ≡ false
  pub named : disk.named ≡ None

abbrev lose : Kept → Kept
lose kept = record kept { is_lost = true }

-- the disk once a sync of this file failed
abbrev pub lost : FolderDisk → ℕ → FolderDisk
lost disk file =
    if file == 0 then record disk { journal_0 = lose disk.journal_0 }
    else (if file == 1 then record disk { journal_1 = lose disk.journal_1 } else record disk { root = lose disk.root })

-- A call that isn't a sync: each error and no other answer is counted, and a file that was lost gives an error.
pub record Counted {T E : Type 0} (file : ℕ) (old new : FolderDisk) (result : Result T E) : Type 0 where
  pub after : new ≡ record old { faults = faults_after result old.faults }
  pub fails : IsTrue (is_lost old file) → IsErr result

-- The same for a sync: after an error the file is lost, and else what was seen of a name may be another.
pub record CountedSync {T E : Type 0} (file : ℕ) (old new : FolderDisk) (result : Result T E) : Type 0 where
  pub after : new
      ≡ record (if is_ok result then record old { named = new.named } else lost old file) {
        faults = faults_after result old.faults;
      }
  pub fails : IsTrue (is_lost old file) → IsErr result
