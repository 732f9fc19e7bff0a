-- What opening a journal leaves of the disk, and why it is refused.
use Rattle.std.specs.Prelude.{⊤, ◌≡◌, ℕ, ◌≤◌, List, Result, Ok, Err}
use Rattle.sm_disk.specs.Sight.{Image, Sight}
use Rattle.sm_disk.specs.Steps.{Keeps}
use Rattle.sm_disk.specs.OneFile.{EachHas, Leaves}
use Rattle.sm_base.specs.Faults.{Rose}
use Rattle.sm_disk.specs.declared.disk.Disk.{Ghosts}
use Rattle.sm_journal.specs.Records.{IsDamaged, SameList}
use Rattle.sm_journal.specs.declared.device.LoadRefused.{LoadRefused}
use Rattle.sm_journal.specs.declared.device.LoadRefused.TheVariants as loads
use Rattle.sm_journal.specs.declared.answers.OpenRefused.{OpenRefused}
use Rattle.sm_journal.specs.declared.answers.OpenRefused.TheVariants.{Damaged, Failed, Memory}

-- the file stays
abbrev pub Equal : List ℕ → List ℕ → Type 0
Equal old new = new ≡ old

-- what a read gives stays, and so does each image
pub record Untouched (file : ℕ) (old now : Sight) : Type 0 where
  pub leaves : Leaves file Equal Equal old now
  pub reads : Keeps old now

-- the count of faults stays where the answer of a load is no failure
abbrev pub LoadStays : {T : Type 0} → Result T LoadRefused → ℕ → ℕ → Type 0
LoadStays (Ok x) old new = new ≡ old
LoadStays (Err loads.Failed) old new = ⊤
LoadStays (Err loads.Memory) old new = new ≡ old

-- a read of the file gives bytes that have P
abbrev pub ReadsAs : ℕ → (List ℕ → Type 0) → Sight → Type 0
ReadsAs file P now = (s : Image) → now.reads s → P (s file)

-- The disk failed, and where each image had P of the file, it went by Q.
abbrev pub FailsFrom : {D : Type 0} → Ghosts D → ℕ → (List ℕ → Type 0) → (List ℕ → List ℕ → Type 0) → D → OpenRefused D
    → Type 0
FailsFrom G file P Q old (Failed now) =
    (EachHas file P (G.sight old).images → Leaves file Q Q (G.sight old) (G.sight now)) × (G.faults old ≤ G.faults now)
    × Rose (G.faults old) (G.faults now)
FailsFrom G file P Q old (Damaged now damage) = ⊥
FailsFrom G file P Q old (Memory now) = ⊥

-- The same for a file of these bytes, of which each image has them: it is damaged, or the disk failed, or memory was
-- wanted.
abbrev pub IsRefusedAs : {D : Type 0} → Ghosts D → ℕ → List ℕ → D → OpenRefused D → Type 0
IsRefusedAs G file bytes old (Damaged now damage) = (now ≡ old) × IsDamaged bytes damage.at damage.entry
IsRefusedAs G file bytes old (Failed now) =
    (EachHas file (λ b. b ≡ bytes) (G.sight old).images → Leaves file SameList SameList (G.sight old) (G.sight now))
    × (G.faults old ≤ G.faults now) × Rose (G.faults old) (G.faults now)
IsRefusedAs G file bytes old (Memory now) = now ≡ old

-- Why a journal isn't opened: the file is damaged, at this place; or the disk failed, and each image has the list that
-- one of before had; or memory was wanted. Each hands the disk back, and the count of faults rose only where the disk
-- failed.
abbrev pub IsRefused : {D : Type 0} → Ghosts D → ℕ → D → OpenRefused D → Type 0
IsRefused G file old (Damaged now damage) =
    Untouched file (G.sight old) (G.sight now)
    × ReadsAs file (λ bytes. IsDamaged bytes damage.at damage.entry) (G.sight old) × (G.faults now ≡ G.faults old)
IsRefused G file old (Failed now) =
    Leaves file SameList SameList (G.sight old) (G.sight now) × (G.faults old ≤ G.faults now)
    × Rose (G.faults old) (G.faults now)
IsRefused G file old (Memory now) = Untouched file (G.sight old) (G.sight now) × (G.faults now ≡ G.faults old)
