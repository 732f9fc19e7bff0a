-- A journal, and what stands on its disk.
use Rattle.std.specs.Prelude.{⊤, ◌≡◌, ℕ, ◌+◌, ◌<◌, ◌≤◌, Bool, true, false, List, [], ◌∷◌, ◌++◌, length, Option, None, Some}
use Rattle.sm_disk.specs.declared.disk.Disk.{Ghosts}
use Rattle.sm_disk.specs.OneFile.{EachHas, Leaves}
use Rattle.sm_journal.specs.Records.{body_limit, record_size, size, Whole, AreWithin, IsWithin, RecoversEither}
use Rattle.sm_journal.specs.Tails.{is_unsure_tail, Ends}
use Rattle.sm_journal.specs.declared.answers.Appended.{Appended}
use Rattle.sm_journal.specs.declared.answers.Appended.TheVariants.{Ok, Failed, Full, TooLong}
use Rattle.sm_journal.specs.declared.format.Format.{Format}
use Rattle.sm_journal.specs.declared.journal.Journal.{Journal}

module _ {D : Type 0} {G : Ghosts D} where
  abbrev pub disk_of : Journal D G → D
  disk_of journal = journal.disk

  abbrev pub file_of : Journal D G → ℕ
  file_of journal = journal.file

  -- the format of its file
  abbrev pub format_of : Journal D G → Format
  format_of journal = journal.format

  abbrev pub limit_of : Journal D G → ℕ
  limit_of journal = journal.limit

  -- the last write may have failed in part
  abbrev pub is_unsure : Journal D G → Bool
  is_unsure journal = is_unsure_tail journal.tail

  -- the file's length up to the gate behind its records, with that gate
  abbrev pub length_of : Journal D G → ℕ
  length_of journal = journal.gate + 1

  -- The journal has these bodies, and where a body is given, its write may have failed in part: a crash leaves the
  -- list, or the list with this body.
  pub record Stands (journal : Journal D G) (bodies : List (List ℕ)) (failed : Option (List ℕ)) : Type 0 where
    pub length : length_of journal ≡ 9 + size bodies
    pub within : AreWithin bodies
    pub last : IsWithin failed
    pub recovers : EachHas journal.file (RecoversEither journal.format bodies failed) (G.sight journal.disk).images
    pub ends : EachHas journal.file (Ends journal.format journal.tail bodies failed) (G.sight journal.disk).images

-- each image of its file is these records, the closed gate behind them and nothing else
abbrev pub HoldsJust : {D : Type 0} {G : Ghosts D} → Journal D G → List (List ℕ) → Type 0
HoldsJust {D} {G} journal bodies = EachHas journal.file (Whole journal.format bodies) (G.sight journal.disk).images

-- the file's length with one body more
abbrev pub length_with : {D : Type 0} {G : Ghosts D} → Journal D G → List ℕ → ℕ
length_with journal body = length_of journal + record_size body

-- the body is within both limits
abbrev pub FitsBothLimits : {D : Type 0} {G : Ghosts D} → Journal D G → List ℕ → Type 0
FitsBothLimits journal body = (length body ≤ body_limit) × (length_with journal body ≤ limit_of journal)

-- the same file of a disk, in the same format, under the same limit
pub record SamePlace {D : Type 0} {G : Ghosts D} (old new : Journal D G) : Type 0 where
  pub file : new.file ≡ old.file
  pub format : new.format ≡ old.format
  pub limit : new.limit ≡ old.limit

-- What each answer of `append` says: too long and full exactly where they are; Ok with the body at the end of the list
-- and a byte 0 as the gate behind it; and where the disk failed the list as before and the body unsure.
abbrev pub AppendsAs : {D : Type 0} {G : Ghosts D} → Journal D G → List ℕ → Journal D G → Appended → Type 0
AppendsAs old body new (TooLong n) = (body_limit < length body) × (n ≡ length body) × (new ≡ old)
AppendsAs old body new (Full n) = (length body ≤ body_limit) × (limit_of old < length_with old body)
    × (n ≡ length_with old body) × (new ≡ old)
AppendsAs old body new Ok = FitsBothLimits old body × (is_unsure new ≡ false) × (length_of new ≡ length_with old body)
    × ((bodies : List (List ℕ)) → Stands old bodies None → Stands new (bodies ++ body ∷ []) None
    × HoldsJust new (bodies ++ body ∷ []))
AppendsAs old body new Failed = FitsBothLimits old body × (is_unsure new ≡ true) × (length_of new ≡ length_of old)
    × ((bodies : List (List ℕ)) → Stands old bodies None → Stands new bodies (Some body))

-- the count of faults stays where the answer is no failure
abbrev pub AppendStays : Appended → ℕ → ℕ → Type 0
AppendStays (TooLong n) old new = new ≡ old
AppendStays (Full n) old new = new ≡ old
AppendStays Ok old new = new ≡ old
AppendStays Failed old new = ⊤

-- a crash at any moment since old leaves the list, or the list with this body if there is one, and leaves the other
-- files
abbrev pub LeavesEither : {D : Type 0} {G : Ghosts D} → List (List ℕ) → Option (List ℕ) → Journal D G → Journal D G
    → Type 0
LeavesEither {D} {G} bodies failed old new = Leaves old.file (λ _. RecoversEither old.format bodies failed)
    (λ _. RecoversEither old.format bodies failed) (G.sight old.disk) (G.sight new.disk)

-- a journal that was opened in this file of a disk, under this limit, with these bodies
pub record IsOpened {D : Type 0} {G : Ghosts D} (file limit : ℕ) (bodies : List (List ℕ))
    (journal : Journal D G) : Type 0 where
  pub stands : Stands journal bodies None
  pub sure : is_unsure journal ≡ false
  pub in_file : file_of journal ≡ file
  pub under : limit_of journal ≡ limit
