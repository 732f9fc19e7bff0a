-- The runs of device calls, up to each exit: what a crash leaves, and what a read gives.
use Rattle.std.proofs.Common.{◌≡◌, ℕ, ◌+◌, List, [], ◌∷◌, ◌++◌, length, sym, subst, arith}
use Rattle.sm_disk.specs.Sight.{Image, Sight}
use Rattle.sm_disk.specs.Steps.{Holds, Torn, IsCut, CutOrNot, OnFile, Same, ReadsFollow, GoesOnTelling, Goes, Keeps, Synced}
use Rattle.sm_disk.specs.OneFile.{EachHas, Anyhow, Leaves}
use Rattle.sm_disk.proofs.Runs.{Run, begun, stepped, stayed, synced}
use Rattle.sm_journal.specs.Openings.{ReadsAs}
use Rattle.sm_journal.specs.Records.{Closed, AtRest, Loose, Gated}
use Rattle.sm_journal.proofs.Tears.{torn_gate, holds_gate, torn_behind, holds_end, held_length, rest_loose, cut_loose, cut_closed}

-- a disk before a run of calls on one of its files, each image of which has this of the file
pub record Before (file : ℕ) (Q : List ℕ → Type 0) (old : Sight) : Type 0 where
  pub only_now : (c : Image) → old.left_since old.moment c → old.images c
  pub reads_image : (s : Image) → old.reads s → old.images s
  pub images : EachHas file Q old.images

pub begins : (file : ℕ) (Q : List ℕ → Type 0) (old : Sight) → Before file Q old → Run file (λ _. Q) (λ _. Q) Q old old
begins file Q old b = begun file (λ _. Q) (λ _. Q) Q old b.only_now b.images (λ x y has. has)
    (λ s reads. b.images s (b.reads_image s reads))

module _ (file gate byte : ℕ) (before behind : List ℕ) (at : gate ≡ length before) (old mid now : Sight)
    (b : Before file (Gated before behind) old) (goes : Goes (OnFile file (Torn gate 1)) old mid)
    (tells : GoesOnTelling old mid) where
  pub gate_tried : ReadsFollow (OnFile file (Torn gate 1)) old mid
      → Run file (λ _. Gated before behind) (λ _. Gated before behind) (Gated before behind) old mid
  gate_tried reads = stepped file (λ _. Gated before behind) (λ _. Gated before behind)
      (Gated before behind) old old mid (begins file (Gated before behind) old b) (Torn gate 1)
      (Torn gate 1) goes reads tells
      (λ _. Gated before behind) (λ x y z gated torn. torn_gate before gate behind y z at gated torn)
      (λ x y gated. gated) (Gated before behind) (λ y z gated torn. torn_gate before gate behind y z at gated torn)

  pub gate_written : ReadsFollow (OnFile file (Holds gate (byte ∷ []))) old mid
      → Run file (λ _. Gated before behind) (λ _. Gated before behind)
      (λ bytes. bytes ≡ before ++ byte ∷ behind) old mid
  gate_written reads = stepped file (λ _. Gated before behind) (λ _. Gated before behind)
      (Gated before behind) old old mid (begins file (Gated before behind) old b) (Torn gate 1)
      (Holds gate (byte ∷ [])) goes reads tells
      (λ _. Gated before behind) (λ x y z gated torn. torn_gate before gate behind y z at gated torn)
      (λ x y gated. gated) (λ bytes. bytes ≡ before ++ byte ∷ behind)
      (λ y z gated holds. holds_gate before gate byte behind y z at gated holds)

  module _ (reads : ReadsFollow (OnFile file (Holds gate (byte ∷ []))) old mid) (syncs : Goes Same mid now)
      (keeps : Keeps mid now) where
    pub gate_unsynced : Leaves file (λ _. Gated before behind) (λ _. Gated before behind) old now
    gate_unsynced = (stayed file (λ _. Gated before behind) (λ _. Gated before behind)
        (λ bytes. bytes ≡ before ++ byte ∷ behind) old mid now (gate_written reads) syncs keeps
        (λ x y gated. gated)).leaves

    pub gate_set : Synced file now → EachHas file (λ bytes. bytes ≡ before ++ byte ∷ behind) now.images
    gate_set durable c image = let after = synced file (λ _. Gated before behind) (λ _. Gated before behind)
        (λ bytes. bytes ≡ before ++ byte ∷ behind) old mid now (gate_written reads) syncs keeps durable
        (λ x y gated. gated) in
        (after.leaves.images c image).2.changed.1

-- what a read gives grows by a piece that is written at its end
pub grown : (file at : ℕ) (piece : List ℕ) (mid now : Sight) → ((s : Image) → mid.reads s → length (s file) ≡ at)
    → ReadsFollow (OnFile file (Holds at piece)) mid now
    → (s : Image) → now.reads s → length (s file) ≡ at + length piece
grown file at piece mid now long follows s reads = let from = follows s reads in
    held_length at piece (from.0 file) (s file) (long from.0 from.1) from.2.changed

module _ (file : ℕ) (before : List ℕ) (old : Sight) where
  -- a run that leaves the gate closed, behind which a read gives this
  abbrev pub Staging : List ℕ → Sight → Type 0
  Staging behind now = Run file (λ _. Loose before) (λ _. Loose before) (Closed before behind) old now

  module _ (at : ℕ) (behind piece : List ℕ) (is : at ≡ length before + (1 + length behind)) (mid now : Sight)
      (so_far : Staging behind mid) (goes : Goes (OnFile file (Torn at (length piece))) mid now)
      (tells : GoesOnTelling mid now) where
    kept : (x y z : List ℕ) → Loose before y → Torn at (length piece) y z → Loose before z
    kept x y z loose torn = torn_behind before at (length piece) y z (omega arith) loose torn

    pub piece_tried : ReadsFollow (OnFile file (Torn at (length piece))) mid now
        → Leaves file (λ _. Loose before) (λ _. Loose before) old now
    piece_tried reads =
        (stepped file (λ _. Loose before) (λ _. Loose before) (Closed before behind) old mid now so_far
        (Torn at (length piece)) (Torn at (length piece)) goes reads tells
        (λ _. Loose before) kept (λ x y loose. loose) (λ _. Unit {0}) (λ y z was torn. tt)).leaves

    pub piece_written : ReadsFollow (OnFile file (Holds at piece)) mid now → Staging (behind ++ piece) now
    piece_written reads = stepped file (λ _. Loose before) (λ _. Loose before) (Closed before behind) old mid now so_far
        (Torn at (length piece)) (Holds at piece) goes reads tells
        (λ _. Loose before) kept (λ x y loose. loose) (Closed before (behind ++ piece))
        (λ y z closed holds. holds_end before at behind piece y z is closed holds)

  module _ (behind : List ℕ) (mid now : Sight) (so_far : Staging behind mid) (syncs : Goes Same mid now)
      (keeps : Keeps mid now) where
    pub staging_unsynced : Leaves file (λ _. Loose before) (λ _. Loose before) old now
    staging_unsynced =
        (stayed file (λ _. Loose before) (λ _. Loose before) (Closed before behind) old mid now so_far syncs keeps
        (λ x y loose. loose)).leaves

    pub staging_synced : Synced file now → EachHas file (Closed before behind) now.images
    staging_synced durable c image = let after =
        synced file (λ _. Loose before) (λ _. Loose before)
        (Closed before behind) old mid now so_far syncs keeps durable (λ x y loose. loose) in
        (after.leaves.images c image).2.changed.1

  -- a file whose end is behind the gate
  pub at_rest : Before file (AtRest before) old → Staging [] old
  at_rest b = begun file (λ _. Loose before) (λ _. Loose before) (AtRest before) old b.only_now
      (λ c image. rest_loose before (c file) (b.images c image)) (λ x y loose. loose)
      (λ s reads. b.images s (b.reads_image s reads))

module _ (file end : ℕ) (before : List ℕ) (is : end ≡ length before + 1) (old mid now : Sight)
    (b : Before file (Loose before) old) (goes : Goes (OnFile file (CutOrNot end)) old mid)
    (tells : GoesOnTelling old mid) where
  pub cut_tried : ReadsFollow (OnFile file (CutOrNot end)) old mid
      → Leaves file (λ _. Loose before) (λ _. Loose before) old mid
  cut_tried reads = (stepped file (λ _. Loose before) (λ _. Loose before) (Loose before) old old mid
      (begins file (Loose before) old b) (CutOrNot end) (CutOrNot end) goes reads tells
      (λ _. Loose before) (λ x y z loose cut. cut_loose before end y z is loose cut) (λ x y loose. loose) (Loose before)
      (λ y z loose cut. cut_loose before end y z is loose cut)).leaves

  pub cut_done : ReadsFollow (OnFile file (IsCut end)) old mid → Staging file before old [] mid
  cut_done reads = stepped file (λ _. Loose before) (λ _. Loose before) (Loose before) old old mid
      (begins file (Loose before) old b) (CutOrNot end) (IsCut end) goes reads tells
      (λ _. Loose before) (λ x y z loose cut. cut_loose before end y z is loose cut) (λ x y loose. loose)
      (AtRest before) (λ y z loose cut. cut_closed before end y z is loose cut)

module _ (file : ℕ) (old : Sight) where
  -- a run of calls of which each image keeps this of the file
  abbrev pub Keeping : (List ℕ → List ℕ → Type 0) → Sight → Type 0
  Keeping Q now = Run file Q Q (λ _. Unit {0}) old now

  pub starts : (Q : List ℕ → List ℕ → Type 0) → ((c : Image) → old.left_since old.moment c → old.images c)
      → ((c : Image) → old.images c → Q (c file) (c file)) → Keeping Q old
  starts Q only_now images = begun file Q Q (λ _. Unit {0}) old only_now images (λ x y has. has) (λ s reads. tt)

  pub goes_with : (Q : List ℕ → List ℕ → Type 0) (mid now : Sight) (step tried : List ℕ → List ℕ → Type 0)
      → Keeping Q mid → Goes (OnFile file step) mid now → GoesOnTelling mid now
      → ReadsFollow (OnFile file tried) mid now
      → ((x y z : List ℕ) → Q x y → step y z → Q x z) → Keeping Q now
  goes_with Q mid now step tried so_far goes tells reads kept =
      stepped file Q Q (λ _. Unit {0}) old mid now so_far step tried goes reads tells Q kept (λ x y has. has)
      (λ _. Unit {0}) (λ y z a b. tt)

  pub stays : (Q : List ℕ → List ℕ → Type 0) (mid now : Sight) → Keeping Q mid → Goes Same mid now → Keeps mid now
      → Keeping Q now
  stays Q mid now so_far goes keeps = stayed file Q Q (λ _. Unit {0}) old mid now so_far goes keeps (λ x y has. has)

  -- a write of whatever, of which nothing is said
  pub writes : (mid now : Sight) (step tried : List ℕ → List ℕ → Type 0) → Keeping Anyhow mid
      → Goes (OnFile file step) mid now → GoesOnTelling mid now → ReadsFollow (OnFile file tried) mid now
      → Keeping Anyhow now
  writes mid now step tried so_far goes tells reads =
      goes_with Anyhow mid now step tried so_far goes tells reads (λ x y z any one. tt)

-- after a sync that is done each image has what a read gave of the file
pub sync_has : (file : ℕ) (P : List ℕ → Type 0) (mid now : Sight) → Keeps mid now → Synced file now → ReadsAs file P mid
    → EachHas file P now.images
sync_has file P mid now keeps durable reads c image = let all = durable c image in
    subst P (sym (all.2 c image)) (reads all.0 (keeps.nothing_new all.0 all.1))
