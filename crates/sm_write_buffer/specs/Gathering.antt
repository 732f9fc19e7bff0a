-- What is pending of files, and what a disk tells with it.
use Rattle.std.specs.Prelude.{◌≡◌, ◌⊎◌, ℕ, ◌+◌, ◌≤◌, ◌==◌, ⊤, if◌then◌else◌, List, [], ◌∷◌, length, take}
use Rattle.sm_disk.specs.Sight.{Image, Sight}
use Rattle.sm_disk.specs.Steps.{Torn, CutOrNot}
use Rattle.sm_write_buffer.specs.Pieces.{laid}
use Rattle.sm_write_buffer.specs.declared.pending.Pending.{Pending}
use Rattle.sm_write_buffer.specs.declared.pending.Pending.TheVariants.{Nothing, Write, Cut}
use Rattle.sm_write_buffer.specs.declared.waiting.Waiting.{Waiting}

-- what a file reads as once this is done
abbrev pub done : Pending → List ℕ → List ℕ
done Nothing bytes = bytes
done (Write at piece) bytes = laid at piece bytes
done (Cut end) bytes = take end bytes

-- new is old once this is done
abbrev pub IsDone : Pending → List ℕ → List ℕ → Type 0
IsDone pending old new = new ≡ done pending old

-- what a crash may make of a file while this is being done
abbrev pub MayDo : Pending → List ℕ → List ℕ → Type 0
MayDo Nothing old new = new ≡ old
MayDo (Write at piece) old new = Torn at (length piece) old new
MayDo (Cut end) old new = CutOrNot end old new

-- the place in the file where it begins
abbrev pub place : Pending → ℕ
place Nothing = 0
place (Write at piece) = at
place (Cut end) = end

-- a cut to this length takes all of it away
abbrev pub IsBehind : ℕ → Pending → Type 0
IsBehind end Nothing = ⊤
IsBehind end (Write at piece) = end ≤ at
IsBehind end (Cut other) = end ≤ other

-- a write in whose range or behind which this place is, and the same with a piece laid over it from there on
pub record JoinsTo (at : ℕ) (piece : List ℕ) (old new : Pending) : Type 0 where
  pub start : ℕ
  pub run : List ℕ
  pub place : ℕ
  pub was : old ≡ Write start run
  pub begins : at ≡ start + place
  pub within : place ≤ length run
  pub is : new ≡ Write start (laid place piece run)

-- what is pending of the file of this number
abbrev pub pending_of : Waiting → ℕ → Pending
pending_of waiting file = if file == 0 then waiting.journal_0 else if file == 1 then waiting.journal_1
    else if file == 2 then waiting.root else Nothing

-- the same with something else pending of one of the three files
abbrev pub with_pending : Waiting → ℕ → Pending → Waiting
with_pending waiting file pending = if file == 0 then record waiting { journal_0 = pending }
    else if file == 1 then record waiting { journal_1 = pending } else record waiting { root = pending }

-- each thing that is pending begins within its file
abbrev pub Placed : Sight → Waiting → Type 0
Placed below waiting = (s : Image) → below.reads s → (file : ℕ) → place (pending_of waiting file) ≤ length (s file)

-- what a read gives over a disk with this sight: what it gives of the disk, once all is done that is pending
abbrev pub ReadsOver : Sight → Waiting → Image → Type 0
ReadsOver below waiting s = (d : Image) × below.reads d
    × ((file : ℕ) → s file ≡ done (pending_of waiting file) (d file))

-- what a crash may leave: what it may leave of the disk, while all is being done that is pending
abbrev pub ImagesOver : Sight → Waiting → Image → Type 0
ImagesOver below waiting c = (d : Image) × below.images d
    × ((file : ℕ) → MayDo (pending_of waiting file) (d file) (c file))

-- what is told at a moment, as if there had been no other
abbrev pub over : Sight → Waiting → Sight
over below waiting = record {
  reads = ReadsOver below waiting;
  images = ImagesOver below waiting;
  moment = 0;
  left_since = λ t. ImagesOver below waiting;
}

module _ {D : Type 0} (sight : D → Sight) where
  -- A crash might have left this at one of these moments, the latest of them first, and none before that number.
  abbrev pub LeftSince : List (D × Waiting) → ℕ → Image → Type 0
  LeftSince [] t c = ⊥
  LeftSince (now ∷ earlier) t c = (t ≤ length earlier) × ImagesOver (sight now.0) now.1 c ⊎ LeftSince earlier t c

  -- The disk below was at this moment of its own at the told moment of that number.
  abbrev pub BelowAt : List (D × Waiting) → ℕ → ℕ → Type 0
  BelowAt [] t m = ⊥
  BelowAt (now ∷ earlier) t m = (t ≡ length earlier) × (m ≡ (sight now.0).moment) ⊎ BelowAt earlier t m

  -- What a crash at any moment since one of these might have left of the disk below: what it may leave of it now, or
  -- what is told of these moments from that one on.
  pub record AmongTold (disk : D) (past : List (D × Waiting)) : Type 0 where
    pub later : (t m : ℕ) → BelowAt past t m → m ≤ (sight disk).moment
    pub left : (t m : ℕ) → BelowAt past t m → (c : Image) → (sight disk).left_since m c
        → (sight disk).images c ⊎ LeftSince past t c

  -- a call goes on that began at the last of these moments: what a crash now may leave of the disk below was told then
  abbrev pub WasTold : D → List (D × Waiting) → Type 0
  WasTold disk [] = ⊥
  WasTold disk (last ∷ earlier) = (c : Image) → (sight disk).images c → ImagesOver (sight last.0) last.1 c

  -- what a crash at any moment since a told one might have left of the disk below is told from that moment on
  abbrev pub TellsBelow : D → Waiting → List (D × Waiting) → Type 0
  TellsBelow disk waiting past = (t m : ℕ) → BelowAt ((disk, waiting) ∷ past) t m → (c : Image)
      → (sight disk).left_since m c → LeftSince ((disk, waiting) ∷ past) t c

  -- what is told of the disk below, of what is pending, and of the moments before
  abbrev pub gathered_sight : D → Waiting → List (D × Waiting) → Sight
  gathered_sight disk waiting past = record {
    reads = ReadsOver (sight disk) waiting;
    images = ImagesOver (sight disk) waiting;
    moment = length past;
    left_since = LeftSince ((disk, waiting) ∷ past);
  }
