-- What calls on files in memory make of them.
use Rattle.std.specs.Prelude.{◌≡◌, ℕ, ◌+◌, ◌≤◌, ◌==◌, ◌&&◌, Bool, true, false, nat_lt, MatchBool, if◌then◌else◌, List, [], ◌∷◌, ◌++◌, length, take, drop, map, replicate}
use Rattle.sm_disk.specs.Sight.{Image, Sight}
use Rattle.sm_disk.specs.Steps.{Torn, CutOrNot}
use Rattle.sm_disk.specs.declared.call.Act.{Act}
use Rattle.sm_disk.specs.declared.call.Act.TheVariants.{Write, Cut, Sync}
use Rattle.sm_disk.specs.declared.call.Call.{Call}

-- what a file reads as once an act is done
abbrev pub acted : Act → List ℕ → List ℕ
acted (Write at piece) bytes = take at bytes ++ piece ++ drop (at + length piece) bytes
acted (Cut end) bytes = take end bytes
acted Sync bytes = bytes

-- what a crash may make of a file, or a failed act, while the act isn't synced
abbrev pub MayAct : Act → List ℕ → List ℕ → Type 0
MayAct (Write at piece) old new = Torn at (length piece) old new
MayAct (Cut end) old new = CutOrNot end old new
MayAct Sync old new = new ≡ old

-- a call that failed changes nothing that is read
abbrev pub read_after : ℕ → Call → List ℕ → List ℕ
read_after file call bytes = if call.file == file && call.done then acted call.act bytes else bytes

-- what a file reads as after these calls, the first of them first
abbrev pub replayed : ℕ → List Call → List ℕ → List ℕ
replayed file [] bytes = bytes
replayed file (call ∷ calls) bytes = replayed file calls (read_after file call bytes)

-- What a crash may leave of a file after an act, which was done or failed, where it reads as these bytes and a crash
-- might have left what may says.
abbrev pub LeftByAct : Act → Bool → List ℕ → (List ℕ → Type 0) → List ℕ → Type 0
LeftByAct (Write at piece) done bytes may c = (d : List ℕ) × may d × Torn at (length piece) d c
LeftByAct (Cut end) done bytes may c = (d : List ℕ) × may d × CutOrNot end d c
LeftByAct Sync done bytes may c = MatchBool done (c ≡ bytes) (may c)

-- the same after a call, which may be on another file
abbrev pub LeftByCall : ℕ → Call → List ℕ → (List ℕ → Type 0) → List ℕ → Type 0
LeftByCall file call bytes may c = MatchBool (call.file == file) (LeftByAct call.act call.done bytes may c) (may c)

-- what a crash may leave of a file after these calls
abbrev pub LeftByCalls : ℕ → List Call → List ℕ → (List ℕ → Type 0) → List ℕ → Type 0
LeftByCalls file [] bytes may c = may c
LeftByCalls file (call ∷ calls) bytes may c = LeftByCalls file calls (read_after file call bytes)
    (LeftByCall file call bytes may) c

-- a crash after these calls may leave this, where the files held what start says and all of it was synced
abbrev pub IsImage : Image → List Call → Image → Type 0
IsImage start calls c = (file : ℕ) → LeftByCalls file calls (start file) (λ d. d ≡ start file) (c file)

-- what files in memory tell after these calls: the moment is how many they are
abbrev pub sight_of : Image → List Call → Sight
sight_of start calls = record {
  reads = λ s. (file : ℕ) → s file ≡ replayed file calls (start file);
  images = IsImage start calls;
  moment = length calls;
  left_since = λ t c. (k : ℕ) × (t ≤ k) × (k ≤ length calls) × IsImage start (take k calls) c;
}

abbrev pub is_sync : Act → Bool
is_sync (Write at piece) = false
is_sync (Cut end) = false
is_sync Sync = true

-- the call is a sync of the file that was done
abbrev pub syncs : ℕ → Call → Bool
syncs file call = call.file == file && call.done && is_sync call.act

-- how many items there are up to the last one that passes the test, with that one
abbrev pub count_to_last : (Call → Bool) → List Call → ℕ
count_to_last test [] = 0
count_to_last test (call ∷ calls) =
    let rest = count_to_last test calls in if nat_lt 0 rest then rest + 1 else (if test call then 1 else 0)

-- how many calls there were up to the file's last sync that was done, with that one
abbrev pub synced_calls : ℕ → List Call → ℕ
synced_calls file calls = count_to_last (syncs file) calls

-- the act with each byte that it writes replaced by this one
abbrev pub filled_act : ℕ → Act → Act
filled_act fill (Write at piece) = Write at (replicate (length piece) fill)
filled_act fill (Cut end) = Cut end
filled_act fill Sync = Sync

abbrev pub filled : ℕ → Call → Call
filled fill call = record call { act = filled_act fill call.act }

-- what may be left of calls that aren't synced: for 0 nothing, for 1 all of it, and for any other number all of it with
-- each byte that is written replaced by that number
abbrev pub left_unsynced : ℕ → ℕ → List Call → List ℕ → List ℕ
left_unsynced fill file calls bytes =
    if fill == 0 then bytes else if fill == 1 then replayed file calls bytes
    else replayed file (map (filled fill) calls) bytes

-- One content that a crash may leave: for 0 as the last sync that was done left the file, for 1 as it reads, and for
-- any other number as it reads with each byte that was written since that sync replaced by the number.
abbrev pub crashed : ℕ → ℕ → List Call → List ℕ → List ℕ
crashed fill file calls bytes =
    let count = synced_calls file calls in left_unsynced fill file (drop count calls)
    (replayed file (take count calls) bytes)
