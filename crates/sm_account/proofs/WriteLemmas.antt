-- An entry that is written behind a tail that was mended.
use Rattle.std.proofs.Common.{◌≡◌, ◌≤◌, ◌<◌, ◌+◌, ℕ, List, Option, None, ap, ◌∙◌, length, arith}
use Rattle.sm_disk.specs.declared.disk.Disk.{Ghosts}
use Rattle.sm_model.specs.declared.entry.Entry.{Entry}
use Rattle.sm_record.specs.Spelling.{spelling}
use Rattle.sm_record.specs.declared.edition.Edition.TheVariants.{Second}
use Rattle.sm_journal.specs.Records.{record_size}
use Rattle.sm_store.specs.Appends.{length_with, SamePlace}
use Rattle.sm_store.specs.Stores.{length_of, limit_of, Holds}
use Rattle.sm_store.specs.Held.{Held}
use Rattle.sm_store.specs.declared.store.Store.{Store}
use Rattle.sm_account.specs.Writing.{WritesAs, AppendsBehind, UnlessFault}
use Rattle.sm_account.specs.declared.writing.Written.{Written}
use Rattle.sm_account.specs.declared.writing.Written.TheVariants.{Ok, Unmended, Torn}

pub writes_behind : {D : Type 0} {G : Ghosts D} (old mid new : Store D G) (e : Entry) (result : Written)
    → length_of mid ≡ length_of old
    → ((h : Held) (failed : Option Entry) → Holds old h failed → Holds mid h None)
    → AppendsBehind mid e new result → WritesAs old e new result
writes_behind old mid new e Ok same mended a =
    (a.0, a.1 ∙ ap (λ n. n + record_size (spelling Second e)) same, λ h failed was. a.2 h (mended h failed was))
writes_behind old mid new e Unmended same mended a = absurd a
writes_behind old mid new e Torn same mended a = (a.0, a.1 ∙ same, λ h failed was. a.2 h (mended h failed was))

-- a count that stays through the mending stays through both calls, unless the disk fails at the entry
pub stays_through : (old mid new : ℕ) (result : Written) → mid ≡ old → UnlessFault result (new ≡ mid)
    → UnlessFault result (new ≡ old)
stays_through old mid new Ok first second = second ∙ first
stays_through old mid new Unmended first second = tt
stays_through old mid new Torn first second = tt

-- the file, its format and the limit stay through both calls
pub same_through : {D : Type 0} {G : Ghosts D} (old mid new : Store D G) → SamePlace old mid → SamePlace mid new
    → SamePlace old new
same_through old mid new first second = record {
  file = second.file ∙ first.file;
  format = second.format ∙ first.format;
  limit = second.limit ∙ first.limit;
}

-- a store is not full of an entry for whose spelling there is room
pub never_full : {D : Type 0} {G : Ghosts D} (store : Store D G) (e : Entry) (ready : List ℕ)
    → spelling Second e ≡ ready → length_of store + record_size ready ≤ limit_of store
    → limit_of store < length_with store e → ⊥
never_full store e ready same fits full = omega (arith, ap (λ bytes. length bytes) same, fits, full)
