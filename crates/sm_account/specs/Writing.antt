-- What became of an entry that was to be written.
use Rattle.std.specs.Prelude.{◌≡◌, ⊤, true, false, Option, None, Some}
use Rattle.sm_disk.specs.declared.disk.Disk.{Ghosts}
use Rattle.sm_model.specs.declared.entry.Entry.{Entry}
use Rattle.sm_store.specs.Appends.{length_with}
use Rattle.sm_store.specs.Stores.{is_unsure, length_of, Holds}
use Rattle.sm_store.specs.Held.{Held, with_entry}
use Rattle.sm_store.specs.declared.store.Store.{Store}
use Rattle.sm_account.specs.declared.writing.Written.{Written}
use Rattle.sm_account.specs.declared.writing.Written.TheVariants.{Ok, Unmended, Torn}

-- Written, the entry stands at the end of what is held. Unmended, all is as it was; torn, the entry may stand there or
-- not.
abbrev pub WritesAs : {D : Type 0} {G : Ghosts D} → Store D G → Entry → Store D G → Written → Type 0
WritesAs old e new Ok = (is_unsure new ≡ false) × (length_of new ≡ length_with old e)
    × ((h : Held) (failed : Option Entry) → Holds old h failed → Holds new (with_entry h e) None)
WritesAs old e new Unmended = (is_unsure old ≡ true) × (is_unsure new ≡ true) × (length_of new ≡ length_of old)
    × ((h : Held) (failed : Option Entry) → Holds old h failed → Holds new h failed)
WritesAs old e new Torn = (is_unsure new ≡ true) × (length_of new ≡ length_of old)
    × ((h : Held) (failed : Option Entry) → Holds old h failed → Holds new h (Some e))

-- The same behind a tail that is sure.
abbrev pub AppendsBehind : {D : Type 0} {G : Ghosts D} → Store D G → Entry → Store D G → Written → Type 0
AppendsBehind old e new Ok = (is_unsure new ≡ false) × (length_of new ≡ length_with old e)
    × ((h : Held) → Holds old h None → Holds new (with_entry h e) None)
AppendsBehind old e new Unmended = ⊥
AppendsBehind old e new Torn = (is_unsure new ≡ true) × (length_of new ≡ length_of old)
    × ((h : Held) → Holds old h None → Holds new h (Some e))

-- a fact where the disk failed
abbrev pub OnFault : Written → Type 0 → Type 0
OnFault Ok P = ⊤
OnFault Unmended P = P
OnFault Torn P = P

-- a fact where it did not fail
abbrev pub UnlessFault : Written → Type 0 → Type 0
UnlessFault Ok P = P
UnlessFault Unmended P = ⊤
UnlessFault Torn P = ⊤
