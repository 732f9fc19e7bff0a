-- An entry that has a spelling has a moment that a clock reads.
use Rattle.std.proofs.Common.{◌≤◌, nat_le, List, [], ◌∷◌}
use Rattle.std.proofs.lemmas.Bool.{and_parts, leb-true}
use Rattle.sm_base.specs.declared.moment.TheConstants.{LAST_READING}
use Rattle.sm_core.specs.Histories.{InTime}
use Rattle.sm_replication.specs.declared.frame.Frame.{Frame}
use Rattle.sm_replication.specs.declared.frame.Frame.TheVariants.{Entries, Rows}
use Rattle.sm_replication.specs.Spelled.{AreSpelled, HasParts}
use Rattle.sm_model.specs.declared.entry.Entry.{Entry}
use Rattle.sm_record.specs.Editions.{mark}
use Rattle.sm_record.specs.Entries.{entry, head, head_of}
use Rattle.sm_record.specs.Fields.{moment, long}
use Rattle.sm_record.specs.Spelling.{has_spelling, HasSpelling}
use Rattle.sm_record.specs.declared.edition.Edition.TheVariants.{Second}
use Rattle.sm_replica.specs.Replicas.{IsTimely}

spelled_timely : (e : Entry) → HasSpelling Second e → e.moment.0 ≤ LAST_READING
unfolding has_spelling entry head mark moment long
spelled_timely e fits =
    let of_head = (and_parts ((head Second).fits (head_of e)) _ fits).0 in
    let early = (and_parts (nat_le e.moment.0 LAST_READING) _ (and_parts (moment.fits e.moment) _ of_head).0).0 in
    leb-true e.moment.0 LAST_READING early

all_timely : (entries : List Entry) → AreSpelled entries → InTime entries
all_timely [] all = tt
all_timely (e ∷ es) all = (spelled_timely e all.0, all_timely es all.1)

pub parts_timely : (f : Frame) → HasParts f → IsTimely f
parts_timely (Entries at entries) has = all_timely entries has
parts_timely (Rows at base) has = tt
