-- The mark of an entry that was to be made.
use Rattle.std.specs.Prelude.{Result, Ok, Err}
use Rattle.sm_disk.specs.declared.disk.DiskFailed.{DiskFailed}
use Rattle.sm_model.specs.declared.entry.Entry.{Entry as entries}
use Rattle.sm_model.specs.declared.entry.Mark.{Mark}
use Rattle.sm_model.specs.declared.entry.Mark.TheVariants.{Entry, Fault}

-- the entry, or the disk's fault in its place
abbrev pub mark_made : {T : Type 0} → Result T DiskFailed → entries → Mark
mark_made (Ok done) entry = Entry entry
mark_made (Err failed) entry = Fault
