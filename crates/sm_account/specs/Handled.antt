-- What an account answers to a request, by its outcome, and which marks that leaves.
use Rattle.std.specs.Prelude.{◌≡◌, ⊤, List, [], ◌∷◌, Some, None}
use Rattle.sm_model.specs.declared.entry.Mark.{Mark}
use Rattle.sm_model.specs.declared.entry.Mark.TheVariants.{Entry, Fault}
use Rattle.sm_account.specs.declared.handled.Handled.{Handled}
use Rattle.sm_account.specs.declared.handled.Handled.TheVariants.{Answered, Refused, DiskFault, Memory}
use Rattle.sm_account.specs.Outcome.{Outcome, Refuses, Replies}

-- The reply or the refusal is the outcome's; the disk fails only where the outcome has an entry; memory may be wanted
-- anywhere.
abbrev pub HandledAs : Handled → Outcome → Type 0
HandledAs (Answered reply) (Replies wanted entry) = reply ≡ wanted
HandledAs (Answered reply) (Refuses why) = ⊥
HandledAs (Refused why) (Refuses wanted) = why ≡ wanted
HandledAs (Refused why) (Replies reply entry) = ⊥
HandledAs DiskFault (Replies reply (Some entry)) = ⊤
HandledAs DiskFault (Replies reply None) = ⊥
HandledAs DiskFault (Refuses why) = ⊥
HandledAs Memory outcome = ⊤

-- the entry of an outcome, as marks
abbrev pub entry_mark : Outcome → List Mark
entry_mark (Replies reply (Some entry)) = Entry entry ∷ []
entry_mark (Replies reply None) = []
entry_mark (Refuses why) = []

-- the marks that an answer leaves: the entry that was due, or the disk's fault
abbrev pub marks_of : Handled → Outcome → List Mark
marks_of (Answered reply) outcome = entry_mark outcome
marks_of (Refused why) outcome = []
marks_of DiskFault outcome = Fault ∷ []
marks_of Memory outcome = []

-- a fact where the disk failed
abbrev pub OnDiskFault : Handled → Type 0 → Type 0
OnDiskFault (Answered reply) P = ⊤
OnDiskFault (Refused why) P = ⊤
OnDiskFault DiskFault P = P
OnDiskFault Memory P = ⊤
