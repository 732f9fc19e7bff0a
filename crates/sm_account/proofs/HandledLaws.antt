-- What an answer to a request leaves, in the words of requests.
use Rattle.std.proofs.Common.{◌≡◌, Some, None, refl}
use Rattle.sm_account.specs.declared.handled.Handled.{Handled}
use Rattle.sm_account.specs.declared.handled.Handled.TheVariants.{Answered, Refused, DiskFault, Memory}
use Rattle.sm_account.specs.CallOutcomes.{IfFailed, marks_by}
use Rattle.sm_account.specs.Handled.{HandledAs, OnDiskFault, marks_of}
use Rattle.sm_account.specs.Handling.{handled_by}
use Rattle.sm_account.specs.Outcome.{Outcome, Refuses, Replies}

pub marks_so : (result : Handled) (wanted : Outcome) → HandledAs result wanted
    → marks_by (handled_by result wanted) ≡ marks_of result wanted
marks_so (Answered reply) (Replies wanted (Some entry)) is = refl
marks_so (Answered reply) (Replies wanted None) is = refl
marks_so (Answered reply) (Refuses why) is = absurd is
marks_so (Refused why) wanted is = refl
marks_so DiskFault (Replies reply (Some entry)) is = refl
marks_so DiskFault (Replies reply None) is = absurd is
marks_so DiskFault (Refuses why) is = absurd is
marks_so Memory wanted is = refl

pub fault_so : (result : Handled) (wanted : Outcome) (P : Type 0) → HandledAs result wanted
    → IfFailed (handled_by result wanted) P → OnDiskFault result P
fault_so (Answered reply) wanted P is h = tt
fault_so (Refused why) wanted P is h = tt
fault_so DiskFault (Replies reply (Some entry)) P is h = h
fault_so DiskFault (Replies reply None) P is h = absurd is
fault_so DiskFault (Refuses why) P is h = absurd is
fault_so Memory wanted P is h = tt
