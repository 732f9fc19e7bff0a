-- How a top call ended, as an exit code.
use Rattle.std.specs.Prelude.{ℕ}
use Rattle.sm_session.specs.declared.ended.Ended.{Ended}
use Rattle.sm_session.specs.declared.ended.Ended.TheVariants as ended
use Rattle.sm_server.specs.declared.status.Status.{Status}
use Rattle.sm_server.specs.declared.status.Status.TheVariants.{Done, Words, Damaged, OpenFault, Memory, People, SinkFault, SourceFault, EdgeFault, Cut, BadMessage, Enough}

abbrev pub code_of : Status → ℕ
code_of Done = 0
code_of Words = 2
code_of (Damaged at entry) = 3
code_of OpenFault = 4
code_of Memory = 5
code_of (People line) = 6
code_of (SinkFault taken) = 7
code_of SourceFault = 8
code_of EdgeFault = 9
code_of (Cut bytes) = 10
code_of (BadMessage place) = 11
code_of Enough = 12

-- how a run ended whose stream ended so
abbrev pub status_of : Ended → Status
status_of ended.Closed = Done
status_of (ended.Cut bytes) = Cut bytes
status_of (ended.Bad kind place) = BadMessage place
status_of ended.Enough = Enough
status_of ended.ReadFault = SourceFault
status_of (ended.WriteFault taken) = SinkFault taken
status_of ended.Memory = Memory

-- a run that ended so followed its words
abbrev pub WasUnderstood : Status → Type 0
WasUnderstood Words = ⊥
WasUnderstood status = Unit {0}

-- a run that ended so followed its words and its text of the people
abbrev pub WasFollowed : Status → Type 0
WasFollowed Words = ⊥
WasFollowed (People line) = ⊥
WasFollowed status = Unit {0}

-- a run that ended so had its account opened
abbrev pub WasOpened : Status → Type 0
WasOpened Words = ⊥
WasOpened (People line) = ⊥
WasOpened (Damaged at entry) = ⊥
WasOpened OpenFault = ⊥
WasOpened status = Unit {0}
