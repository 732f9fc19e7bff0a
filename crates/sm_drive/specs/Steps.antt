-- One call of a run: its outcome, and where the run stands then.
use Rattle.std.specs.Prelude.{◌≡◌, ◌⊎◌, ⊤, List, [], ◌∷◌, ◌++◌, length, true, Option, Some, None, IsSome}
use Rattle.sm_base.specs.declared.moment.Moment.{Moment}
use Rattle.sm_model.specs.declared.entry.Entry.{Entry}
use Rattle.sm_model.specs.declared.rows.SecretRow.{SecretRow}
use Rattle.sm_rotation.specs.Vouched.{Replies}
use Rattle.sm_claims.specs.Works.{IsWorkOf}
use Rattle.sm_rotator.specs.declared.told.Told.{Told}
use Rattle.sm_rotator.specs.declared.work.Work.{Work}
use Rattle.sm_store.specs.Held.{Held, with_entry}
use Rattle.sm_recovery.specs.Lawful.{made_of}
use Rattle.sm_drive.specs.Aims.{Aim, Enters, Claims, Reopens, Stops, aim}
use Rattle.sm_drive.specs.Stands.{Stand, all_at, opened, entered, faulted, claimed, keeping}
use Rattle.sm_drive.specs.declared.call.Call.{Call}
use Rattle.sm_drive.specs.declared.outcome.Outcome.{Outcome}
use Rattle.sm_drive.specs.declared.outcome.Outcome.TheVariants.{Entered, Quiet, Refused, Stale, Limit, DiskFault, Asked, Nothing, Memory, Reopened}

-- Where the disk fails there is an entry whose write failed last: that of before, or this one.
abbrev pub FailsAs : Option Entry → Entry → Option Entry → Type 0
FailsAs old entry new = ((new ≡ old) × IsSome old) ⊎ (new ≡ Some entry)

-- An entry that is due is made, and its place among the run's entries is told; or the disk fails at it; or memory is
-- wanted, and nothing is done.
abbrev pub Entering : Entry → Outcome → Stand → Stand → Type 0
Entering entry (Entered place) old new = (place ≡ length old.entries) × (new ≡ entered old entry)
Entering entry DiskFault old new =
    (failed : Option Entry) × FailsAs old.failed entry failed × (new ≡ faulted old failed)
Entering entry Memory old new = new ≡ old
Entering entry out old new = ⊥

-- the rotator may give this answer to the work
abbrev pub MayAnswer : Replies → Told → Type 0
MayAnswer replies told =
    replies told.work.arn told.work.at told.work.current told.work.pending told.answer ≡ true

-- The step is claimed, the rotator is asked, and its answer is kept; or memory is wanted, before the claim or behind
-- it.
abbrev pub Claiming : Replies → SecretRow → Moment → Outcome → Stand → Stand → Type 0
Claiming replies row moment Asked old new = (told : Told) × IsWorkOf row told.work × MayAnswer replies told
    × (new ≡ keeping (claimed old told.work moment) told)
Claiming replies row moment Memory old new =
    (new ≡ old) ⊎ ((work : Work) × IsWorkOf row work × (new ≡ claimed old work moment))
Claiming replies row moment out old new = ⊥

-- one of the five outcomes of a call that does nothing, and the one that is wanted; or memory is wanted
abbrev pub EndsAs : Outcome → Outcome → Type 0
EndsAs wanted Quiet = wanted ≡ Quiet
EndsAs wanted Refused = wanted ≡ Refused
EndsAs wanted Stale = wanted ≡ Stale
EndsAs wanted Limit = wanted ≡ Limit
EndsAs wanted Nothing = wanted ≡ Nothing
EndsAs wanted Memory = ⊤
EndsAs wanted out = ⊥

-- nothing is done
pub record Stopping (wanted out : Outcome) (old new : Stand) : Type 0 where
  pub ends : EndsAs wanted out
  pub new_is : new ≡ old

-- with the entry, if there is one
abbrev pub held_with : Held → Option Entry → Held
held_with h None = h
held_with h (Some entry) = with_entry h entry

abbrev pub entries_with : List Entry → Option Entry → List Entry
entries_with entries None = entries
entries_with entries (Some entry) = entries ++ entry ∷ []

-- The account is opened again. Beside all that was acknowledged it may find the entry whose write failed last, and
-- nothing else; what it takes has the state that these make.
pub record Reopening (out : Outcome) (old new : Stand) : Type 0 where
  pub out_is : out ≡ Reopened
  pub found : Option Entry
  pub found_is : (found ≡ None) ⊎ (found ≡ old.failed)
  pub state : made_of new.taken ≡ made_of (held_with (all_at old) found)
  pub new_is : new ≡ opened new.taken old.kept (entries_with old.entries found)

abbrev pub GoesTo : Replies → Aim → Outcome → Stand → Stand → Type 0
GoesTo replies (Enters entry) out old new = Entering entry out old new
GoesTo replies (Claims row moment) out old new = Claiming replies row moment out old new
GoesTo replies Reopens out old new = Reopening out old new
GoesTo replies (Stops wanted) out old new = Stopping wanted out old new

-- a call of a run
abbrev pub Goes : Replies → Call → Outcome → Stand → Stand → Type 0
Goes replies call out old new = GoesTo replies (aim old call) out old new
