-- What a run does that answers the messages of a number, and what it says of their replies.
use Rattle.std.specs.Prelude.{◌≡◌, ◌≤◌, ℕ, ◌+◌, ◌⊎◌, List, [], ◌∷◌, length, slice_get, Result, Ok, Err, option_map, ⊤}
use Rattle.sm_base.specs.declared.memory.NoMemory.{NoMemory}
use Rattle.sm_base.specs.declared.moment.Moment.{Moment}
use Rattle.sm_core.specs.Histories.{replay}
use Rattle.sm_account.specs.History.{entries_in}
use Rattle.sm_account.specs.States.{Base}
use Rattle.sm_drill.specs.declared.step.TheConstants.{MESSAGES}
use Rattle.sm_drill.specs.Lines.{lines_of, refused_count}
use Rattle.sm_drill.specs.Messages.{messages_of}
use Rattle.sm_principal.specs.declared.people.People.{People}
use Rattle.sm_reply.specs.Shown.{Answered}
use Rattle.sm_rotation.specs.Vouched.{Replies}
use Rattle.sm_session.specs.Replies.{reply_of}
use Rattle.sm_session.specs.Told.{Told, told_both}
use Rattle.sm_account.specs.SeatTraces.{History}
use Rattle.sm_summary.specs.Summary.{totals_of}
use Rattle.sm_server.specs.declared.drilling.Drilled.{Drilled}
use Rattle.sm_server.specs.declared.status.Status.{Status}
use Rattle.sm_server.specs.declared.status.Status.TheVariants.{Memory}
use Rattle.sm_server.specs.Brought.{Brings}
use Rattle.sm_server.specs.Checks.{WritesBy}
use Rattle.sm_server.specs.Outside.{Outside}
use Rattle.sm_server.specs.MessageRounds.{Brought}

-- what is counted of the replies to all messages of a drill; where memory ran out it ended before one of them
abbrev pub Counts : Result Drilled NoMemory → ℕ → List Answered → Type 0
Counts (Ok drilled) count replies = (count ≡ MESSAGES) × (drilled.refused ≡ refused_count replies)
    × (option_map reply_of drilled.last ≡ slice_get replies 9_999)
Counts (Err _) count replies = ⊤

-- the first messages of a number were answered, from before to now, where the history is this now
pub record AnswersMade (replies : Replies) (people : People) (base : Base) (number : ℕ)
    (result : Result Drilled NoMemory) (before now : Outside) (history : History) : Type 0 where
  pub count : ℕ
  pub few : count ≤ MESSAGES
  pub brought : Brought
  pub brings : Brings replies people base before now history (messages_of number count) brought
  pub counts : Counts result count brought.replies

-- where memory ran out nothing was written of the lines, and else they were, or the front of them
abbrev pub Says : Type 0 → List ℕ → Status → List ℕ → Type 0
Says Cause lines Memory written = written ≡ []
Says Cause lines status written = WritesBy Cause status lines written

-- the totals of an account that went on from a base and so many entries, by this history, at a moment
abbrev pub totals_after : Base → ℕ → History → Moment → List ℕ
totals_after base entries history now =
    totals_of (replay base.rows (entries_in history)) now (entries + length (entries_in history))

-- what was told for the messages, and then one reading for the totals
abbrev pub told_then : Told → Moment → Told
told_then told now = told_both told (record { readings = now.0 ∷ []; drawn = [] })

-- All messages were answered so, and then the lines were written at one reading of the clock, or the front of them.
pub record SaysLines (Cause : Type 0) (base : Base) (entries : ℕ) (history : History) (count : ℕ)
    (replies : List Answered) (told : Told) (status : Status) (all : Told) (written : List ℕ) : Type 0 where
  pub whole : count ≡ MESSAGES
  pub now : Moment
  pub reading : all ≡ told_then told now
  pub writes : WritesBy Cause status (lines_of replies (totals_after base entries history now)) written

-- where memory ran out a message or the lines were not made, and nothing was written
pub record LacksMemory (told all : Told) (written : List ℕ) : Type 0 where
  pub unwritten : written ≡ []
  pub reading : (all ≡ told) ⊎ ((now : Moment) × (all ≡ told_then told now))

-- how a drill ended, of which so many messages were answered, where this was told for them, and this in all
abbrev pub EndsDrill : Type 0 → Base → ℕ → History → ℕ → List Answered → Told → Status → Told → List ℕ → Type 0
EndsDrill Cause base entries history count replies told Memory all written = LacksMemory told all written
EndsDrill Cause base entries history count replies told status all written =
    SaysLines Cause base entries history count replies told status all written
