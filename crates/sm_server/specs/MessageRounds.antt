-- What the messages of a run bring, one after the other: their replies, what the clock and the random source told for
-- them and for the rotation turns behind each, and the marks that these leave in the history.
use Rattle.std.specs.Prelude.{◌≡◌, ℕ, List, [], ◌∷◌, ◌++◌, Result}
use Rattle.std.specs.Io.KnownBytes.{append_known}
use Rattle.sm_base.specs.Faults.{Rose}
use Rattle.sm_model.specs.declared.entry.Mark.{Mark}
use Rattle.sm_model.specs.declared.why.Why.{Why}
use Rattle.sm_rotation.specs.Vouched.{Replies}
use Rattle.sm_table.specs.Sound.{Sound}
use Rattle.sm_core.specs.Histories.{replay}
use Rattle.sm_account.specs.History.{entries_in, by_seat}
use Rattle.sm_account.specs.States.{Base}
use Rattle.sm_http.specs.Messages.{Message}
use Rattle.sm_pool.specs.Rounds.{Counts, NoneFell, Rotated, Round, courses_in, drawn_in, readings_in}
use Rattle.sm_principal.specs.declared.people.People.{People}
use Rattle.sm_reply.specs.Shown.{Answered}
use Rattle.sm_account.specs.SeatTraces.{History}
use Rattle.sm_session.specs.Answer.{Asked, heard}
use Rattle.sm_session.specs.Sessions.{LocalState}
use Rattle.sm_session.specs.Told.{Told, nothing_told, told_both, Growth}
use Rattle.sm_session.specs.Turns as sessions

-- the seat of a run's only caller
abbrev pub seat : ℕ
seat = 1

-- What one message brought, with the rotation turns behind it: what was told, its reply, the marks, and how the counts
-- of the disk, of the random source and of the rotator grew.
pub record MessageRound : Type 0 where
  pub told : Told
  pub reply : Answered
  pub marks : List Mark
  pub disk : Growth
  pub random : Growth
  pub rotator : Growth

-- the marks of a turn beside the seat
abbrev pub marked : MessageRound → History
marked turn = by_seat seat turn.marks

-- the counts before a turn and after it
abbrev pub counts_before : MessageRound → Counts
counts_before turn =
    record { disk = turn.disk.before; words = turn.random.before; rotator = turn.rotator.before }

abbrev pub counts_after : MessageRound → Counts
counts_after turn = record { disk = turn.disk.after; words = turn.random.after; rotator = turn.rotator.after }

-- what was told for the rotation turns
abbrev pub told_for : Round → Told
told_for round = record { readings = readings_in (courses_in round); drawn = drawn_in (courses_in round) }

-- The turn of a message that asks for this, or is refused so: its own part, at this history, and then rotation turns.
-- Each fault comes only where its count rose.
pub record MessageRoundOf (replies : Replies) (base : Base) (history : History) (asked : Result Asked Why)
    (turn : MessageRound) : Type 0 where
  pub own : sessions.Turn
  pub between : Counts
  pub answered : sessions.IsTurn (Rose turn.disk.before between.disk) (Rose turn.random.before between.words) base
      history asked own
  pub unasked : between.rotator ≡ turn.rotator.before
  pub later : NoneFell (counts_before turn) between
  pub round : Round
  pub rotated : Rotated replies base seat
      (record { history = history ++ by_seat seat own.marks; counts = between }) round
      (record { history = history ++ marked turn; counts = counts_after turn })
  pub reply : turn.reply ≡ own.reply
  pub told : turn.told ≡ told_both own.told (told_for round)

-- A message's turn by an account's only caller and the rotation turns behind it, from one local state to another, and
-- how the counts of the disk and of the rotator grew.
pub record TakesMessageRound (replies : Replies) (base : Base) (asked : Result Asked Why) (old new : LocalState)
    (disk rotator : Growth) (reply : Answered) : Type 0 where
  pub told : Told
  pub marks : List Mark
  pub readings : new.readings ≡ append_known old.readings told.readings
  pub drawn : new.drawn ≡ append_known old.drawn told.drawn
  pub turn : MessageRoundOf replies base old.seen asked (record {
    told = told;
    reply = reply;
    marks = marks;
    disk = disk;
    random = record { before = old.random; after = new.random };
    rotator = rotator;
  })
  pub stands : new.seen ≡ old.seen ++ by_seat seat marks

-- what some messages brought together
pub record Brought : Type 0 where
  pub told : Told
  pub replies : List Answered
  pub history : History
  pub disk : Growth
  pub random : Growth
  pub rotator : Growth

-- first one growth, and then the other
abbrev pub growth_both : Growth → Growth → Growth
growth_both a b = record { before = a.before; after = b.after }

-- what a turn and the messages after it brought
abbrev pub with_others : MessageRound → Brought → Brought
with_others turn others = record {
  told = told_both turn.told others.told;
  replies = turn.reply ∷ others.replies;
  history = marked turn ++ others.history;
  disk = growth_both turn.disk others.disk;
  random = growth_both turn.random others.random;
  rotator = growth_both turn.rotator others.rotator;
}

abbrev pub no_growth : ℕ → Growth
no_growth count = record { before = count; after = count }

-- no message brought anything, where the counts are these
abbrev pub brought_nothing : Counts → Brought
brought_nothing counts = record {
  told = nothing_told;
  replies = [];
  history = [];
  disk = no_growth counts.disk;
  random = no_growth counts.words;
  rotator = no_growth counts.rotator;
}

-- no count fell in a turn, and the rows that its marks make are sound
pub record GoesWell (base : Base) (history : History) (turn : MessageRound) : Type 0 where
  pub fell : NoneFell (counts_before turn) (counts_after turn)
  pub sound : Sound (replay base.rows (entries_in (history ++ marked turn)))

-- the counts before some messages
abbrev pub counts_first : Brought → Counts
counts_first brought =
    record { disk = brought.disk.before; words = brought.random.before; rotator = brought.rotator.before }

-- The messages one after the other, each at the history that those before it made, of these people, and with these
-- replies of the rotator.
abbrev pub MessageRounds : Replies → People → Base → History → List Message → Brought → Type 0
MessageRounds replies people base history [] brought = brought ≡ brought_nothing (counts_first brought)
MessageRounds replies people base history (message ∷ messages) brought =
    (turn : MessageRound) × (others : Brought)
    × MessageRoundOf replies base history (heard people message) turn
    × GoesWell base history turn
    × MessageRounds replies people base (history ++ marked turn) messages others
    × (counts_after turn ≡ counts_first others)
    × (brought ≡ with_others turn others)
