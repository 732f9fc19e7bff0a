-- One message's turn behind those of others.
use Rattle.std.proofs.Common.{◌≡◌, ◌≤◌, ℕ, List, [], ◌∷◌, ◌++◌, Result, refl, sym, ap, ◌∙◌, subst, arith, append-nil, append_assoc}
use Rattle.std.specs.Io.KnownBytes.{append_known}
use Rattle.sm_model.specs.declared.entry.Mark.{Mark}
use Rattle.sm_model.specs.declared.why.Why.{Why}
use Rattle.sm_base.specs.Faults.{Rose}
use Rattle.sm_account.specs.History.{by_seat}
use Rattle.sm_account.specs.States.{Base}
use Rattle.sm_http.specs.Messages.{Message}
use Rattle.sm_pool.specs.Rounds.{Counts, Point, Rotated, Round, courses_in, drawn_in, marks_of, readings_in}
use Rattle.sm_pool.proofs.RoundLemmas.{marked_more, rotated_marks}
use Rattle.sm_principal.specs.declared.people.People.{People}
use Rattle.sm_reply.specs.Shown.{Answered}
use Rattle.sm_rotation.specs.Vouched.{Replies}
use Rattle.sm_account.specs.SeatTraces.{History}
use Rattle.sm_io.proofs.Known.{told_more}
use Rattle.sm_session.specs.Answer.{Asked, heard}
use Rattle.sm_session.specs.Sessions.{LocalState, TakesTurnAlone}
use Rattle.sm_session.specs.Told.{Told, nothing_told, told_both}
use Rattle.sm_session.specs.Turns as sessions
use Rattle.sm_server.specs.MessageRounds.{seat, TakesMessageRound, MessageRound, MessageRoundOf, marked, told_for, counts_before, counts_after, counts_first, Brought, growth_both, with_others, brought_nothing, GoesWell, MessageRounds}

-- what some messages and a turn after them brought
abbrev pub with_last : Brought → MessageRound → Brought
with_last brought turn = record {
  told = told_both brought.told turn.told;
  replies = brought.replies ++ turn.reply ∷ [];
  history = brought.history ++ marked turn;
  disk = growth_both brought.disk turn.disk;
  random = growth_both brought.random turn.random;
  rotator = growth_both brought.rotator turn.rotator;
}

-- the counts behind some messages
abbrev pub counts_last : Brought → Counts
counts_last brought =
    record { disk = brought.disk.after; words = brought.random.after; rotator = brought.rotator.after }

told_assoc : (a b c : Told) → told_both (told_both a b) c ≡ told_both a (told_both b c)
told_assoc a b c =
    let of : List ℕ → List ℕ → Told = λ readings drawn. record { readings = readings; drawn = drawn } in
    ap (λ r. of r (a.drawn ++ b.drawn ++ c.drawn)) (append_assoc a.readings b.readings c.readings)
    ∙ ap (of (a.readings ++ (b.readings ++ c.readings))) (append_assoc a.drawn b.drawn c.drawn)

told_nothing : (a : Told) → told_both a nothing_told ≡ a
told_nothing a =
    let of : List ℕ → List ℕ → Told = λ readings drawn. record { readings = readings; drawn = drawn } in
    ap (λ r. of r (a.drawn ++ [])) (append-nil a.readings) ∙ ap (of a.readings) (append-nil a.drawn)

module _ (turn : MessageRound) where
  -- the turn behind nothing
  abbrev alone_with : Told → List (ℕ × Mark) → Brought
  alone_with told history = record {
    told = told;
    replies = turn.reply ∷ [];
    history = history;
    disk = turn.disk;
    random = turn.random;
    rotator = turn.rotator;
  }

  alone : (counts : Counts) → counts ≡ counts_before turn
      → with_last (brought_nothing counts) turn ≡ with_others turn (brought_nothing (counts_after turn))
  alone counts same =
      ap (λ c. with_last (brought_nothing c) turn) same
      ∙ ap (λ told. alone_with told (marked turn)) (sym (told_nothing turn.told))
      ∙ ap (alone_with (told_both turn.told nothing_told)) (sym (append-nil (marked turn)))

  behind : (first : MessageRound) (others : Brought) → with_last (with_others first others) turn
      ≡ with_others first (with_last others turn)
  behind first others =
      let of : Told → List (ℕ × Mark) → Brought
      = λ told history. record {
        told = told;
        replies = first.reply ∷ (others.replies ++ turn.reply ∷ []);
        history = history;
        disk = growth_both first.disk turn.disk;
        random = growth_both first.random turn.random;
        rotator = growth_both first.rotator turn.rotator;
      } in
      ap (λ told. of told ((marked first ++ others.history) ++ marked turn))
      (told_assoc first.told others.told turn.told)
      ∙ ap (of (told_both first.told (told_both others.told turn.told)))
      (append_assoc (marked first) others.history (marked turn))

  module _ (replies : Replies) (people : People) (base : Base) (m : Message) where
    -- one turn more
    pub turns_more : (history : List (ℕ × Mark)) (messages : List Message) (brought : Brought)
        → MessageRoundOf replies base (history ++ brought.history) (heard people m) turn
        → counts_last brought ≡ counts_before turn
        → GoesWell base (history ++ brought.history) turn
        → MessageRounds replies people base history messages brought
        → MessageRounds replies people base history (messages ++ m ∷ []) (with_last brought turn)
    turns_more history [] brought turned next well is =
        let nil : history ++ brought.history ≡ history =
        ap (λ (b : Brought). history ++ b.history) is ∙ append-nil history in
        let same : counts_first brought ≡ counts_before turn = sym (ap counts_last is) ∙ next in (
          turn,
          brought_nothing (counts_after turn),
          subst (λ h. MessageRoundOf replies base h (heard people m) turn) nil turned,
          subst (λ h. GoesWell base h turn) nil well,
          refl,
          refl,
          ap (λ (b : Brought). with_last b turn) is ∙ alone (counts_first brought) same,
        )
    turns_more history (n ∷ messages) brought turned next well (first, others, turned_first, goes, more, follows, is) =
        let same : history ++ brought.history ≡ (history ++ marked first) ++ others.history =
        ap (λ (b : Brought). history ++ b.history) is ∙ sym (append_assoc history (marked first) others.history) in (
          first,
          with_last others turn,
          turned_first,
          goes,
          turns_more (history ++ marked first) messages others
              (subst (λ h. MessageRoundOf replies base h (heard people m) turn) same turned)
              (sym (ap counts_last is) ∙ next)
              (subst (λ h. GoesWell base h turn) same well) more,
          follows,
          ap (λ (b : Brought). with_last b turn) is ∙ behind first others,
        )

-- a message's own part, by what an account's only caller did, and then rotation turns
module _ (replies : Replies) (base : Base) (asked : Result Asked Why) (old mid : LocalState) (reply : Answered)
    (disk disk' rotator : ℕ) (t : TakesTurnAlone (Rose disk disk') (record { base = base; seat = seat }) asked old mid
    reply) where
  abbrev own : sessions.Turn
  own = record { told = t.told; reply = reply; marks = t.marks }

  abbrev between : Counts
  between = record { disk = disk'; words = mid.random; rotator = rotator }

  answered : sessions.IsTurn (Rose disk disk') (Rose old.random mid.random) base old.seen asked own
  answered =
      subst (λ h. sessions.IsTurn (Rose disk disk') (Rose old.random mid.random) base h asked own) t.gap t.right

  grew : mid.seen ≡ old.seen ++ by_seat seat t.marks
  grew = t.stands ∙ ap (λ h. h ++ by_seat seat t.marks) t.gap

  -- where the base is still that, and these were the rotation turns
  pub turns_of : (new : LocalState) (disk'' rotator' : ℕ) (round : Round) (base' : Base) → base' ≡ base → disk ≤ disk'
      → new.readings ≡ append_known mid.readings (readings_in (courses_in round))
      → new.drawn ≡ append_known mid.drawn (drawn_in (courses_in round))
      → Rotated replies base' seat (record { history = mid.seen; counts = between }) round
      (record { history = new.seen; counts = record { disk = disk''; words = new.random; rotator = rotator' } })
      → TakesMessageRound replies base asked old new (record { before = disk; after = disk'' })
      (record { before = rotator; after = rotator' }) reply
  turns_of new disk'' rotator' round base' same later readings drawn turns =
      let own_history : History = old.seen ++ by_seat seat t.marks in
      let from : History → Point = λ h. record { history = h; counts = between } in
      let to : History → Point
      = λ h. record { history = h; counts = record { disk = disk''; words = new.random; rotator = rotator' } } in
      let rotated : Rotated replies base seat (from own_history) round (to new.seen) =
      subst (λ h. Rotated replies base seat (from h) round (to new.seen)) grew
      (subst (λ (b : Base). Rotated replies b seat (from mid.seen) round (to new.seen)) same turns) in
      let stands : new.seen ≡ old.seen ++ by_seat seat (t.marks ++ marks_of round) =
      rotated_marks replies base seat (from own_history) round (to new.seen) rotated
      ∙ marked_more seat old.seen t.marks (marks_of round) in
      record {
        told = told_both t.told (told_for round);
        marks = t.marks ++ marks_of round;
        readings = told_more old.readings mid.readings new.readings t.told.readings (readings_in (courses_in round))
            t.readings readings;
        drawn = told_more old.drawn mid.drawn new.drawn t.told.drawn (drawn_in (courses_in round)) t.drawn drawn;
        turn = record {
          own = own;
          between = between;
          answered = answered;
          unasked = refl;
          later = record { disk = later; words = t.later; rotator = omega arith };
          round = round;
          rotated = subst (λ h. Rotated replies base seat (from own_history) round (to h)) stands rotated;
          reply = refl;
          told = refl;
        };
        stands = stands;
      }
