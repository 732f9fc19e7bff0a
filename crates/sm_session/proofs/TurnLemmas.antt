-- What one message brings.
use Rattle.std.proofs.Common.{◌≡◌, ◌⊎◌, ◌<◌, ℕ, List, [], ◌∷◌, length, Option, Some, None, Result, Ok, Err, refl, sym, ap, ◌∙◌, inl, inr, subst}
use Rattle.sm_model.specs.declared.entry.Mark.{Mark}
use Rattle.sm_model.specs.declared.reply.Reply.{Reply}
use Rattle.sm_model.specs.declared.why.Why.{Why}
use Rattle.sm_model.specs.declared.why.Why.TheVariants as whys
use Rattle.sm_model.specs.Needed.{needed}
use Rattle.sm_account.specs.Handled.{HandledAs, entry_mark, marks_of, OnDiskFault}
use Rattle.sm_account.specs.Outcome.{Outcome, Refuses, Replies}
use Rattle.sm_account.specs.States.{Base}
use Rattle.sm_account.specs.declared.handled.Handled.{Handled}
use Rattle.sm_account.specs.declared.handled.Handled.TheVariants as handled
use Rattle.sm_reply.specs.Shown.{Answered, shown, refused}
use Rattle.sm_account.specs.SeatTraces.{History}
use Rattle.sm_session.specs.declared.said.Said.{Said}
use Rattle.sm_session.specs.declared.said.Said.TheVariants.{Memory}
use Rattle.sm_session.specs.Answer.{Asked, Answer, answer_of, answer_asked}
use Rattle.sm_session.specs.Replies.{Says, SaysHandled, unavailable, reply_of}
use Rattle.sm_session.specs.Turns.{Turn, entry_marks, IsGiven, LeavesFault, IsDiskFault, IsLost, AnswersBy, Reached, RandomFailed, NoMemoryFirst, IsTurn}
use Rattle.sm_session.specs.Told.{nothing_told, told_once}
use Rattle.sm_session.proofs.ReplyLemmas.{reply_said}

entry_mark-is : (wanted : Outcome) → entry_mark wanted ≡ entry_marks (answer_of wanted).entry
entry_mark-is (Replies reply None) = refl
entry_mark-is (Replies reply (Some entry)) = refl
entry_mark-is (Refuses why) = refl

module _ (Cause : Type 0) (said : Said) where
  -- the marks are the answer's
  made : (answer : Answer) (marks : List Mark) → Says said answer.reply → marks ≡ entry_marks answer.entry
      → AnswersBy Cause answer (reply_of said) marks
  made answer marks is are =
      elim (reply_said said answer.reply is) [ inl e ↦ inl (e, are) | inr e ↦ inr (inr (e, inl are)) ]

  -- the disk failed
  faulted : (answer : Answer) (marks : List Mark) → Says said (refused whys.DiskFault)
      → LeavesFault Cause answer (reply_of said) marks → AnswersBy Cause answer (reply_of said) marks
  faulted answer marks is fault =
      elim (reply_said said (refused whys.DiskFault) is) [
        | inl e ↦ inr (inl (e, fault))
        | inr e ↦ inr (inr (e, inr (inl fault)))
      ]

  -- what an account answers, by what the model does
  pub answered_by : (answered : Handled) (wanted : Outcome) → HandledAs answered wanted → OnDiskFault answered Cause
      → SaysHandled answered said → AnswersBy Cause (answer_of wanted) (reply_of said) (marks_of answered wanted)
  answered_by (handled.Answered reply) (Replies wanted entry) is rose says =
      made (answer_of (Replies wanted entry)) (entry_mark (Replies wanted entry))
      (subst (λ (r : Reply). Says said (shown r)) is says) (entry_mark-is (Replies wanted entry))
  answered_by (handled.Answered reply) (Refuses why) is rose says = absurd is
  answered_by (handled.Refused why) (Refuses wanted) is rose says =
      made (answer_of (Refuses wanted)) [] (subst (λ (w : Why). Says said (refused w)) is says) refl
  answered_by (handled.Refused why) (Replies reply entry) is rose says = absurd is
  answered_by handled.DiskFault (Replies reply (Some entry)) is rose says =
      faulted (answer_of (Replies reply (Some entry))) _ says (refl, rose, refl)
  answered_by handled.DiskFault (Replies reply None) is rose says = absurd is
  answered_by handled.DiskFault (Refuses why) is rose says = absurd is
  answered_by handled.Memory wanted is rose says = inr (inr (ap reply_of says, inr (inr refl)))

-- the turn of a reply for which nothing was told and nothing made
abbrev pub untouched : Answered → Turn
untouched reply = record { told = nothing_told; reply = reply; marks = [] }

module _ (Disk Random : Type 0) (base : Base) (history : History) where
  -- a message that was refused
  pub refused_turn : (why : Why) (said : Said) → Says said (refused why)
      → IsTurn Disk Random base history (Err why) (untouched (reply_of said))
  refused_turn why said is = ((refl, refl), reply_said said (refused why) is)

  -- a message for which there was no memory before anything was told
  pub forgotten_turn : (wanted : Result Asked Why) → IsTurn Disk Random base history wanted (untouched unavailable)
  forgotten_turn (Err why) = ((refl, refl), inr refl)
  forgotten_turn (Ok asked) = inr (inr ((refl, refl), refl))

  module _ (asked : Asked) where
    -- the random source failed
    pub failed_turn : (said : Said) → 0 < needed asked.request → Random → Says said (refused whys.RandomFault)
        → IsTurn Disk Random base history (Ok asked) (untouched (reply_of said))
    failed_turn said wanted cause is =
        elim (reply_said said (refused whys.RandomFault) is) [
          | inl e ↦ inr (inl (wanted, cause, (refl, refl), e))
          | inr e ↦ inr (inr ((refl, refl), e))
        ]

    -- the request reached the account
    pub reached_turn : (now : ℕ) (bytes drawn : List ℕ) (reply : Answered) (marks : List Mark) → drawn ≡ bytes
        → length bytes ≡ needed asked.request
        → AnswersBy Disk (answer_asked base history now drawn asked) reply marks
        → IsTurn Disk Random base history (Ok asked)
        (record { told = told_once now bytes; reply = reply; marks = marks })
    reached_turn now bytes drawn reply marks same size by = inl (record {
      answer = answer_asked base history now bytes asked;
      at = record { now = now; reading = refl; bytes = size; is = refl };
      by = subst (λ d. AnswersBy Disk (answer_asked base history now d asked) reply marks) same by;
    })

-- causes may be said more weakly
module _ (answer : Answer) (reply : Answered) (marks : List Mark) (Cause Weaker : Type 0) (weaker : Cause → Weaker)
  where
    fault_weaker : LeavesFault Cause answer reply marks → LeavesFault Weaker answer reply marks
    fault_weaker fault = (fault.0, weaker fault.1, fault.2)

    pub answers_weaker : AnswersBy Cause answer reply marks → AnswersBy Weaker answer reply marks
    answers_weaker (inl given) = inl given
    answers_weaker (inr (inl fault)) = inr (inl (fault.0, fault_weaker fault.1))
    answers_weaker (inr (inr lost)) =
        inr (inr (
          lost.0,
          elim lost.1 [
            | inl made ↦ inl made
            | inr (inl fault) ↦ inr (inl (fault_weaker fault))
            | inr (inr unmade) ↦ inr (inr unmade)
          ],
        ))

pub turn_weaker : (Disk Disk' Random Random' : Type 0) → (Disk → Disk') → (Random → Random') → (base : Base)
    (history : History) (wanted : Result Asked Why) (turn : Turn) → IsTurn Disk Random base history wanted turn
    → IsTurn Disk' Random' base history wanted turn
turn_weaker Disk Disk' Random Random' disk random base history (Err why) turn t = t
turn_weaker Disk Disk' Random Random' disk random base history (Ok asked) turn (inl r) =
    inl (record {
      answer = r.answer;
      at = r.at;
      by = answers_weaker r.answer turn.reply turn.marks Disk Disk' disk r.by;
    })
turn_weaker Disk Disk' Random Random' disk random base history (Ok asked) turn (inr (inl f)) =
    inr (inl (f.0, random f.1, f.2, f.3))
turn_weaker Disk Disk' Random Random' disk random base history (Ok asked) turn (inr (inr n)) = inr (inr n)
