-- What becomes of a question at the account, by how it was judged.
use Rattle.std.proofs.Common.{◌≡◌, ℕ, max, Option, Some, None, sym, ap, ◌∙◌, subst}
use Rattle.sm_base.specs.Outcomes.{OrMemory}
use Rattle.sm_base.specs.declared.moment.Moment.{Moment}
use Rattle.sm_disk.specs.declared.disk.Disk.{Ghosts}
use Rattle.sm_model.specs.declared.entry.Change.{Change}
use Rattle.sm_model.specs.declared.entry.Entry.{Entry}
use Rattle.sm_model.specs.declared.reply.Reply.{Reply}
use Rattle.sm_model.specs.declared.why.Why.{Why}
use Rattle.sm_judge_common.specs.Judged.{judged_told, IfChange}
use Rattle.sm_judge_common.specs.declared.judged.Judged.TheVariants as judged
use Rattle.sm_account.specs.declared.account_state.AccountState.{AccountState}
use Rattle.sm_account.specs.declared.due.Due.{Due}
use Rattle.sm_account.specs.declared.handled.Handled.{Handled}
use Rattle.sm_account.specs.declared.handled.Handled.TheVariants.{Answered, Refused}
use Rattle.sm_account.specs.AccountState.{state_in}
use Rattle.sm_account.specs.Growing.{SameButRoom}
use Rattle.sm_account.specs.Handling.{Handles}
use Rattle.sm_account.specs.Outcome.{Outcome, Question, asked_entry, considered, entry_at, limit_passed, moment_at, outcome, outcome_due, outcome_within}
use Rattle.sm_account.specs.States.{State}
use Rattle.sm_account.proofs.HandleLemmas.{after_room, judged_as, read_as, refused_as}
use Rattle.sm_account.proofs.RoomLemmas.{same_state}

-- a fact of the change that there is
pub of_change : (reply : Reply) (change : Option Change) (made : Change) → change ≡ Some made → (P : Change → Type 0)
    → IfChange (judged.Accept reply change) P → P made
of_change reply change made is P h = subst (λ c. IfChange (judged.Accept reply c) P) is h

module _ {D : Type 0} {G : Ghosts D} (inner : AccountState D G) (seat : ℕ) (q : Question) (n : ℕ)
    (is : n ≡ max inner.last.0 q.now.0) where
  at : record { 0 = n } ≡ moment_at (state_in inner) q
  at = let of : ℕ → Moment = λ k. record { 0 = k } in ap of is

  -- it was accepted, and changes nothing
  pub read_so : (reply : Reply) (change : Option Change) → change ≡ None
      → OrMemory (judged_told (judged.Accept reply change))
      (considered inner.table q.person (record { 0 = n }) q.drawn q.request)
      → Handles G inner inner seat (Answered reply) (outcome (state_in inner) q)
  read_so reply change none told =
      judged_as inner q (record { 0 = n }) at (judged.Accept reply change) told
      (λ w. Handles G inner inner seat (Answered reply) w) (λ never. absurd (cc))
      (subst
      (λ c. Handles G inner inner seat (Answered reply)
      (outcome_due (state_in inner) (entry_at (state_in inner) q) reply c))
      (sym none) (read_as inner seat reply))

  -- it was refused
  pub refused_so : (why : Why)
      → OrMemory (judged_told (judged.Refuse why))
      (considered inner.table q.person (record { 0 = n }) q.drawn q.request)
      → Handles G inner inner seat (Refused why) (outcome (state_in inner) q)
  refused_so why told =
      judged_as inner q (record { 0 = n }) at (judged.Refuse why) told
      (λ w. Handles G inner inner seat (Refused why) w) (λ never. absurd (cc)) (refused_as inner seat why)

  -- it was accepted, and its entry was made, or passed a limit, or met a fault, where there was room for its mark
  pub made_so : (mid new : AccountState D G) (room : SameButRoom inner mid) (due : Due) (reply : Reply)
      (change : Option Change) (made : Change) → change ≡ Some made
      → OrMemory (judged_told (judged.Accept reply change))
      (considered inner.table q.person (record { 0 = n }) q.drawn q.request)
      → due.entry ≡ asked_entry (record { 0 = n }) q.person q.drawn q.request → (result : Handled)
      → Handles G mid new seat result (outcome_within (limit_passed (state_in mid) due.entry) reply due.entry)
      → Handles G inner new seat result (outcome (state_in inner) q)
  made_so mid new room due reply change made some told entry result handles =
      let within : State → Entry → Outcome = λ s e. outcome_within (limit_passed s e) reply e in
      let behind : Handles G inner new seat result (within (state_in mid) due.entry) =
      after_room inner mid new seat room result (within (state_in mid) due.entry) handles in
      let entry_is : due.entry ≡ entry_at (state_in inner) q =
      entry ∙ ap (λ m. asked_entry m q.person q.drawn q.request) at in
      let stated : Handles G inner new seat result (within (state_in inner) (entry_at (state_in inner) q)) =
      subst (λ e. Handles G inner new seat result (within (state_in inner) e)) entry_is
      (subst (λ s. Handles G inner new seat result (within s due.entry)) (same_state inner mid room) behind) in
      judged_as inner q (record { 0 = n }) at (judged.Accept reply change) told
      (λ w. Handles G inner new seat result w) (λ never. absurd (cc))
      (subst
      (λ c. Handles G inner new seat result (outcome_due (state_in inner) (entry_at (state_in inner) q) reply c))
      (sym some) stated)
