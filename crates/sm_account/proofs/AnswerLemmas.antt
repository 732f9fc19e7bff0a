-- What an account answers to a request, and what that leaves, at its history.
use Rattle.std.proofs.Common.{◌≡◌, ℕ, ◌++◌, Option, Some, None, ap, ◌∙◌, subst}
use Rattle.std.proofs.Math.Logic.{∥∥₁_map}
use Rattle.sm_disk.specs.declared.disk.Disk.{Ghosts}
use Rattle.sm_judge_common.specs.declared.judged.Judged.{Judged}
use Rattle.sm_judge_common.specs.declared.judged.Judged.TheVariants.{Accept, Refuse, Memory}
use Rattle.sm_model.specs.declared.reply.Reply.{Reply}
use Rattle.sm_model.specs.declared.rows.Rows.{Rows}
use Rattle.sm_model.specs.declared.why.Why.{Why}
use Rattle.sm_rotation.specs.Vouched.{Replies as Relation}
use Rattle.sm_account.specs.declared.account_state.AccountState.{AccountState}
use Rattle.sm_account.specs.declared.handled.Handled.{Handled}
use Rattle.sm_account.specs.declared.handled.Handled.TheVariants as handled
use Rattle.sm_account.specs.Allowed.{CallOutcomeAllowed, EntriesAllowed, IsAllowedAt}
use Rattle.sm_account.specs.AccountState.{Kept, base_in, history_in, state_in}
use Rattle.sm_account.specs.CallOutcomes.{Leaves}
use Rattle.sm_account.specs.Handled.{HandledAs, marks_of}
use Rattle.sm_account.specs.Handling.{Handles, handled_by}
use Rattle.sm_account.specs.History.{by_seat}
use Rattle.sm_account.specs.Outcome.{Outcome, Refuses, Replies, Question, considered, entry_at, limit_passed, moment_at, outcome, outcome_judged, outcome_within}
use Rattle.sm_account.specs.States.{State, state_at}
use Rattle.sm_account.proofs.AllowedLemmas.{allowed_after}
use Rattle.sm_account.proofs.HandledLaws.{marks_so}

module _ (replies : Relation) (rows : Rows) where
  -- the entry of an outcome, if there is one, is allowed
  abbrev IfEntry : Outcome → Type 0
  IfEntry (Replies reply (Some entry)) = IsAllowedAt replies rows entry
  IfEntry (Replies reply None) = Unit {0}
  IfEntry (Refuses why) = Unit {0}

  call_outcome_allowed : (result : Handled) (wanted : Outcome) → IfEntry wanted
      → CallOutcomeAllowed replies rows (handled_by result wanted)
  call_outcome_allowed (handled.Answered reply) (Replies wanted (Some entry)) is = is
  call_outcome_allowed (handled.Answered reply) (Replies wanted None) is = tt
  call_outcome_allowed (handled.Answered reply) (Refuses why) is = tt
  call_outcome_allowed (handled.Refused why) wanted is = tt
  call_outcome_allowed handled.DiskFault (Replies wanted (Some entry)) is = is
  call_outcome_allowed handled.DiskFault (Replies wanted None) is = tt
  call_outcome_allowed handled.DiskFault (Refuses why) is = tt
  call_outcome_allowed handled.Memory wanted is = tt

  -- the entry of a request is allowed
  within_asked : (limit : Option Why) (reply : Reply) (state : State) (q : Question)
      → IfEntry (outcome_within limit reply (entry_at state q))
  within_asked (Some why) reply state q = tt
  within_asked None reply state q = tt

  judged_asked : (state : State) (q : Question) (judged : Judged)
      → IfEntry (outcome_judged state (entry_at state q) judged)
  judged_asked state q (Accept reply None) = tt
  judged_asked state q (Accept reply (Some change)) =
      within_asked (limit_passed state (entry_at state q)) reply state q
  judged_asked state q (Refuse why) = tt
  judged_asked state q Memory = tt

  pub request_allowed : (result : Handled) (state : State) (q : Question)
      → CallOutcomeAllowed replies rows (handled_by result (outcome state q))
  request_allowed result state q =
      call_outcome_allowed result (outcome state q)
      (judged_asked state q (considered state.rows q.person (moment_at state q) q.drawn q.request))

module _ {D : Type 0} {G : Ghosts D} (old new : AccountState D G) (seat : ℕ) (q : Question) (result : Handled)
    (kept : Kept G old) (h : Handles G old new seat result (outcome (state_in old) q)) where
  wanted : Outcome
  wanted = outcome (state_at (base_in old) (history_in old)) q

  told : Handles G old new seat result (outcome (state_at (base_in old) (history_in old)) q)
  told = subst (λ s. Handles G old new seat result (outcome s q)) kept.state h

  pub handled_told : HandledAs result (outcome (state_at (base_in old) (history_in old)) q)
  handled_told = told.answer

  pub history_told : history_in new
      ≡ history_in old ++ by_seat seat (marks_of result (outcome (state_at (base_in old) (history_in old)) q))
  history_told =
      told.leaves.history
      ∙ ap (λ marks. history_in old ++ by_seat seat marks)
      (marks_so result (outcome (state_at (base_in old) (history_in old)) q) told.answer)

  pub leaves_told : Leaves G old new seat (handled_by result (outcome (state_at (base_in old) (history_in old)) q))
  leaves_told = told.leaves

  pub allowed_told : (replies : Relation) → ∥ EntriesAllowed replies old ∥₁ → ∥ EntriesAllowed replies new ∥₁
  allowed_told replies allowed =
      ∥∥₁_map allowed (λ a. allowed_after replies old new seat kept a (handled_by result (outcome (state_in old) q))
      h.leaves (request_allowed replies old.table result (state_in old) q))
