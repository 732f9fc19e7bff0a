-- How the account's state goes on when a request is handled.
use Rattle.std.proofs.Common.{◌≡◌, ℕ, Bool, true, false, Option, Some, None, refl, sym, ap, subst}
use Rattle.std.specs.Prelude.{◌+◌, nat_lt, if◌then◌else◌}
use Rattle.sm_base.specs.Outcomes.{OrMemory}
use Rattle.sm_base.specs.declared.moment.Moment.{Moment}
use Rattle.sm_disk.specs.declared.disk.Disk.{Ghosts}
use Rattle.sm_model.specs.declared.entry.Entry.{Entry as entries}
use Rattle.sm_base.specs.declared.limits.TheConstants.{ENTRIES_LIMIT}
use Rattle.sm_model.specs.declared.reply.Reply.{Reply}
use Rattle.sm_model.specs.declared.why.What.TheVariants.{Entries, JournalBytes}
use Rattle.sm_model.specs.declared.why.Why.{Why}
use Rattle.sm_model.specs.declared.why.Why.TheVariants.{Limit}
use Rattle.sm_judge_common.specs.declared.judged.Judged.{Judged}
use Rattle.sm_judge_common.specs.declared.judged.Judged.TheVariants as judged
use Rattle.sm_judge_common.specs.Judged.{judged_told}
use Rattle.sm_account.specs.declared.account_state.AccountState.{AccountState}
use Rattle.sm_account.specs.declared.entering.Entered.TheVariants as ends
use Rattle.sm_account.specs.declared.entering.Passed.{Passed}
use Rattle.sm_account.specs.declared.handled.Handled.{Handled}
use Rattle.sm_account.specs.declared.handled.Handled.TheVariants.{Answered, Refused, DiskFault, Memory}
use Rattle.sm_account.specs.AccountState.{state_in}
use Rattle.sm_account.specs.CallOutcomes.{Leaves, Nothing, Made, Failed}
use Rattle.sm_account.specs.Growing.{SameButRoom}
use Rattle.sm_account.specs.Handling.{Handles, handled_by}
use Rattle.sm_account.specs.Limits.{EntersAs, passed_at, why_passed}
use Rattle.sm_account.specs.Outcome.{Outcome, Refuses, Replies, Question, considered, entry_at, is_full, moment_at, limit_passed, outcome, outcome_judged, outcome_within}
use Rattle.sm_account.specs.States.{State, size_of}
use Rattle.sm_account.proofs.CallOutcomeLemmas.{nothing_done, behind_room}

module _ {D : Type 0} {G : Ghosts D} (inner : AccountState D G) (seat : ℕ) where
  -- nothing was done
  pub refused_as : (why : Why) → Handles G inner inner seat (Refused why) (Refuses why)
  refused_as why = record { answer = refl; leaves = nothing_done inner seat }

  pub read_as : (reply : Reply) → Handles G inner inner seat (Answered reply) (Replies reply None)
  read_as reply = record { answer = refl; leaves = nothing_done inner seat }

  pub wanted_memory : (wanted : Outcome) → Handles G inner inner seat Memory wanted
  wanted_memory wanted = record { answer = tt; leaves = nothing_done inner seat }

-- the limit that is passed is the cause of the refusal
limits_same : (state : State) (entry : entries) → limit_passed state entry ≡ why_passed (passed_at state entry)
limits_same state entry = by (is_full state) (nat_lt state.limit (state.bytes + size_of entry))
  where
    by : (a b : Bool)
        → (if a then Some (Limit ENTRIES_LIMIT Entries)
        else (if b then Some (Limit state.limit JournalBytes) else None))
        ≡ why_passed (if a then Some (record { limit = ENTRIES_LIMIT; what = Entries })
        else (if b then Some (record { limit = state.limit; what = JournalBytes }) else None))
    by true b = refl
    by false true = refl
    by false false = refl

-- an entry was made, or met a fault, or would have passed a limit
module _ {D : Type 0} {G : Ghosts D} (old new : AccountState D G) (seat : ℕ) (reply : Reply) (entry : entries) where
  there : (result : Handled)
      → Handles G old new seat result (outcome_within (why_passed (passed_at (state_in old) entry)) reply entry)
      → Handles G old new seat result (outcome_within (limit_passed (state_in old) entry) reply entry)
  there result handles =
      subst (λ limit. Handles G old new seat result (outcome_within limit reply entry))
      (sym (limits_same (state_in old) entry)) handles

  made_within : (passed : Option Passed) → EntersAs ends.Made passed → Leaves G old new seat (Made entry)
      → Handles G old new seat (Answered reply) (outcome_within (why_passed passed) reply entry)
  made_within None is leaves = record { answer = refl; leaves = leaves }
  made_within (Some passed) is leaves = absurd is

  faulted_within : (passed : Option Passed) → EntersAs ends.DiskFault passed → Leaves G old new seat (Failed entry)
      → Handles G old new seat DiskFault (outcome_within (why_passed passed) reply entry)
  faulted_within None is leaves = record { answer = tt; leaves = leaves }
  faulted_within (Some passed) is leaves = absurd is

  over_within : (over : Passed) (passed : Option Passed) → EntersAs (ends.Over over) passed
      → Leaves G old new seat Nothing
      → Handles G old new seat (Refused (Limit over.limit over.what))
      (outcome_within (why_passed passed) reply entry)
  over_within over None is leaves = absurd is
  over_within over (Some passed) is leaves =
      record { answer = ap (λ (p : Passed). Limit p.limit p.what) is; leaves = leaves }

  pub made_as : EntersAs ends.Made (passed_at (state_in old) entry) → Leaves G old new seat (Made entry)
      → Handles G old new seat (Answered reply) (outcome_within (limit_passed (state_in old) entry) reply entry)
  made_as is leaves = there (Answered reply) (made_within (passed_at (state_in old) entry) is leaves)

  pub faulted_as : EntersAs ends.DiskFault (passed_at (state_in old) entry) → Leaves G old new seat (Failed entry)
      → Handles G old new seat DiskFault (outcome_within (limit_passed (state_in old) entry) reply entry)
  faulted_as is leaves = there DiskFault (faulted_within (passed_at (state_in old) entry) is leaves)

  pub limited_as : (over : Passed) → EntersAs (ends.Over over) (passed_at (state_in old) entry)
      → Leaves G old new seat Nothing
      → Handles G old new seat (Refused (Limit over.limit over.what))
      (outcome_within (limit_passed (state_in old) entry) reply entry)
  limited_as over is leaves =
      there (Refused (Limit over.limit over.what)) (over_within over (passed_at (state_in old) entry) is leaves)

-- what was judged is the outcome
module _ (state : State) (q : Question) where
  model : Judged
  model = considered state.rows q.person (moment_at state q) q.drawn q.request

  so : (j : Judged) → OrMemory (judged_told j) (considered state.rows q.person (moment_at state q) q.drawn q.request)
      → (P : Outcome → Type 0)
      → (j ≡ judged.Memory → P (outcome state q)) → P (outcome_judged state (entry_at state q) j) → P (outcome state q)
  so (judged.Accept reply change) is P memory h =
      subst (λ m. P (outcome_judged state (entry_at state q) m)) is h
  so (judged.Refuse why) is P memory h = subst (λ m. P (outcome_judged state (entry_at state q) m)) is h
  so judged.Memory is P memory h = memory refl

-- the same of a judgement at the question's moment
pub judged_as : {D : Type 0} {G : Ghosts D} (inner : AccountState D G) (q : Question) (moment : Moment)
    → moment ≡ moment_at (state_in inner) q → (j : Judged)
    → OrMemory (judged_told j) (considered inner.table q.person moment q.drawn q.request) → (P : Outcome → Type 0)
    → (j ≡ judged.Memory → P (outcome (state_in inner) q))
    → P (outcome_judged (state_in inner) (entry_at (state_in inner) q) j) → P (outcome (state_in inner) q)
judged_as inner q moment is j told P memory h =
    so (state_in inner) q j
    (subst (λ m. OrMemory (judged_told j) (considered inner.table q.person m q.drawn q.request)) is told) P memory h

module _ {D : Type 0} {G : Ghosts D} (old mid new : AccountState D G) (seat : ℕ) (room : SameButRoom old mid) where
  -- room for a mark changes nothing that is told
  pub after_room : (result : Handled) (wanted : Outcome) → Handles G mid new seat result wanted
      → Handles G old new seat result wanted
  after_room result wanted h = record {
    answer = h.answer;
    leaves = behind_room old mid new seat room (handled_by result wanted) h.leaves;
  }
