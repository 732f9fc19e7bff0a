-- The entries of an account stay allowed.
use Rattle.std.proofs.Common.{◌≡◌, ℕ, List, [], ◌∷◌, ◌++◌, Option, IfSome, sym, ap, ◌∙◌, subst, append-nil, inl, inr}
use Rattle.sm_disk.specs.declared.disk.Disk.{Ghosts}
use Rattle.sm_model.specs.declared.entry.Entry.{Entry as entries}
use Rattle.sm_model.specs.declared.entry.Mark.TheVariants.{Entry, Claim, Fault}
use Rattle.sm_model.specs.declared.rows.Rows.{Rows}
use Rattle.sm_core.specs.Effects.{effect}
use Rattle.sm_core.specs.Histories.{replay}
use Rattle.sm_core.specs.Vouching.{EachAllowed}
use Rattle.sm_recovery.specs.Lawful.{made_of}
use Rattle.sm_rotation.specs.Vouched.{Replies}
use Rattle.sm_store.specs.Held.{Held}
use Rattle.sm_account.specs.declared.account_state.AccountState.{AccountState}
use Rattle.sm_account.specs.Allowed.{CallOutcomeAllowed, EntriesAllowed, IsAllowedAt}
use Rattle.sm_account.specs.AccountState.{Kept, base_in, history_in, state_in}
use Rattle.sm_account.specs.CallOutcomes.{CallOutcome, Nothing, Claimed, Made, Failed, FailedBy, Leaves, StaysBy, marks_by}
use Rattle.sm_account.specs.History.{by_seat, entries_in}
use Rattle.sm_account.specs.States.{State}
use Rattle.sm_account.proofs.StateLaws.{entries_more}

each_more : (replies : Replies) (rows : Rows) (made : List entries) (entry : entries) → EachAllowed replies rows made
    → IsAllowedAt replies (replay rows made) entry → EachAllowed replies rows (made ++ entry ∷ [])
each_more replies rows [] entry each allowed = (allowed, tt)
each_more replies rows (e ∷ made) entry each allowed =
    (each.0, each_more replies (effect rows e) made entry each.1 allowed)

module _ {D : Type 0} {G : Ghosts D} (replies : Replies) (old new : AccountState D G) (seat : ℕ) (kept : Kept G old)
    (allowed : EntriesAllowed replies old) where
  -- the entries of the history after a call
  made_by : (call_outcome : CallOutcome) → CallOutcomeAllowed replies old.table call_outcome
      → EachAllowed replies (base_in old).rows (entries_in (history_in old ++ by_seat seat (marks_by call_outcome)))
  made_by Nothing is =
      subst (λ h. EachAllowed replies (base_in old).rows (entries_in h)) (sym (append-nil (history_in old)))
      allowed.made
  made_by (Claimed arn at moment) is =
      subst (EachAllowed replies (base_in old).rows) (sym (entries_more (history_in old) seat (Claim arn at moment)
      ∙ append-nil (entries_in (history_in old)))) allowed.made
  made_by (Made entry) is =
      subst (EachAllowed replies (base_in old).rows) (sym (entries_more (history_in old) seat (Entry entry)))
      (each_more replies (base_in old).rows (entries_in (history_in old)) entry allowed.made
      (subst (λ rows. IsAllowedAt replies rows entry) (ap (λ (s : State). s.rows) kept.state) is))
  made_by (Failed entry) is =
      subst (EachAllowed replies (base_in old).rows) (sym (entries_more (history_in old) seat Fault
      ∙ append-nil (entries_in (history_in old)))) allowed.made

  -- the entry whose write failed last stays the same, at the same rows
  same_next : new.failed.value ≡ old.failed.value → state_in new ≡ state_in old
      → IfSome new.failed.value (IsAllowedAt replies new.table)
  same_next same state =
      subst (λ (f : Option entries). IfSome f (IsAllowedAt replies new.table)) (sym same)
      (subst (λ rows. IfSome old.failed.value (IsAllowedAt replies rows)) (sym (ap (λ (s : State). s.rows) state))
      allowed.next)

  next_by : (call_outcome : CallOutcome) → StaysBy call_outcome old new → FailedBy call_outcome old new
      → CallOutcomeAllowed replies old.table call_outcome → IfSome new.failed.value (IsAllowedAt replies new.table)
  next_by Nothing stays failed is = same_next failed stays.0
  next_by (Claimed arn at moment) stays failed is = same_next failed stays.0
  next_by (Made entry) stays failed is =
      subst (λ (f : Option entries). IfSome f (IsAllowedAt replies new.table)) (sym failed) tt
  next_by (Failed entry) stays failed is =
      elim failed [
        | inl same ↦ same_next same.0 stays
        | inr torn ↦
            subst (λ (f : Option entries). IfSome f (IsAllowedAt replies new.table)) (sym torn)
            (subst (λ rows. IsAllowedAt replies rows entry) (sym (ap (λ (s : State). s.rows) stays)) is)
      ]

  pub allowed_after : (call_outcome : CallOutcome) → Leaves G old new seat call_outcome
      → CallOutcomeAllowed replies old.table call_outcome → EntriesAllowed replies new
  allowed_after call_outcome leaves is = record {
    made =
        subst (λ (t : Held). EachAllowed replies (made_of t).rows (entries_in (history_in new)))
        (sym leaves.origin.taken)
        (subst (λ h. EachAllowed replies (base_in old).rows (entries_in h)) (sym leaves.history)
        (made_by call_outcome is));
    next = next_by call_outcome leaves.stays leaves.failed is;
  }
