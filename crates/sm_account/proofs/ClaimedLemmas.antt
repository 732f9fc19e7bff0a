-- The account's state once a step of a rotation was claimed.
use Rattle.std.proofs.Common.{◌≡◌, ℕ, ◌+◌, ◌≤◌, List, ◌++◌, ◌∷◌, [], Option, Some, None, IsSomeAnd, option_map, length, sym, ap, ◌∙◌, subst, append-nil, arith}
use Rattle.std.proofs.Math.Logic.{∥∥₁_map}
use Rattle.sm_base.specs.declared.moment.Moment.{Moment}
use Rattle.sm_disk.specs.declared.disk.Disk.{Ghosts}
use Rattle.sm_model.specs.declared.entry.Mark.TheVariants.{Claim}
use Rattle.sm_model.specs.declared.rows.Job.{Job}
use Rattle.sm_model.specs.declared.rows.Rows.{Rows}
use Rattle.sm_model.specs.declared.rows.SecretRow.{SecretRow}
use Rattle.sm_claims.specs.declared.claims.Claim.{Claim as live}
use Rattle.sm_claims.specs.Ready.{first_ready}
use Rattle.sm_claims.specs.LiveClaims.{claim_mark, claim_marks, live_claims_with}
use Rattle.sm_claims.proofs.LiveClaimLemmas.{ready_alike}
use Rattle.sm_claims.specs.Works.{AreWorkOf, IsWorkOf, IsWorkOfJob}
use Rattle.sm_rotation.specs.Step.{at_of}
use Rattle.sm_rotator.specs.declared.work.Work.{Work}
use Rattle.sm_recovery.specs.Lawful.{IsLawful, MayFollowIf}
use Rattle.sm_store.specs.Stores as stores
use Rattle.sm_store.specs.Held.{Held}
use Rattle.sm_account.specs.declared.account_state.AccountState.{AccountState}
use Rattle.sm_account.specs.declared.next_work.NextWork.TheVariants as works
use Rattle.sm_account.specs.AccountState.{FaultsBound, Kept, all_held, base_in, disk_in, history_in, with_entries}
use Rattle.sm_account.specs.Claims.{ClaimsReady, ClaimsReadyStep, ClaimsStand, IsAtStep}
use Rattle.sm_account.specs.History.{entries_in, faults_in}
use Rattle.sm_account.specs.NextWork.{NextAs, claim_by}
use Rattle.sm_account.specs.States.{State, state_at}
use Rattle.sm_account.proofs.ClaimLaws.{claims_more}
use Rattle.sm_account.proofs.StandLemmas.{counted_more, stand_claimed}
use Rattle.sm_account.proofs.StateLaws.{entries_more, faults_more, state_claimed}

-- a work of a secret is of the step that the secret's job is at
at_step : (row : SecretRow) (work : Work) (job : Option Job) → row.job ≡ job
    → IsSomeAnd job (λ j. IsWorkOfJob row j work) → IsAtStep work.arn work.at row
at_step row work None its is = absurd is
at_step row work (Some job) its is = (sym is.arn, ap (option_map at_of) its ∙ ap Some (sym is.at))

of_ready : (ready : Option SecretRow) (work : Work) → IsSomeAnd ready (λ row. IsWorkOf row work)
    → IsSomeAnd ready (IsAtStep work.arn work.at)
of_ready None work is = absurd is
of_ready (Some row) work is = at_step row work row.job (λ i. row.job) is

-- there is a work exactly where a step is ready
pub work_is : (found : Option SecretRow) (ready : Option Work) (work : Work) → ready ≡ Some work
    → AreWorkOf found ready
    → IsSomeAnd found (λ row. IsWorkOf row work)
work_is found ready work some are = of found (subst (AreWorkOf found) some are)
  where
    of : (found : Option SecretRow) → AreWorkOf found (Some work) → IsSomeAnd found (λ row. IsWorkOf row work)
    of None are = absurd are
    of (Some row) are = are

pub next_is : (found : Option SecretRow) (work : Work) → IsSomeAnd found (λ row. IsWorkOf row work)
    → NextAs (works.Work work) found
next_is None work is = absurd is
next_is (Some row) work is = is

pub none_is : (found : Option SecretRow) (ready : Option Work) → ready ≡ None → AreWorkOf found ready
    → NextAs works.None found
none_is found ready none are = of found (subst (AreWorkOf found) none are)
  where
    of : (found : Option SecretRow) → AreWorkOf found None → NextAs works.None found
    of None are = tt
    of (Some row) are = absurd are

-- what is ready by the claims that stand is ready by the history
pub ready_same : {D : Type 0} {G : Ghosts D} (inner : AccountState D G) (kept : Kept G inner) (moment : Moment)
    (claims : List live) → claims ≡ inner.claims.items → inner.last.0 ≤ moment.0
    → first_ready (claim_marks claims) moment inner.table.secrets
    ≡ first_ready (history_in inner) moment inner.table.secrets
ready_same inner kept moment claims are later =
    ap (λ cs. first_ready (claim_marks cs) moment inner.table.secrets) are
    ∙ sym (ready_alike (history_in inner) (claim_marks inner.claims.items) moment
    (λ arn job. kept.stand arn job moment later) inner.table.secrets)

module _ {D : Type 0} {G : Ghosts D} (old new : AccountState D G) (seat : ℕ) (work : Work) (moment : Moment)
    (rest : new ≡ record old { claims = new.claims; told = new.told; marks = new.marks })
    (history : history_in new ≡ history_in old ++ (seat, Claim work.arn work.at moment) ∷ [])
    (counted : new.marks ≡ old.marks + 1)
    (added : new.claims.items
    ≡ live_claims_with old.claims.items (claim_by work moment) old.last)
    (kept : Kept G old)
    (ready : IsSomeAnd (first_ready (history_in old) moment old.table.secrets) (λ row. IsWorkOf row work)) where
  all_is : all_held (record old { claims = new.claims; told = new.told; marks = new.marks }) ≡ all_held old
  all_is =
      ap (λ h. with_entries old.taken.value (entries_in h)) history
      ∙ ap (λ es. with_entries old.taken.value es) (entries_more (history_in old) seat (Claim work.arn work.at moment)
      ∙ append-nil (entries_in (history_in old)))

  claims : ∥ ClaimsReady (base_in old) (history_in new) ∥₁
  claims =
      let step : ClaimsReadyStep (base_in old) (history_in old) (Claim work.arn work.at moment) =
      subst (λ (rows : Rows). IsSomeAnd (first_ready (history_in old) moment rows.secrets) (IsAtStep work.arn work.at))
      (ap (λ (s : State). s.rows) kept.state)
      (of_ready (first_ready (history_in old) moment old.table.secrets) work ready) in
      subst (λ h. ∥ ClaimsReady (base_in old) h ∥₁) (sym history)
      (∥∥₁_map kept.claims (λ c. claims_more (base_in old) [] (history_in old) seat
      (Claim work.arn work.at moment) c step))

  stand : ClaimsStand (history_in new) new.claims.items old.last
  stand =
      subst (λ h. ClaimsStand h new.claims.items old.last) (sym history)
      (subst
      (λ claims. ClaimsStand (history_in old ++ (seat, claim_mark (claim_by work moment)) ∷ []) claims old.last)
      (sym added)
      (stand_claimed (history_in old) old.claims.items old.last seat kept.stand (claim_by work moment)))

  no_more : faults_in (history_in new) ≡ faults_in (history_in old) + 0
  no_more = ap faults_in history ∙ faults_more (history_in old) seat (Claim work.arn work.at moment)

  faults : FaultsBound (G.faults old.began.value) (history_in new) (G.faults (disk_in old))
  faults = omega (arith, no_more, kept.faults)

  pub claimed_kept : Kept G new
  claimed_kept =
      let same : Kept G (record old { claims = new.claims; told = new.told; marks = new.marks }) = record {
        sound = kept.sound;
        bound = kept.bound;
        within = kept.within;
        based = kept.based;
        whole = kept.whole ∙ sym (ap (λ (h : Held). h.entries) all_is);
        counted = counted
            ∙ counted_more (history_in old) seat (Claim work.arn work.at moment) old.marks kept.counted
            ∙ ap length (sym history);
        limit = kept.limit;
        under = kept.under;
        second = kept.second;
        state = kept.state ∙ sym (state_claimed (base_in old) (history_in old) seat work.arn work.at moment)
            ∙ ap (state_at (base_in old)) (sym history);
        sure = kept.sure;
        holds = subst (λ all. stores.Holds old.store all old.failed.value) (sym all_is) kept.holds;
        lawful = subst (λ all. ∥ IsLawful all ∥₁) (sym all_is) kept.lawful;
        next = subst (λ all. ∥ MayFollowIf all old.failed.value ∥₁) (sym all_is) kept.next;
        told = omega (arith, no_more, kept.told);
        faults = faults;
        claims = claims;
        stand = stand;
      } in
      subst (Kept G) (sym rest) same
