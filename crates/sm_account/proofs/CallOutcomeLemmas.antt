-- What calls leave of the account's state.
use Rattle.std.proofs.Common.{◌≡◌, ◌⊎◌, ℕ, ◌≤◌, [], ◌∷◌, ◌++◌, List, Option, Some, None, is_some, IsSome, false, inl, inr, refl, sym, ap, ◌∙◌, subst, append-nil, arith}
use Rattle.sm_base.specs.Faults.{Rose}
use Rattle.sm_base.specs.declared.moment.Moment.{Moment}
use Rattle.sm_disk.specs.declared.disk.Disk.{Ghosts}
use Rattle.sm_model.specs.declared.entry.At.{At}
use Rattle.sm_model.specs.declared.entry.Entry.{Entry as entries}
use Rattle.sm_model.specs.declared.entry.Mark.TheVariants.{Entry, Claim, Fault}
use Rattle.sm_account.specs.declared.account_state.AccountState.{AccountState}
use Rattle.sm_account.specs.AccountState.{SameOrigin, all_held, disk_in, history_in, state_in}
use Rattle.sm_account.specs.Crashes.{Throughout}
use Rattle.sm_account.specs.CallOutcomes.{CallOutcome, Nothing, Claimed, Made, Failed, FailedBy, IfFailed, Leaves, LeavesTried, StaysBy, tried_by}
use Rattle.sm_account.specs.Growing.{SameButRoom}

-- nothing was done
pub nothing_done : {D : Type 0} {G : Ghosts D} (inner : AccountState D G) (seat : ℕ) → Leaves G inner inner seat Nothing
nothing_done inner seat = record {
  history = sym (append-nil (history_in inner));
  origin = record { taken = refl; began = refl; limit = refl };
  stays = (refl, refl);
  failed = refl;
  any_moment = refl;
  later = omega arith;
  fault = tt;
  no_other = refl;
}

-- only room was taken
module _ {D : Type 0} {G : Ghosts D} (old new : AccountState D G) (seat : ℕ)
    (rest : new ≡ record old { entries = new.entries; claims = new.claims }) where
  pub room_taken : Leaves G old new seat Nothing
  room_taken = record {
    history = ap history_in rest ∙ sym (append-nil (history_in old));
    origin = record {
      taken = ap (λ (b : AccountState D G). b.taken.value) rest;
      began = ap (λ (b : AccountState D G). b.began.value) rest;
      limit = ap (λ (b : AccountState D G). b.limit) rest;
    };
    stays = (ap state_in rest, ap (λ (b : AccountState D G). b.store) rest);
    failed = ap (λ (b : AccountState D G). b.failed.value) rest;
    any_moment = ap (λ (b : AccountState D G). b.store) rest;
    later = omega (arith, ap (λ (b : AccountState D G). G.faults (disk_in b)) rest);
    fault = tt;
    no_other = ap (λ (b : AccountState D G). G.faults (disk_in b)) rest;
  }

-- a claim was added
module _ {D : Type 0} {G : Ghosts D} (old new : AccountState D G) (seat : ℕ)
    (rest : new ≡ record old { claims = new.claims; told = new.told; marks = new.marks }) where
  pub claim_added : (arn : List ℕ) (at : At) (moment : Moment)
      → history_in new ≡ history_in old ++ (seat, Claim arn at moment) ∷ []
      → Leaves G old new seat (Claimed arn at moment)
  claim_added arn at moment history = record {
    history = history;
    origin = record {
      taken = ap (λ (b : AccountState D G). b.taken.value) rest;
      began = ap (λ (b : AccountState D G). b.began.value) rest;
      limit = ap (λ (b : AccountState D G). b.limit) rest;
    };
    stays = (ap state_in rest, ap (λ (b : AccountState D G). b.store) rest);
    failed = ap (λ (b : AccountState D G). b.failed.value) rest;
    any_moment = ap (λ (b : AccountState D G). b.store) rest;
    later = omega (arith, ap (λ (b : AccountState D G). G.faults (disk_in b)) rest);
    fault = tt;
    no_other = ap (λ (b : AccountState D G). G.faults (disk_in b)) rest;
  }

-- room for an entry changes nothing that is told
module _ {D : Type 0} {G : Ghosts D} (old mid new : AccountState D G) (seat : ℕ) (room : SameButRoom old mid) where
  stays_at : (call_outcome : CallOutcome)
      → StaysBy call_outcome (record old { entries = mid.entries; claims = mid.claims }) new
      → StaysBy call_outcome old new
  stays_at Nothing stays = stays
  stays_at (Claimed arn at moment) stays = stays
  stays_at (Made entry) stays = stays
  stays_at (Failed entry) stays = stays

  failed_at : (call_outcome : CallOutcome)
      → FailedBy call_outcome (record old { entries = mid.entries; claims = mid.claims }) new
      → FailedBy call_outcome old new
  failed_at Nothing failed = failed
  failed_at (Claimed arn at moment) failed = failed
  failed_at (Made entry) failed = failed
  failed_at (Failed entry) failed = failed

  leaves_at : (tried : Option entries)
      → LeavesTried G tried (record old { entries = mid.entries; claims = mid.claims }) new
      → LeavesTried G tried old new
  leaves_at None leaves = leaves
  leaves_at (Some own) leaves = leaves

  pub behind_room : (call_outcome : CallOutcome) → Leaves G mid new seat call_outcome
      → Leaves G old new seat call_outcome
  behind_room call_outcome h =
      let r : Leaves G (record old { entries = mid.entries; claims = mid.claims }) new seat call_outcome =
      subst (λ b. Leaves G b new seat call_outcome) room.rest h in
      record {
        history = r.history;
        origin = record { taken = r.origin.taken; began = r.origin.began; limit = r.origin.limit };
        stays = stays_at call_outcome r.stays;
        failed = failed_at call_outcome r.failed;
        any_moment = leaves_at (tried_by call_outcome) r.any_moment;
        later = r.later;
        fault = r.fault;
        no_other = r.no_other;
      }

-- an entry was made, or the disk failed at it
module _ {D : Type 0} {G : Ghosts D} (old new : AccountState D G) (seat : ℕ) (entry : entries)
    (origin : SameOrigin old new)
    (any_moment : Throughout G (all_held old) old.failed.value entry (disk_in old) (disk_in new))
    (later : G.faults (disk_in old) ≤ G.faults (disk_in new)) where
  pub entry_made : history_in new ≡ history_in old ++ (seat, Entry entry) ∷ [] → new.failed.value ≡ None
      → G.faults (disk_in new) ≡ G.faults (disk_in old) → Leaves G old new seat (Made entry)
  entry_made history sure same = record {
    history = history;
    origin = origin;
    stays = tt;
    failed = sure;
    any_moment = any_moment;
    later = later;
    fault = tt;
    no_other = same;
  }

  pub entry_failed : history_in new ≡ history_in old ++ (seat, Fault) ∷ [] → state_in new ≡ state_in old
      → ((new.failed.value ≡ old.failed.value) × IsSome old.failed.value) ⊎ (new.failed.value ≡ Some entry)
      → Rose (G.faults (disk_in old)) (G.faults (disk_in new)) → Leaves G old new seat (Failed entry)
  entry_failed history state failed rose = record {
    history = history;
    origin = origin;
    stays = state;
    failed = failed;
    any_moment = any_moment;
    later = later;
    fault = rose;
    no_other = tt;
  }

-- an entry whose write failed is there after a call only where one was before, or where the disk failed
module _ {D : Type 0} {G : Ghosts D} (old new : AccountState D G) (seat : ℕ) where
  abbrev HasRisen : Type 0
  HasRisen = Rose (G.faults (disk_in old)) (G.faults (disk_in new))

  same_failed : new.failed.value ≡ old.failed.value → IsSome new.failed.value → IsSome old.failed.value
  same_failed same is = subst (λ (o : Option entries). IsSome o) same is

  unsure_as : (call_outcome : CallOutcome) → FailedBy call_outcome old new → IfFailed call_outcome HasRisen
      → IsSome new.failed.value → IsSome old.failed.value ⊎ HasRisen
  unsure_as Nothing failed fault is = inl (same_failed failed is)
  unsure_as (Claimed arn at moment) failed fault is = inl (same_failed failed is)
  unsure_as (Made entry) failed fault is =
      absurd (let h : is_some new.failed.value ≡ false = ap is_some failed in cc)
  unsure_as (Failed entry) failed fault is = inr fault

  pub unsure_by : (call_outcome : CallOutcome) → Leaves G old new seat call_outcome → IsSome new.failed.value
      → IsSome old.failed.value ⊎ HasRisen
  unsure_by call_outcome leaves is = unsure_as call_outcome leaves.failed leaves.fault is
