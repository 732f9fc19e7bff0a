-- What an account began with, and since when its journal's tail is unsure.
use Rattle.std.proofs.Common.{◌≡◌, ◌≤◌, ◌⊎◌, ℕ, refl, ap, ◌∙◌, inl, inr, arith}
use Rattle.sm_base.specs.Faults.{Rose}
use Rattle.sm_disk.specs.declared.disk.Disk.{Ghosts as DiskGhosts}
use Rattle.sm_rotator.specs.declared.rotator.Rotator.{Ghosts as RotatorGhosts}
use Rattle.sm_store.specs.Held.{Held}
use Rattle.sm_account.specs.Accounts.{SameOrigin, base, began, doors_at_opening, taken}
use Rattle.sm_account.specs.States.{Base, base_of}
use Rattle.sm_account.specs.declared.account.Account.{Account}
use Rattle.sm_account.specs.declared.storied.Opened.{Opened}

module _ {D R : Type 0} {G : DiskGhosts D} {V : RotatorGhosts R} where
  pub same_origin_still : (account : Account D R G V) → SameOrigin account account
  same_origin_still account =
      record { taken_stays = refl; began_stays = refl; base_stays = refl; doors_stay = refl; opening_stays = refl }

  -- over two steps
  pub same_origin : (old mid new : Account D R G V) → SameOrigin old mid → SameOrigin mid new → SameOrigin old new
  same_origin old mid new first then = record {
    taken_stays = then.taken_stays ∙ first.taken_stays;
    began_stays = then.began_stays ∙ first.began_stays;
    base_stays = then.base_stays ∙ first.base_stays;
    doors_stay = then.doors_stay ∙ first.doors_stay;
    opening_stays = then.opening_stays ∙ first.opening_stays;
  }

  -- what an account was opened over
  abbrev pub origin_of : Account D R G V → Opened D
  origin_of account = record {
    taken = taken account;
    limit = (base account).limit;
    began = began account;
    doors = doors_at_opening account;
  }

  pub origin_stays : (old new : Account D R G V) → SameOrigin old new → origin_of new ≡ origin_of old
  origin_stays old new same =
      let of : Held → ℕ → D → ℕ → Opened D = λ taken limit began doors.
      record { taken = taken; limit = limit; began = began; doors = doors } in
      let doors : ℕ = doors_at_opening new in
      ap (λ t. of t (base new).limit (began new) doors) same.taken_stays
      ∙ ap (λ (b : Base). of (taken old) b.limit (began new) doors) same.base_stays
      ∙ ap (λ d. of (taken old) (base old).limit d doors) same.began_stays
      ∙ ap (of (taken old) (base old).limit (began old)) same.opening_stays

  pub same_base : (a b : Account D R G V) → origin_of a ≡ origin_of b → base a ≡ base b
  same_base a b same = ap (λ (o : Opened D). base_of o.taken o.limit) same

-- unsure since an earlier moment, by way of a later one
pub unsure_since : (A B C : Type 0) (first now later : ℕ) → (B → A ⊎ Rose first now) → (C → B ⊎ Rose now later)
    → first ≤ now → now ≤ later → C → A ⊎ Rose first later
unsure_since A B C first now later earlier after lower upper c =
    elim (after c) [
      | inl b ↦ elim (earlier b) [ inl a ↦ inl a | inr rose ↦ inr (omega (arith, rose, upper)) ]
      | inr rose ↦ inr (omega (arith, rose, lower))
    ]
