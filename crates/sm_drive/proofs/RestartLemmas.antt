-- What a restart finds on the disk, and that it is not damaged.
use Rattle.std.proofs.Common.{◌≡◌, ◌⊎◌, false, Option, Some, None, refl, sym, ap, subst, ◌∙◌, inl, inr}
use Rattle.std.proofs.Math.Logic.{∥∥₁_elim, ∥∥₁_map₂}
use Rattle.sm_base.specs.declared.limits.TheConstants.{JOURNAL_LIMIT}
use Rattle.sm_disk.specs.Sight.{Image}
use Rattle.sm_disk.specs.declared.disk.Disk.{Ghosts}
use Rattle.sm_journal.specs.declared.answers.OpenRefused.{OpenRefused}
use Rattle.sm_journal.specs.declared.answers.OpenRefused.TheVariants.{Damaged, Failed, Memory}
use Rattle.sm_journal.specs.declared.format.Format.{Format}
use Rattle.sm_model.specs.declared.entry.Entry.{Entry}
use Rattle.sm_recovery.specs.Following.{MayCome}
use Rattle.sm_recovery.proofs.FaultLemmas.{sound_has_none}
use Rattle.sm_recovery.proofs.FollowLemmas.{come_more}
use Rattle.sm_base_check.specs.Bases.{IsSound}
use Rattle.sm_store.specs.Files.{HoldsAs, active}
use Rattle.sm_store.specs.Openings.{IsFaultyAt}
use Rattle.sm_store.specs.Held.{Held, Recovered, RecoveredEither}
use Rattle.sm_store.proofs.HeldLaws.{one_held, held_not_damaged}
use Rattle.sm_recovery.specs.Lawful.{IsLawful, MayFollowIf, base_under, made_of}
use Rattle.sm_recovery.specs.Openings.{IsFound, IsRefused}
use Rattle.sm_recovery.specs.Unlawful.{IsFirstFault}
use Rattle.sm_recovery.proofs.LawfulLaws.{taken_makes}
use Rattle.sm_account.specs.Crashes.{HoldsOnDisk}
use Rattle.sm_account.specs.Openings.{TakenFrom}
use Rattle.sm_drive.specs.Refused.{is_damaged}
use Rattle.sm_drive.specs.Steps.{held_with}

-- it may be taken: its base is sound, and its entries may come
record MayStand (h : Held) : Type 0 where
  pub sound : IsSound (base_under h.base)
  pub come : MayCome (base_under h.base) h.entries

with_stands : (h : Held) (found : Option Entry) → IsLawful h → MayFollowIf h found → MayStand (held_with h found)
with_stands h None lawful next = record { sound = lawful.sound; come = lawful.come }
with_stands h (Some entry) lawful next = record {
  sound = lawful.sound;
  come = come_more (base_under h.base) h.entries entry lawful.come next;
}

-- what an image has is what was acknowledged, perhaps with the entry whose write failed last
record Has (h : Held) (failed : Option Entry) (s : Image) : Type 0 where
  pub found : Option Entry
  pub found_is : (found ≡ None) ⊎ (found ≡ failed)
  pub recovers : Recovered (held_with h found) s

has_one : (h : Held) (failed : Option Entry) (s : Image) → RecoveredEither h failed s → Has h failed s
has_one h None s has = record { found = None; found_is = inl refl; recovers = has }
has_one h (Some entry) s (inl without) = record { found = None; found_is = inl refl; recovers = without }
has_one h (Some entry) s (inr with_it) = record { found = Some entry; found_is = inr refl; recovers = with_it }

next_of : (h : Held) (failed found : Option Entry) → (found ≡ None) ⊎ (found ≡ failed) → MayFollowIf h failed
    → MayFollowIf h found
next_of h failed found (inl none) next = subst (MayFollowIf h) (sym none) tt
next_of h failed found (inr same) next = subst (MayFollowIf h) (sym same) next

module _ {D : Type 0} (G : Ghosts D) (disk : D) (h : Held) (failed : Option Entry)
    (holds : HoldsOnDisk h failed (G.sight disk)) (s : Image) (image : (G.sight disk).images s)
    (reads : (G.sight disk).reads s) where
  has : Has h failed s
  has = has_one h failed s (holds.images s image)

  -- ---- what is found

  found_is : (format : Format) (held : Held) → IsFound format held (G.sight disk) → held ≡ held_with h has.found
  found_is format held found =
      let read : HoldsAs format held (active s) = found.reads s reads in
      one_held (active s) held (held_with h has.found) (format, read.0, read.1) has.recovers

  -- an opening takes what makes the state of what was acknowledged, perhaps with that entry
  pub found_state : (taken : Held) (now : D) → TakenFrom G disk JOURNAL_LIMIT taken now
      → (found : Option Entry) × ((found ≡ None) ⊎ (found ≡ failed)) × (made_of taken ≡ made_of (held_with h found))
  found_state taken now from = (
    has.found,
    has.found_is,
    ap made_of from.takes ∙ taken_makes from.format JOURNAL_LIMIT from.held
        ∙ ap made_of (found_is from.format from.held from.found),
  )

  -- ---- nothing is damaged

  stands : ∥ MayStand (held_with h has.found) ∥₁
  stands = ∥∥₁_map₂ holds.lawful holds.next
      (λ lawful next. with_stands h has.found lawful (next_of h failed has.found has.found_is next))

  pub not_damaged : (refused : OpenRefused D) → IsRefused G disk refused → is_damaged refused ≡ false
  not_damaged (Failed now) why = refl
  not_damaged (Memory now) why = refl
  not_damaged (Damaged now damage) why = absurd (by why.cause)
    where
      by : IsFaultyAt IsFirstFault damage.at damage.entry (G.sight disk) (G.sight now) → ⊥
      by (inl (stay, damaged)) =
          held_not_damaged (active s) (held_with h has.found) damage.at damage.entry has.recovers (damaged s reads)
      by (inr (stay, fault)) =
          ∥∥₁_elim stands (λ x y. absurd x)
          (λ stand. sound_has_none (active s) (held_with h has.found) damage.at damage.entry has.recovers stand.sound
          stand.come (fault s reads))
