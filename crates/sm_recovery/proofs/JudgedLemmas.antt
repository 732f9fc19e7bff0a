-- What was judged of a base and the entries behind it, as it is told.
use Rattle.std.proofs.Common.{◌≡◌, ℕ, List, inl, inr, sym, ap, subst, ◌∙◌}
use Rattle.sm_model.specs.declared.entry.Entry.{Entry}
use Rattle.sm_record.specs.declared.base.Base.{Base}
use Rattle.sm_record.specs.declared.edition.Edition.{Edition}
use Rattle.sm_recovery.specs.Following.{after_all, MayCome, StopsAfter, StopsAt}
use Rattle.sm_recovery.specs.declared.replay_state.Stopped.{Stopped}
use Rattle.sm_base_check.specs.Bases.{IsSound}
use Rattle.sm_store.specs.Held.{Held, AreEntries}
use Rattle.sm_recovery.proofs.PlaceLemmas.{spelled_in_time}
use Rattle.sm_recovery.specs.Lawful.{base_under, made_of, IsLawful}
use Rattle.sm_recovery.specs.Unlawful.{IsUnsoundBase, IsToldBehind, IsUnlawful, OnDamaged}
use Rattle.sm_recovery.specs.declared.lawful.Unlawful.{Unlawful}
use Rattle.sm_recovery.specs.declared.lawful.Unlawful.TheVariants.{Damaged, Memory}

-- the base
pub unsound_told : (edition : Edition) (h : Held) (why : Unlawful) → OnDamaged (IsUnsoundBase (base_under h.base)) why
    → OnDamaged (IsUnlawful edition h) why
unsound_told edition h (Damaged damage) told = inl told
unsound_told edition h Memory told = tt

-- an entry
pub illegal_told : (edition : Edition) (h : Held) (count : ℕ) (why : Unlawful) → IsSound (base_under h.base)
    → StopsAfter (base_under h.base) h.entries count → OnDamaged (IsToldBehind edition h count) why
    → OnDamaged (IsUnlawful edition h) why
illegal_told edition h count (Damaged damage) sound stops told =
    inr (record { count = count; sound = sound; stops = stops; told = told })
illegal_told edition h count Memory sound stops told = tt

module _ (h : Held) (start : Base) (entries : List Entry) (begins : start ≡ base_under h.base)
    (same : entries ≡ h.entries) where
  pub made_as : (now : Base) → now ≡ after_all start entries → now ≡ made_of h
  made_as now made =
      made ∙ ap (λ (b : Base). after_all b entries) begins
      ∙ ap (λ (list : List Entry). after_all (base_under h.base) list) same

  pub lawful_as : (edition : Edition) → IsSound (base_under h.base) → MayCome start entries
      → AreEntries edition h.entries → IsLawful h
  lawful_as edition sound come spelled = record {
    sound = sound;
    come = subst (MayCome (base_under h.base)) same
        (subst (λ (b : Base). MayCome b entries) begins come);
    timely = spelled_in_time edition h.entries spelled;
  }

  pub stops_as : (stopped : Stopped) → StopsAt start entries stopped
      → StopsAt (base_under h.base) h.entries stopped
  stops_as stopped stops = subst (λ (list : List Entry). StopsAt (base_under h.base) list stopped) same
      (subst (λ (b : Base). StopsAt b entries stopped) begins stops)
