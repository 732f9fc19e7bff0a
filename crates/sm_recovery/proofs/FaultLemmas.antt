-- The first fault of bodies.
use Rattle.std.proofs.Common.{◌≡◌, ℕ, ◌+◌, ◌^◌, ◌<◌, ◌≤◌, List, length, take, drop, Option, sym, ap, subst, ◌∙◌, inl, inr, take-append-drop, take-take, arith}
use Rattle.std.proofs.lemmas.Bool.{cases_lt}
use Rattle.std.proofs.lemmas.List.{take_all}
use Rattle.sm_journal.specs.Records.{size, place_behind}
use Rattle.sm_model.specs.declared.entry.Entry.{Entry}
use Rattle.sm_record.specs.declared.base.Base.{Base}
use Rattle.sm_record.specs.declared.edition.Edition.{Edition}
use Rattle.sm_store.proofs.FillRuns.{size-append}
use Rattle.sm_store.proofs.FrontLaws.{begins_whole, begins_before, one_base, one_front, no_base_begins, no_more, no_longer, one_end}
use Rattle.sm_store.proofs.HeldLaws.{held_bodies, held_not_foreign}
use Rattle.sm_store.specs.Files.{HasFault}
use Rattle.sm_store.specs.Openings.{held_of, IsFront}
use Rattle.sm_store.specs.Held.{Held, edition_of, bodies_in, IsSpelledIn, HoldsFile}
use Rattle.sm_store.specs.Loading.{BeginsWith}
use Rattle.sm_store.specs.declared.unopened.Front.{Front}
use Rattle.sm_base_check.specs.Bases.{IsSound}
use Rattle.sm_recovery.proofs.FollowLemmas.{come_front}
use Rattle.sm_recovery.specs.Following.{MayCome, StopsAfter}
use Rattle.sm_recovery.specs.Lawful.{base_under}
use Rattle.sm_recovery.specs.Unlawful.{front_of, IsFirstFault, IsUnlawful, OneFirstFault, LawfulHasNone, OnDamaged}
use Rattle.sm_recovery.specs.declared.lawful.Unlawful.{Unlawful}
use Rattle.sm_recovery.specs.declared.lawful.Unlawful.TheVariants.{Damaged, Memory}

module _ (bodies : List (List ℕ)) (front : Front) (is : IsFront bodies front) where
  begins : BeginsWith (edition_of front.format) (held_of front.loaded) bodies
  begins = begins_before (edition_of front.format) (held_of front.loaded) bodies front.damage.at front.damage.entry
      is.behind

  pub front_spelled : IsSpelledIn (edition_of front.format) (held_of front.loaded)
  front_spelled = begins.spelled

  pub front_short : place_behind (bodies_in (edition_of front.format) (held_of front.loaded)) < 2 ^ 64
  front_short = omega (
    arith,
    is.short,
    ap size begins.split,
    size-append (bodies_in (edition_of front.format) (held_of front.loaded)) begins.rest,
  )

  -- a fault of what is before that body comes first
  pub fault_before : (why : Unlawful) → OnDamaged (IsUnlawful (edition_of front.format) (held_of front.loaded)) why
      → OnDamaged (IsFirstFault (edition_of front.format) bodies) why
  fault_before (Damaged damage) unlawful = inr (inl (held_of front.loaded, begins, unlawful))
  fault_before Memory unlawful = tt

-- ---- there is one

-- entries stop where they do for each of two that the bodies begin with
module _ (edition : Edition) (bodies : List (List ℕ)) (a b : Held) (left : BeginsWith edition a bodies)
    (right : BeginsWith edition b bodies) where
  base_is : base_under b.base ≡ base_under a.base
  base_is = ap base_under (sym (one_base edition bodies a b left right))

  no_later : (m n : ℕ) → StopsAfter (base_under a.base) a.entries m → MayCome (base_under b.base) (take n b.entries)
      → n ≤ length b.entries → n ≤ m
  no_later m n stops come within = elim (cases_lt m n) [
    | inl less ↦
        let more = m + 1 in
        let front : take more (take n b.entries) ≡ take more a.entries =
        take-take more n b.entries (omega (arith, less))
        ∙ sym (one_front edition bodies a b left right more (omega (arith, stops.within))
        (omega (arith, less, within))) in
        let comes : MayCome (base_under b.base) (take more (take n b.entries)) =
        come_front (base_under b.base) (take more (take n b.entries)) (drop more (take n b.entries))
        (subst (MayCome (base_under b.base)) (sym (take-append-drop more (take n b.entries))) come) in
        absurd (stops.not (subst (λ (base : Base). MayCome base (take more a.entries)) base_is
        (subst (MayCome (base_under b.base)) front comes)))
    | inr le ↦ le
  ]

  -- what goes on where the other one does is lawful if that is
  no_fault : (at entry : ℕ) → IsUnlawful edition a at entry → length a.entries ≤ length b.entries
      → IsSound (base_under b.base) → MayCome (base_under b.base) b.entries → ⊥
  no_fault at entry (inl unsound) shorter sound come = unsound.not (subst IsSound base_is sound)
  no_fault at entry (inr illegal) shorter sound come =
      let all : length b.entries ≤ illegal.count = no_later illegal.count (length b.entries) illegal.stops
      (subst (MayCome (base_under b.base)) (sym (take_all (length b.entries) b.entries (omega arith))) come)
      (omega arith) in
      absurd (omega (arith, all, shorter, illegal.stops.within))

one_unlawful : (edition : Edition) (bodies : List (List ℕ)) (a b : Held) → BeginsWith edition a bodies
    → BeginsWith edition b bodies → (at entry other number : ℕ) → IsUnlawful edition a at entry
    → IsUnlawful edition b other number → (at ≡ other) × (entry ≡ number)
one_unlawful edition bodies a b left right at entry other number (inl one) (inl another) =
    (one.place ∙ sym another.place, one.number ∙ sym another.number)
one_unlawful edition bodies a b left right at entry other number (inl one) (inr another) =
    absurd (one.not (subst IsSound (base_is edition bodies a b left right) another.sound))
one_unlawful edition bodies a b left right at entry other number (inr one) (inl another) =
    absurd (another.not (subst IsSound (base_is edition bodies b a right left) one.sound))
one_unlawful edition bodies a b left right at entry other number (inr one) (inr another) = (
  one.told.place ∙ ap (λ (h : Held). place_behind (bodies_in edition h)) front ∙ sym another.told.place,
  one.told.number ∙ ap (λ (h : Held). length (bodies_in edition h)) front ∙ sym another.told.number,
)
  where
    same : one.count ≡ another.count
    same = omega (
      arith,
      no_later edition bodies a b left right one.count another.count one.stops another.stops.legal
          (omega (arith, another.stops.within)),
      no_later edition bodies b a right left another.count one.count another.stops one.stops.legal
          (omega (arith, one.stops.within)),
    )

    base : a.base ≡ b.base
    base = one_base edition bodies a b left right

    entries : take one.count a.entries ≡ take another.count b.entries
    entries = ap (λ (k : ℕ). take k a.entries) same
        ∙ one_front edition bodies a b left right another.count (omega (arith, same, one.stops.within))
        (omega (arith, another.stops.within))

    front : front_of a one.count ≡ front_of b another.count
    front i = record { base = base i; entries = entries i }

pub one_first_fault : OneFirstFault
one_first_fault edition bodies at entry other number (inl one) (inl another) =
    (one.1.place ∙ sym another.1.place, one.1.number ∙ sym another.1.number)
one_first_fault edition bodies at entry other number (inl one) (inr (inl (b, begins, unlawful))) =
    absurd (no_base_begins edition b bodies at entry one begins)
one_first_fault edition bodies at entry other number (inl one) (inr (inr (b, lawful, none))) =
    absurd (no_base_begins edition b bodies at entry one (begins_before edition b bodies other number none))
one_first_fault edition bodies at entry other number (inr (inl (a, begins, unlawful))) (inl another) =
    absurd (no_base_begins edition a bodies other number another begins)
one_first_fault edition bodies at entry other number (inr (inr (a, lawful, none))) (inl another) =
    absurd (no_base_begins edition a bodies other number another (begins_before edition a bodies at entry none))
one_first_fault edition bodies at entry other number (inr (inl (a, left, one))) (inr (inl (b, right, another))) =
    one_unlawful edition bodies a b left right at entry other number one another
one_first_fault edition bodies at entry other number (inr (inl (a, left, one))) (inr (inr (b, lawful, none))) =
    absurd (no_fault edition bodies a b left (begins_before edition b bodies other number none) at entry one
    (no_longer edition a b bodies other number left none) lawful.sound lawful.come)
one_first_fault edition bodies at entry other number (inr (inr (a, lawful, none))) (inr (inl (b, right, another))) =
    absurd (no_fault edition bodies b a right (begins_before edition a bodies at entry none) other number another
    (no_longer edition b a bodies at entry right none) lawful.sound lawful.come)
one_first_fault edition bodies at entry other number (inr (inr (a, first, one))) (inr (inr (b, second, another))) =
    one_end edition a b bodies at entry other number one another

-- ---- what is lawful has none

pub sound_has_none : (bytes : List ℕ) (h : Held) (at entry : ℕ) → HoldsFile h bytes → IsSound (base_under h.base)
    → MayCome (base_under h.base) h.entries → HasFault IsFirstFault bytes at entry → ⊥
sound_has_none bytes h at entry has sound come (f, bodies, recovers, inl none) =
    held_not_foreign bytes h at entry has (f, bodies, recovers, inl none)
sound_has_none bytes h at entry has sound come (f, bodies, recovers, inr (inl (g, begins, unlawful))) =
    let spelled = held_bodies bytes h f bodies has recovers in
    let whole : BeginsWith (edition_of f) h bodies =
    subst (BeginsWith (edition_of f) h) (sym spelled.0) (begins_whole (edition_of f) h spelled.1) in
    no_fault (edition_of f) bodies g h begins whole at entry unlawful
    (no_more (edition_of f) g h spelled.1 (subst (BeginsWith (edition_of f) g) spelled.0 begins)) sound come
sound_has_none bytes h at entry has sound come (f, bodies, recovers, inr (inr (g, lawful, none))) =
    held_not_foreign bytes h at entry has (f, bodies, recovers, inr (g, none))

pub lawful_has_none : LawfulHasNone
lawful_has_none bytes h at entry has lawful fault =
    sound_has_none bytes h at entry has lawful.sound lawful.come fault
