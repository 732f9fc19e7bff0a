-- What placing labels does to holders, and that each label stays in one pair and each pair names a version.
use Rattle.std.proofs.Common.{◌≡◌, ℕ, Bool, true, false, cond, List, [], ◌∷◌, ◌++◌, Option, Some, None, refl, ap, ◌∙◌, arith}
use Rattle.std.proofs.lemmas.Grind.{common_steps}
use Rattle.std.proofs.lemmas.Bool.{or_parts}
use Rattle.sm_model.specs.declared.rows.Pair.{Pair}
use Rattle.sm_model.specs.declared.rows.VersionRow.{VersionRow}
use Rattle.sm_versions.specs.Texts.{is_among}
use Rattle.sm_base.specs.Texts.{same_text}
use Rattle.sm_model.specs.Labels.{aws_current, aws_previous, holder}
use Rattle.sm_versions.specs.Labels.{without, moved, with_previous, with_current, place, place_each, others, firsts, in_order, place_all}
use Rattle.sm_model.specs.Versions.{has_version}
use Rattle.sm_versions.specs.Kept.{labels_once, pairs_named}
use Rattle.sm_versions.proofs.TextLemmas.{same_text_tells, same_text_itself}
use Rattle.sm_versions.proofs.LabelLemmas.{place_all_is}

-- ---- holders

holder_push : (ps : List Pair) (label id x : List ℕ) → holder ps label ≡ None
    → holder (ps ++ record { label = label; id = id } ∷ []) x ≡ cond (same_text label x) (Some id) (holder ps x)
holder_push [] label id x h = refl
holder_push (p ∷ ps) label id x h =
    grind (
      arith,
      common_steps,
      holder_push ps label id x,
      same_text_tells p.label x,
      same_text_tells label x,
      same_text_tells p.label label,
    )

holder_without : (ps : List Pair) (label : List ℕ) → holder (without ps label) label ≡ None
holder_without [] label = refl
holder_without (p ∷ ps) label = grind (arith, common_steps, holder_without ps label)

pub holder_without_other : (ps : List Pair) (label x : List ℕ) → same_text label x ≡ false
    → holder (without ps label) x ≡ holder ps x
holder_without_other [] label x h = refl
holder_without_other (p ∷ ps) label x h =
    grind (
      arith,
      common_steps,
      holder_without_other ps label x,
      same_text_tells p.label x,
      same_text_tells p.label
          label,
      same_text_tells label x,
    )

-- the one that was moved has the label, and the others keep theirs
pub holder_moved : (ps : List Pair) (label id x : List ℕ)
    → holder (moved ps label id) x ≡ cond (same_text label x) (Some id) (holder ps x)
holder_moved ps label id x =
    rw (holder_push (without ps label) label id x (holder_without ps label))
    (grind (arith, holder_without_other ps label x))

-- ---- each label in one pair

once_push : (ps : List Pair) (q : Pair) → labels_once ps ≡ true → holder ps q.label ≡ None
    → labels_once (ps ++ q ∷ []) ≡ true
once_push [] q h none = refl
once_push (p ∷ ps) q h none =
    grind (
      arith,
      common_steps,
      once_push ps q,
      holder_push ps q.label q.id p.label,
      same_text_tells q.label p.label,
      same_text_tells p.label q.label,
    )

once_without : (ps : List Pair) (label : List ℕ) → labels_once ps ≡ true → labels_once (without ps label) ≡ true
once_without [] label h = refl
once_without (p ∷ ps) label h =
    grind (
      arith,
      common_steps,
      once_without ps label,
      holder_without_other ps label p.label,
      same_text_tells p.label
          label,
      same_text_tells label p.label,
    )

once_moved : (ps : List Pair) (label id : List ℕ) → labels_once ps ≡ true → labels_once (moved ps label id) ≡ true
once_moved ps label id h =
    once_push (without ps label) (record { label = label; id = id }) (once_without ps label h) (holder_without ps label)

-- ---- each pair names a version

named_push : (versions : List VersionRow) (ps : List Pair) (q : Pair) → pairs_named versions ps ≡ true
    → has_version versions q.id ≡ true → pairs_named versions (ps ++ q ∷ []) ≡ true
named_push versions [] q h g = grind arith
named_push versions (p ∷ ps) q h g = grind (arith, common_steps, named_push versions ps q)

named_without : (versions : List VersionRow) (ps : List Pair) (label : List ℕ) → pairs_named versions ps ≡ true
    → pairs_named versions (without ps label) ≡ true
named_without versions [] label h = refl
named_without versions (p ∷ ps) label h = grind (arith, common_steps, named_without versions ps label)

pub holder_named : (versions : List VersionRow) (ps : List Pair) (label id : List ℕ) → pairs_named versions ps ≡ true
    → holder ps label ≡ Some id → has_version versions id ≡ true
holder_named versions [] label id h e = absurd (cc)
holder_named versions (p ∷ ps) label id h e = grind (arith, common_steps, holder_named versions ps label id)

-- ---- both, together

-- each label is in one pair, and each pair names a version
pub record Sound (versions : List VersionRow) (ps : List Pair) : Type 0 where
  pub once : labels_once ps ≡ true
  pub named : pairs_named versions ps ≡ true

pub sound_without : (versions : List VersionRow) (ps : List Pair) (label : List ℕ) → Sound versions ps
    → Sound versions (without ps label)
sound_without versions ps label s =
    record { once = once_without ps label s.once; named = named_without versions ps label s.named }

pub sound_moved : (versions : List VersionRow) (ps : List Pair) (label id : List ℕ) → has_version versions id ≡ true
    → Sound versions ps → Sound versions (moved ps label id)
sound_moved versions ps label id there s =
    record {
      once = once_moved ps label id s.once;
      named =
          named_push versions (without ps label) (record { label = label; id = id })
          (named_without versions ps label s.named) there;
    }

sound_previous : (versions : List VersionRow) (ps : List Pair) (held : Option (List ℕ)) (id : List ℕ)
    → ((h : List ℕ) → held ≡ Some h → has_version versions h ≡ true) → Sound versions ps
    → Sound versions (with_previous ps held id)
sound_previous versions ps None id there s = s
sound_previous versions ps (Some h) id there s = by (same_text h id)
  where
    by : (b : Bool) → Sound versions (cond b ps (moved ps aws_previous h))
    by true = s
    by false = sound_moved versions ps aws_previous h (there h refl) s

pub sound_current : (versions : List VersionRow) (ps : List Pair) (id : List ℕ) → has_version versions id ≡ true
    → Sound versions ps → Sound versions (with_current ps id)
sound_current versions ps id there s =
    sound_previous versions (moved ps aws_current id) (holder ps aws_current) id
    (λ h e. holder_named versions ps aws_current h s.named e) (sound_moved versions ps aws_current id there s)

pub sound_place : (versions : List VersionRow) (ps : List Pair) (label id : List ℕ) → has_version versions id ≡ true
    → Sound versions ps → Sound versions (place ps label id)
sound_place versions ps label id there s = by (same_text label aws_current)
  where
    by : (b : Bool) → Sound versions (cond b (with_current ps id) (moved ps label id))
    by true = sound_current versions ps id there s
    by false = sound_moved versions ps label id there s

pub sound_place_each : (versions : List VersionRow) (ps : List Pair) (labels : List (List ℕ)) (id : List ℕ)
    → has_version versions id ≡ true → Sound versions ps → Sound versions (place_each ps labels id)
sound_place_each versions ps [] id there s = s
sound_place_each versions ps (l ∷ ls) id there s =
    sound_place_each versions (place ps l id) ls id there (sound_place versions ps l id there s)

pub sound_place_all : (versions : List VersionRow) (ps : List Pair) (labels : List (List ℕ)) (id : List ℕ)
    → has_version versions id ≡ true → Sound versions ps → Sound versions (place_all ps labels id)
sound_place_all versions ps labels id there s = sound_place_each versions ps (in_order labels) id there s

-- ---- the holder of AWSCURRENT

previous_is_another : same_text aws_previous aws_current ≡ false
unfolding same_text aws_previous aws_current
previous_is_another = refl

holder_previous : (ps : List Pair) (held : Option (List ℕ)) (id : List ℕ)
    → holder (with_previous ps held id) aws_current ≡ holder ps aws_current
holder_previous ps None id = refl
holder_previous ps (Some h) id = grind (arith, holder_moved ps aws_previous h aws_current, previous_is_another)

pub holder_current : (ps : List Pair) (id : List ℕ) → holder (with_current ps id) aws_current ≡ Some id
holder_current ps id =
    holder_previous (moved ps aws_current id) (holder ps aws_current) id
    ∙ grind (arith, holder_moved ps aws_current id aws_current, same_text_itself aws_current)

-- placed, AWSCURRENT has the version as its holder, and any other label leaves it
pub holder_place : (ps : List Pair) (label id : List ℕ)
    → holder (place ps label id) aws_current ≡ cond (same_text label aws_current) (Some id) (holder ps aws_current)
holder_place ps label id = by (same_text label aws_current) refl
  where
    by : (b : Bool) → b ≡ same_text label aws_current
        → holder (cond b (with_current ps id) (moved ps label id)) aws_current ≡ cond b (Some id)
        (holder ps aws_current)
    by true e = holder_current ps id
    by false e = grind (arith, holder_moved ps label id aws_current)

holder_place_each : (ps : List Pair) (labels : List (List ℕ)) (id : List ℕ) → is_among labels aws_current ≡ false
    → holder (place_each ps labels id) aws_current ≡ holder ps aws_current
holder_place_each ps [] id h = refl
holder_place_each ps (l ∷ ls) id h =
    let parts = or_parts (same_text l aws_current) (is_among ls aws_current) h in
    holder_place_each (place ps l id) ls id parts.1 ∙ holder_place ps l id
    ∙ ap (λ b. cond b (Some id) (holder ps aws_current)) parts.0

others_lack : (ts : List (List ℕ)) (t : List ℕ) → is_among (others ts t) t ≡ false
others_lack [] t = refl
others_lack (x ∷ ts) t = grind (arith, common_steps, others_lack ts t)

pub holder_place_all : (ps : List Pair) (labels : List (List ℕ)) (id : List ℕ)
    → holder (place_all ps labels id) aws_current ≡ cond (is_among labels aws_current) (Some id) (holder ps aws_current)
holder_place_all ps labels id = rw (place_all_is ps labels id) (by (is_among labels aws_current))
  where
    before : List (List ℕ)
    before = others (firsts labels) aws_current

    by : (b : Bool) → holder (cond b (with_current (place_each ps before id) id) (place_each ps before id)) aws_current
        ≡ cond b (Some id) (holder ps aws_current)
    by true = holder_current (place_each ps before id) id
    by false = holder_place_each ps before id (others_lack (firsts labels) aws_current)
