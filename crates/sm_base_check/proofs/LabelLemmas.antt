-- Labels and the versions that they are on.
use Rattle.std.proofs.Common.{◌≡◌, ℕ, Bool, true, false, not, ◌&&◌, ◌||◌, cond, List, [], ◌∷◌, Some, is_none, refl, ap}
use Rattle.std.specs.List.{list_all}
use Rattle.sm_base.specs.Texts.{same_text}
use Rattle.sm_model.specs.Labels.{holder}
use Rattle.sm_model.specs.Versions.{has_version}
use Rattle.sm_model.specs.declared.rows.Pair.{Pair}
use Rattle.sm_model.specs.declared.rows.VersionRow.{VersionRow}
use Rattle.sm_versions.specs.Kept.{labels_once, pairs_named}
use Rattle.sm_versions.specs.Texts.{is_among, once}
use Rattle.sm_base_check.specs.Tests.{pair_labels}

held_among : (pairs : List Pair) (label : List ℕ)
    → is_none (holder pairs label) ≡ not (is_among (pair_labels pairs) label)
held_among [] label = refl
held_among (p ∷ ps) label = by (same_text p.label label) (held_among ps label)
  where
    by : (b : Bool) → is_none (holder ps label) ≡ not (is_among (pair_labels ps) label)
        → is_none (cond b (Some p.id) (holder ps label)) ≡ not (b || is_among (pair_labels ps) label)
    by true rest = refl
    by false rest = rest

pub labels_once_is : (pairs : List Pair) → once (pair_labels pairs) ≡ labels_once pairs
labels_once_is [] = refl
labels_once_is (p ∷ ps) = rw (held_among ps p.label)
    (ap (λ b. not (is_among (pair_labels ps) p.label) && b) (labels_once_is ps))

pub pairs_named_is : (versions : List VersionRow) (pairs : List Pair)
    → list_all (λ (p : Pair). has_version versions p.id) pairs ≡ pairs_named versions pairs
pairs_named_is versions [] = refl
pairs_named_is versions (p ∷ ps) = ap (λ b. has_version versions p.id && b) (pairs_named_is versions ps)
