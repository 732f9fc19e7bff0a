-- The labels of one secret: a list of pairs, each of a label and the id of the version that it is on.
-- AWS Secrets Manager User Guide: "Secret versions"; API Reference: UpdateSecretVersionStage.
use Rattle.std.specs.Prelude.{ℕ, ◌+◌, List, [], ◌∷◌, ◌++◌, Option, Some, None, if◌then◌else◌}
use Rattle.sm_base.specs.Texts.{same_text}
use Rattle.sm_model.specs.Labels.{aws_current, aws_previous, holder}
use Rattle.sm_model.specs.declared.rows.Pair.{Pair}
use Rattle.sm_versions.specs.Texts.{is_among, is_aws}

-- the pairs that don't have the label
abbrev pub without : List Pair → List ℕ → List Pair
without [] label = []
without (p ∷ ps) label = if same_text p.label label then without ps label else p ∷ without ps label

-- the label's pairs dropped, and the label with the id at the end
abbrev pub moved : List Pair → List ℕ → List ℕ → List Pair
moved pairs label id = without pairs label ++ record { label = label; id = id } ∷ []

-- AWSPREVIOUS on the version that held AWSCURRENT, where there was one and it is another than id
abbrev pub with_previous : List Pair → Option (List ℕ) → List ℕ → List Pair
with_previous pairs None id = pairs
with_previous pairs (Some held) id = if same_text held id then pairs else moved pairs aws_previous held

-- AWSCURRENT placed on the version id: another version that held it gets AWSPREVIOUS
abbrev pub with_current : List Pair → List ℕ → List Pair
with_current pairs id = with_previous (moved pairs aws_current id) (holder pairs aws_current) id

-- one label placed on the version id
abbrev pub place : List Pair → List ℕ → List ℕ → List Pair
place pairs label id = if same_text label aws_current then with_current pairs id else moved pairs label id

-- labels placed one after the other
abbrev pub place_each : List Pair → List (List ℕ) → List ℕ → List Pair
place_each pairs [] id = pairs
place_each pairs (label ∷ labels) id = place_each (place pairs label id) labels id

-- the texts without one
abbrev pub others : List (List ℕ) → List ℕ → List (List ℕ)
others [] text = []
others (t ∷ ts) text = if same_text t text then others ts text else t ∷ others ts text

-- each text once, in the order of first occurrence
abbrev pub firsts : List (List ℕ) → List (List ℕ)
firsts [] = []
firsts (t ∷ ts) = t ∷ others (firsts ts) t

-- the order in which labels are placed: that of first occurrence, AWSCURRENT last
abbrev pub in_order : List (List ℕ) → List (List ℕ)
in_order labels = others (firsts labels) aws_current ++ (if is_among labels aws_current then aws_current ∷ [] else [])

-- all labels placed on the version id
abbrev pub place_all : List Pair → List (List ℕ) → List ℕ → List Pair
place_all pairs labels id = place_each pairs (in_order labels) id

-- the labels on the version id, in the order of the pairs
abbrev pub labels_on : List Pair → List ℕ → List (List ℕ)
labels_on [] id = []
labels_on (p ∷ ps) id = if same_text p.id id then p.label ∷ labels_on ps id else labels_on ps id

-- how many labels besides the three of AWS there are
abbrev pub own_count : List Pair → ℕ
own_count [] = 0
own_count (p ∷ ps) = if is_aws p.label then own_count ps else own_count ps + 1
