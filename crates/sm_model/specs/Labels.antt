-- The labels of a secret: a list of pairs, each of a label and the id of the version that it is on.
-- AWS Secrets Manager User Guide: "Secret versions" (staging labels).
use Rattle.std.specs.Prelude.{ℕ, Bool, false, List, [], ◌∷◌, Option, Some, None, codes, if◌then◌else◌}
use Rattle.std.specs.List.{list_any}
use Rattle.sm_base.specs.Texts.{same_text}
use Rattle.sm_model.specs.declared.rows.Pair.{Pair}

-- the label of the version whose value is shown where none is named
unfoldable pub aws_current : List ℕ
aws_current = codes "AWSCURRENT"

-- the label of the version that was current before
unfoldable pub aws_previous : List ℕ
aws_previous = codes "AWSPREVIOUS"

-- the label of the version that a rotation makes
unfoldable pub aws_pending : List ℕ
aws_pending = codes "AWSPENDING"

-- the id in the first pair with the label, or none
abbrev pub holder : List Pair → List ℕ → Option (List ℕ)
holder [] label = None
holder (p ∷ ps) label = if same_text p.label label then Some p.id else holder ps label

-- this version is the holder
abbrev pub is_held_by : Option (List ℕ) → List ℕ → Bool
is_held_by None id = false
is_held_by (Some held) id = same_text held id

-- the version has a label
abbrev pub is_labelled : List Pair → List ℕ → Bool
is_labelled pairs id = list_any (λ pair. same_text pair.id id) pairs
