-- Labels as they are shown: in ascending byte order.
-- AWS Secrets Manager API Reference: GetSecretValue and PutSecretValue (VersionStages).
use Rattle.std.specs.Prelude.{◌≡◌, ℕ, ◌+◌, Bool, true, if◌then◌else◌, List, [], ◌∷◌}
use Rattle.std.specs.Cmp.Lexicographic.{slice_cmp}
use Rattle.std.specs.Ordering.{nat_cmp, is_le}
use Rattle.sm_model.specs.declared.rows.SecretRow.{SecretRow}
use Rattle.sm_versions.specs.Labels.{labels_on}

-- a text is at most another in byte order
abbrev pub text_le : List ℕ → List ℕ → Bool
text_le a b = is_le (slice_cmp nat_cmp a b)

-- a text put before the first that it is at most
abbrev pub inserted : List ℕ → List (List ℕ) → List (List ℕ)
inserted text [] = text ∷ []
inserted text (t ∷ ts) = if text_le text t then text ∷ t ∷ ts else t ∷ inserted text ts

abbrev pub sorted : List (List ℕ) → List (List ℕ)
sorted [] = []
sorted (t ∷ ts) = inserted t (sorted ts)

-- the labels of a version, as they are shown
abbrev pub labels_shown : SecretRow → List ℕ → List (List ℕ)
labels_shown row id = sorted (labels_on row.labels id)

-- each text is at most the next in byte order
abbrev pub Ascending : List (List ℕ) → Type 0
Ascending [] = Unit {0}
Ascending (t ∷ []) = Unit {0}
Ascending (t ∷ u ∷ ts) = (text_le t u ≡ true) × Ascending (u ∷ ts)

-- how many of them pass a test
abbrev pub how_many : (List ℕ → Bool) → List (List ℕ) → ℕ
how_many test [] = 0
how_many test (t ∷ ts) = (if test t then 1 else 0) + how_many test ts

-- the same texts, each as often: whatever is counted
abbrev pub SameCounts : List (List ℕ) → List (List ℕ) → Type 0
SameCounts texts others = (test : List ℕ → Bool) → how_many test texts ≡ how_many test others
