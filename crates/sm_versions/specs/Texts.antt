-- Tests on texts and on labels.
-- AWS Secrets Manager User Guide: "Secret versions" (staging labels).
use Rattle.std.specs.Prelude.{ℕ, Bool, true, not, ◌&&◌, ◌||◌, List, [], ◌∷◌}
use Rattle.std.specs.List.{list_any}
use Rattle.sm_base.specs.Texts.{same_text}
use Rattle.sm_model.specs.Labels.{aws_current, aws_previous, aws_pending}

-- the text is among the texts
abbrev pub is_among : List (List ℕ) → List ℕ → Bool
is_among texts text = list_any (λ t. same_text t text) texts

-- no text stands twice
abbrev pub once : List (List ℕ) → Bool
once [] = true
once (t ∷ ts) = not (is_among ts t) && once ts

-- one of the three labels that have a meaning of their own
unfoldable pub is_aws : List ℕ → Bool
is_aws label = same_text label aws_current || same_text label aws_previous || same_text label aws_pending
