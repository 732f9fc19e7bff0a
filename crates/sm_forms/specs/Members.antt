-- The forms of members: AWS Secrets Manager API Reference, the request parameters of each operation.
use Rattle.std.specs.Prelude.{ℕ, Bool, not, ◌&&◌, ◌||◌, if◌then◌else◌, nat_le, List, length, Option, Some, None, is_some, codes}
use Rattle.std.specs.List.{list_all}
use Rattle.sm_base.specs.declared.limits.TheConstants.{VALUE_LIMIT, LABELS_LIMIT}
use Rattle.sm_model.specs.declared.value.Tag.{Tag}
use Rattle.sm_model.specs.declared.why.Why.{Why}
use Rattle.sm_model.specs.declared.why.Why.TheVariants.{Form}
use Rattle.sm_base.specs.Spelling.{is_label}
use Rattle.sm_versions.specs.Texts.{once}
use Rattle.sm_versions.specs.Sound.{tag_keys, each_tag}

-- the first of two refusals
abbrev pub first_why : Option Why → Option Why → Option Why
first_why None next = next
first_why (Some why) next = Some why

-- a member that is there has to be in its form
abbrev pub form_unless : Bool → List ℕ → Option Why
form_unless fits name = if fits then None else Some (Form name)

abbrev pub form_of : (List ℕ → Bool) → List ℕ → Option (List ℕ) → Option Why
form_of test name None = None
form_of test name (Some text) = form_unless (test text) name

-- a value has at most 65,536 bytes
abbrev pub is_value : List ℕ → Bool
is_value bytes = nat_le (length bytes) VALUE_LIMIT

-- a text and bytes are both given as the value
abbrev pub has_both : Option (List ℕ) → Option (List ℕ) → Bool
has_both text binary = is_some text && is_some binary

-- one of a text and bytes is given as the value, and not both
abbrev pub has_one : Option (List ℕ) → Option (List ℕ) → Bool
has_one text binary = (is_some text || is_some binary) && not (has_both text binary)

-- 1 to 20 labels, which may stand more than once
abbrev pub are_labels : List (List ℕ) → Bool
are_labels labels = nat_le 1 (length labels) && nat_le (length labels) LABELS_LIMIT && list_all is_label labels

abbrev pub labels_form : Option (List (List ℕ)) → Option Why
labels_form None = None
labels_form (Some labels) = form_unless (are_labels labels) (codes "VersionStages")

-- each key has 1 to 128 characters and is not one of AWS's own, each value has at most 256, and no key stands twice
abbrev pub are_tags : List Tag → Bool
are_tags tags = each_tag tags && once (tag_keys tags)

abbrev pub tags_form : Option (List Tag) → Option Why
tags_form None = None
tags_form (Some tags) = form_unless (are_tags tags) (codes "Tags")
