-- What it says of members that their forms pass.
use Rattle.std.proofs.Common.{◌≡◌, ℕ, List, Bool, true, false, not, ◌&&◌, ◌||◌, length, nat_le, Option, Some, None, is_some, IfSome, refl}
use Rattle.std.specs.Prelude.{IsTrue}
use Rattle.std.specs.List.{list_all}
use Rattle.std.proofs.lemmas.Bool.{and_parts}
use Rattle.sm_base.specs.declared.limits.TheConstants.{LABELS_LIMIT}
use Rattle.sm_model.specs.declared.why.Why.{Why}
use Rattle.sm_base.specs.Spelling.{is_label}
use Rattle.sm_forms.specs.Members.{first_why, form_unless, form_of, has_both, has_one, are_labels, labels_form}

-- neither refusal is there
pub none_first : (one next : Option Why) → first_why one next ≡ None → (one ≡ None) × (next ≡ None)
none_first None next h = (refl, h)
none_first (Some why) next h = absurd (let f : Some why ≡ None = h in cc)

pub passes : (fits : Bool) (name : List ℕ) → form_unless fits name ≡ None → fits ≡ true
passes true name h = refl
passes false name h = cc

pub all_pass : (test : List ℕ → Bool) (name : List ℕ) (text : Option (List ℕ)) → form_of test name text ≡ None
    → IfSome text (λ t. IsTrue (test t))
all_pass test name None h = tt
all_pass test name (Some text) h = passes (test text) name h

pub labels_pass : (labels : Option (List (List ℕ))) → labels_form labels ≡ None
    → IfSome labels (λ ls. IsTrue (list_all is_label ls))
labels_pass None h = tt
labels_pass (Some labels) h =
    (and_parts (nat_le 1 (length labels) && nat_le (length labels) LABELS_LIMIT) (list_all is_label labels)
    (passes (are_labels labels) _ h)).1

-- a text and bytes are not both given
pub not_both : (text binary : Option (List ℕ)) (name : List ℕ) → form_unless (not (has_both text binary)) name ≡ None
    → has_both text binary ≡ false
not_both text binary name h = negated (has_both text binary) (passes (not (has_both text binary)) name h)
  where
    negated : (b : Bool) → not b ≡ true → b ≡ false
    negated false e = refl
    negated true e = let f : false ≡ true = e in cc

-- one of them is
pub one_given : (text binary : Option (List ℕ)) (name : List ℕ) → form_unless (has_one text binary) name ≡ None
    → (is_some text || is_some binary) ≡ true
one_given text binary name h =
    (and_parts (is_some text || is_some binary) (not (has_both text binary)) (passes (has_one text binary) name h)).0
