-- Statements, one after the other.
use Rattle.std.proofs.Common.{◌≡◌, ℕ, ◌+◌, ◌<◌, ◌≤◌, Bool, true, false, cond, List, ◌∷◌, length, drop, get_or, Option, Some, None, ap, sym, ◌∙◌}
use Rattle.std.proofs.lemmas.List.{at_drop_more}
use Rattle.std.proofs.Math.ListN.{drop_of_length-le}
use Rattle.sm_base.specs.Texts.{same_text}
use Rattle.sm_model.specs.declared.value.Tag.{Tag}
use Rattle.sm_policy_text.specs.declared.policy.Statement.{Statement}
use Rattle.sm_policy_text.specs.Documents.{counted}
use Rattle.sm_policy.specs.Decisions.{first_number, tag_value}

module _ (test : Statement → Bool) (statements : List Statement) (i : ℕ) (s : Statement) (h : i < length statements)
    (at : s ≡ get_or statements i s) where
  number_from : first_number test i (drop i statements)
      ≡ cond (test s) (Some (counted i)) (first_number test (i + 1) (drop (i + 1) statements))
  number_from =
      at_drop_more (λ (ss : List Statement). first_number test i ss) statements i s h
      ∙ ap (λ (t : Statement). first_number test i (t ∷ drop (i + 1) statements)) (sym at)

  -- the statement passes
  pub number_here : (wanted : Option ℕ) → test s ≡ true → wanted ≡ first_number test i (drop i statements)
      → wanted ≡ Some (counted i)
  number_here wanted is e =
      e ∙ number_from ∙ ap (λ b. cond b (Some (counted i)) (first_number test (i + 1) (drop (i + 1) statements))) is

  -- it doesn't
  pub number_later : (wanted : Option ℕ) → test s ≡ false → wanted ≡ first_number test i (drop i statements)
      → wanted ≡ first_number test (i + 1) (drop (i + 1) statements)
  number_later wanted is e =
      e ∙ number_from ∙ ap (λ b. cond b (Some (counted i)) (first_number test (i + 1) (drop (i + 1) statements))) is

-- none did
pub number_none : (test : Statement → Bool) (statements : List Statement) (i : ℕ) (wanted : Option ℕ)
    → length statements ≤ i → wanted ≡ first_number test i (drop i statements) → wanted ≡ None
number_none test statements i wanted h e = e ∙ ap (first_number test i) (drop_of_length-le statements h)

-- tags, one after the other
module _ (tags : List Tag) (key : List ℕ) (i : ℕ) (tag : Tag) (h : i < length tags) (at : tag ≡ get_or tags i tag) where
  tag_from : tag_value (drop i tags) key
      ≡ cond (same_text tag.key key) (Some tag.value) (tag_value (drop (i + 1) tags) key)
  tag_from =
      at_drop_more (λ (ts : List Tag). tag_value ts key) tags i tag h
      ∙ ap (λ (t : Tag). tag_value (t ∷ drop (i + 1) tags) key) (sym at)

  pub tag_here : (wanted : Option (List ℕ)) → same_text tag.key key ≡ true → wanted ≡ tag_value (drop i tags) key
      → Some tag.value ≡ wanted
  tag_here wanted is e =
      sym (e ∙ tag_from ∙ ap (λ b. cond b (Some tag.value) (tag_value (drop (i + 1) tags) key)) is)

  pub tag_later : (wanted : Option (List ℕ)) → same_text tag.key key ≡ false → wanted ≡ tag_value (drop i tags) key
      → wanted ≡ tag_value (drop (i + 1) tags) key
  tag_later wanted is e =
      e ∙ tag_from ∙ ap (λ b. cond b (Some tag.value) (tag_value (drop (i + 1) tags) key)) is

pub tag_none : (tags : List Tag) (key : List ℕ) (i : ℕ) (wanted : Option (List ℕ)) → length tags ≤ i
    → wanted ≡ tag_value (drop i tags) key → None ≡ wanted
tag_none tags key i wanted h e = sym (e ∙ ap (λ (ts : List Tag). tag_value ts key) (drop_of_length-le tags h))
