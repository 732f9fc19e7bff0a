-- Tags: what it says that they pass their form.
use Rattle.std.proofs.Common.{◌≡◌, ℕ, ◌+◌, ◌-◌, ◌<◌, Bool, not, ◌&&◌, ◌||◌, List, [], ◌∷◌, length, take, drop, drop-cons, get_or, Option, None, Some, IfSome, refl, sym, ap, ◌∙◌, arith}
use Rattle.std.specs.Prelude.{IsTrue}
use Rattle.std.specs.List.{list_all, list_any}
use Rattle.std.proofs.lemmas.Bool.{and_parts}
use Rattle.std.proofs.lemmas.List.{take_rest}
use Rattle.sm_model.specs.declared.value.Tag.{Tag}
use Rattle.sm_model.specs.Bounds.{is_tag}
use Rattle.sm_versions.specs.Texts.{is_among, once}
use Rattle.sm_base.specs.Texts.{same_text}
use Rattle.sm_versions.specs.Sound.{tag_keys, each_tag}
use Rattle.sm_forms.specs.Members.{are_tags, tags_form}
use Rattle.sm_forms.proofs.MemberLemmas.{passes}

-- a test of each tag
pub each_tag_is : (tags : List Tag) → list_all is_tag tags ≡ each_tag tags
each_tag_is [] = refl
each_tag_is (tag ∷ tags) = ap (λ b. is_tag tag && b) (each_tag_is tags)

-- a test for a tag with the key
key_among : (tags : List Tag) (key : List ℕ) → list_any (λ tag. same_text tag.key key) tags
    ≡ is_among (tag_keys tags) key
key_among [] key = refl
key_among (tag ∷ tags) key = ap (λ b. same_text tag.key key || b) (key_among tags key)

-- the tags that pass their form
pub tags_pass : (tags : Option (List Tag)) → tags_form tags ≡ None
    → IfSome tags (λ ts. IsTrue (each_tag ts) × IsTrue (once (tag_keys ts)))
tags_pass None h = tt
tags_pass (Some tags) h = and_parts (each_tag tags) (once (tag_keys tags)) (passes (are_tags tags) _ h)

-- no key stands twice from a place on, by the tag that stands there and those behind it
pub once_from : (tags : List Tag) (i : ℕ) (tag : Tag) (found : Bool) → i < length tags → tag ≡ get_or tags i tag
    → found ≡ list_any (λ other. same_text other.key tag.key) (take (length tags - (i + 1)) (drop (i + 1) tags))
    → once (tag_keys (drop i tags)) ≡ (not found && once (tag_keys (drop (i + 1) tags)))
once_from tags i tag found under is e =
    let split : drop i tags ≡ tag ∷ drop (i + 1) tags = grind (arith, drop-cons tags i tag under, is) in
    rw split (ap (λ b. not b && once (tag_keys (drop (i + 1) tags)))
    (sym (key_among (drop (i + 1) tags) tag.key)
    ∙ ap (list_any (λ other. same_text other.key tag.key)) (sym (take_rest tags (i + 1))) ∙ sym e))
