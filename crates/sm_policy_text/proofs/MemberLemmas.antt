-- The members of an object, one after the other.
use Rattle.std.proofs.Common.{◌≡◌, ℕ, true, false, cond, List, [], ◌∷◌, ◌++◌, length, Option, Some, None, string_bytes, refl, ap, sym, ◌∙◌, append-nil, arith}
use Rattle.serde_json.specs.Data.{Data}
use Rattle.serde_json.specs.View.{view, members_view}
use Rattle.serde_json.proofs.Views.{Entry}
use Rattle.sm_policy_text.specs.declared.member.Member.{Member}
use Rattle.sm_policy_text.specs.Members.{is_among, first_unknown}
use Rattle.sm_policy_text.specs.Kinds.{before, all_members, is_single}
use Rattle.sm_policy_text.proofs.ItemLemmas.{with_front, front_moved}

-- the member is none of these
pub unknown_here : (known : List Member) (entries rest : List Entry) (e : Entry) (wanted : Option (List ℕ))
    → entries ≡ e ∷ rest → is_among known (string_bytes e.0) ≡ false
    → wanted ≡ first_unknown known (members_view entries) → wanted ≡ Some (string_bytes e.0)
unknown_here known entries rest e wanted steps is was =
    was ∙ ap (λ es. first_unknown known (members_view es)) steps
    ∙ ap (λ b. cond b (first_unknown known (members_view rest)) (Some (string_bytes e.0))) is

-- it is one of them
pub unknown_later : (known : List Member) (entries rest : List Entry) (e : Entry) (wanted : Option (List ℕ))
    → entries ≡ e ∷ rest → is_among known (string_bytes e.0) ≡ true
    → wanted ≡ first_unknown known (members_view entries) → wanted ≡ first_unknown known (members_view rest)
unknown_later known entries rest e wanted steps is was =
    was ∙ ap (λ es. first_unknown known (members_view es)) steps
    ∙ ap (λ b. cond b (first_unknown known (members_view rest)) (Some (string_bytes e.0))) is

pub unknown_none : (known : List Member) (entries : List Entry) (wanted : Option (List ℕ)) → entries ≡ []
    → wanted ≡ first_unknown known (members_view entries) → wanted ≡ None
unknown_none known entries wanted steps was = was ∙ ap (λ es. first_unknown known (members_view es)) steps

pub single_is : (entries : List Entry) → length entries ≡ 1 → is_single (members_view entries) ≡ true
single_is [] h = absurd (omega arith)
single_is (e ∷ []) h = refl
single_is (e ∷ f ∷ es) h = absurd (omega arith)

pub not_single_is : (entries : List Entry) → ¬ (length entries ≡ 1) → is_single (members_view entries) ≡ false
not_single_is [] h = refl
not_single_is (e ∷ []) h = absurd (h refl)
not_single_is (e ∷ f ∷ es) h = refl

-- members that are read
module _ {A : Type 0} (reads : List ℕ → Data → Option A) (entries rest : List Entry) (e : Entry)
    (steps : entries ≡ e ∷ rest) where
  pub members_more : (all : Option (List A)) (front : List A) (name : List ℕ) (x : A) → name ≡ string_bytes e.0
      → reads name (view e.1) ≡ Some x → all ≡ with_front front (all_members reads (members_view entries))
      → all ≡ with_front (front ++ x ∷ []) (all_members reads (members_view rest))
  members_more all front name x same is was =
      was ∙ ap (λ es. with_front front (all_members reads (members_view es))) steps
      ∙ ap (λ r. with_front front (before r (all_members reads (members_view rest))))
      (ap (λ n. reads n (view e.1)) (sym same) ∙ is)
      ∙ front_moved front x (all_members reads (members_view rest))

  pub members_bad : (all : Option (List A)) (front : List A) (name : List ℕ) → name ≡ string_bytes e.0
      → reads name (view e.1) ≡ None → all ≡ with_front front (all_members reads (members_view entries)) → all ≡ None
  members_bad all front name same is was =
      was ∙ ap (λ es. with_front front (all_members reads (members_view es))) steps
      ∙ ap (λ r. with_front front (before r (all_members reads (members_view rest))))
      (ap (λ n. reads n (view e.1)) (sym same) ∙ is)

pub members_all : {A : Type 0} (reads : List ℕ → Data → Option A) (entries : List Entry) (all : Option (List A))
    (front : List A) → entries ≡ [] → all ≡ with_front front (all_members reads (members_view entries))
    → all ≡ Some front
members_all reads entries all front steps was =
    was ∙ ap (λ es. with_front front (all_members reads (members_view es))) steps ∙ ap Some (append-nil front)
