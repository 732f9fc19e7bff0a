-- Members that are unknown, and the least of them.
use Rattle.std.proofs.Common.{◌≡◌, ℕ, List, [], ◌∷◌, Bool, true, false, cond, Option, Some, None, ◌⊎◌, inl, inr, refl, ap, sym, subst, ◌∙◌, true≢false}
use Rattle.serde_json.specs.Data as shapes
use Rattle.sm_base.specs.Texts.{same_text}
use Rattle.sm_policy_text.specs.declared.member.Member.{Member}
use Rattle.sm_policy_text.specs.Members.{spelled, is_among, first_unknown}
use Rattle.sm_policy_laws.specs.Words.{HasName, IsAmong, HasOnly}
use Rattle.sm_policy_laws.specs.Faults.{Before, IsLeastUnknown}
use Rattle.sm_policy_laws.proofs.WordLemmas.{same_is, same_as, either, or_left, or_right}
use Rattle.sm_policy_laws.proofs.OrderLemmas.{Ascend, not_both}

-- the names of members
abbrev pub spelled_all : List Member → List (List ℕ)
spelled_all [] = []
spelled_all (m ∷ known) = spelled m ∷ spelled_all known

among : (known : List Member) (name : List ℕ) → is_among known name ≡ true → IsAmong (spelled_all known) name
among [] name h = absurd (let f = h in cc)
among (m ∷ known) name h =
    by (λ more. among known name more) (either (same_text (spelled m) name) (is_among known name) h)
  where
    by : (is_among known name ≡ true → IsAmong (spelled_all known) name)
        → (same_text (spelled m) name ≡ true) ⊎ (is_among known name ≡ true)
        → (spelled m ≡ name) ⊎ IsAmong (spelled_all known) name
    by later (inl same) = inl (same_is (spelled m) name same)
    by later (inr more) = inr (later more)

is_one : (known : List Member) (name : List ℕ) → IsAmong (spelled_all known) name → is_among known name ≡ true
is_one [] name h = absurd h
is_one (m ∷ known) name (inl same) =
    or_left (same_text (spelled m) name) (is_among known name) (same_as (spelled m) name same)
is_one (m ∷ known) name (inr more) =
    or_right (same_text (spelled m) name) (is_among known name) (is_one known name more)

module _ (known : List Member) where
  none_one : (name : List ℕ) → is_among known name ≡ false → IsAmong (spelled_all known) name → ⊥
  none_one name is h = true≢false (sym (is_one known name h) ∙ is)

  -- no member is unknown exactly where all are known
  pub only_of : (found : shapes.Members) → first_unknown known found ≡ None → HasOnly (spelled_all known) found
  only_of shapes.no_members e name h = absurd h
  only_of (shapes.member key value found) e name h =
      by (is_among known key) refl (λ f i. only_of found f name i) e h
    where
      by : (b : Bool) → is_among known key ≡ b
          → (first_unknown known found ≡ None → HasName found name → IsAmong (spelled_all known) name)
          → cond b (first_unknown known found) (Some key) ≡ None → (key ≡ name) ⊎ HasName found name
          → IsAmong (spelled_all known) name
      by true is later f (inl same) = subst (IsAmong (spelled_all known)) same (among known key is)
      by true is later f (inr more) = later f more
      by false is later f i = absurd (let g = f in cc)

  pub of_only : (found : shapes.Members) → HasOnly (spelled_all known) found → first_unknown known found ≡ None
  of_only shapes.no_members h = refl
  of_only (shapes.member key value found) h =
      ap (λ b. cond b (first_unknown known found) (Some key)) (is_one known key (h key (inl refl)))
      ∙ of_only found (λ name there. h name (inr there))

  -- the first unknown member of an ascending object is the least
  pub least_of : (found : shapes.Members) (name : List ℕ) → Ascend found → first_unknown known found ≡ Some name
      → IsLeastUnknown (spelled_all known) found name
  least_of shapes.no_members name up e = absurd (let f = e in cc)
  least_of (shapes.member key value found) name (below, ordered, up) e =
      by (is_among known key) refl (λ f. least_of found name up f) e
    where
      by : (b : Bool) → is_among known key ≡ b
          → (first_unknown known found ≡ Some name → IsLeastUnknown (spelled_all known) found name)
          → cond b (first_unknown known found) (Some key) ≡ Some name
          → IsLeastUnknown (spelled_all known) (shapes.member key value found) name
      by true is later f =
          let l = later f in record {
            there = inr l.there;
            unknown = l.unknown;
            least = λ other i unknown. elim i [
              | inl same ↦ absurd (unknown (subst (IsAmong (spelled_all known)) same (among known key is)))
              | inr more ↦ l.least other more unknown
            ];
          }
      by false is later f =
          let same : key ≡ name = cc in record {
            there = inl same;
            unknown = λ h. none_one key is (subst (IsAmong (spelled_all known)) (sym same) h);
            least = λ other i unknown. elim i [
              | inl also ↦ inl (sym same ∙ also)
              | inr more ↦ inr (subst (λ (n : List ℕ). Before n other) same (below other more))
            ];
          }

  pub of_least : (found : shapes.Members) (name : List ℕ) → Ascend found
      → IsLeastUnknown (spelled_all known) found name → first_unknown known found ≡ Some name
  of_least found name up l = by (first_unknown known found) refl
    where
      back : (other : List ℕ) → Before name other → (other ≡ name) ⊎ Before other name → other ≡ name
      back other before (inl same) = same
      back other before (inr after) = absurd (not_both name other before after)

      by : (o : Option (List ℕ)) → first_unknown known found ≡ o → o ≡ Some name
      by None is = absurd (l.unknown (only_of found is name l.there))
      by (Some other) is =
          let m = least_of found other up is in
          elim (l.least other m.there m.unknown) [
            | inl same ↦ ap Some (sym same)
            | inr before ↦ ap Some (back other before (m.least name l.there l.unknown))
          ]
