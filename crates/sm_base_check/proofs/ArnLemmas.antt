-- ARNs of a name.
use Rattle.std.proofs.Common.{◌≡◌, ℕ, zero, suc, Bool, true, false, ◌&&◌, nat_eq, List, [], ◌∷◌, ◌++◌, length, drop, codes, cond, Some, None, refl, sym, ap, ◌∙◌}
use Rattle.std.specs.Char.{is_ascii_alphanumeric}
use Rattle.std.specs.List.{starts_with}
use Rattle.sm_base.specs.Spelling.{is_run}
use Rattle.sm_versions.specs.Sound.{arn_beginning, is_arn_of}
use Rattle.sm_base_check.specs.Tests.{behind, is_run_behind, is_named_run}

-- a front of two parts
pub starts_both : (text a b : List ℕ)
    → starts_with nat_eq text (a ++ b) ≡ (starts_with nat_eq text a && starts_with nat_eq (drop (length a) text) b)
starts_both text [] b = refl
starts_both [] (x ∷ a) b = refl
starts_both (t ∷ text) (x ∷ a) b = by (nat_eq x t) (starts_both text a b)
  where
    by : (e : Bool)
        → starts_with nat_eq text (a ++ b) ≡ (starts_with nat_eq text a && starts_with nat_eq (drop (length a) text) b)
        → (e && starts_with nat_eq text (a ++ b))
        ≡ ((e && starts_with nat_eq text a) && starts_with nat_eq (drop (length a) text) b)
    by true rest = rest
    by false rest = refl

pub behind_both : (text a b : List ℕ) → drop (length (a ++ b)) text ≡ drop (length b) (drop (length a) text)
behind_both text [] b = refl
behind_both [] (x ∷ a) b = sym (none (length b))
  where
    none : (n : ℕ) → drop {A = ℕ} n [] ≡ []
    none zero = refl
    none (suc n) = refl
behind_both (t ∷ text) (x ∷ a) b = behind_both text a b

-- ---- what stands behind the beginning of all ARNs

beginning : List ℕ
beginning = codes "arn:aws:secretsmanager:us-east-1:000000000000:secret:"

both : (text a b : List ℕ)
    → is_run_behind text (a ++ b) ≡ (starts_with nat_eq text a && is_run_behind (drop (length a) text) b)
both text a b =
    rw (starts_both text a b, behind_both text a b)
    (by (starts_with nat_eq text a) (starts_with nat_eq (drop (length a) text) b)
    (is_run is_ascii_alphanumeric 6 6 (drop (length b) (drop (length a) text))))
  where
    by : (x y z : Bool) → ((x && y) && z) ≡ (x && (y && z))
    by true y z = refl
    by false y z = refl

parted : (arn name : List ℕ)
    → is_arn_of arn name ≡ (starts_with nat_eq arn beginning && is_named_run (drop (length beginning) arn) name)
unfolding arn_beginning beginning
parted arn name = both arn beginning (name ++ codes "-")

pub begins_so : (arn name rest : List ℕ) (answer : Bool)
    → Some rest ≡ behind arn (codes "arn:aws:secretsmanager:us-east-1:000000000000:secret:")
    → answer ≡ is_named_run rest name → answer ≡ is_arn_of arn name
unfolding beginning
begins_so arn name rest answer is e = by (starts_with nat_eq arn beginning) refl is
  where
    by : (b : Bool) → b ≡ starts_with nat_eq arn beginning
        → Some rest ≡ cond b (Some (drop (length beginning) arn)) None → answer ≡ is_arn_of arn name
    by true s i =
        let same : rest ≡ drop (length beginning) arn = cc in
        e ∙ ap (λ t. is_named_run t name) same ∙ sym (parted arn name ∙ rw (sym s) refl)
    by false s i = absurd (cc)

pub begins_not : (arn name : List ℕ)
    → None ≡ behind arn (codes "arn:aws:secretsmanager:us-east-1:000000000000:secret:") → false ≡ is_arn_of arn name
unfolding beginning
begins_not arn name is = by (starts_with nat_eq arn beginning) refl is
  where
    by : (b : Bool) → b ≡ starts_with nat_eq arn beginning
        → None ≡ cond b (Some (drop (length beginning) arn)) None → false ≡ is_arn_of arn name
    by true s i = absurd (cc)
    by false s i = sym (parted arn name ∙ rw (sym s) refl)
