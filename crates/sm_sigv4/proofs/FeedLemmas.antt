-- What goes into a hasher, piece by piece.
use Rattle.std.proofs.Common.{◌≡◌, ℕ, List, [], ◌++◌, subst, refl, sym, ap, ◌∙◌, append_assoc, append-nil}
use Rattle.sha2.specs.Hashers.{Holds256}
use Rattle.sha2.specs.declared.Sha256.{Sha256}
use Rattle.sm_sigv4.specs.Canonical.{Feeds}

-- a part of the whole was given, and this is left
pub record Fed (old new : Sha256) (left whole : List ℕ) : Type 0 where
  pub done : List ℕ
  pub fed : Feeds old new done
  pub parts : whole ≡ done ++ left

-- one piece and then another
pub feeds_both : (old new newer : Sha256) (one other : List ℕ) → Feeds old new one → Feeds new newer other
    → Feeds old newer (one ++ other)
feeds_both old new newer one other f g before holds =
    subst (Holds256 newer) (append_assoc before one other) (g (before ++ one) (f before holds))

feeds_none : (hasher : Sha256) → Feeds hasher hasher []
feeds_none hasher before holds = subst (Holds256 hasher) (sym (append-nil before)) holds

pub fed_nothing : (hasher : Sha256) (whole : List ℕ) → Fed hasher hasher whole whole
fed_nothing hasher whole = record { done = []; fed = feeds_none hasher; parts = refl }

pub fed_more : (old new newer : Sha256) (piece left rest whole : List ℕ) → Fed old new left whole
    → left ≡ piece ++ rest → Feeds new newer piece → Fed old newer rest whole
fed_more old new newer piece left rest whole f parts g = record {
  done = f.done ++ piece;
  fed = feeds_both old new newer f.done piece f.fed g;
  parts = f.parts ∙ ap (λ (t : List ℕ). f.done ++ t) parts ∙ sym (append_assoc f.done piece rest);
}

pub fed_last : (old new newer : Sha256) (left whole : List ℕ) → Fed old new left whole → Feeds new newer left
    → Feeds old newer whole
fed_last old new newer left whole f g =
    subst (λ (t : List ℕ). Feeds old newer t) (sym f.parts) (feeds_both old new newer f.done left f.fed g)

pub fed_whole : (old new : Sha256) (left whole : List ℕ) → Fed old new left whole → left ≡ [] → Feeds old new whole
fed_whole old new left whole f none =
    subst (λ (t : List ℕ). Feeds old new t)
    (sym (f.parts ∙ ap (λ (t : List ℕ). f.done ++ t) none ∙ append-nil f.done)) f.fed
