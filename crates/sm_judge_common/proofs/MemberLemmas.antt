-- The members of a request whose forms pass.
use Rattle.std.proofs.Common.{◌≡◌, ℕ, ◌<◌, List, Bool, true, false, length, get_or, refl, sym, ap, ◌∙◌}
use Rattle.std.specs.Prelude.{IsTrue}
use Rattle.std.specs.List.{list_all}
use Rattle.std.proofs.lemmas.Bool.{false≢true}
use Rattle.std.proofs.lemmas.List.Folds.{list_all_at}
use Rattle.sm_base.specs.declared.spelling.ReadRefused.TheVariants.{Spelling}
use Rattle.sm_base.specs.Reading.{IsRefusal}
use Rattle.sm_base.specs.Spelling.{is_label, is_secret_id}

-- a SecretId that is spelled as one is read
pub spelled_is_read : (text : List ℕ) (place : ℕ) → IsTrue (is_secret_id text)
    → IsRefusal is_secret_id text (Spelling place) → ⊥
spelled_is_read text place spelled refused = refused.unspelled spelled

-- one of texts that are labels
pub label_at : (texts : List (List ℕ)) (i : ℕ) (text : List ℕ) → IsTrue (list_all is_label texts) → i < length texts
    → text ≡ get_or texts i text → IsTrue (is_label text)
label_at texts i text all under e = by (is_label text) refl
  where
    by : (b : Bool) → b ≡ is_label text → b ≡ true
    by true f = refl
    by false f = absurd (false≢true (sym (list_all_at is_label texts i text under (ap is_label (sym e) ∙ sym f)) ∙ all))
