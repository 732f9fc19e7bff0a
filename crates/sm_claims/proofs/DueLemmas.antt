-- The first secret that is due.
use Rattle.std.proofs.Common.{◌≡◌, ℕ, ◌+◌, ◌≤◌, Bool, true, false, not, ◌&&◌, ◌||◌, cond, List, [], ◌∷◌, length, drop, Option, Some, None, is_some, refl, sym, ap, ◌∙◌}
use Rattle.std.specs.List.{slice_get}
use Rattle.std.specs.Prelude.{nat_eq}
use Rattle.std.proofs.lemmas.Bool.{eq-eqb}
use Rattle.std.proofs.lemmas.List.{drop_all}
use Rattle.sm_base.specs.declared.moment.Moment.{Moment}
use Rattle.sm_model.specs.declared.rows.SecretRow.{SecretRow}
use Rattle.sm_versions.specs.Due.{is_due, is_due_for}
use Rattle.sm_model.specs.Versions.{has_version}
use Rattle.sm_table.specs.Changes.{row_with}
use Rattle.sm_table.specs.Dates.{first_due as lowest}
use Rattle.sm_claims.specs.Due.{due_of, first_due, has_due}
use Rattle.sm_claims.proofs.PlaceLemmas.{drop_at}

-- some secret is due exactly where there is a first one
pub due_is_some : (rows : List SecretRow) (moment : Moment) → has_due rows moment ≡ is_some (lowest rows moment)
due_is_some [] moment = refl
due_is_some (row ∷ rows) moment = by (is_due row moment) (due_is_some rows moment)
  where
    by : (b : Bool) → has_due rows moment ≡ is_some (lowest rows moment)
        → (b || has_due rows moment) ≡ is_some (cond b (Some row.serial) (lowest rows moment))
    by true rest = refl
    by false rest = rest

-- what is not due is due for no token
module _ (moment : Moment) (token : List ℕ) where
  pub none_is_due : (rows : List SecretRow) → lowest rows moment ≡ None → first_due rows moment token ≡ None
  none_is_due [] none = refl
  none_is_due (r ∷ rs) none = by (is_due r moment) none (none_is_due rs)
    where
      by : (b : Bool) → cond b (Some r.serial) (lowest rs moment) ≡ None
          → (lowest rs moment ≡ None → first_due rs moment token ≡ None)
          → cond (b && not (has_version r.versions token)) (Some r) (first_due rs moment token) ≡ None
      by true none others = absurd (cc)
      by false none others = others none

  -- the first that is due is the first that is due for the token, where it is due for it
  pub first_is_lowest : (rows : List SecretRow) (serial : ℕ) (row : SecretRow) → lowest rows moment ≡ Some serial
      → due_of moment token (row_with rows serial) ≡ Some row → first_due rows moment token ≡ Some row
  first_is_lowest [] serial row low due = absurd (cc)
  first_is_lowest (r ∷ rs) serial row low due =
      by (nat_eq r.serial serial) refl due (λ rest first. first_is_lowest rs serial row first rest)
    where
      one : (b : Bool) (found : Option SecretRow) → cond b (Some r) None ≡ Some row → cond b (Some r) found ≡ Some row
      one true found e = e
      one false found e = absurd (cc)

      later : (b : Bool) → cond b (Some r.serial) (lowest rs moment) ≡ Some serial → nat_eq r.serial serial ≡ false
          → (lowest rs moment ≡ Some serial → first_due rs moment token ≡ Some row)
          → cond (b && not (has_version r.versions token)) (Some r) (first_due rs moment token) ≡ Some row
      later true low other rest =
          let its : r.serial ≡ serial = cc in
          absurd (let never : false ≡ true = sym other ∙ eq-eqb r.serial serial its in cc)
      later false low other rest = rest low

      by : (same : Bool) → nat_eq r.serial serial ≡ same
          → due_of moment token (cond same (Some r) (row_with rs serial)) ≡ Some row
          → (due_of moment token (row_with rs serial) ≡ Some row → lowest rs moment ≡ Some serial
          → first_due rs moment token ≡ Some row)
          → first_due (r ∷ rs) moment token ≡ Some row
      by true is due rest = one (is_due_for r moment token) (first_due rs moment token) due
      by false is due rest = later (is_due r moment) low is (rest due)

module _ (rows : List SecretRow) (moment : Moment) (i : ℕ) where
  module _ (token : List ℕ) where
    pub due_here : (row : SecretRow) → slice_get rows i ≡ Some row → is_due_for row moment token ≡ true
        → first_due (drop i rows) moment token ≡ Some row
    due_here row at is =
        ap (λ rs. first_due rs moment token) (drop_at rows i row at)
        ∙ ap (λ b. cond b (Some row) (first_due (drop (i + 1) rows) moment token)) is

    pub due_next : (row : SecretRow) → slice_get rows i ≡ Some row → is_due_for row moment token ≡ false
        → first_due (drop (i + 1) rows) moment token ≡ first_due (drop i rows) moment token
    due_next row at is =
        sym (ap (λ rs. first_due rs moment token) (drop_at rows i row at)
        ∙ ap (λ b. cond b (Some row) (first_due (drop (i + 1) rows) moment token)) is)

    pub due_end : length rows ≤ i → first_due (drop i rows) moment token ≡ None
    due_end past = ap (λ rs. first_due rs moment token) (drop_all i rows past)
