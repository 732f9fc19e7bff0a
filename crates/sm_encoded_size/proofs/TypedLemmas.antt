-- What the types say of versions and of secrets, one more as at a step of a loop.
use Rattle.std.proofs.Common.{◌≡◌, ℕ, zero, suc, ◌+◌, ◌<◌, ◌≤◌, List, [], ◌∷◌, ◌++◌, length, take, get_or, slice_get, Option, Some, IfSome, refl, sym, ap, subst, ◌∙◌, arith}
use Rattle.std.proofs.lemmas.List.{take_more, take_all}
use Rattle.sm_model.specs.declared.rows.SecretRow.{SecretRow}
use Rattle.sm_model.specs.declared.rows.VersionRow.{VersionRow}
use Rattle.sm_encoded_size.specs.Typed.{VersionTyped, VersionsTyped, RowTyped, RowsTyped}
use Rattle.sm_base_check.proofs.DifferLemmas.{more}

version_at : (versions : List VersionRow) (i : ℕ) → i < length versions
    → (v : VersionRow) × (slice_get versions i ≡ Some v)
version_at [] i lt = absurd (omega (arith, lt))
version_at (v ∷ vs) zero lt = (v, refl)
version_at (v ∷ vs) (suc i) lt = version_at vs i (omega (arith, lt))

versions_push : (versions : List VersionRow) (v : VersionRow) → VersionsTyped versions → VersionTyped v
    → VersionsTyped (versions ++ v ∷ [])
versions_push [] v all typed = (typed, tt)
versions_push (u ∷ us) v all typed = (all.0, versions_push us v all.1 typed)

pub versions_more : (versions : List VersionRow) (i : ℕ) → i < length versions
    → IfSome (slice_get versions i) VersionTyped → VersionsTyped (take i versions)
    → VersionsTyped (take (i + 1) versions)
versions_more versions i lt typed all =
    let at = version_at versions i lt in
    subst VersionsTyped (sym (more versions i at.0 at.1))
    (versions_push (take i versions) at.0 all (subst (λ (o : Option VersionRow). IfSome o VersionTyped) at.1 typed))

pub versions_all : (versions : List VersionRow) (i : ℕ) → length versions ≤ i → VersionsTyped (take i versions)
    → VersionsTyped versions
versions_all versions i le all = subst VersionsTyped (take_all i versions le) all

rows_push : (rows : List SecretRow) (row : SecretRow) → RowsTyped rows → RowTyped row → RowsTyped (rows ++ row ∷ [])
rows_push [] row all typed = (typed, tt)
rows_push (r ∷ rs) row all typed = (all.0, rows_push rs row all.1 typed)

pub rows_more : (rows : List SecretRow) (i : ℕ) (row : SecretRow) → i < length rows → row ≡ get_or rows i row
    → RowTyped row → RowsTyped (take i rows) → RowsTyped (take (i + 1) rows)
rows_more rows i row lt is typed all =
    subst RowsTyped
    (sym (take_more rows i row lt ∙ ap (λ (r : SecretRow). take i rows ++ r ∷ []) (sym is)))
    (rows_push (take i rows) row all typed)

pub rows_all : (rows : List SecretRow) (i : ℕ) → length rows ≤ i → RowsTyped (take i rows) → RowsTyped rows
rows_all rows i le all = subst RowsTyped (take_all i rows le) all
