-- The first secret that is ready.
use Rattle.std.proofs.Common.{◌≡◌, inl, inr, ℕ, suc, ◌+◌, ◌<◌, ◌≤◌, Bool, true, false, cond, List, [], ◌∷◌, length, drop, get_or, Option, Some, None, is_some, IfSome, IsTrue, refl, sym, ap, ◌∙◌, add-one}
use Rattle.std.proofs.Math.Seq.{drop-cons}
use Rattle.std.proofs.lemmas.List.{drop_all}
use Rattle.sm_base.specs.declared.moment.Moment.{Moment}
use Rattle.sm_model.specs.declared.entry.Mark.{Mark}
use Rattle.sm_model.specs.declared.rows.Job.{Job}
use Rattle.sm_model.specs.declared.rows.Rows.{Rows}
use Rattle.sm_model.specs.declared.rows.SecretRow.{SecretRow}
use Rattle.sm_versions.specs.Sound.{RowSound}
use Rattle.sm_table.specs.Changes.{row_with}
use Rattle.sm_table.specs.Found.{or_else}
use Rattle.sm_table.specs.Jobs.{job_serials}
use Rattle.sm_table.specs.Sound.{EachSound, Sound}
use Rattle.sm_table.proofs.FoundLaws.{IsIn, row_with_own}
use Rattle.sm_claims.specs.Ready.{is_ready, is_ready_if, ready_of, first_ready, first_ready_of}

module _ (history : List (ℕ × Mark)) (moment : Moment) (rows : List SecretRow) where
  -- a secret without a job is not ready
  from_jobs : (qs : List SecretRow) → ((q : SecretRow) → IsIn qs q → row_with rows q.serial ≡ Some q)
      → first_ready_of history moment rows (job_serials qs) ≡ first_ready history moment qs
  from_jobs [] own = refl
  from_jobs (q ∷ qs) own = by q.job refl (from_jobs qs (λ p i. own p (inr i)))
    where
      one : (b : Bool) (rest : Option SecretRow) → or_else (cond b (Some q) None) rest ≡ cond b (Some q) rest
      one true rest = refl
      one false rest = refl

      by : (job : Option Job) → job ≡ q.job
          → first_ready_of history moment rows (job_serials qs) ≡ first_ready history moment qs
          → first_ready_of history moment rows (cond (is_some job) (q.serial ∷ job_serials qs) (job_serials qs))
          ≡ cond (is_ready_if history moment q job) (Some q) (first_ready history moment qs)
      by None e rest = rest
      by (Some job) e rest =
          ap (λ row. or_else (ready_of history moment row) (first_ready_of history moment rows (job_serials qs)))
          (own q (inl refl))
          ∙ one (is_ready history moment q) (first_ready_of history moment rows (job_serials qs))
          ∙ ap (λ found. cond (is_ready history moment q) (Some q) found) rest
          ∙ ap (λ j. cond (is_ready_if history moment q j) (Some q) (first_ready history moment qs)) (sym e)

  module _ (serials : List ℕ) (i n : ℕ) (within : i < length serials) (there : n ≡ get_or serials i n) where
    from_here : first_ready_of history moment rows (drop i serials)
        ≡ or_else (ready_of history moment (row_with rows n))
        (first_ready_of history moment rows (drop (suc i) serials))
    from_here =
        ap (first_ready_of history moment rows)
        (drop-cons serials i n within ∙ ap (λ m. m ∷ drop (suc i) serials) (sym there))

    pub ready_here : (row : SecretRow) → ready_of history moment (row_with rows n) ≡ Some row
        → first_ready_of history moment rows (drop i serials) ≡ Some row
    ready_here row is =
        from_here ∙ ap (λ found. or_else found (first_ready_of history moment rows (drop (suc i) serials))) is

    pub ready_next : ready_of history moment (row_with rows n) ≡ None
        → first_ready_of history moment rows (drop (i + 1) serials)
        ≡ first_ready_of history moment rows (drop i serials)
    ready_next is =
        rw add-one (sym (from_here
        ∙ ap (λ found. or_else found (first_ready_of history moment rows (drop (suc i) serials))) is))

  pub ready_end : (serials : List ℕ) (i : ℕ) → length serials ≤ i
      → first_ready_of history moment rows (drop i serials) ≡ None
  ready_end serials i past = ap (first_ready_of history moment rows) (drop_all i serials past)

pub jobs_are_rows : (history : List (ℕ × Mark)) (moment : Moment) (rows : Rows) → Sound rows
    → first_ready_of history moment rows.secrets (job_serials rows.secrets) ≡ first_ready history moment rows.secrets
jobs_are_rows history moment rows sound =
    from_jobs history moment rows.secrets rows.secrets
    (λ q i. row_with_own rows.secrets 0 rows.next q sound.serials i)

-- of the first that is ready holds what holds of each row, and it is ready
first_holds : (P : SecretRow → Type 0) (history : List (ℕ × Mark)) (moment : Moment) (row : SecretRow)
    (rows : List SecretRow) → (is_ready history moment row ≡ true → P row)
    → IfSome (first_ready history moment rows) P
    → IfSome (first_ready history moment (row ∷ rows)) P
first_holds P history moment row rows here others = by (is_ready history moment row) refl
  where
    by : (b : Bool) → b ≡ is_ready history moment row → IfSome (cond b (Some row) (first_ready history moment rows)) P
    by true is = here (sym is)
    by false is = others

each_sound : (history : List (ℕ × Mark)) (moment : Moment) (rows : List SecretRow) → EachSound rows
    → IfSome (first_ready history moment rows) RowSound
each_sound history moment [] each = tt
each_sound history moment (row ∷ rows) each =
    first_holds RowSound history moment row rows (λ _. each.0) (each_sound history moment rows each.1)

is_one : (history : List (ℕ × Mark)) (moment : Moment) (rows : List SecretRow)
    → IfSome (first_ready history moment rows) (λ row. IsTrue (is_ready history moment row))
is_one history moment [] = tt
is_one history moment (row ∷ rows) =
    first_holds (λ r. IsTrue (is_ready history moment r)) history moment row rows (λ is. is)
    (is_one history moment rows)

pub ready_is_sound : (history : List (ℕ × Mark)) (moment : Moment) (rows : Rows) (found : Option SecretRow)
    → found ≡ first_ready history moment rows.secrets → Sound rows → IfSome found RowSound
ready_is_sound history moment rows found is sound =
    rw is (each_sound history moment rows.secrets sound.each)

pub ready_has_job : (history : List (ℕ × Mark)) (moment : Moment) (rows : Rows) (found : Option SecretRow)
    → found ≡ first_ready history moment rows.secrets
    → IfSome found (λ row. IsTrue (is_ready history moment row))
ready_has_job history moment rows found is = rw is (is_one history moment rows.secrets)
