-- A secret has one line.
use Rattle.std.proofs.Common.{◌≡◌, ℕ, List, [], ◌∷◌, ◌++◌, codes, Option, Some, None, refl, sym, ap, ◌∙◌}
use Rattle.sm_base.specs.declared.moment.Moment.{Moment}
use Rattle.sm_model.specs.declared.rows.SecretRow.{SecretRow}
use Rattle.sm_dates.specs.Days.{IsDateOf}
use Rattle.sm_dates.proofs.DayLemmas.{one_date}
use Rattle.sm_summary.specs.Lines.{IsState, IsLine, AreLines, line_with}

-- until a date
pub until_date : (deletion : Moment) (date : List ℕ) → IsDateOf deletion date
    → IsState (Some deletion) (codes "until " ++ date)
until_date deletion date is = (date, is, refl)

-- the line with these parts
pub line_is : (row : SecretRow) (made state : List ℕ) → IsDateOf row.created made → IsState row.deletion state
    → IsLine row (line_with row made state)
line_is row made state is_made is_state =
    record { made = made; state = state; is_made = is_made; is_state = is_state; is = refl }

one_state : (deletion : Option Moment) (a b : List ℕ) → IsState deletion a → IsState deletion b → a ≡ b
one_state None a b x y = x ∙ sym y
one_state (Some deletion) a b x y =
    x.2 ∙ ap (λ date. codes "until " ++ date) (one_date deletion y.0 x.0 y.1 x.1) ∙ sym y.2

one_line : (row : SecretRow) (a b : List ℕ) → IsLine row a → IsLine row b → a ≡ b
one_line row a b x y =
    let made : x.made ≡ y.made = one_date row.created y.made x.made y.is_made x.is_made in
    let state : x.state ≡ y.state = one_state row.deletion x.state y.state x.is_state y.is_state in
    x.is ∙ rw (made, state) refl ∙ sym y.is

pub same_lines : (rows : List SecretRow) (a b : List ℕ) → AreLines rows a → AreLines rows b → a ≡ b
same_lines [] a b x y = x ∙ sym y
same_lines (row ∷ rows) a b x y =
    let first : x.0 ≡ y.0 = one_line row x.0 y.0 x.2 y.2 in
    let more : x.1 ≡ y.1 = same_lines rows x.1 y.1 x.3 y.3 in
    x.4 ∙ rw (first, more) refl ∙ sym y.4
