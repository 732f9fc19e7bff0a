-- A change of the secret that a whole ARN names.
use Rattle.std.proofs.Common.{◌≡◌, ℕ, List, Option, Some, None, IfSome, IsTrue, refl, subst, ◌∙◌}
use Rattle.sm_base.specs.declared.moment.Moment.{Moment}
use Rattle.sm_base.specs.declared.secret_id.SecretId.TheVariants.{Arn}
use Rattle.sm_model.specs.declared.entry.Change.{Change}
use Rattle.sm_model.specs.declared.entry.Change.TheVariants as changes
use Rattle.sm_model.specs.declared.rows.Rows.{Rows}
use Rattle.sm_model.specs.declared.rows.SecretRow.{SecretRow}
use Rattle.sm_model.specs.Bounds.{is_date}
use Rattle.sm_model.specs.Versions.{When}
use Rattle.sm_versions.specs.Sound.{RowSound}
use Rattle.sm_table.specs.Sweep.{swept, sweep}
use Rattle.sm_table.specs.Found.{row_with_arn, row_with_short_arn, or_else, row_by_arn, found_arn}
use Rattle.sm_table.specs.Sound.{Sound}
use Rattle.sm_table.proofs.SoundLaws.{found_arn_sound}
use Rattle.sm_judge_common.specs.Changes.{with_row, settled, IsChange}
use Rattle.sm_judge_common.specs.Secrets.{finished_row}
use Rattle.sm_judge_common.proofs.ChangeLemmas.{InPlaceOf, found_change}
use Rattle.sm_judge_rotations.specs.WholeArns.{change_with_arn}

-- a change of the row that has exactly this ARN
abbrev pub OnArn : Rows → When → List ℕ → (SecretRow → SecretRow) → Change → Type 0
OnArn rows when arn change =
    IsChange rows when.moment (settled (change_with_arn (sweep rows when.moment) arn when change))

some_sound : (found : Option SecretRow) (row : SecretRow) → found ≡ Some row → IfSome found RowSound → RowSound row
some_sound found row e all =
    let h : IfSome (Some row) RowSound = subst (λ (o : Option SecretRow). IfSome o RowSound) e all in h

-- the row that was found is sound
pub arn_row_sound : (rows : Rows) (moment : Moment) (arn : List ℕ) (row : SecretRow) → Sound rows
    → found_arn rows moment arn ≡ Some row → RowSound row
arn_row_sound rows moment arn row sound e =
    some_sound (found_arn rows moment arn) row e
    (found_arn_sound rows moment arn (found_arn rows moment arn) refl sound)

-- a whole ARN wins over one without what was drawn
whole_wins : (whole other : Option SecretRow) (row : SecretRow) → whole ≡ Some row → or_else whole other ≡ whole
whole_wins None other row e = absurd (cc)
whole_wins (Some r) other row e = refl

-- the row that was found, changed
pub arn_change : (rows : Rows) (when : When) (arn : List ℕ) (change : SecretRow → SecretRow) (row : SecretRow)
    → Sound rows → IsTrue (is_date when.moment) → found_arn rows when.moment arn ≡ Some row
    → InPlaceOf row (change row) when
    → OnArn rows when arn change (changes.Replace (finished_row (change row) when))
arn_change rows when arn change row sound date e new =
    let secrets : List SecretRow = swept rows.secrets when.moment in
    let wins : row_by_arn secrets arn ≡ row_with_arn secrets arn =
    whole_wins (row_with_arn secrets arn) (row_with_short_arn secrets arn) row e in
    subst (λ (o : Option SecretRow). IsChange rows when.moment
    (settled (record (sweep rows when.moment) { secrets = with_row secrets o when change }))
    (changes.Replace (finished_row (change row) when)))
    wins
    (found_change rows when (Arn arn) change row sound date (wins ∙ e) new)
