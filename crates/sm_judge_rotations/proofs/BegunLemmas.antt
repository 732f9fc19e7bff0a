-- Judging the start of a due rotation: there is a change exactly where it is legal, and it is the entry's.
use Rattle.std.proofs.Common.{◌≡◌, ℕ, ◌≤◌, Bool, true, false, cond, nat_eq, List, length, Option, Some, None, IsSomeAnd, IsTrue, refl}
use Rattle.std.proofs.lemmas.Bool.{false≢true}
use Rattle.sm_base.specs.declared.moment.TheConstants.{LAST_READING}
use Rattle.sm_base.specs.Drawn.{drawn_token}
use Rattle.sm_model.specs.declared.entry.Change.{Change}
use Rattle.sm_model.specs.declared.entry.Change.TheVariants as changes
use Rattle.sm_model.specs.declared.rows.Rows.{Rows}
use Rattle.sm_model.specs.declared.rows.SecretRow.{SecretRow}
use Rattle.sm_model.specs.Bounds.{is_date}
use Rattle.sm_model.specs.Versions.{When}
use Rattle.sm_model.specs.Due.{is_due_for_when}
use Rattle.sm_versions.specs.Sound.{UnsettledSound}
use Rattle.sm_versions.proofs.SoundLaws.{unsettled_sound}
use Rattle.sm_rotation.specs.Begin.{begin_row}
use Rattle.sm_rotation.proofs.BeginLemmas.{due_begins}
use Rattle.sm_rotation.proofs.KeptLemmas.{begins_from}
use Rattle.sm_rotation.proofs.SoundLemmas.{begin_sound, begin_counted}
use Rattle.sm_table.specs.Sweep.{sweep}
use Rattle.sm_table.specs.Found.{found_arn}
use Rattle.sm_table.specs.Sound.{Sound}
use Rattle.sm_judge_common.specs.Changes.{settled, IsChange}
use Rattle.sm_judge_common.specs.Secrets.{finished_row}
use Rattle.sm_judge_rotations.specs.declared.begun.TheConstants.{TOKEN_BYTES}
use Rattle.sm_judge_rotations.specs.Begun.{begun_found, begun_change, MayBegin, begun_effect}
use Rattle.sm_judge_rotations.proofs.ActLemmas.{Agrees, with_bytes}
use Rattle.sm_judge_rotations.proofs.WholeArnLemmas.{OnArn, arn_row_sound, arn_change}

-- a row that is due is sound with its rotation started
begun_sound : (row : SecretRow) (token : List ℕ) (when : When) → when.moment.0 ≤ LAST_READING
    → is_due_for_when row when token ≡ true → UnsettledSound row → UnsettledSound (begin_row row token when.moment)
begun_sound row token when early due sound =
    begin_sound row token when early
    (begins_from row token when (due_begins row token when (is_due_for_when row when token) refl due)) sound

by_due : (due : Bool) (P : Change → Type 0) (change : Change) → (due ≡ true → P change)
    → Agrees (IsTrue due) P (cond due (Some change) None)
by_due true P change h = (refl, h refl)
by_due false P change h = λ legal. false≢true legal

by_row : (rows : Rows) (when : When) (token arn : List ℕ) (row : Option SecretRow) → Sound rows
    → when.moment.0 ≤ LAST_READING → IsTrue (is_date when.moment) → found_arn rows when.moment arn ≡ row
    → Agrees (IsSomeAnd row (λ r. IsTrue (is_due_for_when r when token)))
    (OnArn rows when arn (λ r. begin_row r token when.moment)) (begun_found row when token)
by_row rows when token arn None sound early date e = λ legal. legal
by_row rows when token arn (Some row) sound early date e =
    by_due (is_due_for_when row when token) (OnArn rows when arn (λ r. begin_row r token when.moment))
    (changes.Replace (finished_row (begin_row row token when.moment) when))
    (λ due. arn_change rows when arn (λ r. begin_row r token when.moment) row sound date e (record {
      serial = refl;
      name = refl;
      arn = refl;
      sound = begun_sound row token when early due
          (unsettled_sound row (arn_row_sound rows when.moment arn row sound e));
      few = begin_counted row token when (due_begins row token when (is_due_for_when row when token) refl due);
    }))

-- there is a change exactly where the start is legal, and it is the entry's
pub begun_agrees : (rows : Rows) (when : When) (drawn arn : List ℕ) → Sound rows → when.moment.0 ≤ LAST_READING
    → IsTrue (is_date when.moment)
    → Agrees (MayBegin rows when drawn arn)
    (IsChange rows when.moment (settled (begun_effect (sweep rows when.moment) when drawn arn)))
    (begun_change rows when drawn arn)
begun_agrees rows when drawn arn sound early date =
    with_bytes (length drawn) TOKEN_BYTES (nat_eq (length drawn) TOKEN_BYTES) _ _
    (begun_found (found_arn rows when.moment arn) when (drawn_token drawn)) refl
    (by_row rows when (drawn_token drawn) arn (found_arn rows when.moment arn) sound early date refl)
