-- The entries of rotations that may be made.
use Rattle.std.proofs.Common.{◌≡◌, ℕ, ◌≤◌, Bool, true, false, List, [], length, Option, Some, None, IsSomeAnd, IsTrue, refl, sym, ap, ◌∙◌, subst, arith}
use Rattle.std.specs.Prelude.{if◌then◌else◌}
use Rattle.sm_base.specs.Drawn.{drawn_token}
use Rattle.sm_base.specs.declared.moment.Moment.{Moment}
use Rattle.sm_base.specs.declared.moment.TheConstants.{LAST_READING}
use Rattle.sm_disk.specs.declared.disk.Disk.{Ghosts}
use Rattle.sm_model.specs.Bounds.{is_small}
use Rattle.sm_model.specs.declared.entry.Answer.{Answer}
use Rattle.sm_model.specs.declared.entry.Answer.TheVariants as answers
use Rattle.sm_model.specs.declared.rows.Rows.{Rows}
use Rattle.sm_model.specs.declared.rows.SecretRow.{SecretRow}
use Rattle.sm_claims.specs.Due.{first_due}
use Rattle.sm_claims.specs.Fresh.{is_fresh}
use Rattle.sm_claims.proofs.ArnLemmas.{due_found, due_in}
use Rattle.sm_claims.proofs.FreshLemmas.{fresh_attempt, fresh_job}
use Rattle.sm_judge_rotations.specs.Reported.{MayReport, is_at_step}
use Rattle.sm_rotator.specs.declared.work.Work.{Work}
use Rattle.sm_encoded_size.specs.Spellable.{IsStep, is_small_answer}
use Rattle.sm_table.specs.Found.{found_arn}
use Rattle.sm_table.specs.Sound.{Sound}
use Rattle.sm_table.proofs.SoundLaws.{found_arn_sound}
use Rattle.sm_versions.specs.Due.{is_due_for}
use Rattle.sm_versions.specs.Sound.{RowSound}
use Rattle.sm_account.specs.declared.account_state.AccountState.{AccountState}
use Rattle.sm_account.specs.AccountState.{Kept}
use Rattle.sm_account.specs.Handling.{MayEnter}
use Rattle.sm_account.specs.Report.{entered_answer, reported_entry}
use Rattle.sm_account.specs.StartDue.{begun_entry}

small_so : (answer : Answer) → is_small_answer (entered_answer answer) ≡ true
small_so (answers.Value value) = by (is_small value) refl
  where
    by : (b : Bool) → b ≡ is_small value
        → is_small_answer (if b then answers.Value value else answers.Failed) ≡ true
    by true is = sym is
    by false is = refl
small_so answers.Yes = refl
small_so answers.No = refl
small_so answers.Failed = refl

-- a verdict that holds is of a step that the secret's job is at
may_report : (rows : Rows) (moment : Moment) (work : Work) (found : Option SecretRow)
    → found_arn rows moment work.arn ≡ found → is_fresh found work ≡ true → MayReport rows moment work.arn work.at
may_report rows moment work None is fresh = absurd (cc)
may_report rows moment work (Some row) is fresh =
    let job = fresh_job row work fresh in
    subst (λ (o : Option SecretRow). IsSomeAnd o (λ row. IsTrue (is_at_step row.job work.at))) (sym is)
    (ap (λ j. is_at_step j work.at) job.its ∙ job.at)

step_of : (rows : Rows) (moment : Moment) (work : Work) (answer : Answer) (found : Option SecretRow)
    → found_arn rows moment work.arn ≡ found → is_fresh found work ≡ true → Sound rows
    → IsStep [] work.at (entered_answer answer)
step_of rows moment work answer None is fresh sound = absurd (cc)
step_of rows moment work answer (Some row) is fresh sound =
    let row_sound : RowSound row = found_arn_sound rows moment work.arn (Some row) (sym is) sound in
    record { none = refl; attempt = fresh_attempt row work fresh row_sound; small = small_so answer }

module _ {D : Type 0} {G : Ghosts D} (inner : AccountState D G) (kept : Kept G inner) (moment : Moment)
    (later : inner.last.0 ≤ moment.0) (bound : moment.0 ≤ LAST_READING) where
  -- the start of the first rotation that is due
  pub start_may : (drawn : List ℕ) (row : SecretRow) → length drawn ≡ 16
      → first_due inner.table.secrets moment (drawn_token drawn) ≡ Some row
      → MayEnter inner (begun_entry moment drawn row.arn)
  start_may drawn row sixteen first =
      let due = (due_in inner.table.secrets moment (drawn_token drawn) row first).0 in
      let found : found_arn inner.table moment row.arn ≡ Some row =
      due_found inner.table moment (drawn_token drawn) row kept.sound first in
      record {
        legal = (
          refl,
          (
            sixteen,
            subst (λ (o : Option SecretRow). IsSomeAnd o (λ r. IsTrue (is_due_for r moment (drawn_token drawn))))
                (sym found) due,
          ),
        );
        later = later;
        bound = bound;
        act = record { act = sixteen; whose = refl; caller = omega arith; by = omega arith };
      }

  -- an answer that holds
  pub report_may : (work : Work) (answer : Answer) → is_fresh (found_arn inner.table moment work.arn) work ≡ true
      → MayEnter inner (reported_entry moment work answer)
  report_may work answer fresh = record {
    legal = (refl, (refl, may_report inner.table moment work (found_arn inner.table moment work.arn) refl fresh));
    later = later;
    bound = bound;
    act = record {
      act = step_of inner.table moment work answer (found_arn inner.table moment work.arn) refl fresh kept.sound;
      whose = refl;
      caller = omega arith;
      by = omega arith;
    };
  }
