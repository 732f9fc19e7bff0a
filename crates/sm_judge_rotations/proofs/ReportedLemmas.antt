-- Judging a reported step of a rotation: there is a change exactly where it is legal, and it is the entry's.
use Rattle.std.proofs.Common.{◌≡◌, ℕ, ◌≤◌, Bool, true, false, cond, List, Option, Some, None, IsSomeAnd, IsTrue, refl}
use Rattle.std.proofs.lemmas.Bool.{false≢true}
use Rattle.sm_base.specs.declared.moment.Moment.{Moment}
use Rattle.sm_base.specs.declared.moment.TheConstants.{LAST_READING}
use Rattle.sm_model.specs.declared.entry.Answer.{Answer}
use Rattle.sm_model.specs.declared.entry.At.{At}
use Rattle.sm_model.specs.declared.entry.Change.{Change}
use Rattle.sm_model.specs.declared.entry.Change.TheVariants as changes
use Rattle.sm_model.specs.declared.rows.Job.{Job}
use Rattle.sm_model.specs.declared.rows.Rows.{Rows}
use Rattle.sm_model.specs.declared.rows.SecretRow.{SecretRow}
use Rattle.sm_model.specs.declared.rows.Stage.{Stage}
use Rattle.sm_model.specs.declared.rows.Stage.TheVariants.{Create, Set, Test, Finish}
use Rattle.sm_model.specs.declared.value.Value.{Value}
use Rattle.sm_model.specs.Versions.{When}
use Rattle.sm_model.specs.Bounds.{is_date}
use Rattle.sm_versions.proofs.CountLaws.{few_counted}
use Rattle.sm_versions.proofs.SoundLaws.{unsettled_sound}
use Rattle.sm_rotation.specs.Step.{is_yes, made_value, retried, after_create, finished, step_at, applied_row}
use Rattle.sm_rotation.proofs.SoundLemmas.{applied_sound}
use Rattle.sm_table.specs.Sweep.{sweep}
use Rattle.sm_table.specs.Found.{found_arn}
use Rattle.sm_table.specs.Sound.{Sound}
use Rattle.sm_judge_common.specs.Changes.{settled, IsChange}
use Rattle.sm_judge_common.specs.Secrets.{finished_row}
use Rattle.sm_judge_rotations.specs.Reported.{is_at_step, answered, reported_found, reported_change, MayReport, reported_effect}
use Rattle.sm_judge_rotations.proofs.ActLemmas.{Agrees}
use Rattle.sm_judge_rotations.proofs.WholeArnLemmas.{OnArn, arn_row_sound, arn_change}

-- ---- the secret stays the same

record SameSecret (row next : SecretRow) : Type 0 where
  serial : next.serial ≡ row.serial
  name : next.name ≡ row.name
  arn : next.arn ≡ row.arn

create_same : (row : SecretRow) (job : Job) (moment : Moment) (value : Option Value)
    → SameSecret row (after_create row job moment value)
create_same row job moment None = record { serial = refl; name = refl; arn = refl }
create_same row job moment (Some value) = record { serial = refl; name = refl; arn = refl }

finish_same : (row : SecretRow) (job : Job) (moment : Moment) (yes : Bool)
    → SameSecret row (cond yes (finished row job moment) (record row { job = retried job moment }))
finish_same row job moment true = record { serial = refl; name = refl; arn = refl }
finish_same row job moment false = record { serial = refl; name = refl; arn = refl }

step_same : (row : SecretRow) (job : Job) (moment : Moment) (answer : Answer) (stage : Stage)
    → SameSecret row (step_at row job moment answer stage)
step_same row job moment answer Create = create_same row job moment (made_value answer)
step_same row job moment answer Set = record { serial = refl; name = refl; arn = refl }
step_same row job moment answer Test = record { serial = refl; name = refl; arn = refl }
step_same row job moment answer Finish = finish_same row job moment (is_yes answer)

applied_same : (row : SecretRow) (job : Option Job) (answer : Answer) (moment : Moment)
    → SameSecret row (applied_row row job answer moment)
applied_same row None answer moment = record { serial = refl; name = refl; arn = refl }
applied_same row (Some job) answer moment =
    let same = step_same row job moment answer job.stage in
    record { serial = same.serial; name = same.name; arn = same.arn }

-- ---- the change

by_step : (at : Bool) (P : Change → Type 0) (change : Change) → P change
    → Agrees (IsTrue at) P (cond at (Some change) None)
by_step true P change h = (refl, h)
by_step false P change h = λ legal. false≢true legal

by_row : (rows : Rows) (when : When) (arn : List ℕ) (at : At) (answer : Answer) (row : Option SecretRow)
    → Sound rows → when.moment.0 ≤ LAST_READING → IsTrue (is_date when.moment) → found_arn rows when.moment arn ≡ row
    → Agrees (IsSomeAnd row (λ r. IsTrue (is_at_step r.job at))) (OnArn rows when arn (answered answer when.moment))
    (reported_found row when at answer)
by_row rows when arn at answer None sound early date e = λ legal. legal
by_row rows when arn at answer (Some row) sound early date e =
    let same = applied_same row row.job answer when.moment in
    let before = arn_row_sound rows when.moment arn row sound e in
    let after = applied_sound row answer when.moment early before in
    by_step (is_at_step row.job at) (OnArn rows when arn (answered answer when.moment))
    (changes.Replace (finished_row (answered answer when.moment row) when))
    (arn_change rows when arn (answered answer when.moment) row sound date e (record {
      serial = same.serial;
      name = same.name;
      arn = same.arn;
      sound = unsettled_sound (answered answer when.moment row) after;
      few = few_counted (answered answer when.moment row) when after.version_count;
    }))

-- there is a change exactly where the answer is legal, and it is the entry's
pub reported_agrees : (rows : Rows) (when : When) (arn : List ℕ) (at : At) (answer : Answer) → Sound rows
    → when.moment.0 ≤ LAST_READING → IsTrue (is_date when.moment)
    → Agrees (MayReport rows when.moment arn at)
    (IsChange rows when.moment (settled (reported_effect (sweep rows when.moment) when arn answer)))
    (reported_change rows when arn at answer)
reported_agrees rows when arn at answer sound early date =
    by_row rows when arn at answer (found_arn rows when.moment arn) sound early date refl
