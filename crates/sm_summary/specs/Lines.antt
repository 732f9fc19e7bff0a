-- The line of a secret in the summary of an account: when it was made, how much it keeps, whether it is scheduled for
-- deletion, and the step that its rotation is at.
-- AWS Secrets Manager API Reference: DescribeSecret (CreatedDate, DeletedDate, VersionIdsToStages); AWS Secrets Manager
-- User Guide: "Lambda rotation functions" (the names of the steps).
use Rattle.std.specs.Prelude.{◌≡◌, ℕ, List, [], ◌∷◌, ◌++◌, length, codes, decimal, Option, Some, None}
use Rattle.sm_base.specs.declared.moment.Moment.{Moment}
use Rattle.sm_model.specs.declared.rows.Job.{Job}
use Rattle.sm_model.specs.declared.rows.SecretRow.{SecretRow}
use Rattle.sm_model.specs.declared.rows.Stage.{Stage}
use Rattle.sm_model.specs.declared.rows.Stage.TheVariants.{Create, Set, Test, Finish}
use Rattle.sm_dates.specs.Days.{IsDateOf}

abbrev pub stage_name : Stage → List ℕ
stage_name Create = codes "createSecret"
stage_name Set = codes "setSecret"
stage_name Test = codes "testSecret"
stage_name Finish = codes "finishSecret"

-- the step and the attempt of a rotation, or that none is under way
abbrev pub job_text : Option Job → List ℕ
job_text None = codes "idle"
job_text (Some job) = stage_name job.stage ++ (codes " " ++ decimal job.attempt)

-- that a secret is live, or until which date it is kept
abbrev pub IsState : Option Moment → List ℕ → Type 0
IsState None text = text ≡ codes "live"
IsState (Some deletion) text = (date : List ℕ) × IsDateOf deletion date × (text ≡ codes "until " ++ date)

-- the line of a secret, by the date on which it was made and its state
abbrev pub line_with : SecretRow → List ℕ → List ℕ → List ℕ
line_with row made state =
    row.name ++ (codes " " ++ (made ++ (codes " versions " ++ (decimal (length row.versions)
    ++ (codes " labels " ++ (decimal (length row.labels) ++ (codes " " ++ (state ++ (codes " "
    ++ (job_text row.job ++ codes "\n"))))))))))

pub record IsLine (row : SecretRow) (line : List ℕ) : Type 0 where
  pub made : List ℕ
  pub state : List ℕ
  pub is_made : IsDateOf row.created made
  pub is_state : IsState row.deletion state
  pub is : line ≡ line_with row made state

-- the lines of some secrets, one after the other
abbrev pub AreLines : List SecretRow → List ℕ → Type 0
AreLines [] text = text ≡ []
AreLines (row ∷ rows) text =
    (line : List ℕ) × (lines : List ℕ) × IsLine row line × AreLines rows lines × (text ≡ line ++ lines)
