-- The next work of a rotator.
-- AWS Secrets Manager User Guide: "Lambda rotation functions".
use Rattle.std.specs.Prelude.{⊤, Option, Some, None}
use Rattle.sm_base.specs.declared.moment.Moment.{Moment}
use Rattle.sm_model.specs.declared.rows.SecretRow.{SecretRow}
use Rattle.sm_claims.specs.declared.claims.Claim.{Claim}
use Rattle.sm_claims.specs.Works.{IsWorkOf}
use Rattle.sm_rotator.specs.declared.work.Work.{Work}
use Rattle.sm_account.specs.declared.next_work.NextWork.{NextWork}
use Rattle.sm_account.specs.declared.next_work.NextWork.TheVariants as works
use Rattle.sm_account.specs.CallOutcomes.{CallOutcome, Nothing, Claimed}

-- a work of the secret that is ready, and none exactly where none is; memory may be wanted
abbrev pub NextAs : NextWork → Option SecretRow → Type 0
NextAs (works.Work work) (Some row) = IsWorkOf row work
NextAs (works.Work work) None = ⊥
NextAs works.None (Some row) = ⊥
NextAs works.None None = ⊤
NextAs works.Memory ready = ⊤

-- the claim of a work's step
abbrev pub claim_by : Work → Moment → Claim
claim_by work moment = record { arn = work.arn; at = work.at; made = moment }

-- a work is claimed at the moment
abbrev pub next_by : NextWork → Moment → CallOutcome
next_by (works.Work work) moment = Claimed work.arn work.at moment
next_by works.None moment = Nothing
next_by works.Memory moment = Nothing
