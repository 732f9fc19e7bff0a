-- The secret that a request names, and the end of each change of it.
-- AWS Secrets Manager API Reference: GetSecretValue (SecretId), DeleteSecret (a secret scheduled for deletion).
use Rattle.std.specs.Prelude.{◌≡◌, Option, Some, None}
use Rattle.sm_base.specs.declared.moment.Moment.{Moment}
use Rattle.sm_base.specs.declared.secret_id.SecretId.{SecretId}
use Rattle.sm_model.specs.declared.rows.Rows.{Rows}
use Rattle.sm_model.specs.declared.rows.SecretRow.{SecretRow}
use Rattle.sm_model.specs.declared.why.Why.{Why}
use Rattle.sm_model.specs.declared.why.Why.TheVariants.{NoSecret, Scheduled}
use Rattle.sm_model.specs.Versions.{When}
use Rattle.sm_versions.specs.Prune.{pruned}
use Rattle.sm_versions.specs.Settle.{settle}
use Rattle.sm_table.specs.Found.{found}
use Rattle.sm_judge_common.specs.declared.judged.Judged.{Judged}
use Rattle.sm_judge_common.specs.declared.judged.Judged.TheVariants.{Refuse}
use Rattle.sm_judge_common.specs.Refusals.{scheduled_refusal}

-- a secret that is scheduled for deletion refuses the request
abbrev pub unless_scheduled : Option Moment → Judged → Judged
unless_scheduled None judged = judged
unless_scheduled (Some date) judged = Refuse (Scheduled date)

abbrev pub on_secret : Option SecretRow → (SecretRow → Judged) → Judged
on_secret None judge = Refuse NoSecret
on_secret (Some row) judge = unless_scheduled row.deletion (judge row)

-- the row is that of the secret, which is there and not scheduled for deletion
abbrev pub IsStanding : Option SecretRow → SecretRow → Type 0
IsStanding found row = (found ≡ Some row) × (row.deletion ≡ None)

-- why a request is refused whose secret has to be there and not scheduled for deletion
abbrev pub standing_refusal : Option SecretRow → Option Why
standing_refusal None = Some NoSecret
standing_refusal (Some row) = scheduled_refusal row.deletion

-- a secret has to be there, and may be scheduled for deletion
abbrev pub if_there : Option SecretRow → (SecretRow → Judged) → Judged
if_there None judge = Refuse NoSecret
if_there (Some row) judge = judge row

-- the row that the SecretId names has to be there and not scheduled for deletion
abbrev pub with_secret : Rows → Moment → SecretId → (SecretRow → Judged) → Judged
with_secret rows moment id judge = on_secret (found rows moment id) judge

-- the row after a change of it: its changed moment is the request's, its job is settled, and then the versions are
-- dropped that need not be kept, where they are dropped with it
abbrev pub finished_row : SecretRow → When → SecretRow
finished_row row when = pruned (settle (record row { changed = when.moment })) when
