-- UpdateSecretVersionStage: its tests on the rows, its reply, what it changes.
-- AWS Secrets Manager API Reference, UpdateSecretVersionStage; User Guide, "AWS Secrets Manager quotas".
use Rattle.std.specs.Prelude.{ℕ, not, ◌&&◌, List, [], ◌∷◌, Option, Some, None}
use Rattle.sm_base.specs.declared.moment.Moment.{Moment}
use Rattle.sm_base.specs.SecretId.{secret_id}
use Rattle.sm_model.specs.declared.entry.Change.TheVariants as changes
use Rattle.sm_base.specs.declared.limits.TheConstants.{LABELS_LIMIT}
use Rattle.sm_model.specs.declared.reply.NamedSecret.{NamedSecret}
use Rattle.sm_model.specs.declared.reply.Reply.TheVariants as replies
use Rattle.sm_model.specs.declared.request.UpdateSecretVersionStage.{UpdateSecretVersionStage}
use Rattle.sm_model.specs.declared.rows.Rows.{Rows}
use Rattle.sm_model.specs.declared.rows.SecretRow.{SecretRow}
use Rattle.sm_model.specs.declared.why.What.TheVariants.{Labels}
use Rattle.sm_model.specs.declared.why.Why.{Why}
use Rattle.sm_model.specs.declared.why.Why.TheVariants.{NotThere, HeldBy, KeepsCurrent, Empty, Limit}
use Rattle.sm_versions.specs.declared.moving.Moved.{Moved}
use Rattle.sm_versions.specs.declared.moving.Moved.TheVariants as moves
use Rattle.sm_base.specs.Texts.{same_text}
use Rattle.sm_model.specs.Labels.{aws_current, holder}
use Rattle.sm_versions.specs.Labels.{place}
use Rattle.sm_versions.specs.Versions.{has_value}
use Rattle.sm_model.specs.Versions.{When, has_version}
use Rattle.sm_versions.specs.Put.{has_too_many}
use Rattle.sm_versions.specs.Move.{may_move, move_answer, move_row}
use Rattle.sm_table.specs.Found.{found}
use Rattle.sm_judge_common.specs.declared.judged.Judged.{Judged}
use Rattle.sm_judge_common.specs.declared.judged.Judged.TheVariants.{Accept, Refuse, Memory}
use Rattle.sm_judge_common.specs.Changes.{change_named}
use Rattle.sm_judge_common.specs.Refusals.{refuse_if, first_refusal, refusal_at}
use Rattle.sm_judge_common.specs.Secrets.{with_secret, finished_row}
use Rattle.sm_judge_labels_and_regions.specs.declared.update_secret_version_stage.MoveCall.{MoveCall}

-- ---- the members

abbrev pub move_call : UpdateSecretVersionStage → MoveCall
move_call update = record {
  from = update.remove_from_version_id;
  id = secret_id update.secret_id;
  label = update.version_stage;
  to = update.move_to_version_id;
}

-- ---- the reply

abbrev pub move_reply : SecretRow → NamedSecret
move_reply row = record { arn = row.arn; name = row.name }

-- ---- the judgement

-- by what moving the label answers
abbrev pub move_outcome : Moved → SecretRow → Judged
move_outcome moves.Ok after = Accept (replies.UpdateSecretVersionStage (move_reply after))
    (Some (changes.Replace after))
move_outcome (moves.NotThere id) after = Refuse (NotThere id)
move_outcome (moves.HeldBy held) after = Refuse (HeldBy held)
move_outcome moves.KeepsCurrent after = Refuse KeepsCurrent
move_outcome (moves.Empty id) after = Refuse (Empty id)
move_outcome (moves.TooManyLabels limit) after = Refuse (Limit limit Labels)
move_outcome moves.Memory after = Memory

-- the row with the label on the target, or taken off
abbrev pub move_in : MoveCall → SecretRow → SecretRow
move_in call row = move_row row call.label call.to

abbrev pub move_on : SecretRow → When → MoveCall → Judged
move_on row when call =
    move_outcome (move_answer row call.label call.to call.from) (finished_row (move_in call row) when)

abbrev pub move_judged : Rows → When → MoveCall → Judged
move_judged rows when call = with_secret rows when.moment call.id (λ row. move_on row when call)

abbrev pub move_judgement : Rows → When → UpdateSecretVersionStage → Judged
move_judgement rows when update = move_judged rows when (move_call update)

-- ---- when it is refused, what it does to the rows

-- a version that is named has to be there
abbrev pub absent_refusal : SecretRow → Option (List ℕ) → Option Why
absent_refusal row None = None
absent_refusal row (Some id) = refuse_if (not (has_version row.versions id)) (NotThere id)

-- AWSCURRENT moves to a version with a value, and other labels to any; at most 20 besides those of AWS stand there
-- after it
abbrev pub target_refusal : SecretRow → List ℕ → Option (List ℕ) → Option Why
target_refusal row label None = refuse_if (same_text label aws_current) KeepsCurrent
target_refusal row label (Some to) =
    first_refusal
    (refuse_if (same_text label aws_current && not (has_value row.versions to)) (Empty to)
    ∷ refuse_if (has_too_many (place row.labels label to)) (Limit LABELS_LIMIT Labels)
    ∷ [])

-- the source and the target are there, the label is where the request says, and the target may have it
abbrev pub move_refusal_on : SecretRow → MoveCall → Option Why
move_refusal_on row call =
    first_refusal
    (absent_refusal row call.from
    ∷ absent_refusal row call.to
    ∷ refuse_if (not (may_move (holder row.labels call.label) call.to call.from))
    (HeldBy (holder row.labels call.label))
    ∷ target_refusal row call.label call.to
    ∷ [])

abbrev pub move_refusal : Rows → Moment → UpdateSecretVersionStage → Option Why
move_refusal rows moment update =
    refusal_at (found rows moment (secret_id update.secret_id)) (λ row. move_refusal_on row (move_call update))

-- the secret's row with the label moved, among those that are still there
abbrev pub move_effect : Rows → When → UpdateSecretVersionStage → Rows
move_effect rows when update = change_named rows (secret_id update.secret_id) when (move_in (move_call update))
