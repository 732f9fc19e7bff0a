-- Judging UpdateSecretVersionStage: when it is refused, and what it changes.
use Rattle.std.proofs.Common.{◌≡◌, ◌⊎◌, ℕ, Bool, true, false, not, ◌&&◌, cond, List, [], ◌∷◌, Option, Some, None, is_none, IsSome, IsTrue, refl, sym, ap, subst, ◌∙◌}
use Rattle.sm_base.specs.SecretId.{secret_id}
use Rattle.sm_model.specs.declared.entry.Change.{Change}
use Rattle.sm_model.specs.declared.entry.Change.TheVariants as changes
use Rattle.sm_base.specs.declared.limits.TheConstants.{LABELS_LIMIT}
use Rattle.sm_model.specs.declared.request.UpdateSecretVersionStage.{UpdateSecretVersionStage}
use Rattle.sm_model.specs.declared.rows.Rows.{Rows}
use Rattle.sm_model.specs.declared.rows.SecretRow.{SecretRow}
use Rattle.sm_model.specs.declared.why.Why.{Why}
use Rattle.sm_model.specs.declared.why.Why.TheVariants.{NotThere, HeldBy, KeepsCurrent, Empty, Limit}
use Rattle.sm_model.specs.declared.why.What.TheVariants.{Labels}
use Rattle.sm_model.specs.Bounds.{is_date}
use Rattle.sm_forms.specs.UpdateSecretVersionStage.{move_forms}
use Rattle.sm_forms.proofs.UpdateSecretVersionStageLemmas.{move_one}
use Rattle.sm_versions.specs.declared.moving.Moved.{Moved}
use Rattle.sm_versions.specs.declared.moving.Moved.TheVariants as moves
use Rattle.sm_base.specs.Texts.{same_text}
use Rattle.sm_model.specs.Labels.{aws_current, holder}
use Rattle.sm_versions.specs.Labels.{place}
use Rattle.sm_versions.specs.Versions.{has_value}
use Rattle.sm_model.specs.Versions.{When, has_version}
use Rattle.sm_versions.specs.Put.{has_too_many}
use Rattle.sm_versions.specs.Move.{missing, may_move, move_to, unless_missing, move_answer}
use Rattle.sm_versions.proofs.SoundLaws.{move_sound}
use Rattle.sm_table.specs.Sweep.{sweep}
use Rattle.sm_table.specs.Found.{found}
use Rattle.sm_table.specs.Sound.{Sound}
use Rattle.sm_judge_common.specs.Changes.{settled, IsChange}
use Rattle.sm_judge_common.specs.Judged.{refusal_told, IfAccepted, IfChange}
use Rattle.sm_judge_common.specs.Refusals.{refuse_if, first_refusal}
use Rattle.sm_judge_common.specs.Secrets.{finished_row}
use Rattle.sm_judge_common.proofs.JudgedLemmas.{on_secret_refusal, on_secret_reads}
use Rattle.sm_judge_common.proofs.ChangeLemmas.{OnRow, on_secret_change, found_change_beside}
use Rattle.sm_judge_labels_and_regions.specs.declared.update_secret_version_stage.MoveCall.{MoveCall}
use Rattle.sm_judge_labels_and_regions.specs.UpdateSecretVersionStage.{move_call, move_outcome, move_in, move_on, move_judgement, absent_refusal, target_refusal, move_refusal_on, move_refusal, move_effect}

-- the members name a target or a source
pub call_one : (call : MoveCall) (update : UpdateSecretVersionStage) → call ≡ move_call update → move_forms update
    ≡ None
    → IsSome call.to ⊎ IsSome call.from
call_one call update e h = subst (λ (c : MoveCall). IsSome c.to ⊎ IsSome c.from) (sym e) (move_one update h)

-- ---- refusals

first_alone : (test : Option Why) → test ≡ first_refusal (test ∷ [])
first_alone None = refl
first_alone (Some why) = refl

placed_refuses : (many : Bool) (after : SecretRow)
    → refusal_told (move_outcome (cond many (moves.TooManyLabels LABELS_LIMIT) moves.Ok) after)
    ≡ Some (first_refusal (refuse_if many (Limit LABELS_LIMIT Labels) ∷ []))
placed_refuses true after = refl
placed_refuses false after = refl

onto_refuses : (current valued many : Bool) (to : List ℕ) (after : SecretRow)
    → refusal_told (move_outcome (cond current (cond valued (cond many (moves.TooManyLabels LABELS_LIMIT) moves.Ok)
    (moves.Empty to)) (cond many (moves.TooManyLabels LABELS_LIMIT) moves.Ok)) after)
    ≡ Some (first_refusal (refuse_if (current && not valued) (Empty to) ∷ refuse_if many (Limit LABELS_LIMIT Labels)
    ∷ []))
onto_refuses true true many to after = placed_refuses many after
onto_refuses true false many to after = refl
onto_refuses false valued many to after = placed_refuses many after

removed_refuses : (current : Bool) (after : SecretRow)
    → refusal_told (move_outcome (cond current moves.KeepsCurrent moves.Ok) after)
    ≡ Some (refuse_if current KeepsCurrent)
removed_refuses true after = refl
removed_refuses false after = refl

target_refuses : (row after : SecretRow) (label : List ℕ) (to : Option (List ℕ))
    → refusal_told (move_outcome (move_to row label to) after) ≡ Some (target_refusal row label to)
target_refuses row after label None = removed_refuses (same_text label aws_current) after
target_refuses row after label (Some to) =
    onto_refuses (same_text label aws_current) (has_value row.versions to)
    (has_too_many (place row.labels label to)) to after

held_refuses : (may : Bool) (answer : Moved) (held : Option (List ℕ)) (after : SecretRow) (target : Option Why)
    → refusal_told (move_outcome answer after) ≡ Some target
    → refusal_told (move_outcome (cond may answer (moves.HeldBy held)) after)
    ≡ Some (first_refusal (refuse_if (not may) (HeldBy held) ∷ target ∷ []))
held_refuses true answer held after target e = e ∙ ap (λ t. Some t) (first_alone target)
held_refuses false answer held after target e = refl

-- a version that is absent comes before the other tests
absent_refuses : (row after : SecretRow) (id : Option (List ℕ)) (answer : Moved) (tests : List (Option Why))
    → refusal_told (move_outcome answer after) ≡ Some (first_refusal tests)
    → refusal_told (move_outcome (unless_missing (missing row.versions id) answer) after)
    ≡ Some (first_refusal (absent_refusal row id ∷ tests))
absent_refuses row after None answer tests e = e
absent_refuses row after (Some id) answer tests e = by (has_version row.versions id)
  where
    by : (there : Bool) → refusal_told (move_outcome (unless_missing (cond there None (Some id)) answer) after)
        ≡ Some (first_refusal (refuse_if (not there) (NotThere id) ∷ tests))
    by true = e
    by false = refl

on_refuses : (row : SecretRow) (when : When) (call : MoveCall) → refusal_told (move_on row when call)
    ≡ Some (move_refusal_on row call)
on_refuses row when call =
    let after = finished_row (move_in call row) when in
    absent_refuses row after call.from _ _
    (absent_refuses row after call.to _ _
    (held_refuses (may_move (holder row.labels call.label) call.to call.from) (move_to row call.label call.to)
    (holder row.labels call.label) after
    (target_refusal row call.label call.to) (target_refuses row after call.label call.to)))

pub move_refuses : (rows : Rows) (when : When) (update : UpdateSecretVersionStage)
    → refusal_told (move_judgement rows when update) ≡ Some (move_refusal rows when.moment update)
move_refuses rows when update =
    on_secret_refusal (found rows when.moment (secret_id update.secret_id)) (λ row. move_on row when (move_call update))
    (λ row. move_refusal_on row (move_call update)) (λ row. on_refuses row when (move_call update))

-- ---- it always changes the row

outcome_changes : (moved : Moved) (after : SecretRow) → IfAccepted (move_outcome moved after)
    (λ change. is_none change ≡ false)
outcome_changes moves.Ok after = refl
outcome_changes (moves.NotThere id) after = tt
outcome_changes (moves.HeldBy held) after = tt
outcome_changes moves.KeepsCurrent after = tt
outcome_changes (moves.Empty id) after = tt
outcome_changes (moves.TooManyLabels limit) after = tt
outcome_changes moves.Memory after = tt

-- no accepted UpdateSecretVersionStage is without a change
pub move_changes : (rows : Rows) (when : When) (update : UpdateSecretVersionStage)
    → IfAccepted (move_judgement rows when update) (λ change. is_none change ≡ false)
move_changes rows when update =
    on_secret_reads (found rows when.moment (secret_id update.secret_id))
    (λ row. move_on row when (move_call update)) false
    (λ row. outcome_changes (move_answer row update.version_stage update.move_to_version_id
    update.remove_from_version_id) _)

-- ---- the change

outcome_change : (moved : Moved) (after : SecretRow) (P : Change → Type 0)
    → (moved ≡ moves.Ok → P (changes.Replace after))
    → IfChange (move_outcome moved after) P
outcome_change moves.Ok after P h = h refl
outcome_change (moves.NotThere id) after P h = tt
outcome_change (moves.HeldBy held) after P h = tt
outcome_change moves.KeepsCurrent after P h = tt
outcome_change (moves.Empty id) after P h = tt
outcome_change (moves.TooManyLabels limit) after P h = tt
outcome_change moves.Memory after P h = tt

on_change : (rows : Rows) (when : When) (call : MoveCall) (row : SecretRow) → Sound rows → IsTrue (is_date when.moment)
    → found rows when.moment call.id ≡ Some row → IfChange (move_on row when call)
    (OnRow rows when call.id (move_in call))
on_change rows when call row sound date e =
    outcome_change (move_answer row call.label call.to call.from) (finished_row (move_in call row) when)
    (OnRow rows when call.id (move_in call))
    (λ accepted. found_change_beside rows when call.id (move_in call) row sound date e
    (record { serial = refl; name = refl; arn = refl; versions = refl })
    (move_sound row call.label call.to call.from accepted))

-- a change is the entry's
pub move_change : (rows : Rows) (when : When) (update : UpdateSecretVersionStage) → Sound rows
    → IsTrue (is_date when.moment)
    → IfChange (move_judgement rows when update) (IsChange rows when.moment
    (settled (move_effect (sweep rows when.moment) when update)))
move_change rows when update sound date =
    on_secret_change (found rows when.moment (secret_id update.secret_id))
    (λ row. move_on row when (move_call update)) _
    (λ row e. on_change rows when (move_call update) row sound date e)
