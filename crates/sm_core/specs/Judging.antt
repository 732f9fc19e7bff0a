-- How a request is judged, by its operation.
use Rattle.std.specs.Prelude.{◌≡◌, ℕ, Bool, true, false, ◌||◌, List, Option, is_none}
use Rattle.sm_base.specs.declared.moment.Moment.{Moment}
use Rattle.sm_model.specs.declared.entry.Change.{Change}
use Rattle.sm_model.specs.declared.person.Person.{Person}
use Rattle.sm_model.specs.declared.request.Request.{Request}
use Rattle.sm_model.specs.declared.request.Request.TheVariants as requests
use Rattle.sm_model.specs.declared.rows.Rows.{Rows}
use Rattle.sm_model.specs.declared.why.Why.{Why}
use Rattle.sm_model.specs.Versions.{When}
use Rattle.sm_judge_common.specs.declared.judged.Judged.{Judged}
use Rattle.sm_judge_values.specs.CreateSecret.{create_judgement, create_refusal, create_repeat}
use Rattle.sm_judge_reads.specs.DescribeSecret.{describe_judgement, describe_refusal}
use Rattle.sm_judge_reads.specs.GetSecretValue.{get_judgement, get_refusal}
use Rattle.sm_judge_values.specs.PutSecretValue.{put_judgement, put_refusal, put_repeat}
use Rattle.sm_judge_values.specs.UpdateSecret.{update_judgement, update_refusal, update_repeat}
use Rattle.sm_judge_labels_and_regions.specs.UpdateSecretVersionStage.{move_judgement, move_refusal}
use Rattle.sm_judge_lists_and_passwords.specs.BatchGetSecretValue.{value_question, no_question, batch_judgement, batch_refusal}
use Rattle.sm_judge_lists_and_passwords.specs.GetRandomPassword.{password_judgement, password_refusal}
use Rattle.sm_judge_lists_and_passwords.specs.ListSecretVersionIds.{versions_judgement, versions_refusal}
use Rattle.sm_judge_lists_and_passwords.specs.ListSecrets.{list_judgement, list_refusal}
use Rattle.sm_judge_policies.specs.DeleteResourcePolicy.{delete_policy_judgement, delete_policy_refusal}
use Rattle.sm_judge_policies.specs.GetResourcePolicy.{get_policy_judgement, get_policy_refusal}
use Rattle.sm_judge_policies.specs.PutResourcePolicy.{put_policy_judgement, put_policy_refusal}
use Rattle.sm_judge_policies.specs.ValidateResourcePolicy.{validate_judgement, validate_refusal}
use Rattle.sm_judge_labels_and_regions.specs.RemoveRegionsFromReplication.{remove_judgement, remove_refusal}
use Rattle.sm_judge_labels_and_regions.specs.ReplicateSecretToRegions.{replicate_judgement, replicate_refusal}
use Rattle.sm_judge_labels_and_regions.specs.StopReplicationToReplica.{stop_judgement, stop_refusal}
use Rattle.sm_judge_rotations.specs.CancelRotateSecret.{cancel_judgement, cancel_refusal}
use Rattle.sm_judge_rotations.specs.RotateSecret.{rotate_judgement, rotate_refusal, rotate_repeat}
use Rattle.sm_judge_deletion_and_tags.specs.DeleteSecret.{delete_judgement, delete_refusal, deletes_nobody}
use Rattle.sm_judge_deletion_and_tags.specs.RestoreSecret.{restore_judgement, restore_refusal}
use Rattle.sm_judge_deletion_and_tags.specs.TagResource.{tag_judgement, tag_refusal}
use Rattle.sm_judge_deletion_and_tags.specs.UntagResource.{untag_judgement, untag_refusal}

-- the first test after the forms that fails, or the reply and, where an entry is due, the change; of each secret of a
-- batch a question is asked
abbrev pub judgement_asking : (List ℕ → Option Why) → Rows → When → List ℕ → Request → Judged
judgement_asking question rows when drawn (requests.BatchGetSecretValue batch) =
    batch_judgement question rows when.moment batch
judgement_asking question rows when drawn (requests.CancelRotateSecret cancel) = cancel_judgement rows when cancel
judgement_asking question rows when drawn (requests.CreateSecret create) =
    create_judgement rows when.moment drawn create
judgement_asking question rows when drawn (requests.DeleteResourcePolicy delete) =
    delete_policy_judgement rows when delete
judgement_asking question rows when drawn (requests.DeleteSecret delete) = delete_judgement rows when delete
judgement_asking question rows when drawn (requests.DescribeSecret describe) =
    describe_judgement rows when.moment describe
judgement_asking question rows when drawn (requests.GetRandomPassword get) = password_judgement drawn get
judgement_asking question rows when drawn (requests.GetResourcePolicy get) = get_policy_judgement rows when.moment get
judgement_asking question rows when drawn (requests.GetSecretValue get) = get_judgement rows when.moment get
judgement_asking question rows when drawn (requests.ListSecretVersionIds list) =
    versions_judgement rows when.moment list
judgement_asking question rows when drawn (requests.ListSecrets list) = list_judgement rows when.moment list
judgement_asking question rows when drawn (requests.PutResourcePolicy put) = put_policy_judgement rows when put
judgement_asking question rows when drawn (requests.PutSecretValue put) = put_judgement rows when drawn put
judgement_asking question rows when drawn (requests.RemoveRegionsFromReplication remove) =
    remove_judgement rows when remove
judgement_asking question rows when drawn (requests.ReplicateSecretToRegions replicate) =
    replicate_judgement rows when replicate
judgement_asking question rows when drawn (requests.RestoreSecret restore) = restore_judgement rows when restore
judgement_asking question rows when drawn (requests.RotateSecret rotate) = rotate_judgement rows when drawn rotate
judgement_asking question rows when drawn (requests.StopReplicationToReplica stop) =
    stop_judgement rows when.moment stop
judgement_asking question rows when drawn (requests.TagResource tag) = tag_judgement rows when tag
judgement_asking question rows when drawn (requests.UntagResource untag) = untag_judgement rows when untag
judgement_asking question rows when drawn (requests.UpdateSecret update) = update_judgement rows when drawn update
judgement_asking question rows when drawn (requests.UpdateSecretVersionStage update) =
    move_judgement rows when update
judgement_asking question rows when drawn (requests.ValidateResourcePolicy validate) =
    validate_judgement rows when.moment validate

-- a person's request: of each secret of a batch it is asked whether the person may have its value
abbrev pub judgement_for : Rows → Person → When → List ℕ → Request → Judged
judgement_for rows person when drawn request =
    judgement_asking (value_question rows person when.moment) rows when drawn request

-- an entry, which is none of a batch: nobody asks
abbrev pub judgement : Rows → When → List ℕ → Request → Judged
judgement rows when drawn request = judgement_asking no_question rows when drawn request

-- a request that asks for several values
abbrev pub is_batch : Request → Bool
is_batch (requests.BatchGetSecretValue batch) = true
is_batch _ = false

-- the first test after the forms that fails, by the rows alone
abbrev pub refusal : Rows → When → List ℕ → Request → Option Why
refusal rows when drawn (requests.BatchGetSecretValue batch) = batch_refusal rows when.moment batch
refusal rows when drawn (requests.CancelRotateSecret cancel) = cancel_refusal rows when.moment cancel
refusal rows when drawn (requests.CreateSecret create) = create_refusal rows when.moment drawn create
refusal rows when drawn (requests.DeleteResourcePolicy delete) = delete_policy_refusal rows when.moment delete
refusal rows when drawn (requests.DeleteSecret delete) = delete_refusal rows when.moment delete
refusal rows when drawn (requests.DescribeSecret describe) = describe_refusal rows when.moment describe
refusal rows when drawn (requests.GetRandomPassword get) = password_refusal get
refusal rows when drawn (requests.GetResourcePolicy get) = get_policy_refusal rows when.moment get
refusal rows when drawn (requests.GetSecretValue get) = get_refusal rows when.moment get
refusal rows when drawn (requests.ListSecretVersionIds list) = versions_refusal rows when.moment list
refusal rows when drawn (requests.ListSecrets list) = list_refusal rows when.moment list
refusal rows when drawn (requests.PutResourcePolicy put) = put_policy_refusal rows when.moment put
refusal rows when drawn (requests.PutSecretValue put) = put_refusal rows when drawn put
refusal rows when drawn (requests.RemoveRegionsFromReplication remove) = remove_refusal rows when.moment remove
refusal rows when drawn (requests.ReplicateSecretToRegions replicate) = replicate_refusal rows when.moment replicate
refusal rows when drawn (requests.RestoreSecret restore) = restore_refusal rows when.moment restore
refusal rows when drawn (requests.RotateSecret rotate) = rotate_refusal rows when drawn rotate
refusal rows when drawn (requests.StopReplicationToReplica stop) = stop_refusal rows when.moment stop
refusal rows when drawn (requests.TagResource tag) = tag_refusal rows when.moment tag
refusal rows when drawn (requests.UntagResource untag) = untag_refusal rows when.moment untag
refusal rows when drawn (requests.UpdateSecret update) = update_refusal rows when drawn update
refusal rows when drawn (requests.UpdateSecretVersionStage update) = move_refusal rows when.moment update
refusal rows when drawn (requests.ValidateResourcePolicy validate) = validate_refusal rows when.moment validate

-- what was carried out before, with the same token
abbrev pub repeat : Rows → Moment → List ℕ → Request → Bool
repeat rows moment drawn (requests.CreateSecret create) = create_repeat rows moment drawn create
repeat rows moment drawn (requests.PutSecretValue put) = put_repeat rows moment drawn put
repeat rows moment drawn (requests.UpdateSecret update) = update_repeat rows moment drawn update
repeat rows moment drawn (requests.BatchGetSecretValue r) = false
repeat rows moment drawn (requests.CancelRotateSecret r) = false
repeat rows moment drawn (requests.DeleteResourcePolicy r) = false
repeat rows moment drawn (requests.DeleteSecret r) = false
repeat rows moment drawn (requests.DescribeSecret r) = false
repeat rows moment drawn (requests.GetRandomPassword r) = false
repeat rows moment drawn (requests.GetResourcePolicy r) = false
repeat rows moment drawn (requests.GetSecretValue r) = false
repeat rows moment drawn (requests.ListSecretVersionIds r) = false
repeat rows moment drawn (requests.ListSecrets r) = false
repeat rows moment drawn (requests.PutResourcePolicy r) = false
repeat rows moment drawn (requests.RemoveRegionsFromReplication r) = false
repeat rows moment drawn (requests.ReplicateSecretToRegions r) = false
repeat rows moment drawn (requests.RestoreSecret r) = false
repeat rows moment drawn (requests.RotateSecret rotate) = rotate_repeat rows moment drawn rotate
repeat rows moment drawn (requests.StopReplicationToReplica r) = false
repeat rows moment drawn (requests.TagResource r) = false
repeat rows moment drawn (requests.UntagResource r) = false
repeat rows moment drawn (requests.UpdateSecretVersionStage r) = false
repeat rows moment drawn (requests.ValidateResourcePolicy r) = false

-- an operation that changes nothing, as it reads, or as no secret of its own account is a replica
abbrev pub is_reading : Request → Bool
is_reading (requests.BatchGetSecretValue r) = true
is_reading (requests.CancelRotateSecret r) = false
is_reading (requests.CreateSecret r) = false
is_reading (requests.DeleteResourcePolicy r) = false
is_reading (requests.DeleteSecret r) = false
is_reading (requests.DescribeSecret r) = true
is_reading (requests.GetRandomPassword r) = true
is_reading (requests.GetResourcePolicy r) = true
is_reading (requests.GetSecretValue r) = true
is_reading (requests.ListSecretVersionIds r) = true
is_reading (requests.ListSecrets r) = true
is_reading (requests.PutResourcePolicy r) = false
is_reading (requests.PutSecretValue r) = false
is_reading (requests.RemoveRegionsFromReplication r) = false
is_reading (requests.ReplicateSecretToRegions r) = false
is_reading (requests.RestoreSecret r) = false
is_reading (requests.RotateSecret r) = false
is_reading (requests.StopReplicationToReplica r) = true
is_reading (requests.TagResource r) = false
is_reading (requests.UntagResource r) = false
is_reading (requests.UpdateSecret r) = false
is_reading (requests.UpdateSecretVersionStage r) = false
is_reading (requests.ValidateResourcePolicy r) = true

-- a forced deletion of a secret that is not there
abbrev pub is_of_nobody : Rows → Moment → Request → Bool
is_of_nobody rows moment (requests.DeleteSecret delete) = deletes_nobody rows moment delete
is_of_nobody rows moment request = false

-- nothing is changed exactly by what only reads, by the forced deletion of a secret that is not there, and by a repeat
abbrev pub IsUnchanged : Rows → Moment → List ℕ → Request → Option Change → Type 0
IsUnchanged rows moment drawn request change =
    is_none change ≡ (is_reading request || is_of_nobody rows moment request || repeat rows moment drawn request)
