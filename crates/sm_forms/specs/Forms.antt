-- The forms of a request, by its operation.
use Rattle.std.specs.Prelude.{◌≡◌, Option}
use Rattle.sm_model.specs.declared.request.Request.{Request}
use Rattle.sm_model.specs.declared.request.Request.TheVariants as requests
use Rattle.sm_model.specs.declared.why.Why.{Why}
use Rattle.sm_forms.specs.BatchGetSecretValue.{batch_forms}
use Rattle.sm_forms.specs.CreateSecret.{create_forms}
use Rattle.sm_forms.specs.DeleteSecret.{delete_forms}
use Rattle.sm_forms.specs.GetRandomPassword.{password_forms}
use Rattle.sm_forms.specs.GetSecretValue.{get_forms}
use Rattle.sm_forms.specs.ListSecretVersionIds.{list_versions_forms}
use Rattle.sm_forms.specs.ListSecrets.{list_forms}
use Rattle.sm_forms.specs.OfSecret.{of_secret_forms}
use Rattle.sm_forms.specs.Policies.{OrNoMemory}
use Rattle.sm_forms.specs.PutResourcePolicy.{put_policy_forms}
use Rattle.sm_forms.specs.PutSecretValue.{put_forms}
use Rattle.sm_forms.specs.RegionsOfSecret.{remove_regions_forms, replicate_forms}
use Rattle.sm_forms.specs.RotateSecret.{rotate_forms}
use Rattle.sm_forms.specs.TagResource.{tag_forms}
use Rattle.sm_forms.specs.UntagResource.{untag_forms}
use Rattle.sm_forms.specs.UpdateSecret.{update_forms}
use Rattle.sm_forms.specs.UpdateSecretVersionStage.{move_forms}
use Rattle.sm_forms.specs.ValidateResourcePolicy.{validate_forms}

-- the first member that is not in its form, or the first joint test that fails
abbrev pub forms_of : Request → Option Why
forms_of (requests.BatchGetSecretValue batch) = batch_forms batch
forms_of (requests.CancelRotateSecret cancel) = of_secret_forms cancel
forms_of (requests.CreateSecret create) = create_forms create
forms_of (requests.DeleteResourcePolicy delete) = of_secret_forms delete
forms_of (requests.DeleteSecret delete) = delete_forms delete
forms_of (requests.DescribeSecret describe) = of_secret_forms describe
forms_of (requests.GetRandomPassword get) = password_forms get
forms_of (requests.GetResourcePolicy get) = of_secret_forms get
forms_of (requests.GetSecretValue get) = get_forms get
forms_of (requests.ListSecretVersionIds list) = list_versions_forms list
forms_of (requests.ListSecrets list) = list_forms list
forms_of (requests.PutResourcePolicy put) = put_policy_forms put
forms_of (requests.PutSecretValue put) = put_forms put
forms_of (requests.RemoveRegionsFromReplication remove) = remove_regions_forms remove
forms_of (requests.ReplicateSecretToRegions replicate) = replicate_forms replicate
forms_of (requests.RestoreSecret restore) = of_secret_forms restore
forms_of (requests.RotateSecret rotate) = rotate_forms rotate
forms_of (requests.StopReplicationToReplica stop) = of_secret_forms stop
forms_of (requests.TagResource tag) = tag_forms tag
forms_of (requests.UntagResource untag) = untag_forms untag
forms_of (requests.UpdateSecret update) = update_forms update
forms_of (requests.UpdateSecretVersionStage update) = move_forms update
forms_of (requests.ValidateResourcePolicy validate) = validate_forms validate

-- the refusal is the first form that fails; it may be where memory ran out only where the text of a policy is read
abbrev pub Refuses : Request → Option Why → Type 0
Refuses (requests.PutResourcePolicy put) refusal = OrNoMemory refusal (put_policy_forms put)
Refuses request refusal = refusal ≡ forms_of request
