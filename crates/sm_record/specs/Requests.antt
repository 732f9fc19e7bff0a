-- What an entry keeps of a request: its members in ascending order of their names, those that need not be there as
-- options, and truth values as they count (AWS Secrets Manager API Reference, Actions). Regions come before all others.
use Rattle.std.specs.Prelude.{ℕ, List, [], Option}
use Rattle.sm_model.specs.declared.request.CreateSecret.{CreateSecret}
use Rattle.sm_model.specs.declared.request.DeleteSecret.{DeleteSecret}
use Rattle.sm_model.specs.declared.request.OfSecret.{OfSecret}
use Rattle.sm_model.specs.declared.request.PutResourcePolicy.{PutResourcePolicy}
use Rattle.sm_model.specs.declared.request.PutSecretValue.{PutSecretValue}
use Rattle.sm_model.specs.declared.request.RegionsOfSecret.{RegionsOfSecret}
use Rattle.sm_model.specs.declared.request.RotateSecret.{RotateSecret}
use Rattle.sm_model.specs.declared.request.TagResource.{TagResource}
use Rattle.sm_model.specs.declared.request.UntagResource.{UntagResource}
use Rattle.sm_model.specs.declared.request.UpdateSecret.{UpdateSecret}
use Rattle.sm_model.specs.declared.request.UpdateSecretVersionStage.{UpdateSecretVersionStage}
use Rattle.sm_model.specs.declared.value.Tag.{Tag}
use Rattle.sm_record.specs.Codec.{Codec, both, mapped, optional}
use Rattle.sm_record.specs.Editions.{is_empty, since}
use Rattle.sm_record.specs.declared.edition.Edition.{Edition}
use Rattle.sm_record.specs.Fields.{signed, octets, text, truth, listed, tag, rotation_rules}

-- CancelRotateSecret, DeleteResourcePolicy and RestoreSecret: SecretId
unfoldable pub of_secret : Codec OfSecret
of_secret = mapped text (λ id. record { secret_id = id }) (λ r. r.secret_id)

-- the regions of a secret that is made, since the second format
abbrev pub regions : Edition → Codec (List (List ℕ))
regions e = since [] is_empty (listed text) e

-- Name, SecretBinary, SecretString, Tags
abbrev pub named_value : Codec (List ℕ × (Option (List ℕ) × (Option (List ℕ) × Option (List Tag))))
named_value = both text (both (optional octets) (both (optional text) (optional (listed tag))))

-- AddReplicaRegions, ClientRequestToken, Description, KmsKeyId, Name, SecretBinary, SecretString, Tags
unfoldable pub create_secret : Edition → Codec CreateSecret
create_secret e = mapped
    (both (regions e) (both (optional text) (both (optional text) (both (optional text) named_value))))
    (λ x. record {
      regions = x.0;
      client_request_token = x.1.0;
      description = x.1.1.0;
      kms_key_id = x.1.1.1.0;
      name = x.1.1.1.1.0;
      secret_binary = x.1.1.1.1.1.0;
      secret_string = x.1.1.1.1.1.1.0;
      tags = x.1.1.1.1.1.1.1;
    })
    (λ r. (
      r.regions,
      (
        r.client_request_token,
        (
          r.description,
          (
            r.kms_key_id,
            (
              r.name,
              (
                r.secret_binary,
                (r.secret_string, r.tags),
              ),
            ),
          ),
        ),
      ),
    ))

-- ForceDeleteWithoutRecovery, RecoveryWindowInDays, SecretId
unfoldable pub delete_secret : Codec DeleteSecret
delete_secret = mapped
    (both truth (both (optional signed) text))
    (λ x. record { force_delete_without_recovery = x.0; recovery_window_in_days = x.1.0; secret_id = x.1.1 })
    (λ r. (r.force_delete_without_recovery, (r.recovery_window_in_days, r.secret_id)))

-- BlockPublicPolicy, ResourcePolicy, SecretId
unfoldable pub put_resource_policy : Codec PutResourcePolicy
put_resource_policy = mapped
    (both truth (both text text))
    (λ x. record { block_public_policy = x.0; resource_policy = x.1.0; secret_id = x.1.1 })
    (λ r. (r.block_public_policy, (r.resource_policy, r.secret_id)))

-- ClientRequestToken, SecretBinary, SecretId, SecretString, VersionStages
unfoldable pub put_secret_value : Codec PutSecretValue
put_secret_value = mapped
    (both (optional text) (both (optional octets) (both text (both (optional text) (optional (listed text))))))
    (λ x. record {
      client_request_token = x.0;
      secret_binary = x.1.0;
      secret_id = x.1.1.0;
      secret_string = x.1.1.1.0;
      version_stages = x.1.1.1.1;
    })
    (λ r. (r.client_request_token, (r.secret_binary, (r.secret_id, (r.secret_string, r.version_stages)))))

-- ClientRequestToken, RotateImmediately, RotationLambdaARN, RotationRules, SecretId
unfoldable pub rotate_secret : Edition → Codec RotateSecret
rotate_secret e = mapped
    (both (optional text) (both truth (both (optional text) (both (optional (rotation_rules e)) text))))
    (λ x. record {
      client_request_token = x.0;
      rotate_immediately = x.1.0;
      rotation_lambda_arn = x.1.1.0;
      rotation_rules = x.1.1.1.0;
      secret_id = x.1.1.1.1;
    })
    (λ r. (r.client_request_token, (r.rotate_immediately, (r.rotation_lambda_arn, (r.rotation_rules, r.secret_id)))))

-- ReplicateSecretToRegions and RemoveRegionsFromReplication: their regions, SecretId
unfoldable pub regions_of_secret : Codec RegionsOfSecret
regions_of_secret = mapped
    (both (listed text) text)
    (λ x. record { regions = x.0; secret_id = x.1 })
    (λ r. (r.regions, r.secret_id))

-- SecretId, Tags
unfoldable pub tag_resource : Codec TagResource
tag_resource = mapped
    (both text (listed tag))
    (λ x. record { secret_id = x.0; tags = x.1 })
    (λ r. (r.secret_id, r.tags))

-- SecretId, TagKeys
unfoldable pub untag_resource : Codec UntagResource
untag_resource = mapped
    (both text (listed text))
    (λ x. record { secret_id = x.0; tag_keys = x.1 })
    (λ r. (r.secret_id, r.tag_keys))

-- ClientRequestToken, Description, KmsKeyId, SecretBinary, SecretId, SecretString
unfoldable pub update_secret : Codec UpdateSecret
update_secret = mapped
    (both (optional text) (both (optional text) (both (optional text) (both (optional octets) (both text
    (optional text))))))
    (λ x. record {
      client_request_token = x.0;
      description = x.1.0;
      kms_key_id = x.1.1.0;
      secret_binary = x.1.1.1.0;
      secret_id = x.1.1.1.1.0;
      secret_string = x.1.1.1.1.1;
    })
    (λ r. (r.client_request_token, (r.description, (r.kms_key_id, (r.secret_binary, (r.secret_id, r.secret_string))))))

-- MoveToVersionId, RemoveFromVersionId, SecretId, VersionStage
unfoldable pub update_secret_version_stage : Codec UpdateSecretVersionStage
update_secret_version_stage = mapped
    (both (optional text) (both (optional text) (both text text)))
    (λ x. record {
      move_to_version_id = x.0;
      remove_from_version_id = x.1.0;
      secret_id = x.1.1.0;
      version_stage = x.1.1.1;
    })
    (λ r. (r.move_to_version_id, (r.remove_from_version_id, (r.secret_id, r.version_stage))))
