-- The JSON of replies and refusals: the API Reference's response syntax and errors, AWS JSON 1.1. Members stand in
-- ascending byte order.
use Rattle.std.specs.Prelude.{ℕ, List, [], ◌∷◌, ◌++◌, Option, Some, None, option_map, codes}
use Rattle.base64.specs.Engines.{standard}
use Rattle.base64.specs.GeneralPurpose.{encode_of}
use Rattle.serde_json.specs.Data.{Data, boolean, number, string, array, object, unsigned, Members, no_members, put}
use Rattle.serde_json.specs.Written.{compact_text}
use Rattle.sm_base.specs.declared.moment.Moment.{Moment}
use Rattle.sm_model.specs.Causes.{error_of, message_of, status_of}
use Rattle.sm_model.specs.declared.reply.BatchError.{BatchError}
use Rattle.sm_model.specs.declared.reply.CreatedSecret.{CreatedSecret}
use Rattle.sm_model.specs.declared.reply.DeletedSecret.{DeletedSecret}
use Rattle.sm_model.specs.declared.reply.Described.{Described}
use Rattle.sm_model.specs.declared.reply.GotSecret.{GotSecret}
use Rattle.sm_model.specs.declared.reply.NamedSecret.{NamedSecret}
use Rattle.sm_model.specs.declared.reply.PolicyOfSecret.{PolicyOfSecret}
use Rattle.sm_model.specs.declared.reply.PolicyValidation.{PolicyValidation}
use Rattle.sm_model.specs.declared.reply.PromotedSecret.{PromotedSecret}
use Rattle.sm_model.specs.declared.reply.PutValue.{PutValue}
use Rattle.sm_model.specs.declared.reply.RandomPassword.{RandomPassword}
use Rattle.sm_model.specs.declared.reply.ReplicatedSecret.{ReplicatedSecret}
use Rattle.sm_model.specs.declared.reply.ReplicationStatus.{ReplicationStatus}
use Rattle.sm_model.specs.declared.reply.Reply.{Reply}
use Rattle.sm_model.specs.declared.reply.Reply.TheVariants.{BatchGetSecretValue, CancelRotateSecret, CreateSecret, DeleteResourcePolicy, DeleteSecret, DescribeSecret, GetRandomPassword, GetResourcePolicy, GetSecretValue, ListSecretVersionIds, ListSecrets, PutResourcePolicy, PutSecretValue, RemoveRegionsFromReplication, ReplicateSecretToRegions, RestoreSecret, RotateSecret, StopReplicationToReplica, TagResource, UntagResource, UpdateSecret, UpdateSecretVersionStage, ValidateResourcePolicy}
use Rattle.sm_model.specs.declared.reply.RulesShown.{RulesShown}
use Rattle.sm_model.specs.declared.reply.SecretBatch.{SecretBatch}
use Rattle.sm_model.specs.declared.reply.SecretPage.{SecretPage}
use Rattle.sm_model.specs.declared.reply.Staged.{Staged}
use Rattle.sm_model.specs.declared.reply.ValidationError.{ValidationError}
use Rattle.sm_model.specs.declared.reply.VersionItem.{VersionItem}
use Rattle.sm_model.specs.declared.reply.VersionPage.{VersionPage}
use Rattle.sm_model.specs.declared.reply.VersionedSecret.{VersionedSecret}
use Rattle.sm_model.specs.declared.value.Tag.{Tag}
use Rattle.sm_model.specs.declared.why.Why.{Why}
use Rattle.sm_reply.specs.Members.{Given, items_of, members_of}

-- bytes are shown in base64 (RFC 4648, section 4)
abbrev pub binary : List ℕ → Data
binary bytes = string (encode_of standard bytes)

-- a moment is shown in whole seconds since 1970
abbrev pub date : Moment → Data
date moment = number (unsigned moment.0)

abbrev pub count : ℕ → Data
count n = number (unsigned n)

abbrev pub labels_shown : List (List ℕ) → Data
labels_shown labels = array (items_of string labels)

-- a replica region of a secret
abbrev pub replication_members : ReplicationStatus → List Given
replication_members status =
    (codes "Region", Some (string status.region)) ∷ (codes "Status", Some (string status.status)) ∷ []

abbrev pub replication_object : ReplicationStatus → Data
replication_object status = object (members_of (replication_members status))

abbrev pub replication_shown : List ReplicationStatus → Data
replication_shown regions = array (items_of replication_object regions)

-- CreateSecret
abbrev pub created_members : CreatedSecret → List Given
created_members reply =
    (codes "ARN", Some (string reply.arn))
    ∷ (codes "Name", Some (string reply.name))
    ∷ (codes "ReplicationStatus", option_map replication_shown reply.replication_status)
    ∷ (codes "VersionId", option_map string reply.version_id) ∷ []

-- RemoveRegionsFromReplication and ReplicateSecretToRegions
abbrev pub replicated_members : ReplicatedSecret → List Given
replicated_members reply =
    (codes "ARN", Some (string reply.arn))
    ∷ (codes "ReplicationStatus", Some (replication_shown reply.replication_status)) ∷ []

-- StopReplicationToReplica
abbrev pub promoted_members : PromotedSecret → List Given
promoted_members reply = (codes "ARN", Some (string reply.arn)) ∷ []

-- CancelRotateSecret, RotateSecret and UpdateSecret
abbrev pub versioned_members : VersionedSecret → List Given
versioned_members reply =
    (codes "ARN", Some (string reply.arn))
    ∷ (codes "Name", Some (string reply.name))
    ∷ (codes "VersionId", option_map string reply.version_id) ∷ []

-- the operations that name the secret and say nothing else
abbrev pub named_members : NamedSecret → List Given
named_members reply = (codes "ARN", Some (string reply.arn)) ∷ (codes "Name", Some (string reply.name)) ∷ []

-- PutSecretValue
abbrev pub put_members : PutValue → List Given
put_members reply =
    (codes "ARN", Some (string reply.arn))
    ∷ (codes "Name", Some (string reply.name))
    ∷ (codes "VersionId", Some (string reply.version_id))
    ∷ (codes "VersionStages", Some (labels_shown reply.version_stages)) ∷ []

-- GetSecretValue, and an item of BatchGetSecretValue
abbrev pub got_members : GotSecret → List Given
got_members reply =
    (codes "ARN", Some (string reply.arn))
    ∷ (codes "CreatedDate", Some (date reply.created_date))
    ∷ (codes "Name", Some (string reply.name))
    ∷ (codes "SecretBinary", option_map binary reply.secret_binary)
    ∷ (codes "SecretString", option_map string reply.secret_string)
    ∷ (codes "VersionId", Some (string reply.version_id))
    ∷ (codes "VersionStages", Some (labels_shown reply.version_stages)) ∷ []

abbrev pub got_object : GotSecret → Data
got_object reply = object (members_of (got_members reply))

-- BatchGetSecretValue
abbrev pub batch_error_members : BatchError → List Given
batch_error_members error =
    (codes "ErrorCode", Some (string error.error_code))
    ∷ (codes "Message", Some (string error.message))
    ∷ (codes "SecretId", Some (string error.secret_id)) ∷ []

abbrev pub batch_error_object : BatchError → Data
batch_error_object error = object (members_of (batch_error_members error))

abbrev pub batch_members : SecretBatch → List Given
batch_members reply =
    (codes "Errors", Some (array (items_of batch_error_object reply.errors)))
    ∷ (codes "NextToken", option_map string reply.next_token)
    ∷ (codes "SecretValues", Some (array (items_of got_object reply.secret_values))) ∷ []

-- DeleteSecret
abbrev pub deleted_members : DeletedSecret → List Given
deleted_members reply =
    (codes "ARN", option_map string reply.arn)
    ∷ (codes "DeletionDate", Some (date reply.deletion_date))
    ∷ (codes "Name", Some (string reply.name)) ∷ []

-- the rotation rules of a secret
abbrev pub rules_members : RulesShown → List Given
rules_members rules =
    (codes "AutomaticallyAfterDays", option_map count rules.days)
    ∷ (codes "ScheduleExpression", option_map string rules.schedule) ∷ []

abbrev pub rules_object : RulesShown → Data
rules_object rules = object (members_of (rules_members rules))

-- a tag
abbrev pub tag_members : Tag → List Given
tag_members tag = (codes "Key", Some (string tag.key)) ∷ (codes "Value", Some (string tag.value)) ∷ []

abbrev pub tag_object : Tag → Data
tag_object tag = object (members_of (tag_members tag))

-- versions as the members of an object: an id, and the labels on it
abbrev pub put_versions : List Staged → Members → Members
put_versions [] members = members
put_versions (version ∷ versions) members = put_versions versions (put version.id (labels_shown version.labels) members)

abbrev pub versions_object : List Staged → Data
versions_object versions = object (put_versions versions no_members)

-- what DescribeSecret and ListSecrets say alike
abbrev pub first_members : Described → List Given
first_members reply =
    (codes "ARN", Some (string reply.arn))
    ∷ (codes "CreatedDate", Some (date reply.created_date))
    ∷ (codes "DeletedDate", option_map date reply.deleted_date)
    ∷ (codes "Description", option_map string reply.description)
    ∷ (codes "KmsKeyId", option_map string reply.kms_key_id) ∷ []

abbrev pub middle_members : Described → List Given
middle_members reply =
    (codes "LastChangedDate", Some (date reply.last_changed_date))
    ∷ (codes "LastRotatedDate", option_map date reply.last_rotated_date)
    ∷ (codes "Name", Some (string reply.name))
    ∷ (codes "NextRotationDate", option_map date reply.next_rotation_date)
    ∷ (codes "ReplicationStatus", option_map replication_shown reply.replication_status) ∷ []

abbrev pub rotation_members : Described → List Given
rotation_members reply =
    (codes "RotationEnabled", Some (boolean reply.rotation_enabled))
    ∷ (codes "RotationLambdaARN", option_map string reply.rotation_lambda_arn)
    ∷ (codes "RotationRules", option_map rules_object reply.rotation_rules) ∷ []

-- DescribeSecret
abbrev pub described_end : Described → List Given
described_end reply =
    (codes "Tags", Some (array (items_of tag_object reply.tags)))
    ∷ (codes "VersionIdsToStages", Some (versions_object reply.version_ids_to_stages)) ∷ []

abbrev pub described_members : Described → List Given
described_members reply = first_members reply
    ++ (middle_members reply ++ (rotation_members reply ++ described_end reply))

-- an item of ListSecrets
abbrev pub listed_end : Described → List Given
listed_end reply =
    (codes "SecretVersionsToStages", Some (versions_object reply.version_ids_to_stages))
    ∷ (codes "Tags", Some (array (items_of tag_object reply.tags))) ∷ []

abbrev pub listed_members : Described → List Given
listed_members reply = first_members reply ++ (middle_members reply ++ (rotation_members reply ++ listed_end reply))

abbrev pub listed_object : Described → Data
listed_object reply = object (members_of (listed_members reply))

-- GetRandomPassword
abbrev pub password_members : RandomPassword → List Given
password_members reply = (codes "RandomPassword", Some (string reply.random_password)) ∷ []

-- GetResourcePolicy
abbrev pub policy_members : PolicyOfSecret → List Given
policy_members reply =
    (codes "ARN", Some (string reply.arn))
    ∷ (codes "Name", Some (string reply.name))
    ∷ (codes "ResourcePolicy", option_map string reply.resource_policy) ∷ []

-- ListSecrets
abbrev pub page_members : SecretPage → List Given
page_members reply =
    (codes "NextToken", option_map string reply.next_token)
    ∷ (codes "SecretList", Some (array (items_of listed_object reply.secret_list))) ∷ []

-- ListSecretVersionIds
abbrev pub version_members : VersionItem → List Given
version_members version =
    (codes "CreatedDate", Some (date version.created_date))
    ∷ (codes "VersionId", Some (string version.version_id))
    ∷ (codes "VersionStages", option_map labels_shown version.version_stages) ∷ []

abbrev pub version_object : VersionItem → Data
version_object version = object (members_of (version_members version))

abbrev pub versions_members : VersionPage → List Given
versions_members reply =
    (codes "ARN", Some (string reply.arn))
    ∷ (codes "Name", Some (string reply.name))
    ∷ (codes "NextToken", option_map string reply.next_token)
    ∷ (codes "Versions", Some (array (items_of version_object reply.versions))) ∷ []

-- ValidateResourcePolicy
abbrev pub fault_members : ValidationError → List Given
fault_members error =
    (codes "CheckName", Some (string error.check_name)) ∷ (codes "ErrorMessage", Some (string error.error_message)) ∷ []

abbrev pub fault_object : ValidationError → Data
fault_object error = object (members_of (fault_members error))

abbrev pub validation_members : PolicyValidation → List Given
validation_members reply =
    (codes "PolicyValidationPassed", Some (boolean reply.policy_validation_passed))
    ∷ (codes "ValidationErrors", Some (array (items_of fault_object reply.validation_errors))) ∷ []

-- the members of a reply's object, where it has one
abbrev pub reply_members : Reply → Option (List Given)
reply_members (BatchGetSecretValue reply) = Some (batch_members reply)
reply_members (CancelRotateSecret reply) = Some (versioned_members reply)
reply_members (CreateSecret reply) = Some (created_members reply)
reply_members (DeleteResourcePolicy reply) = Some (named_members reply)
reply_members (DeleteSecret reply) = Some (deleted_members reply)
reply_members (DescribeSecret reply) = Some (described_members reply)
reply_members (GetRandomPassword reply) = Some (password_members reply)
reply_members (GetResourcePolicy reply) = Some (policy_members reply)
reply_members (GetSecretValue reply) = Some (got_members reply)
reply_members (ListSecretVersionIds reply) = Some (versions_members reply)
reply_members (ListSecrets reply) = Some (page_members reply)
reply_members (PutResourcePolicy reply) = Some (named_members reply)
reply_members (PutSecretValue reply) = Some (put_members reply)
reply_members (RemoveRegionsFromReplication reply) = Some (replicated_members reply)
reply_members (ReplicateSecretToRegions reply) = Some (replicated_members reply)
reply_members (RestoreSecret reply) = Some (named_members reply)
reply_members (RotateSecret reply) = Some (versioned_members reply)
reply_members (StopReplicationToReplica reply) = Some (promoted_members reply)
reply_members TagResource = None
reply_members UntagResource = None
reply_members (UpdateSecret reply) = Some (versioned_members reply)
reply_members (UpdateSecretVersionStage reply) = Some (named_members reply)
reply_members (ValidateResourcePolicy reply) = Some (validation_members reply)

-- the text of an object with these members; without an object the body is empty
abbrev pub text_of : Option (List Given) → List ℕ
text_of None = []
text_of (Some members) = compact_text (object (members_of members))

-- the body of a reply
abbrev pub body_of : Reply → List ℕ
body_of reply = text_of (reply_members reply)

-- the status and the body of a reply
pub record Answered : Type 0 where
  pub status : ℕ
  pub body : List ℕ

-- the reply to an accepted request
abbrev pub shown : Reply → Answered
shown reply = record { status = 200; body = body_of reply }

-- the members of a refusal
abbrev pub refusal_members : List ℕ → List ℕ → List Given
refusal_members message error = (codes "Message", Some (string message)) ∷ (codes "__type", Some (string error)) ∷ []

-- the reply to a refused request
abbrev pub refused : Why → Answered
refused why = record { status = status_of why; body = text_of (Some (refusal_members (message_of why) (error_of why))) }
