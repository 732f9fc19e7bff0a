-- What an entry does to the rows.
use Rattle.std.specs.Prelude.{◌≡◌, ℕ, List, []}
use Rattle.sm_model.specs.declared.entry.Act.{Act}
use Rattle.sm_model.specs.declared.entry.Act.TheVariants.{Asked, Begun, Reported}
use Rattle.sm_model.specs.declared.entry.Change.{Change}
use Rattle.sm_model.specs.declared.entry.Entry.{Entry}
use Rattle.sm_model.specs.declared.request.Request.{Request}
use Rattle.sm_model.specs.declared.request.Request.TheVariants as requests
use Rattle.sm_model.specs.declared.rows.Rows.{Rows}
use Rattle.sm_model.specs.Versions.{When}
use Rattle.sm_table.specs.Changes.{changed}
use Rattle.sm_table.specs.Sweep.{sweep}
use Rattle.sm_judge_common.specs.Changes.{settled}
use Rattle.sm_judge_values.specs.CreateSecret.{create_effect}
use Rattle.sm_judge_values.specs.PutSecretValue.{put_effect}
use Rattle.sm_judge_values.specs.UpdateSecret.{update_effect}
use Rattle.sm_judge_labels_and_regions.specs.UpdateSecretVersionStage.{move_effect}
use Rattle.sm_judge_policies.specs.DeleteResourcePolicy.{delete_policy_effect}
use Rattle.sm_judge_policies.specs.PutResourcePolicy.{put_policy_effect}
use Rattle.sm_judge_labels_and_regions.specs.RemoveRegionsFromReplication.{remove_effect}
use Rattle.sm_judge_labels_and_regions.specs.ReplicateSecretToRegions.{replicate_effect}
use Rattle.sm_judge_rotations.specs.Begun.{begun_effect}
use Rattle.sm_judge_rotations.specs.CancelRotateSecret.{cancel_effect}
use Rattle.sm_judge_rotations.specs.Reported.{reported_effect}
use Rattle.sm_judge_rotations.specs.RotateSecret.{rotate_effect}
use Rattle.sm_judge_deletion_and_tags.specs.DeleteSecret.{delete_effect}
use Rattle.sm_judge_deletion_and_tags.specs.RestoreSecret.{restore_effect}
use Rattle.sm_judge_deletion_and_tags.specs.TagResource.{tag_effect}
use Rattle.sm_judge_deletion_and_tags.specs.UntagResource.{untag_effect}

-- the rows after an accepted request, of those that are still there at its moment
abbrev pub request_effect : Rows → When → List ℕ → Request → Rows
request_effect rows when drawn (requests.CreateSecret create) = create_effect rows when.moment drawn create
request_effect rows when drawn (requests.DeleteResourcePolicy delete) = delete_policy_effect rows when delete
request_effect rows when drawn (requests.DeleteSecret delete) = delete_effect rows when delete
request_effect rows when drawn (requests.PutResourcePolicy put) = put_policy_effect rows when put
request_effect rows when drawn (requests.PutSecretValue put) = put_effect rows when drawn put
request_effect rows when drawn (requests.RestoreSecret restore) = restore_effect rows when restore
request_effect rows when drawn (requests.TagResource tag) = tag_effect rows when tag
request_effect rows when drawn (requests.UntagResource untag) = untag_effect rows when untag
request_effect rows when drawn (requests.UpdateSecret update) = update_effect rows when drawn update
request_effect rows when drawn (requests.UpdateSecretVersionStage update) = move_effect rows when update
request_effect rows when drawn (requests.BatchGetSecretValue r) = rows
request_effect rows when drawn (requests.CancelRotateSecret cancel) = cancel_effect rows when cancel
request_effect rows when drawn (requests.DescribeSecret r) = rows
request_effect rows when drawn (requests.GetRandomPassword r) = rows
request_effect rows when drawn (requests.GetResourcePolicy r) = rows
request_effect rows when drawn (requests.GetSecretValue r) = rows
request_effect rows when drawn (requests.ListSecretVersionIds r) = rows
request_effect rows when drawn (requests.ListSecrets r) = rows
request_effect rows when drawn (requests.RemoveRegionsFromReplication remove) = remove_effect rows when remove
request_effect rows when drawn (requests.ReplicateSecretToRegions replicate) = replicate_effect rows when replicate
request_effect rows when drawn (requests.StopReplicationToReplica r) = rows
request_effect rows when drawn (requests.RotateSecret rotate) = rotate_effect rows when drawn rotate
request_effect rows when drawn (requests.ValidateResourcePolicy r) = rows

abbrev pub act_effect : Rows → When → List ℕ → Act → Rows
act_effect rows when drawn (Asked request) = request_effect rows when drawn request
act_effect rows when drawn (Begun arn) = begun_effect rows when drawn arn
act_effect rows when drawn (Reported arn at answer) = reported_effect rows when arn answer

-- when an entry is made, and whether it prunes
abbrev pub when_of : Entry → When
when_of entry = record { moment = entry.moment; prunes = entry.prunes }

-- The rows after an entry: those that are still there at its moment, changed, and then every row settled. Where the
-- entry prunes, the row that it changes loses the versions that need not be kept.
abbrev pub effect : Rows → Entry → Rows
effect rows entry = settled (act_effect (sweep rows entry.moment) (when_of entry) entry.drawn entry.act)

-- the entry of an accepted request of the person with this key; it names no ARN
abbrev pub entry_of : When → List ℕ → List ℕ → Request → Entry
entry_of when key drawn request =
    record { moment = when.moment; caller = key; by = []; drawn = drawn; act = Asked request; prunes = when.prunes }

-- a change makes the rows of the entry
abbrev pub Makes : Rows → Entry → Change → Type 0
Makes rows entry change = changed (sweep rows entry.moment) change ≡ effect rows entry
