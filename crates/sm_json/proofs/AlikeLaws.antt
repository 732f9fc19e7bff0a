-- Nothing but the members of a table counts.
use Rattle.std.proofs.Common.{◌≡◌, List, [], ◌∷◌, inl, inr, refl, ap, ◌∙◌}
use Rattle.serde_json.specs.Data.{Data}
use Rattle.sm_json.specs.declared.operation.Operation.{Operation}
use Rattle.sm_json.specs.declared.operation.Operation.TheVariants as named
use Rattle.sm_model.specs.declared.request.Request.TheVariants as requests
use Rattle.sm_json.specs.Asks.{members_of, request_in, refused_or}
use Rattle.sm_json.specs.Fields.{Field, may, must, member_of, fault_at, fault_of, first, first_fault, given}
use Rattle.sm_json.specs.Tables.{batch_get_secret_value_members, batch_get_secret_value_in, of_secret_members, of_secret_in, create_secret_members, create_secret_in, delete_secret_members, delete_secret_in, get_random_password_members, get_random_password_in, get_secret_value_members, get_secret_value_in, list_secret_version_ids_members, list_secret_version_ids_in, list_secrets_members, list_secrets_in, put_resource_policy_members, put_resource_policy_in, put_secret_value_members, put_secret_value_in, remove_regions_members, remove_regions_in, replicate_secret_members, replicate_secret_in, rotate_secret_members, rotate_secret_in, tag_resource_members, tag_resource_in, untag_resource_members, untag_resource_in, update_secret_members, update_secret_in, update_secret_version_stage_members, update_secret_version_stage_in, validate_resource_policy_members, validate_resource_policy_in}
use Rattle.sm_json.specs.Laws.{Alike, OnlyMembersCount}

-- the same, one member after the other
abbrev Same : List Field → Data → Data → Type 0
Same [] a b = Unit {0}
Same (field ∷ fields) a b = (member_of field.name a ≡ member_of field.name b) × Same fields a b

module _ (a b : Data) where
  same_of : (fields : List Field) → Alike fields a b → Same fields a b
  same_of [] alike = tt
  same_of (field ∷ fields) alike = (alike field (inl refl), same_of fields (λ o in_it. alike o (inr in_it)))

  fault_alike : (field : Field) → member_of field.name a ≡ member_of field.name b → fault_of field a ≡ fault_of field b
  unfolding fault_of
  fault_alike field is = ap (fault_at field) is

  faults_alike : (fields : List Field) → Alike fields a b → first_fault fields a ≡ first_fault fields b
  faults_alike [] alike = refl
  faults_alike (field ∷ fields) alike =
      ap (λ f. first f (first_fault fields a)) (fault_alike field (alike field (inl refl)))
      ∙ ap (first (fault_of field b)) (faults_alike fields (λ o in_it. alike o (inr in_it)))

  batch_get_secret_value_alike : Same batch_get_secret_value_members a b
      → batch_get_secret_value_in a ≡ batch_get_secret_value_in b
  unfolding batch_get_secret_value_members batch_get_secret_value_in may must given
  batch_get_secret_value_alike (e0, (e1, (e2, (e3, _)))) = rw (e0, e1, e2, e3) refl

  of_secret_alike : Same of_secret_members a b → of_secret_in a ≡ of_secret_in b
  unfolding of_secret_members of_secret_in may must given
  of_secret_alike (e0, _) = rw (e0) refl

  create_secret_alike : Same create_secret_members a b → create_secret_in a ≡ create_secret_in b
  unfolding create_secret_members create_secret_in may must given
  create_secret_alike (e0, (e1, (e2, (e3, (e4, (e5, (e6, (e7, _)))))))) = rw (e0, e1, e2, e3, e4, e5, e6, e7) refl

  delete_secret_alike : Same delete_secret_members a b → delete_secret_in a ≡ delete_secret_in b
  unfolding delete_secret_members delete_secret_in may must given
  delete_secret_alike (e0, (e1, (e2, _))) = rw (e0, e1, e2) refl

  get_random_password_alike : Same get_random_password_members a b → get_random_password_in a ≡ get_random_password_in b
  unfolding get_random_password_members get_random_password_in may must given
  get_random_password_alike (e0, (e1, (e2, (e3, (e4, (e5, (e6, (e7, _)))))))) = rw (e0, e1, e2, e3, e4, e5, e6, e7) refl

  get_secret_value_alike : Same get_secret_value_members a b → get_secret_value_in a ≡ get_secret_value_in b
  unfolding get_secret_value_members get_secret_value_in may must given
  get_secret_value_alike (e0, (e1, (e2, _))) = rw (e0, e1, e2) refl

  list_secret_version_ids_alike : Same list_secret_version_ids_members a b
      → list_secret_version_ids_in a ≡ list_secret_version_ids_in b
  unfolding list_secret_version_ids_members list_secret_version_ids_in may must given
  list_secret_version_ids_alike (e0, (e1, (e2, (e3, _)))) = rw (e0, e1, e2, e3) refl

  list_secrets_alike : Same list_secrets_members a b → list_secrets_in a ≡ list_secrets_in b
  unfolding list_secrets_members list_secrets_in may must given
  list_secrets_alike (e0, (e1, (e2, (e3, (e4, _))))) = rw (e0, e1, e2, e3, e4) refl

  put_resource_policy_alike : Same put_resource_policy_members a b → put_resource_policy_in a ≡ put_resource_policy_in b
  unfolding put_resource_policy_members put_resource_policy_in may must given
  put_resource_policy_alike (e0, (e1, (e2, _))) = rw (e0, e1, e2) refl

  put_secret_value_alike : Same put_secret_value_members a b → put_secret_value_in a ≡ put_secret_value_in b
  unfolding put_secret_value_members put_secret_value_in may must given
  put_secret_value_alike (e0, (e1, (e2, (e3, (e4, _))))) = rw (e0, e1, e2, e3, e4) refl

  remove_regions_alike : Same remove_regions_members a b → remove_regions_in a ≡ remove_regions_in b
  unfolding remove_regions_members remove_regions_in may must given
  remove_regions_alike (e0, (e1, _)) = rw (e0, e1) refl

  replicate_secret_alike : Same replicate_secret_members a b → replicate_secret_in a ≡ replicate_secret_in b
  unfolding replicate_secret_members replicate_secret_in may must given
  replicate_secret_alike (e0, (e1, _)) = rw (e0, e1) refl

  rotate_secret_alike : Same rotate_secret_members a b → rotate_secret_in a ≡ rotate_secret_in b
  unfolding rotate_secret_members rotate_secret_in may must given
  rotate_secret_alike (e0, (e1, (e2, (e3, (e4, _))))) = rw (e0, e1, e2, e3, e4) refl

  tag_resource_alike : Same tag_resource_members a b → tag_resource_in a ≡ tag_resource_in b
  unfolding tag_resource_members tag_resource_in may must given
  tag_resource_alike (e0, (e1, _)) = rw (e0, e1) refl

  untag_resource_alike : Same untag_resource_members a b → untag_resource_in a ≡ untag_resource_in b
  unfolding untag_resource_members untag_resource_in may must given
  untag_resource_alike (e0, (e1, _)) = rw (e0, e1) refl

  update_secret_alike : Same update_secret_members a b → update_secret_in a ≡ update_secret_in b
  unfolding update_secret_members update_secret_in may must given
  update_secret_alike (e0, (e1, (e2, (e3, (e4, (e5, _)))))) = rw (e0, e1, e2, e3, e4, e5) refl

  update_secret_version_stage_alike : Same update_secret_version_stage_members a b
      → update_secret_version_stage_in a ≡ update_secret_version_stage_in b
  unfolding update_secret_version_stage_members update_secret_version_stage_in may must given
  update_secret_version_stage_alike (e0, (e1, (e2, (e3, _)))) = rw (e0, e1, e2, e3) refl

  validate_resource_policy_alike : Same validate_resource_policy_members a b
      → validate_resource_policy_in a ≡ validate_resource_policy_in b
  unfolding validate_resource_policy_members validate_resource_policy_in may must given
  validate_resource_policy_alike (e0, (e1, _)) = rw (e0, e1) refl

  request_alike : (operation : Operation) → Same (members_of operation) a b
      → request_in operation a ≡ request_in operation b
  request_alike named.BatchGetSecretValue same = ap requests.BatchGetSecretValue (batch_get_secret_value_alike same)
  request_alike named.CancelRotateSecret same = ap requests.CancelRotateSecret (of_secret_alike same)
  request_alike named.CreateSecret same = ap requests.CreateSecret (create_secret_alike same)
  request_alike named.DeleteResourcePolicy same = ap requests.DeleteResourcePolicy (of_secret_alike same)
  request_alike named.DeleteSecret same = ap requests.DeleteSecret (delete_secret_alike same)
  request_alike named.DescribeSecret same = ap requests.DescribeSecret (of_secret_alike same)
  request_alike named.GetRandomPassword same = ap requests.GetRandomPassword (get_random_password_alike same)
  request_alike named.GetResourcePolicy same = ap requests.GetResourcePolicy (of_secret_alike same)
  request_alike named.GetSecretValue same = ap requests.GetSecretValue (get_secret_value_alike same)
  request_alike named.ListSecretVersionIds same = ap requests.ListSecretVersionIds (list_secret_version_ids_alike same)
  request_alike named.ListSecrets same = ap requests.ListSecrets (list_secrets_alike same)
  request_alike named.PutResourcePolicy same = ap requests.PutResourcePolicy (put_resource_policy_alike same)
  request_alike named.PutSecretValue same = ap requests.PutSecretValue (put_secret_value_alike same)
  request_alike named.RemoveRegionsFromReplication same =
      ap requests.RemoveRegionsFromReplication (remove_regions_alike same)
  request_alike named.ReplicateSecretToRegions same = ap requests.ReplicateSecretToRegions (replicate_secret_alike same)
  request_alike named.RestoreSecret same = ap requests.RestoreSecret (of_secret_alike same)
  request_alike named.RotateSecret same = ap requests.RotateSecret (rotate_secret_alike same)
  request_alike named.StopReplicationToReplica same = ap requests.StopReplicationToReplica (of_secret_alike same)
  request_alike named.TagResource same = ap requests.TagResource (tag_resource_alike same)
  request_alike named.UntagResource same = ap requests.UntagResource (untag_resource_alike same)
  request_alike named.UpdateSecret same = ap requests.UpdateSecret (update_secret_alike same)
  request_alike named.UpdateSecretVersionStage same =
      ap requests.UpdateSecretVersionStage (update_secret_version_stage_alike same)
  request_alike named.ValidateResourcePolicy same =
      ap requests.ValidateResourcePolicy (validate_resource_policy_alike same)

pub only_members : OnlyMembersCount
only_members operation a b alike =
    ap (λ f. refused_or f (request_in operation a)) (faults_alike a b (members_of operation) alike)
    ∙ ap (refused_or (first_fault (members_of operation) b))
    (request_alike a b operation (same_of a b (members_of operation) alike))
