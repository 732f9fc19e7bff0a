-- How long the requests that make entries are as they are spelled, and that they fit.
use Rattle.std.proofs.Common.{◌≡◌, ℕ, ◌≤◌, true, ◌&&◌, List, ◌++◌, length, Option, Some, None, IfSome, IsSome, arith, length-append}
use Rattle.std.specs.Prelude.{IsTrue, IsUtf8, nat_le, codes}
use Rattle.std.specs.List.{list_all}
use Rattle.std.proofs.lemmas.Bool.Decides.{nat_tests}
use Rattle.std.proofs.lemmas.Bool.{and_from, and_parts}
use Rattle.sm_base.specs.Spelling.{is_token, is_label, is_secret_id}
use Rattle.sm_model.specs.Versions.{When}
use Rattle.sm_model.specs.Bounds.{is_description}
use Rattle.sm_model.specs.declared.entry.Act.TheVariants.{Asked}
use Rattle.sm_model.specs.declared.entry.Change.{Change}
use Rattle.sm_base.specs.declared.limits.TheConstants.{VALUE_LIMIT, LABELS_LIMIT, TAGS_LIMIT}
use Rattle.sm_model.specs.declared.request.CreateSecret.{CreateSecret}
use Rattle.sm_model.specs.declared.request.DeleteSecret.{DeleteSecret}
use Rattle.sm_model.specs.declared.request.OfSecret.{OfSecret}
use Rattle.sm_model.specs.declared.request.PutResourcePolicy.{PutResourcePolicy}
use Rattle.sm_model.specs.declared.request.PutSecretValue.{PutSecretValue}
use Rattle.sm_model.specs.declared.request.RegionsOfSecret.{RegionsOfSecret}
use Rattle.sm_model.specs.declared.request.Request.{Request}
use Rattle.sm_model.specs.declared.request.Request.TheVariants as requests
use Rattle.sm_model.specs.declared.request.RotateSecret.{RotateSecret}
use Rattle.sm_model.specs.declared.request.TagResource.{TagResource}
use Rattle.sm_model.specs.declared.request.UntagResource.{UntagResource}
use Rattle.sm_model.specs.declared.request.UpdateSecret.{UpdateSecret}
use Rattle.sm_model.specs.declared.request.UpdateSecretVersionStage.{UpdateSecretVersionStage}
use Rattle.sm_model.specs.declared.rows.Rows.{Rows}
use Rattle.sm_versions.specs.Regions.{are_regions}
use Rattle.sm_forms.specs.Members.{first_why, form_unless, form_of, has_one, is_value, are_labels, labels_form}
use Rattle.sm_forms.specs.CreateSecret.{create_forms}
use Rattle.sm_forms.specs.DeleteSecret.{delete_forms}
use Rattle.sm_forms.specs.OfSecret.{of_secret_forms}
use Rattle.sm_forms.specs.PutResourcePolicy.{put_policy_forms}
use Rattle.sm_forms.specs.PutSecretValue.{put_forms}
use Rattle.sm_forms.specs.RotateSecret.{rotate_forms}
use Rattle.sm_forms.specs.TagResource.{tag_forms}
use Rattle.sm_forms.specs.UntagResource.{untag_forms}
use Rattle.sm_forms.specs.UpdateSecret.{update_forms}
use Rattle.sm_forms.specs.UpdateSecretVersionStage.{move_forms}
use Rattle.sm_forms.proofs.MemberLemmas.{none_first, passes}
use Rattle.sm_forms.proofs.CreateSecretLemmas as create
use Rattle.sm_forms.proofs.DeleteSecretLemmas as deleting
use Rattle.sm_forms.proofs.OfSecretLemmas as named
use Rattle.sm_forms.proofs.PutResourcePolicyLemmas as policies
use Rattle.sm_forms.proofs.PutSecretValueLemmas as put
use Rattle.sm_forms.proofs.RotateSecretLemmas as rotating
use Rattle.sm_forms.proofs.TagResourceLemmas as tagging
use Rattle.sm_forms.proofs.UntagResourceLemmas as untagging
use Rattle.sm_forms.proofs.UpdateSecretLemmas as update
use Rattle.sm_forms.proofs.UpdateSecretVersionStageLemmas as moving
use Rattle.sm_judge_common.specs.declared.judged.Judged.{Judged}
use Rattle.sm_judge_common.specs.declared.judged.Judged.TheVariants.{Accept, Refuse, Memory}
use Rattle.sm_judge_common.specs.Judged.{IfChange}
use Rattle.sm_judge_values.proofs.CreateSecretLemmas.{create_few}
use Rattle.sm_judge_deletion_and_tags.proofs.TagResourceLemmas.{tag_few}
use Rattle.sm_core.specs.Histories.{IsDue, LegalAct}
use Rattle.sm_core.proofs.NobodyLemmas.{due_of}
use Rattle.sm_core.specs.Judging.{judgement}
use Rattle.sm_record.specs.Codec.{optional}
use Rattle.sm_record.specs.declared.edition.Edition.TheVariants.{Second}
use Rattle.sm_record.specs.Fields.{signed, octets, rotation_rules, text, truth, listed, tag}
use Rattle.sm_record.specs.Requests.{of_secret, create_secret, delete_secret, put_resource_policy, put_secret_value, regions_of_secret, rotate_secret, tag_resource, untag_resource, update_secret, update_secret_version_stage}
use Rattle.sm_encoded_size.specs.Texts.{CreateTexts, PolicyTexts, PutTexts, RotateTexts, UpdateTexts, MoveTexts, TaggingTexts, UntaggingTexts, HasFewTags}
use Rattle.sm_encoded_size.proofs.FieldSizes.{text_size, text_fits, optional_size, optional_fits, bytes_size, bytes_fit, token_size, name_size, description_size, label_size, secret_id_size, labels_size, labels_fits, tags_size, tags_fit, tag_list_size, tag_list_fits, keys_size, keys_fit, regions_size, regions_fit, truth_size, truth_fits, window_size, window_fits, policy_size, rules_size, rules_fit}

-- a fact of a text that is there follows from another
some_then : (t : Option (List ℕ)) (P Q : List ℕ → Type 0) → ((x : List ℕ) → P x → Q x) → IfSome t P → IfSome t Q
some_then None P Q f h = tt
some_then (Some x) P Q f h = f x h

tokens : (t : Option (List ℕ)) → IfSome t (λ x. IsTrue (is_token x)) → IfSome t (λ x. length x ≤ 64)
tokens t h = some_then t (λ x. IsTrue (is_token x)) (λ x. length x ≤ 64) (λ x is. token_size x is) h

values : (t : Option (List ℕ)) → IfSome t (λ x. IsTrue (is_value x)) → IfSome t (λ x. length x ≤ VALUE_LIMIT)
values t h =
    some_then t (λ x. IsTrue (is_value x)) (λ x. length x ≤ VALUE_LIMIT) (λ x is. grind (arith, nat_tests, is)) h

descriptions : (t : Option (List ℕ)) → IfSome t IsUtf8 → IfSome t (λ x. IsTrue (is_description x))
    → IfSome t (λ x. length x ≤ 8192)
descriptions None utf8 h = tt
descriptions (Some x) utf8 h = description_size x utf8 h

-- CreateSecret
module _ (r : CreateSecret) (forms : create_forms r ≡ None) (texts : CreateTexts r)
    (few : IfSome r.tags (λ tags. length tags ≤ TAGS_LIMIT)) where
  pub create_size : length ((create_secret Second).spell r) ≤ 250000
  unfolding create_secret
  create_size =
      let regions : List ℕ = (listed text).spell r.regions in
      let token : List ℕ = (optional text).spell r.client_request_token in
      let description : List ℕ = (optional text).spell r.description in
      let kms : List ℕ = (optional text).spell r.kms_key_id in
      let name : List ℕ = text.spell r.name in
      let binary : List ℕ = (optional octets).spell r.secret_binary in
      let string : List ℕ = (optional text).spell r.secret_string in
      let tags : List ℕ = (optional (listed tag)).spell r.tags in
      omega (
        arith,
        length-append regions (token ++ (description ++ (kms ++ (name ++ (binary ++ (string ++ tags)))))),
        regions_size r.regions (create.create_regions r forms),
        length-append token (description ++ (kms ++ (name ++ (binary ++ (string ++ tags))))),
        length-append description (kms ++ (name ++ (binary ++ (string ++ tags)))),
        length-append kms (name ++ (binary ++ (string ++ tags))),
        length-append name (binary ++ (string ++ tags)),
        length-append binary (string ++ tags),
        length-append string tags,
        optional_size r.client_request_token 64 (tokens r.client_request_token (create.create_token r forms)),
        optional_size r.description 8192
            (descriptions r.description texts.description (create.create_description r forms)),
        optional_size r.kms_key_id 8192 (descriptions r.kms_key_id texts.kms (create.create_kms r forms)),
        text_size r.name,
        name_size r.name (create.create_name r forms),
        bytes_size r.secret_binary VALUE_LIMIT (values r.secret_binary (create.create_binary r forms)),
        optional_size r.secret_string VALUE_LIMIT (values r.secret_string (create.create_text r forms)),
        tags_size r.tags texts.tags (create.create_tags r forms) few,
      )

  pub create_fits : (create_secret Second).fits r ≡ true
  unfolding create_secret
  create_fits =
      and_from ((listed text).fits r.regions) _ (regions_fit r.regions (create.create_regions r forms))
      (and_from ((optional text).fits r.client_request_token) _
      (optional_fits r.client_request_token 64 (omega arith) texts.token
      (tokens r.client_request_token (create.create_token r forms)))
      (and_from ((optional text).fits r.description) _
      (optional_fits r.description 8192 (omega arith) texts.description
      (descriptions r.description texts.description (create.create_description r forms)))
      (and_from ((optional text).fits r.kms_key_id) _
      (optional_fits r.kms_key_id 8192 (omega arith) texts.kms
      (descriptions r.kms_key_id texts.kms (create.create_kms r forms)))
      (and_from (text.fits r.name) _
      (text_fits r.name texts.name (omega (arith, name_size r.name (create.create_name r forms))))
      (and_from ((optional octets).fits r.secret_binary) _
      (bytes_fit r.secret_binary VALUE_LIMIT (omega arith) (values r.secret_binary (create.create_binary r forms)))
      (and_from ((optional text).fits r.secret_string) _
      (optional_fits r.secret_string VALUE_LIMIT (omega arith) texts.string
      (values r.secret_string (create.create_text r forms)))
      (tags_fit r.tags texts.tags (create.create_tags r forms) few)))))))

-- PutSecretValue
few_labels : (t : Option (List (List ℕ))) → labels_form t ≡ None → IfSome t (λ items. length items ≤ 20)
few_labels None h = tt
few_labels (Some labels) h =
    let is = (and_parts (nat_le 1 (length labels) && nat_le (length labels) LABELS_LIMIT) (list_all is_label labels)
    (passes (are_labels labels) _ h)).0 in
    let few = (and_parts (nat_le 1 (length labels)) (nat_le (length labels) LABELS_LIMIT) is).1 in
    grind (arith, nat_tests, few)

module _ (r : PutSecretValue) (forms : put_forms r ≡ None) where
  few : IfSome r.version_stages (λ items. length items ≤ 20)
  few =
      let token = form_of is_token (codes "ClientRequestToken") r.client_request_token in
      let binary = form_of is_value (codes "SecretBinary") r.secret_binary in
      let id = form_unless (is_secret_id r.secret_id) (codes "SecretId") in
      let string = form_of is_value (codes "SecretString") r.secret_string in
      let labels = labels_form r.version_stages in
      let given = form_unless (has_one r.secret_string r.secret_binary) (codes "SecretString") in
      let behind_id = first_why string (first_why labels given) in
      let behind_binary = first_why id behind_id in
      let from_binary = (none_first token (first_why binary behind_binary) forms).1 in
      let from_id = (none_first binary behind_binary from_binary).1 in
      let from_string = (none_first id behind_id from_id).1 in
      let from_labels = (none_first string (first_why labels given) from_string).1 in
      few_labels r.version_stages (none_first labels given from_labels).0

  pub put_size : length (put_secret_value.spell r) ≤ 160000
  unfolding put_secret_value
  put_size =
      let token : List ℕ = (optional text).spell r.client_request_token in
      let binary : List ℕ = (optional octets).spell r.secret_binary in
      let id : List ℕ = text.spell r.secret_id in
      let string : List ℕ = (optional text).spell r.secret_string in
      let stages : List ℕ = (optional (listed text)).spell r.version_stages in
      omega (
        arith,
        length-append token (binary ++ (id ++ (string ++ stages))),
        length-append binary (id ++ (string ++ stages)),
        length-append id (string ++ stages),
        length-append string stages,
        optional_size r.client_request_token 64 (tokens r.client_request_token (put.put_token r forms)),
        bytes_size r.secret_binary VALUE_LIMIT (values r.secret_binary (put.put_binary r forms)),
        text_size r.secret_id,
        secret_id_size r.secret_id (put.put_id r forms),
        optional_size r.secret_string VALUE_LIMIT (values r.secret_string (put.put_text r forms)),
        labels_size r.version_stages (put.put_labels r forms) few,
      )

  pub put_fits : PutTexts r → put_secret_value.fits r ≡ true
  unfolding put_secret_value
  put_fits texts =
      and_from ((optional text).fits r.client_request_token) _
      (optional_fits r.client_request_token 64 (omega arith) texts.token
      (tokens r.client_request_token (put.put_token r forms)))
      (and_from ((optional octets).fits r.secret_binary) _
      (bytes_fit r.secret_binary VALUE_LIMIT (omega arith) (values r.secret_binary (put.put_binary r forms)))
      (and_from (text.fits r.secret_id) _
      (text_fits r.secret_id texts.id (omega (arith, secret_id_size r.secret_id (put.put_id r forms))))
      (and_from ((optional text).fits r.secret_string) _
      (optional_fits r.secret_string VALUE_LIMIT (omega arith) texts.string
      (values r.secret_string (put.put_text r forms)))
      (labels_fits r.version_stages (put.put_labels r forms) few))))

-- UpdateSecret
module _ (r : UpdateSecret) (forms : update_forms r ≡ None) (texts : UpdateTexts r) where
  pub update_size : length (update_secret.spell r) ≤ 150000
  unfolding update_secret
  update_size =
      let token : List ℕ = (optional text).spell r.client_request_token in
      let description : List ℕ = (optional text).spell r.description in
      let kms : List ℕ = (optional text).spell r.kms_key_id in
      let binary : List ℕ = (optional octets).spell r.secret_binary in
      let id : List ℕ = text.spell r.secret_id in
      let string : List ℕ = (optional text).spell r.secret_string in
      omega (
        arith,
        length-append token (description ++ (kms ++ (binary ++ (id ++ string)))),
        length-append description (kms ++ (binary ++ (id ++ string))),
        length-append kms (binary ++ (id ++ string)),
        length-append binary (id ++ string),
        length-append id string,
        optional_size r.client_request_token 64 (tokens r.client_request_token (update.update_token r forms)),
        optional_size r.description 8192
            (descriptions r.description texts.description (update.update_description r forms)),
        optional_size r.kms_key_id 8192 (descriptions r.kms_key_id texts.kms (update.update_kms r forms)),
        bytes_size r.secret_binary VALUE_LIMIT (values r.secret_binary (update.update_binary r forms)),
        text_size r.secret_id,
        secret_id_size r.secret_id (update.update_id r forms),
        optional_size r.secret_string VALUE_LIMIT (values r.secret_string (update.update_text r forms)),
      )

  pub update_fits : update_secret.fits r ≡ true
  unfolding update_secret
  update_fits =
      and_from ((optional text).fits r.client_request_token) _
      (optional_fits r.client_request_token 64 (omega arith) texts.token
      (tokens r.client_request_token (update.update_token r forms)))
      (and_from ((optional text).fits r.description) _
      (optional_fits r.description 8192 (omega arith) texts.description
      (descriptions r.description texts.description (update.update_description r forms)))
      (and_from ((optional text).fits r.kms_key_id) _
      (optional_fits r.kms_key_id 8192 (omega arith) texts.kms
      (descriptions r.kms_key_id texts.kms (update.update_kms r forms)))
      (and_from ((optional octets).fits r.secret_binary) _
      (bytes_fit r.secret_binary VALUE_LIMIT (omega arith) (values r.secret_binary (update.update_binary r forms)))
      (and_from (text.fits r.secret_id) _
      (text_fits r.secret_id texts.id (omega (arith, secret_id_size r.secret_id (update.update_id r forms))))
      (optional_fits r.secret_string VALUE_LIMIT (omega arith) texts.string
      (values r.secret_string (update.update_text r forms)))))))

-- UpdateSecretVersionStage
module _ (r : UpdateSecretVersionStage) (forms : move_forms r ≡ None) where
  pub move_size : length (update_secret_version_stage.spell r) ≤ 2000
  unfolding update_secret_version_stage
  move_size =
      let to : List ℕ = (optional text).spell r.move_to_version_id in
      let from : List ℕ = (optional text).spell r.remove_from_version_id in
      let id : List ℕ = text.spell r.secret_id in
      let stage : List ℕ = text.spell r.version_stage in
      omega (
        arith,
        length-append to (from ++ (id ++ stage)),
        length-append from (id ++ stage),
        length-append id stage,
        optional_size r.move_to_version_id 64 (tokens r.move_to_version_id (moving.move_to r forms)),
        optional_size r.remove_from_version_id 64 (tokens r.remove_from_version_id (moving.move_from r forms)),
        text_size r.secret_id,
        secret_id_size r.secret_id (moving.move_id r forms),
        text_size r.version_stage,
        label_size r.version_stage (moving.move_label r forms),
      )

  pub move_fits : MoveTexts r → update_secret_version_stage.fits r ≡ true
  unfolding update_secret_version_stage
  move_fits texts =
      and_from ((optional text).fits r.move_to_version_id) _
      (optional_fits r.move_to_version_id 64 (omega arith) texts.to
      (tokens r.move_to_version_id (moving.move_to r forms)))
      (and_from ((optional text).fits r.remove_from_version_id) _
      (optional_fits r.remove_from_version_id 64 (omega arith) texts.from
      (tokens r.remove_from_version_id (moving.move_from r forms)))
      (and_from (text.fits r.secret_id) (text.fits r.version_stage)
      (text_fits r.secret_id texts.id (omega (arith, secret_id_size r.secret_id (moving.move_id r forms))))
      (text_fits r.version_stage texts.label
      (omega (arith, label_size r.version_stage (moving.move_label r forms))))))

-- DeleteSecret
module _ (r : DeleteSecret) (forms : delete_forms r ≡ None) where
  pub delete_size : length (delete_secret.spell r) ≤ 2000
  unfolding delete_secret
  delete_size =
      let force : List ℕ = truth.spell r.force_delete_without_recovery in
      let window : List ℕ = (optional signed).spell r.recovery_window_in_days in
      let id : List ℕ = text.spell r.secret_id in
      omega (
        arith,
        length-append force (window ++ id),
        length-append window id,
        truth_size r.force_delete_without_recovery,
        window_size r.recovery_window_in_days,
        text_size r.secret_id,
        secret_id_size r.secret_id (deleting.delete_id r forms),
      )

  pub delete_fits : IsUtf8 r.secret_id → delete_secret.fits r ≡ true
  unfolding delete_secret
  delete_fits id =
      and_from (truth.fits r.force_delete_without_recovery) _ (truth_fits r.force_delete_without_recovery)
      (and_from ((optional signed).fits r.recovery_window_in_days) (text.fits r.secret_id)
      (window_fits r.recovery_window_in_days (deleting.delete_window r forms))
      (text_fits r.secret_id id (omega (arith, secret_id_size r.secret_id (deleting.delete_id r forms)))))

-- CancelRotateSecret, DeleteResourcePolicy and RestoreSecret
module _ (r : OfSecret) (forms : of_secret_forms r ≡ None) where
  pub named_size : length (of_secret.spell r) ≤ 2000
  unfolding of_secret
  named_size = omega (arith, text_size r.secret_id, secret_id_size r.secret_id (named.named_id r forms))

  pub named_fits : IsUtf8 r.secret_id → of_secret.fits r ≡ true
  unfolding of_secret
  named_fits id = text_fits r.secret_id id (omega (arith, secret_id_size r.secret_id (named.named_id r forms)))

-- TagResource
module _ (r : TagResource) (forms : tag_forms r ≡ None) (texts : TaggingTexts r)
    (few : length r.tags ≤ TAGS_LIMIT) where
  pub tag_resource_size : length (tag_resource.spell r) ≤ 80000
  unfolding tag_resource
  tag_resource_size =
      let id : List ℕ = text.spell r.secret_id in
      let tags : List ℕ = (listed tag).spell r.tags in
      omega (
        arith,
        length-append id tags,
        text_size r.secret_id,
        secret_id_size r.secret_id (tagging.tag_id r forms),
        tag_list_size r.tags texts.tags (tagging.tag_tags r forms).0 few,
      )

  pub tag_resource_fits : tag_resource.fits r ≡ true
  unfolding tag_resource
  tag_resource_fits =
      and_from (text.fits r.secret_id) ((listed tag).fits r.tags)
      (text_fits r.secret_id texts.id (omega (arith, secret_id_size r.secret_id (tagging.tag_id r forms))))
      (tag_list_fits r.tags texts.tags (tagging.tag_tags r forms).0 few)

-- UntagResource
module _ (r : UntagResource) (forms : untag_forms r ≡ None) (texts : UntaggingTexts r) where
  pub untag_resource_size : length (untag_resource.spell r) ≤ 30000
  unfolding untag_resource
  untag_resource_size =
      let id : List ℕ = text.spell r.secret_id in
      let keys : List ℕ = (listed text).spell r.tag_keys in
      omega (
        arith,
        length-append id keys,
        text_size r.secret_id,
        secret_id_size r.secret_id (untagging.untag_id r forms),
        keys_size r.tag_keys texts.keys (untagging.untag_keys r forms) (untagging.untag_few r forms),
      )

  pub untag_resource_fits : untag_resource.fits r ≡ true
  unfolding untag_resource
  untag_resource_fits =
      and_from (text.fits r.secret_id) ((listed text).fits r.tag_keys)
      (text_fits r.secret_id texts.id (omega (arith, secret_id_size r.secret_id (untagging.untag_id r forms))))
      (keys_fit r.tag_keys texts.keys (untagging.untag_keys r forms) (untagging.untag_few r forms))

-- ReplicateSecretToRegions and RemoveRegionsFromReplication
module _ (r : RegionsOfSecret) (spelled : IsTrue (is_secret_id r.secret_id))
    (regions : IsTrue (are_regions r.regions)) where
  pub regional_size : length (regions_of_secret.spell r) ≤ 2000
  unfolding regions_of_secret
  regional_size =
      let given : List ℕ = (listed text).spell r.regions in
      let id : List ℕ = text.spell r.secret_id in
      omega (
        arith,
        length-append given id,
        regions_size r.regions regions,
        text_size r.secret_id,
        secret_id_size r.secret_id spelled,
      )

  pub regional_fits : IsUtf8 r.secret_id → regions_of_secret.fits r ≡ true
  unfolding regions_of_secret
  regional_fits id =
      and_from ((listed text).fits r.regions) (text.fits r.secret_id) (regions_fit r.regions regions)
      (text_fits r.secret_id id (omega (arith, secret_id_size r.secret_id spelled)))

-- PutResourcePolicy
module _ (r : PutResourcePolicy) (forms : put_policy_forms r ≡ None) (texts : PolicyTexts r) where
  pub put_policy_size : length (put_resource_policy.spell r) ≤ 90000
  unfolding put_resource_policy
  put_policy_size =
      let block : List ℕ = truth.spell r.block_public_policy in
      let policy : List ℕ = text.spell r.resource_policy in
      let id : List ℕ = text.spell r.secret_id in
      omega (
        arith,
        length-append block (policy ++ id),
        length-append policy id,
        truth_size r.block_public_policy,
        text_size r.resource_policy,
        policy_size r.resource_policy texts.policy (policies.put_policy_text r forms),
        text_size r.secret_id,
        secret_id_size r.secret_id (policies.put_policy_id r forms),
      )

  pub put_policy_fits : put_resource_policy.fits r ≡ true
  unfolding put_resource_policy
  put_policy_fits =
      and_from (truth.fits r.block_public_policy) _ (truth_fits r.block_public_policy)
      (and_from (text.fits r.resource_policy) (text.fits r.secret_id)
      (text_fits r.resource_policy texts.policy
      (omega (arith, policy_size r.resource_policy texts.policy (policies.put_policy_text r forms))))
      (text_fits r.secret_id texts.id (omega (arith, secret_id_size r.secret_id (policies.put_policy_id r forms)))))

-- RotateSecret
module _ (r : RotateSecret) (forms : rotate_forms r ≡ None) (texts : RotateTexts r) where
  pub rotate_size : length ((rotate_secret Second).spell r) ≤ 10000
  unfolding rotate_secret
  rotate_size =
      let token : List ℕ = (optional text).spell r.client_request_token in
      let at_once : List ℕ = truth.spell r.rotate_immediately in
      let lambda : List ℕ = (optional text).spell r.rotation_lambda_arn in
      let rules : List ℕ = (optional (rotation_rules Second)).spell r.rotation_rules in
      let id : List ℕ = text.spell r.secret_id in
      omega (
        arith,
        length-append token (at_once ++ (lambda ++ (rules ++ id))),
        length-append at_once (lambda ++ (rules ++ id)),
        length-append lambda (rules ++ id),
        length-append rules id,
        optional_size r.client_request_token 64 (tokens r.client_request_token (rotating.rotate_token r forms)),
        truth_size r.rotate_immediately,
        optional_size r.rotation_lambda_arn 8192
            (descriptions r.rotation_lambda_arn texts.lambda (rotating.rotate_lambda r forms)),
        rules_size r.rotation_rules (rotating.rotate_expression r forms),
        text_size r.secret_id,
        secret_id_size r.secret_id (rotating.rotate_id r forms),
      )

  pub rotate_fits : (rotate_secret Second).fits r ≡ true
  unfolding rotate_secret
  rotate_fits =
      and_from ((optional text).fits r.client_request_token) _
      (optional_fits r.client_request_token 64 (omega arith) texts.token
      (tokens r.client_request_token (rotating.rotate_token r forms)))
      (and_from (truth.fits r.rotate_immediately) _ (truth_fits r.rotate_immediately)
      (and_from ((optional text).fits r.rotation_lambda_arn) _
      (optional_fits r.rotation_lambda_arn 8192 (omega arith) texts.lambda
      (descriptions r.rotation_lambda_arn texts.lambda (rotating.rotate_lambda r forms)))
      (and_from ((optional (rotation_rules Second)).fits r.rotation_rules) (text.fits r.secret_id)
      (rules_fit r.rotation_rules (rotating.rotate_rules r forms) (rotating.rotate_expression r forms) texts.schedule)
      (text_fits r.secret_id texts.id (omega (arith, secret_id_size r.secret_id (rotating.rotate_id r forms)))))))

-- a fact of each change holds where one is due
of_due : (j : Judged) (P : Type 0) → IfChange j (λ _. P) → IsDue j → P
of_due (Accept reply None) P h due = absurd (let f : IsSome {T = Change} None = due in cc)
of_due (Accept reply (Some change)) P h due = h
of_due (Refuse why) P h due = absurd due
of_due Memory P h due = absurd due

-- a request that makes an entry has few tags
pub few_tags : (rows : Rows) (when : When) (drawn : List ℕ) (request : Request)
    → LegalAct rows when drawn (Asked request) → HasFewTags request
few_tags rows when drawn (requests.CreateSecret r) legal =
    of_due (judgement rows when drawn (requests.CreateSecret r)) (IfSome r.tags (λ tags. length tags ≤ TAGS_LIMIT))
    (create_few rows when.moment drawn r) (due_of _ legal.2)
few_tags rows when drawn (requests.TagResource r) legal =
    of_due (judgement rows when drawn (requests.TagResource r)) (length r.tags ≤ TAGS_LIMIT)
    (tag_few rows when r legal.1) (due_of _ legal.2)
few_tags rows when drawn request legal = tt
