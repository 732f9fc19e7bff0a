-- The laws of what an entry keeps of a request.
use Rattle.std.proofs.Common.{[], refl}
use Rattle.sm_record.specs.Codec.{both, optional}
use Rattle.sm_record.specs.Editions.{is_empty}
use Rattle.sm_record.specs.declared.edition.Edition.{Edition}
use Rattle.sm_record.specs.Fields.{signed, octets, text, truth, listed, tag, rotation_rules}
use Rattle.sm_record.specs.Requests.{of_secret, create_secret, delete_secret, put_resource_policy, put_secret_value, regions, regions_of_secret, rotate_secret, tag_resource, untag_resource, update_secret, update_secret_version_stage}
use Rattle.sm_record.proofs.CodecLaws.{Lawful, both_lawful, mapped_lawful}
use Rattle.sm_record.proofs.ArmLaws.{optional_lawful}
use Rattle.sm_record.proofs.EditionLaws.{since_lawful, empty_only}
use Rattle.sm_record.proofs.FieldLaws.{signed_lawful, octets_lawful, text_lawful, truth_lawful, listed_lawful, tag_lawful, rotation_rules_lawful}

text_given : Lawful (optional text)
text_given = optional_lawful text text_lawful

octets_given : Lawful (optional octets)
octets_given = optional_lawful octets octets_lawful

signed_given : Lawful (optional signed)
signed_given = optional_lawful signed signed_lawful

rules_given : (e : Edition) → Lawful (optional (rotation_rules e))
rules_given e = optional_lawful (rotation_rules e) (rotation_rules_lawful e)

tags : Lawful (listed tag)
tags = listed_lawful tag tag_lawful

tags_given : Lawful (optional (listed tag))
tags_given = optional_lawful (listed tag) tags

texts : Lawful (listed text)
texts = listed_lawful text text_lawful

texts_given : Lawful (optional (listed text))
texts_given = optional_lawful (listed text) texts

pub of_secret_lawful : Lawful of_secret
unfolding of_secret
of_secret_lawful = mapped_lawful
    text
    text_lawful
    (λ id. record { secret_id = id })
    (λ r. r.secret_id)
    (λ _. refl) (λ _. refl)

pub regions_lawful : (e : Edition) → Lawful (regions e)
regions_lawful e = since_lawful [] is_empty (listed text) refl empty_only texts e

pub create_secret_lawful : (e : Edition) → Lawful (create_secret e)
unfolding create_secret
create_secret_lawful e = mapped_lawful
    (both (regions e) (both (optional text) (both (optional text) (both (optional text) (both text (both
    (optional octets) (both (optional text) (optional (listed tag)))))))))
    (both_lawful (regions_lawful e) (both_lawful text_given (both_lawful text_given (both_lawful text_given
    (both_lawful text_lawful (both_lawful octets_given (both_lawful text_given tags_given)))))))
    (λ x. record {
      regions = x.0;
      client_request_token = x.1.0;
      description = x.1.1.0;
      kms_key_id = x.1.1.1.0;
      name = x.1.1.1.1.0;
      secret_binary = x.1.1.1.1.1.0;
      secret_string = x.1.1.1.1.1.1.0;
      tags = x.1.1.1.1.1.1.1;
    })
    (λ r. (
      r.regions,
      (
        r.client_request_token,
        (
          r.description,
          (
            r.kms_key_id,
            (
              r.name,
              (
                r.secret_binary,
                (r.secret_string, r.tags),
              ),
            ),
          ),
        ),
      ),
    ))
    (λ _. refl) (λ _. refl)

pub delete_secret_lawful : Lawful delete_secret
unfolding delete_secret
delete_secret_lawful = mapped_lawful
    (both truth (both (optional signed) text))
    (both_lawful truth_lawful (both_lawful signed_given text_lawful))
    (λ x. record { force_delete_without_recovery = x.0; recovery_window_in_days = x.1.0; secret_id = x.1.1 })
    (λ r. (r.force_delete_without_recovery, (r.recovery_window_in_days, r.secret_id)))
    (λ _. refl) (λ _. refl)

pub put_resource_policy_lawful : Lawful put_resource_policy
unfolding put_resource_policy
put_resource_policy_lawful = mapped_lawful
    (both truth (both text text))
    (both_lawful truth_lawful (both_lawful text_lawful text_lawful))
    (λ x. record { block_public_policy = x.0; resource_policy = x.1.0; secret_id = x.1.1 })
    (λ r. (r.block_public_policy, (r.resource_policy, r.secret_id)))
    (λ _. refl) (λ _. refl)

pub put_secret_value_lawful : Lawful put_secret_value
unfolding put_secret_value
put_secret_value_lawful = mapped_lawful
    (both (optional text) (both (optional octets) (both text (both (optional text) (optional (listed text))))))
    (both_lawful text_given (both_lawful octets_given (both_lawful text_lawful (both_lawful text_given
    texts_given))))
    (λ x. record {
      client_request_token = x.0;
      secret_binary = x.1.0;
      secret_id = x.1.1.0;
      secret_string = x.1.1.1.0;
      version_stages = x.1.1.1.1;
    })
    (λ r. (r.client_request_token, (r.secret_binary, (r.secret_id, (r.secret_string, r.version_stages)))))
    (λ _. refl) (λ _. refl)

pub rotate_secret_lawful : (e : Edition) → Lawful (rotate_secret e)
unfolding rotate_secret
rotate_secret_lawful e = mapped_lawful
    (both (optional text) (both truth (both (optional text) (both (optional (rotation_rules e)) text))))
    (both_lawful text_given (both_lawful truth_lawful (both_lawful text_given (both_lawful (rules_given e)
    text_lawful))))
    (λ x. record {
      client_request_token = x.0;
      rotate_immediately = x.1.0;
      rotation_lambda_arn = x.1.1.0;
      rotation_rules = x.1.1.1.0;
      secret_id = x.1.1.1.1;
    })
    (λ r. (r.client_request_token, (r.rotate_immediately, (r.rotation_lambda_arn, (r.rotation_rules, r.secret_id)))))
    (λ _. refl) (λ _. refl)

pub regions_of_secret_lawful : Lawful regions_of_secret
unfolding regions_of_secret
regions_of_secret_lawful = mapped_lawful
    (both (listed text) text)
    (both_lawful texts text_lawful)
    (λ x. record { regions = x.0; secret_id = x.1 })
    (λ r. (r.regions, r.secret_id))
    (λ _. refl) (λ _. refl)

pub tag_resource_lawful : Lawful tag_resource
unfolding tag_resource
tag_resource_lawful = mapped_lawful
    (both text (listed tag))
    (both_lawful text_lawful tags)
    (λ x. record { secret_id = x.0; tags = x.1 })
    (λ r. (r.secret_id, r.tags))
    (λ _. refl) (λ _. refl)

pub untag_resource_lawful : Lawful untag_resource
unfolding untag_resource
untag_resource_lawful = mapped_lawful
    (both text (listed text))
    (both_lawful text_lawful texts)
    (λ x. record { secret_id = x.0; tag_keys = x.1 })
    (λ r. (r.secret_id, r.tag_keys))
    (λ _. refl) (λ _. refl)

pub update_secret_lawful : Lawful update_secret
unfolding update_secret
update_secret_lawful = mapped_lawful
    (both (optional text) (both (optional text) (both (optional text) (both (optional octets) (both text (optional
    text))))))
    (both_lawful text_given (both_lawful text_given (both_lawful text_given (both_lawful octets_given (both_lawful
    text_lawful text_given)))))
    (λ x. record {
      client_request_token = x.0;
      description = x.1.0;
      kms_key_id = x.1.1.0;
      secret_binary = x.1.1.1.0;
      secret_id = x.1.1.1.1.0;
      secret_string = x.1.1.1.1.1;
    })
    (λ r. (r.client_request_token, (r.description, (r.kms_key_id, (r.secret_binary, (r.secret_id, r.secret_string))))))
    (λ _. refl) (λ _. refl)

pub update_secret_version_stage_lawful : Lawful update_secret_version_stage
unfolding update_secret_version_stage
update_secret_version_stage_lawful = mapped_lawful
    (both (optional text) (both (optional text) (both text text)))
    (both_lawful text_given (both_lawful text_given (both_lawful text_lawful text_lawful)))
    (λ x. record {
      move_to_version_id = x.0;
      remove_from_version_id = x.1.0;
      secret_id = x.1.1.0;
      version_stage = x.1.1.1;
    })
    (λ r. (r.move_to_version_id, (r.remove_from_version_id, (r.secret_id, r.version_stage))))
    (λ _. refl) (λ _. refl)
