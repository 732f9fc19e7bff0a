-- The laws of answers, acts and entries.
use Rattle.std.proofs.Common.{◌≡◌, ℕ, Bool, IsTrue, List, [], ◌++◌, Result, refl, arith}
use Rattle.std.proofs.lemmas.Bool.{false≢true}
use Rattle.sm_model.specs.declared.request.Request.{Request}
use Rattle.sm_model.specs.declared.request.Request.TheVariants as requests
use Rattle.sm_model.specs.declared.entry.At.{At}
use Rattle.sm_model.specs.declared.entry.Answer.{Answer}
use Rattle.sm_model.specs.declared.entry.Answer.TheVariants as answers
use Rattle.sm_model.specs.declared.entry.Act.{Act}
use Rattle.sm_model.specs.declared.entry.Act.TheVariants as acts
use Rattle.sm_record.specs.Codec.{then_read, read_byte, both, chained, nothing, arm_if, arm, no_arm}
use Rattle.sm_record.specs.Editions.{is_second, is_empty, mark}
use Rattle.sm_record.specs.declared.edition.Edition.{Edition}
use Rattle.sm_record.specs.declared.head.Before.{Before}
use Rattle.sm_record.specs.Fields.{moment, octets, text, arn, token, stage, attempt, value}
use Rattle.sm_record.specs.Requests.{of_secret, create_secret, delete_secret, put_resource_policy, put_secret_value, regions_of_secret, rotate_secret, tag_resource, untag_resource, update_secret, update_secret_version_stage}
use Rattle.sm_record.specs.Entries.{spell_answer, fits_answer, answer, at, report, may_begin, may_report, spell_act, fits_act, asked_arms, act_arms, act, done, asked_by, head, before_of, head_of, entry}
use Rattle.sm_record.proofs.Bytes.{gives}
use Rattle.sm_record.proofs.CodecLaws.{Lawful, both_lawful, chained_lawful, mapped_lawful, nothing_lawful}
use Rattle.sm_record.proofs.ArmLaws.{Arms, no_arms, arm_if_laws, arm_laws, within_arm, within_arm_if, tagged_lawful}
use Rattle.sm_record.proofs.EditionLaws.{since_lawful, empty_only, mark_lawful, IsTagged, flagged_lawful}
use Rattle.sm_record.proofs.FieldLaws.{moment_lawful, octets_lawful, text_lawful, arn_lawful, token_lawful, stage_lawful, attempt_lawful, value_lawful}
use Rattle.sm_record.proofs.RequestLaws.{of_secret_lawful, create_secret_lawful, delete_secret_lawful, put_resource_policy_lawful, put_secret_value_lawful, regions_of_secret_lawful, rotate_secret_lawful, tag_resource_lawful, untag_resource_lawful, update_secret_lawful, update_secret_version_stage_lawful}

-- ---- answers

abbrev failed_arms : ℕ → List ℕ → Result (Answer × List ℕ) ℕ
failed_arms = arm 4 nothing (λ _. answers.Failed) no_arm

abbrev no_arms_on : ℕ → List ℕ → Result (Answer × List ℕ) ℕ
no_arms_on = arm 3 nothing (λ _. answers.No) failed_arms

abbrev yes_arms : ℕ → List ℕ → Result (Answer × List ℕ) ℕ
yes_arms = arm 2 nothing (λ _. answers.Yes) no_arms_on

abbrev answer_arms : ℕ → List ℕ → Result (Answer × List ℕ) ℕ
answer_arms = arm 1 value answers.Value yes_arms

answer_arm_laws : Arms spell_answer fits_answer answer_arms
answer_arm_laws =
    arm_laws spell_answer fits_answer 1 value value_lawful answers.Value yes_arms
    (arm_laws spell_answer fits_answer 2 nothing nothing_lawful (λ _. answers.Yes) no_arms_on
    (arm_laws spell_answer fits_answer 3 nothing nothing_lawful (λ _. answers.No) failed_arms
    (arm_laws spell_answer fits_answer 4 nothing nothing_lawful (λ _. answers.Failed) no_arm
    (no_arms spell_answer fits_answer)
    (λ _. refl) (λ _. refl)) (λ _. refl) (λ _. refl)) (λ _. refl) (λ _. refl)) (λ _. refl) (λ _. refl)

answer_again : (a : Answer) (rest : List ℕ) → IsTrue (fits_answer a)
    → then_read (read_byte (spell_answer a ++ rest)) answer_arms ≡ gives (a, rest)
answer_again (answers.Value v) rest fits = within_arm value value_lawful answers.Value v rest fits
answer_again answers.Yes rest fits = refl
answer_again answers.No rest fits = refl
answer_again answers.Failed rest fits = refl

answer_lawful : Lawful answer
unfolding answer
answer_lawful = tagged_lawful spell_answer fits_answer answer_arms answer_arm_laws answer_again

at_lawful : Lawful at
unfolding at
at_lawful = mapped_lawful
    (both token (both stage attempt))
    (both_lawful token_lawful (both_lawful stage_lawful attempt_lawful))
    (λ x. record { token = x.0; stage = x.1.0; attempt = x.1.1 }) (λ a. (a.token, (a.stage, a.attempt)))
    (λ _. refl) (λ _. refl)

report_lawful : Lawful report
unfolding report
report_lawful = both_lawful arn_lawful (both_lawful at_lawful answer_lawful)

-- ---- acts

abbrev of_report : List ℕ × (At × Answer) → Act
of_report x = acts.Reported x.0 x.1.0 x.1.1

module _ (e : Edition) (before : Before) where
  abbrev spell : Act → List ℕ
  spell = spell_act e

  abbrev fits : Act → Bool
  fits = fits_act e before

  abbrev arms_from_16 : ℕ → List ℕ → Result (Act × List ℕ) ℕ
  arms_from_16 =
      arm_if (is_second e) 16 regions_of_secret (λ r. acts.Asked (requests.RemoveRegionsFromReplication r)) no_arm

  arms_from_16_laws : Arms spell fits arms_from_16
  arms_from_16_laws =
      arm_if_laws spell fits (is_second e) 16 regions_of_secret regions_of_secret_lawful
      (λ r. acts.Asked (requests.RemoveRegionsFromReplication r)) no_arm
      (no_arms spell fits) (λ _. refl) (λ _. refl)

  abbrev arms_from_15 : ℕ → List ℕ → Result (Act × List ℕ) ℕ
  arms_from_15 =
      arm_if (is_second e) 15 regions_of_secret (λ r. acts.Asked (requests.ReplicateSecretToRegions r)) arms_from_16

  arms_from_15_laws : Arms spell fits arms_from_15
  arms_from_15_laws =
      arm_if_laws spell fits (is_second e) 15 regions_of_secret regions_of_secret_lawful
      (λ r. acts.Asked (requests.ReplicateSecretToRegions r)) arms_from_16
      arms_from_16_laws (λ _. refl) (λ _. refl)

  abbrev arms_from_12 : ℕ → List ℕ → Result (Act × List ℕ) ℕ
  arms_from_12 = arm 12 of_secret (λ r. acts.Asked (requests.CancelRotateSecret r)) arms_from_15

  arms_from_12_laws : Arms spell fits arms_from_12
  arms_from_12_laws =
      arm_laws spell fits 12 of_secret of_secret_lawful
      (λ r. acts.Asked (requests.CancelRotateSecret r)) arms_from_15
      arms_from_15_laws (λ _. refl) (λ _. refl)

  abbrev arms_from_11 : ℕ → List ℕ → Result (Act × List ℕ) ℕ
  arms_from_11 = arm 11 (rotate_secret e) (λ r. acts.Asked (requests.RotateSecret r)) arms_from_12

  arms_from_11_laws : Arms spell fits arms_from_11
  arms_from_11_laws =
      arm_laws spell fits 11 (rotate_secret e) (rotate_secret_lawful e)
      (λ r. acts.Asked (requests.RotateSecret r)) arms_from_12
      arms_from_12_laws (λ _. refl) (λ _. refl)

  abbrev arms_from_10 : ℕ → List ℕ → Result (Act × List ℕ) ℕ
  arms_from_10 = arm 10 of_secret (λ r. acts.Asked (requests.DeleteResourcePolicy r)) arms_from_11

  arms_from_10_laws : Arms spell fits arms_from_10
  arms_from_10_laws =
      arm_laws spell fits 10 of_secret of_secret_lawful
      (λ r. acts.Asked (requests.DeleteResourcePolicy r)) arms_from_11
      arms_from_11_laws (λ _. refl) (λ _. refl)

  abbrev arms_from_9 : ℕ → List ℕ → Result (Act × List ℕ) ℕ
  arms_from_9 = arm 9 put_resource_policy (λ r. acts.Asked (requests.PutResourcePolicy r)) arms_from_10

  arms_from_9_laws : Arms spell fits arms_from_9
  arms_from_9_laws =
      arm_laws spell fits 9 put_resource_policy put_resource_policy_lawful
      (λ r. acts.Asked (requests.PutResourcePolicy r)) arms_from_10
      arms_from_10_laws (λ _. refl) (λ _. refl)

  abbrev arms_from_8 : ℕ → List ℕ → Result (Act × List ℕ) ℕ
  arms_from_8 = arm 8 untag_resource (λ r. acts.Asked (requests.UntagResource r)) arms_from_9

  arms_from_8_laws : Arms spell fits arms_from_8
  arms_from_8_laws =
      arm_laws spell fits 8 untag_resource untag_resource_lawful
      (λ r. acts.Asked (requests.UntagResource r)) arms_from_9
      arms_from_9_laws (λ _. refl) (λ _. refl)

  abbrev arms_from_7 : ℕ → List ℕ → Result (Act × List ℕ) ℕ
  arms_from_7 = arm 7 tag_resource (λ r. acts.Asked (requests.TagResource r)) arms_from_8

  arms_from_7_laws : Arms spell fits arms_from_7
  arms_from_7_laws =
      arm_laws spell fits 7 tag_resource tag_resource_lawful
      (λ r. acts.Asked (requests.TagResource r)) arms_from_8
      arms_from_8_laws (λ _. refl) (λ _. refl)

  abbrev arms_from_6 : ℕ → List ℕ → Result (Act × List ℕ) ℕ
  arms_from_6 = arm 6 update_secret_version_stage (λ r. acts.Asked (requests.UpdateSecretVersionStage r)) arms_from_7

  arms_from_6_laws : Arms spell fits arms_from_6
  arms_from_6_laws =
      arm_laws spell fits 6 update_secret_version_stage update_secret_version_stage_lawful
      (λ r. acts.Asked (requests.UpdateSecretVersionStage r)) arms_from_7
      arms_from_7_laws (λ _. refl) (λ _. refl)

  abbrev arms_from_5 : ℕ → List ℕ → Result (Act × List ℕ) ℕ
  arms_from_5 = arm 5 of_secret (λ r. acts.Asked (requests.RestoreSecret r)) arms_from_6

  arms_from_5_laws : Arms spell fits arms_from_5
  arms_from_5_laws =
      arm_laws spell fits 5 of_secret of_secret_lawful
      (λ r. acts.Asked (requests.RestoreSecret r)) arms_from_6
      arms_from_6_laws (λ _. refl) (λ _. refl)

  abbrev arms_from_4 : ℕ → List ℕ → Result (Act × List ℕ) ℕ
  arms_from_4 = arm 4 delete_secret (λ r. acts.Asked (requests.DeleteSecret r)) arms_from_5

  arms_from_4_laws : Arms spell fits arms_from_4
  arms_from_4_laws =
      arm_laws spell fits 4 delete_secret delete_secret_lawful
      (λ r. acts.Asked (requests.DeleteSecret r)) arms_from_5
      arms_from_5_laws (λ _. refl) (λ _. refl)

  abbrev arms_from_3 : ℕ → List ℕ → Result (Act × List ℕ) ℕ
  arms_from_3 = arm 3 update_secret (λ r. acts.Asked (requests.UpdateSecret r)) arms_from_4

  arms_from_3_laws : Arms spell fits arms_from_3
  arms_from_3_laws =
      arm_laws spell fits 3 update_secret update_secret_lawful
      (λ r. acts.Asked (requests.UpdateSecret r)) arms_from_4
      arms_from_4_laws (λ _. refl) (λ _. refl)

  abbrev arms_from_2 : ℕ → List ℕ → Result (Act × List ℕ) ℕ
  arms_from_2 = arm 2 put_secret_value (λ r. acts.Asked (requests.PutSecretValue r)) arms_from_3

  arms_from_2_laws : Arms spell fits arms_from_2
  arms_from_2_laws =
      arm_laws spell fits 2 put_secret_value put_secret_value_lawful
      (λ r. acts.Asked (requests.PutSecretValue r)) arms_from_3
      arms_from_3_laws (λ _. refl) (λ _. refl)

  abbrev arms_from_1 : ℕ → List ℕ → Result (Act × List ℕ) ℕ
  arms_from_1 = arm 1 (create_secret e) (λ r. acts.Asked (requests.CreateSecret r)) arms_from_2

  arms_from_1_laws : Arms spell fits arms_from_1
  arms_from_1_laws =
      arm_laws spell fits 1 (create_secret e) (create_secret_lawful e)
      (λ r. acts.Asked (requests.CreateSecret r)) arms_from_2
      arms_from_2_laws (λ _. refl) (λ _. refl)

  abbrev reported_arms : ℕ → List ℕ → Result (Act × List ℕ) ℕ
  reported_arms = arm_if (may_report before) 14 report of_report arms_from_1

  abbrev begun_arms : ℕ → List ℕ → Result (Act × List ℕ) ℕ
  begun_arms = arm_if (may_begin before) 13 arn acts.Begun reported_arms

  begun_arms_laws : Arms spell fits begun_arms
  begun_arms_laws =
      arm_if_laws spell fits (may_begin before) 13 arn arn_lawful acts.Begun reported_arms
      (arm_if_laws spell fits (may_report before) 14 report report_lawful of_report arms_from_1 arms_from_1_laws
      (λ _. refl) (λ _. refl))
      (λ _. refl) (λ _. refl)

  request_again : (request : Request) (rest : List ℕ) → IsTrue (fits (acts.Asked request))
      → then_read (read_byte (spell (acts.Asked request) ++ rest)) begun_arms ≡ gives (acts.Asked request, rest)
  request_again (requests.CreateSecret r) rest is =
      within_arm (create_secret e) (create_secret_lawful e) (λ x. acts.Asked (requests.CreateSecret x)) r rest is
  request_again (requests.PutSecretValue r) rest is =
      within_arm put_secret_value put_secret_value_lawful (λ x. acts.Asked (requests.PutSecretValue x)) r rest is
  request_again (requests.UpdateSecret r) rest is =
      within_arm update_secret update_secret_lawful (λ x. acts.Asked (requests.UpdateSecret x)) r rest is
  request_again (requests.DeleteSecret r) rest is =
      within_arm delete_secret delete_secret_lawful (λ x. acts.Asked (requests.DeleteSecret x)) r rest is
  request_again (requests.RestoreSecret r) rest is =
      within_arm of_secret of_secret_lawful (λ x. acts.Asked (requests.RestoreSecret x)) r rest is
  request_again (requests.UpdateSecretVersionStage r) rest is =
      within_arm update_secret_version_stage update_secret_version_stage_lawful
      (λ x. acts.Asked (requests.UpdateSecretVersionStage x)) r rest is
  request_again (requests.TagResource r) rest is =
      within_arm tag_resource tag_resource_lawful (λ x. acts.Asked (requests.TagResource x)) r rest is
  request_again (requests.UntagResource r) rest is =
      within_arm untag_resource untag_resource_lawful (λ x. acts.Asked (requests.UntagResource x)) r rest is
  request_again (requests.PutResourcePolicy r) rest is =
      within_arm put_resource_policy put_resource_policy_lawful
      (λ x. acts.Asked (requests.PutResourcePolicy x)) r rest is
  request_again (requests.DeleteResourcePolicy r) rest is =
      within_arm of_secret of_secret_lawful (λ x. acts.Asked (requests.DeleteResourcePolicy x)) r rest is
  request_again (requests.RotateSecret r) rest is =
      within_arm (rotate_secret e) (rotate_secret_lawful e) (λ x. acts.Asked (requests.RotateSecret x)) r rest is
  request_again (requests.CancelRotateSecret r) rest is =
      within_arm of_secret of_secret_lawful (λ x. acts.Asked (requests.CancelRotateSecret x)) r rest is
  request_again (requests.ReplicateSecretToRegions r) rest is =
      within_arm_if (is_second e) regions_of_secret regions_of_secret_lawful
      (λ x. acts.Asked (requests.ReplicateSecretToRegions x)) r rest is
  request_again (requests.RemoveRegionsFromReplication r) rest is =
      within_arm_if (is_second e) regions_of_secret regions_of_secret_lawful
      (λ x. acts.Asked (requests.RemoveRegionsFromReplication x)) r rest is
  request_again (requests.BatchGetSecretValue r) rest is = absurd (false≢true is)
  request_again (requests.DescribeSecret r) rest is = absurd (false≢true is)
  request_again (requests.GetRandomPassword r) rest is = absurd (false≢true is)
  request_again (requests.GetResourcePolicy r) rest is = absurd (false≢true is)
  request_again (requests.GetSecretValue r) rest is = absurd (false≢true is)
  request_again (requests.ListSecretVersionIds r) rest is = absurd (false≢true is)
  request_again (requests.ListSecrets r) rest is = absurd (false≢true is)
  request_again (requests.StopReplicationToReplica r) rest is = absurd (false≢true is)
  request_again (requests.ValidateResourcePolicy r) rest is = absurd (false≢true is)

  act_again : (a : Act) (rest : List ℕ) → IsTrue (fits a)
      → then_read (read_byte (spell a ++ rest)) begun_arms ≡ gives (a, rest)
  act_again (acts.Asked request) rest is = request_again request rest is
  act_again (acts.Begun name) rest is = within_arm_if (may_begin before) arn arn_lawful acts.Begun name rest is
  act_again (acts.Reported name place given) rest is =
      within_arm_if (may_report before) report report_lawful of_report (name, (place, given)) rest is

  pub act_lawful : Lawful (act e before)
  unfolding act act_arms asked_arms
  act_lawful = tagged_lawful spell fits begun_arms begun_arms_laws act_again

  -- each tag is below 128
  request_tags : (request : Request) → IsTrue (fits (acts.Asked request)) → IsTagged (spell (acts.Asked request))
  request_tags (requests.CreateSecret r) is =
      record { tag = 1; fields = (create_secret e).spell r; split = refl; low = omega arith }
  request_tags (requests.PutSecretValue r) is =
      record { tag = 2; fields = put_secret_value.spell r; split = refl; low = omega arith }
  request_tags (requests.UpdateSecret r) is =
      record { tag = 3; fields = update_secret.spell r; split = refl; low = omega arith }
  request_tags (requests.DeleteSecret r) is =
      record { tag = 4; fields = delete_secret.spell r; split = refl; low = omega arith }
  request_tags (requests.RestoreSecret r) is =
      record { tag = 5; fields = of_secret.spell r; split = refl; low = omega arith }
  request_tags (requests.UpdateSecretVersionStage r) is =
      record { tag = 6; fields = update_secret_version_stage.spell r; split = refl; low = omega arith }
  request_tags (requests.TagResource r) is =
      record { tag = 7; fields = tag_resource.spell r; split = refl; low = omega arith }
  request_tags (requests.UntagResource r) is =
      record { tag = 8; fields = untag_resource.spell r; split = refl; low = omega arith }
  request_tags (requests.PutResourcePolicy r) is =
      record { tag = 9; fields = put_resource_policy.spell r; split = refl; low = omega arith }
  request_tags (requests.DeleteResourcePolicy r) is =
      record { tag = 10; fields = of_secret.spell r; split = refl; low = omega arith }
  request_tags (requests.RotateSecret r) is =
      record { tag = 11; fields = (rotate_secret e).spell r; split = refl; low = omega arith }
  request_tags (requests.CancelRotateSecret r) is =
      record { tag = 12; fields = of_secret.spell r; split = refl; low = omega arith }
  request_tags (requests.ReplicateSecretToRegions r) is =
      record { tag = 15; fields = regions_of_secret.spell r; split = refl; low = omega arith }
  request_tags (requests.RemoveRegionsFromReplication r) is =
      record { tag = 16; fields = regions_of_secret.spell r; split = refl; low = omega arith }
  request_tags (requests.BatchGetSecretValue r) is = absurd (false≢true is)
  request_tags (requests.DescribeSecret r) is = absurd (false≢true is)
  request_tags (requests.GetRandomPassword r) is = absurd (false≢true is)
  request_tags (requests.GetResourcePolicy r) is = absurd (false≢true is)
  request_tags (requests.GetSecretValue r) is = absurd (false≢true is)
  request_tags (requests.ListSecretVersionIds r) is = absurd (false≢true is)
  request_tags (requests.ListSecrets r) is = absurd (false≢true is)
  request_tags (requests.StopReplicationToReplica r) is = absurd (false≢true is)
  request_tags (requests.ValidateResourcePolicy r) is = absurd (false≢true is)

  act_tags : (a : Act) → IsTrue ((act e before).fits a) → IsTagged ((act e before).spell a)
  unfolding act
  act_tags (acts.Asked request) is = request_tags request is
  act_tags (acts.Begun name) is = record { tag = 13; fields = arn.spell name; split = refl; low = omega arith }
  act_tags (acts.Reported name place given) is =
      record { tag = 14; fields = report.spell (name, (place, given)); split = refl; low = omega arith }

  pub done_lawful : Lawful (done e before)
  unfolding done
  done_lawful = flagged_lawful (act e before) act_lawful act_tags

-- ---- entries

pub head_lawful : (e : Edition) → Lawful (head e)
unfolding head
head_lawful e = mapped_lawful
    (both (mark e) (both moment (both text (both (asked_by e) octets))))
    (both_lawful (mark_lawful e) (both_lawful moment_lawful (both_lawful text_lawful (both_lawful
    (since_lawful [] is_empty text refl empty_only text_lawful e) octets_lawful))))
    (λ x. record { moment = x.1.0; caller = x.1.1.0; by = x.1.1.1.0; drawn = x.1.1.1.1 })
    (λ h. (tt, (h.moment, (h.caller, (h.by, h.drawn)))))
    (λ _. refl) (λ _. refl)

pub entry_lawful : (e : Edition) → Lawful (entry e)
unfolding entry
entry_lawful e = mapped_lawful
    (chained (head e) (λ h. done e (before_of h.caller h.by h.drawn)))
    (chained_lawful (head e) (λ h. done e (before_of h.caller h.by h.drawn)) (head_lawful e)
    (λ h. done_lawful e (before_of h.caller h.by h.drawn)))
    (λ x. record {
      moment = x.0.moment;
      caller = x.0.caller;
      by = x.0.by;
      drawn = x.0.drawn;
      act = x.1.1;
      prunes = x.1.0;
    })
    (λ d. (head_of d, (d.prunes, d.act)))
    (λ _. refl) (λ _. refl)
