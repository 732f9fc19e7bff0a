-- Acts and entries.
use Rattle.std.specs.Prelude.{ℕ, ◌==◌, Bool, true, false, ◌&&◌, List, [], ◌∷◌, length, Result}
use Rattle.sm_model.specs.declared.request.Request.{Request}
use Rattle.sm_model.specs.declared.request.Request.TheVariants as requests
use Rattle.sm_model.specs.declared.entry.At.{At}
use Rattle.sm_model.specs.declared.entry.Answer.{Answer}
use Rattle.sm_model.specs.declared.entry.Answer.TheVariants as answers
use Rattle.sm_model.specs.declared.entry.Act.{Act}
use Rattle.sm_model.specs.declared.entry.Act.TheVariants as acts
use Rattle.sm_model.specs.declared.entry.Entry.{Entry}
use Rattle.sm_record.specs.Codec.{Codec, both, chained, mapped, nothing, arm_if, arm, no_arm, tagged, flagged}
use Rattle.sm_record.specs.Editions.{is_second, is_empty, since, mark}
use Rattle.sm_record.specs.declared.edition.Edition.{Edition}
use Rattle.sm_record.specs.declared.head.Before.{Before}
use Rattle.sm_record.specs.declared.head.Head.{Head}
use Rattle.sm_record.specs.Fields.{moment, octets, text, arn, token, stage, attempt, value}
use Rattle.sm_record.specs.Requests.{of_secret, create_secret, delete_secret, put_resource_policy, put_secret_value, regions_of_secret, rotate_secret, tag_resource, untag_resource, update_secret, update_secret_version_stage}

abbrev pub spell_answer : Answer → List ℕ
spell_answer (answers.Value v) = 1 ∷ value.spell v
spell_answer answers.Yes = 2 ∷ []
spell_answer answers.No = 3 ∷ []
spell_answer answers.Failed = 4 ∷ []

abbrev pub fits_answer : Answer → Bool
fits_answer (answers.Value v) = value.fits v
fits_answer answers.Yes = true
fits_answer answers.No = true
fits_answer answers.Failed = true

-- an answer is 1 and its value, 2 for yes, 3 for no and 4 for failed
unfoldable pub answer : Codec Answer
answer = tagged spell_answer fits_answer
    (arm 1 value answers.Value
    (arm 2 nothing (λ _. answers.Yes)
    (arm 3 nothing (λ _. answers.No)
    (arm 4 nothing (λ _. answers.Failed) no_arm))))

-- the token, the step and the attempt of a job
unfoldable pub at : Codec At
at = mapped (both token (both stage attempt))
    (λ x. record { token = x.0; stage = x.1.0; attempt = x.1.1 }) (λ a. (a.token, (a.stage, a.attempt)))

-- what was reported of a rotation
unfoldable pub report : Codec (List ℕ × (At × Answer))
report = both arn (both at answer)

-- Requests that change nothing make no entry, and have no spelling. Regions of a secret are changed since the second
-- format.
abbrev pub spell_request : Edition → Request → List ℕ
spell_request e (requests.CreateSecret r) = 1 ∷ (create_secret e).spell r
spell_request e (requests.PutSecretValue r) = 2 ∷ put_secret_value.spell r
spell_request e (requests.UpdateSecret r) = 3 ∷ update_secret.spell r
spell_request e (requests.DeleteSecret r) = 4 ∷ delete_secret.spell r
spell_request e (requests.RestoreSecret r) = 5 ∷ of_secret.spell r
spell_request e (requests.UpdateSecretVersionStage r) = 6 ∷ update_secret_version_stage.spell r
spell_request e (requests.TagResource r) = 7 ∷ tag_resource.spell r
spell_request e (requests.UntagResource r) = 8 ∷ untag_resource.spell r
spell_request e (requests.PutResourcePolicy r) = 9 ∷ put_resource_policy.spell r
spell_request e (requests.DeleteResourcePolicy r) = 10 ∷ of_secret.spell r
spell_request e (requests.RotateSecret r) = 11 ∷ (rotate_secret e).spell r
spell_request e (requests.CancelRotateSecret r) = 12 ∷ of_secret.spell r
spell_request e (requests.ReplicateSecretToRegions r) = 15 ∷ regions_of_secret.spell r
spell_request e (requests.RemoveRegionsFromReplication r) = 16 ∷ regions_of_secret.spell r
spell_request e (requests.BatchGetSecretValue r) = []
spell_request e (requests.DescribeSecret r) = []
spell_request e (requests.GetRandomPassword r) = []
spell_request e (requests.GetResourcePolicy r) = []
spell_request e (requests.GetSecretValue r) = []
spell_request e (requests.ListSecretVersionIds r) = []
spell_request e (requests.ListSecrets r) = []
spell_request e (requests.StopReplicationToReplica r) = []
spell_request e (requests.ValidateResourcePolicy r) = []

abbrev pub fits_request : Edition → Request → Bool
fits_request e (requests.CreateSecret r) = (create_secret e).fits r
fits_request e (requests.PutSecretValue r) = put_secret_value.fits r
fits_request e (requests.UpdateSecret r) = update_secret.fits r
fits_request e (requests.DeleteSecret r) = delete_secret.fits r
fits_request e (requests.RestoreSecret r) = of_secret.fits r
fits_request e (requests.UpdateSecretVersionStage r) = update_secret_version_stage.fits r
fits_request e (requests.TagResource r) = tag_resource.fits r
fits_request e (requests.UntagResource r) = untag_resource.fits r
fits_request e (requests.PutResourcePolicy r) = put_resource_policy.fits r
fits_request e (requests.DeleteResourcePolicy r) = of_secret.fits r
fits_request e (requests.RotateSecret r) = (rotate_secret e).fits r
fits_request e (requests.CancelRotateSecret r) = of_secret.fits r
fits_request e (requests.ReplicateSecretToRegions r) = is_second e && regions_of_secret.fits r
fits_request e (requests.RemoveRegionsFromReplication r) = is_second e && regions_of_secret.fits r
fits_request e (requests.BatchGetSecretValue r) = false
fits_request e (requests.DescribeSecret r) = false
fits_request e (requests.GetRandomPassword r) = false
fits_request e (requests.GetResourcePolicy r) = false
fits_request e (requests.GetSecretValue r) = false
fits_request e (requests.ListSecretVersionIds r) = false
fits_request e (requests.ListSecrets r) = false
fits_request e (requests.StopReplicationToReplica r) = false
fits_request e (requests.ValidateResourcePolicy r) = false

-- Nobody asked for the start of a due rotation, and 16 bytes were drawn for it, which make its token.
abbrev pub may_begin : Before → Bool
may_begin before = before.unasked && before.drawn == 16

-- Nobody asked for a report, and nothing was drawn for it.
abbrev pub may_report : Before → Bool
may_report before = before.unasked && before.drawn == 0

abbrev pub spell_act : Edition → Act → List ℕ
spell_act e (acts.Asked request) = spell_request e request
spell_act e (acts.Begun name) = 13 ∷ arn.spell name
spell_act e (acts.Reported name place given) = 14 ∷ report.spell (name, (place, given))

abbrev pub fits_act : Edition → Before → Act → Bool
fits_act e before (acts.Asked request) = fits_request e request
fits_act e before (acts.Begun name) = may_begin before && arn.fits name
fits_act e before (acts.Reported name place given) = may_report before && report.fits (name, (place, given))

-- the requests, each behind its tag
unfoldable pub asked_arms : Edition → ℕ → List ℕ → Result (Act × List ℕ) ℕ
asked_arms e =
    arm 1 (create_secret e) (λ r. acts.Asked (requests.CreateSecret r))
    (arm 2 put_secret_value (λ r. acts.Asked (requests.PutSecretValue r))
    (arm 3 update_secret (λ r. acts.Asked (requests.UpdateSecret r))
    (arm 4 delete_secret (λ r. acts.Asked (requests.DeleteSecret r))
    (arm 5 of_secret (λ r. acts.Asked (requests.RestoreSecret r))
    (arm 6 update_secret_version_stage (λ r. acts.Asked (requests.UpdateSecretVersionStage r))
    (arm 7 tag_resource (λ r. acts.Asked (requests.TagResource r))
    (arm 8 untag_resource (λ r. acts.Asked (requests.UntagResource r))
    (arm 9 put_resource_policy (λ r. acts.Asked (requests.PutResourcePolicy r))
    (arm 10 of_secret (λ r. acts.Asked (requests.DeleteResourcePolicy r))
    (arm 11 (rotate_secret e) (λ r. acts.Asked (requests.RotateSecret r))
    (arm 12 of_secret (λ r. acts.Asked (requests.CancelRotateSecret r))
    (arm_if (is_second e) 15 regions_of_secret (λ r. acts.Asked (requests.ReplicateSecretToRegions r))
    (arm_if (is_second e) 16 regions_of_secret (λ r. acts.Asked (requests.RemoveRegionsFromReplication r))
    no_arm)))))))))))))

-- what stands behind an act's tag: the start or the report of a rotation, where the head lets it, or a request
unfoldable pub act_arms : Edition → Before → ℕ → List ℕ → Result (Act × List ℕ) ℕ
act_arms e before =
    arm_if (may_begin before) 13 arn acts.Begun
    (arm_if (may_report before) 14 report (λ x. acts.Reported x.0 x.1.0 x.1.1) (asked_arms e))

-- an act is its tag and its fields
unfoldable pub act : Edition → Before → Codec Act
act e before = tagged (spell_act e) (fits_act e before) (act_arms e before)

-- whether the entry prunes, and its act
unfoldable pub done : Edition → Before → Codec (Bool × Act)
done e before = flagged (act e before)

-- the ARN of the person who asked, since the second format
abbrev pub asked_by : Edition → Codec (List ℕ)
asked_by e = since [] is_empty text e

-- the head of an entry is its moment, the key and the ARN of the person who asked, and the drawn bytes
unfoldable pub head : Edition → Codec Head
head e = mapped
    (both (mark e) (both moment (both text (both (asked_by e) octets))))
    (λ x. record { moment = x.1.0; caller = x.1.1.0; by = x.1.1.1.0; drawn = x.1.1.1.1 })
    (λ h. (tt, (h.moment, (h.caller, (h.by, h.drawn)))))

-- what a head says of the act behind it
abbrev pub before_of : List ℕ → List ℕ → List ℕ → Before
before_of caller by drawn = record { unasked = is_empty caller && is_empty by; drawn = length drawn }

abbrev pub head_of : Entry → Head
head_of e = record { moment = e.moment; caller = e.caller; by = e.by; drawn = e.drawn }

-- an entry is its head, and its act, whose tag says whether it prunes
unfoldable pub entry : Edition → Codec Entry
entry e = mapped
    (chained (head e) (λ h. done e (before_of h.caller h.by h.drawn)))
    (λ x. record {
      moment = x.0.moment;
      caller = x.0.caller;
      by = x.0.by;
      drawn = x.0.drawn;
      act = x.1.1;
      prunes = x.1.0;
    })
    (λ d. (head_of d, (d.prunes, d.act)))
