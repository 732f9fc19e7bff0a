-- The entry of an act of which one may be made has a spelling, which is never too long for a record.
use Rattle.std.proofs.Common.{◌≡◌, ℕ, ◌≤◌, Bool, true, false, ◌&&◌, ◌||◌, List, [], ◌∷◌, ◌++◌, length, nat_eq, Option, Some, None, is_some, refl, arith, length-append}
use Rattle.std.specs.Prelude.{IsUtf8}
use Rattle.std.proofs.lemmas.Bool.Decides.{nat_tests}
use Rattle.std.proofs.lemmas.Bool.{and_from}
use Rattle.sm_base.specs.Spelling.{is_arn, is_token}
use Rattle.sm_base.specs.declared.moment.TheConstants.{LAST_READING}
use Rattle.sm_model.specs.Bounds.{is_attempt}
use Rattle.sm_model.specs.Needed.{token_bytes, token_bytes_if, needed}
use Rattle.sm_model.specs.declared.entry.Act.{Act}
use Rattle.sm_model.specs.declared.entry.Act.TheVariants.{Asked, Begun, Reported}
use Rattle.sm_model.specs.declared.entry.Answer.{Answer}
use Rattle.sm_model.specs.declared.entry.Answer.TheVariants as answers
use Rattle.sm_model.specs.declared.entry.At.{At}
use Rattle.sm_model.specs.declared.entry.Entry.{Entry}
use Rattle.sm_model.specs.declared.request.Request.{Request}
use Rattle.sm_model.specs.declared.request.Request.TheVariants as requests
use Rattle.sm_forms.specs.Forms.{forms_of}
use Rattle.sm_forms.proofs.RegionsOfSecretLemmas.{remove_id, remove_regions, replicate_id, replicate_regions}
use Rattle.sm_core.specs.Histories.{may_be_by}
use Rattle.sm_core.specs.Judging.{is_reading}
use Rattle.sm_record.specs.Codec.{with_flag}
use Rattle.sm_record.specs.declared.head.Before.{Before}
use Rattle.sm_record.specs.Editions.{mark}
use Rattle.sm_record.specs.declared.edition.Edition.TheVariants.{Second}
use Rattle.sm_record.specs.Entries.{act, answer, at, before_of, done, entry, fits_act, fits_request, head, may_begin, may_report, report, spell_act, spell_request}
use Rattle.sm_record.specs.Fields.{arn, attempt, octets, stage, text, token, moment, long}
use Rattle.sm_record.specs.Spelling.{spelling, has_spelling, HasSpelling}
use Rattle.sm_encoded_size.specs.Spellable.{IsSpellable, MayBeMade, is_small_answer}
use Rattle.sm_encoded_size.specs.Texts.{ActTexts, AnswerText, TextsOf, HasFewTags}
use Rattle.sm_encoded_size.proofs.FieldSizes.{arn_field_fits, arn_field_size, attempt_fits, attempt_size, octets_size, octets_fits, stage_fits, stage_size, text_size, text_fits, token_field_fits, token_field_size, value_fits, value_size}
use Rattle.sm_encoded_size.proofs.RequestSizes.{create_size, create_fits, put_size, put_fits, update_size, update_fits, move_size, move_fits, delete_size, delete_fits, named_size, named_fits, put_policy_size, put_policy_fits, rotate_size, rotate_fits, tag_resource_size, tag_resource_fits, untag_resource_size, untag_resource_fits, regional_size, regional_fits}

-- a request that changes something has a short spelling, and needs few random bytes
record IsShort (request : Request) : Type 0 where
  size : length (spell_request Second request) ≤ 250001
  fits : fits_request Second request ≡ true
  drawn : needed request ≤ 22

token_need : (t : Option (List ℕ)) → token_bytes t ≤ 16
token_need None = omega arith
token_need (Some t) = omega arith

token_need_if : (wanted : Bool) (t : Option (List ℕ)) → token_bytes_if wanted t ≤ 16
token_need_if false t = omega arith
token_need_if true t = token_need t

-- a request that only reads makes no entry
reads : {A : Type 0} → true ≡ false → A
reads is = absurd (cc)

-- the requests that make entries
is_short : (request : Request) → forms_of request ≡ None → is_reading request ≡ false → TextsOf request
    → HasFewTags request → IsShort request
is_short (requests.CreateSecret r) forms changes texts few = record {
  size = omega (arith, create_size r forms texts few);
  fits = create_fits r forms texts few;
  drawn = omega (arith, token_need_if (is_some r.secret_string || is_some r.secret_binary) r.client_request_token);
}
is_short (requests.PutSecretValue r) forms changes texts few = record {
  size = omega (arith, put_size r forms);
  fits = put_fits r forms texts;
  drawn = omega (arith, token_need r.client_request_token);
}
is_short (requests.UpdateSecret r) forms changes texts few = record {
  size = omega (arith, update_size r forms texts);
  fits = update_fits r forms texts;
  drawn = omega (arith, token_need_if (is_some r.secret_string || is_some r.secret_binary) r.client_request_token);
}
is_short (requests.UpdateSecretVersionStage r) forms changes texts few = record {
  size = omega (arith, move_size r forms);
  fits = move_fits r forms texts;
  drawn = omega arith;
}
is_short (requests.DeleteSecret r) forms changes texts few = record {
  size = omega (arith, delete_size r forms);
  fits = delete_fits r forms texts;
  drawn = omega arith;
}
is_short (requests.RestoreSecret r) forms changes texts few = record {
  size = omega (arith, named_size r forms);
  fits = named_fits r forms texts;
  drawn = omega arith;
}
is_short (requests.TagResource r) forms changes texts few = record {
  size = omega (arith, tag_resource_size r forms texts few);
  fits = tag_resource_fits r forms texts few;
  drawn = omega arith;
}
is_short (requests.UntagResource r) forms changes texts few = record {
  size = omega (arith, untag_resource_size r forms texts);
  fits = untag_resource_fits r forms texts;
  drawn = omega arith;
}
is_short (requests.RemoveRegionsFromReplication r) forms changes texts few = record {
  size = omega (arith, regional_size r (remove_id r forms) (remove_regions r forms));
  fits = regional_fits r (remove_id r forms) (remove_regions r forms) texts;
  drawn = omega arith;
}
is_short (requests.ReplicateSecretToRegions r) forms changes texts few = record {
  size = omega (arith, regional_size r (replicate_id r forms) (replicate_regions r forms));
  fits = regional_fits r (replicate_id r forms) (replicate_regions r forms) texts;
  drawn = omega arith;
}
is_short (requests.StopReplicationToReplica r) forms changes texts few = reads changes
is_short (requests.GetSecretValue r) forms changes texts few = reads changes
is_short (requests.BatchGetSecretValue r) forms changes texts few = reads changes
is_short (requests.GetRandomPassword r) forms changes texts few = reads changes
is_short (requests.ListSecretVersionIds r) forms changes texts few = reads changes
is_short (requests.ListSecrets r) forms changes texts few = reads changes
is_short (requests.DescribeSecret r) forms changes texts few = reads changes
is_short (requests.GetResourcePolicy r) forms changes texts few = reads changes
is_short (requests.ValidateResourcePolicy r) forms changes texts few = reads changes
is_short (requests.CancelRotateSecret r) forms changes texts few = record {
  size = omega (arith, named_size r forms);
  fits = named_fits r forms texts;
  drawn = omega arith;
}
is_short (requests.DeleteResourcePolicy r) forms changes texts few = record {
  size = omega (arith, named_size r forms);
  fits = named_fits r forms texts;
  drawn = omega arith;
}
is_short (requests.PutResourcePolicy r) forms changes texts few = record {
  size = omega (arith, put_policy_size r forms texts);
  fits = put_policy_fits r forms texts;
  drawn = omega arith;
}
is_short (requests.RotateSecret r) forms changes texts few = record {
  size = omega (arith, rotate_size r forms texts);
  fits = rotate_fits r forms texts;
  drawn = omega (arith, token_need_if r.rotate_immediately r.client_request_token);
}

-- what was reported of a rotation
answer_size : (given : Answer) → is_small_answer given ≡ true → length (answer.spell given) ≤ 65542
unfolding answer
answer_size (answers.Value v) small = omega (arith, value_size v small)
answer_size answers.Yes small = omega arith
answer_size answers.No small = omega arith
answer_size answers.Failed small = omega arith

answer_fits : (given : Answer) → AnswerText given → is_small_answer given ≡ true → answer.fits given ≡ true
unfolding answer
answer_fits (answers.Value v) texts small = value_fits v texts small
answer_fits answers.Yes texts small = refl
answer_fits answers.No texts small = refl
answer_fits answers.Failed texts small = refl

step_size : (place : At) → is_token place.token ≡ true → length (at.spell place) ≤ 70
unfolding at
step_size place is =
    omega (
      arith,
      length-append (token.spell place.token) (stage.spell place.stage ++ attempt.spell place.attempt),
      length-append (stage.spell place.stage) (attempt.spell place.attempt),
      token_field_size place.token is,
      stage_size place.stage,
      attempt_size place.attempt,
    )

step_fits : (place : At) → is_token place.token ≡ true → is_attempt place.attempt ≡ true → at.fits place ≡ true
unfolding at
step_fits place is from =
    and_from (token.fits place.token) _ (token_field_fits place.token is)
    (and_from (stage.fits place.stage) (attempt.fits place.attempt) (stage_fits place.stage)
    (attempt_fits place.attempt from))

report_size : (name : List ℕ) (place : At) (given : Answer) → is_arn name ≡ true → is_token place.token ≡ true
    → is_small_answer given ≡ true → length (report.spell (name, (place, given))) ≤ 66216
unfolding report
report_size name place given is token small =
    omega (
      arith,
      length-append (arn.spell name) (at.spell place ++ answer.spell given),
      length-append (at.spell place) (answer.spell given),
      arn_field_size name is,
      step_size place token,
      answer_size given small,
    )

report_fits : (name : List ℕ) (place : At) (given : Answer) → is_arn name ≡ true → is_token place.token ≡ true
    → AnswerText given → is_attempt place.attempt ≡ true → is_small_answer given ≡ true
    → report.fits (name, (place, given)) ≡ true
unfolding report
report_fits name place given is token texts from small =
    and_from (arn.fits name) _ (arn_field_fits name is)
    (and_from (at.fits place) (answer.fits given) (step_fits place token from) (answer_fits given texts small))

-- an act has a short spelling, and few random bytes were drawn for it
record IsShortAct (before : Before) (drawn : List ℕ) (made : Act) : Type 0 where
  size : length (spell_act Second made) ≤ 250001
  fits : fits_act Second before made ≡ true
  drawn_few : length drawn ≤ 22

-- nobody stands with it, and so many bytes were drawn
starts : (caller by drawn : List ℕ) → (nat_eq (length caller) 0 && nat_eq (length by) 0) ≡ true → length drawn ≡ 16
    → may_begin (before_of caller by drawn) ≡ true
starts [] [] drawn nobody sixteen = grind (arith, nat_tests, sixteen)
starts (c ∷ caller) by drawn nobody sixteen = cc
starts [] (c ∷ by) drawn nobody sixteen = cc

reports : (caller by drawn : List ℕ) → (nat_eq (length caller) 0 && nat_eq (length by) 0) ≡ true → length drawn ≡ 0
    → may_report (before_of caller by drawn) ≡ true
reports [] [] drawn nobody none = grind (arith, nat_tests, none)
reports (c ∷ caller) by drawn nobody none = cc
reports [] (c ∷ by) drawn nobody none = cc

short_act : (caller by drawn : List ℕ) (made : Act) → ActTexts made → MayBeMade drawn made
    → may_be_by caller by made ≡ true → IsShortAct (before_of caller by drawn) drawn made
short_act caller by drawn (Asked request) texts may whose =
    let short = is_short request may.forms may.changes texts may.few in
    record { size = short.size; fits = short.fits; drawn_few = omega (arith, may.drawn_for, short.drawn) }
short_act caller by drawn (Begun name) texts may whose = record {
  size = omega (arith, arn_field_size name texts);
  fits = and_from (may_begin (before_of caller by drawn)) (arn.fits name) (starts caller by drawn whose may)
      (arn_field_fits name texts);
  drawn_few = omega (arith, may);
}
short_act caller by drawn (Reported name place given) texts may whose = record {
  size = omega (arith, report_size name place given texts.0 texts.1 may.small);
  fits = and_from (may_report (before_of caller by drawn)) (report.fits (name, (place, given)))
      (reports caller by drawn whose may.none)
      (report_fits name place given texts.0 texts.1 texts.2 may.attempt may.small);
  drawn_few = omega (arith, may.none);
}

-- the truth value in its tag makes no act longer
flagged_size : (flag : Bool) (bytes : List ℕ) → length (with_flag flag bytes) ≡ length bytes
flagged_size flag [] = refl
flagged_size flag (tag ∷ rest) = refl

-- the fields of an entry beside its act
module _ (e : Entry) where
  moment_size : length (moment.spell e.moment) ≡ 8
  unfolding moment long
  moment_size = refl

  moment_fits : e.moment.0 ≤ LAST_READING → moment.fits e.moment ≡ true
  unfolding moment long
  moment_fits early = grind (arith, nat_tests, early)

  mark_size : length ((mark Second).spell tt) ≡ 1
  unfolding mark
  mark_size = refl

  mark_fits : (mark Second).fits tt ≡ true
  unfolding mark
  mark_fits = refl

  module _ (texts : ActTexts e.act) (may : IsSpellable e) where
    short : IsShortAct (before_of e.caller e.by e.drawn) e.drawn e.act
    short = short_act e.caller e.by e.drawn e.act texts may.act may.whose

    pub entry_size : length (spelling Second e) ≤ 1048576
    unfolding spelling entry head done act
    entry_size =
        let tail : List ℕ = with_flag e.prunes (spell_act Second e.act) in
        let behind : List ℕ = text.spell e.by ++ octets.spell e.drawn in
        let told : List ℕ = text.spell e.caller ++ behind in
        let timed : List ℕ = moment.spell e.moment ++ told in
        let marked : List ℕ = (mark Second).spell tt ++ timed in
        omega (
          arith,
          length-append marked tail,
          length-append ((mark Second).spell tt) timed,
          length-append (moment.spell e.moment) told,
          length-append (text.spell e.caller) behind,
          length-append (text.spell e.by) (octets.spell e.drawn),
          mark_size,
          moment_size,
          text_size e.caller,
          text_size e.by,
          octets_size e.drawn,
          flagged_size e.prunes (spell_act Second e.act),
          short.size,
          short.drawn_few,
          may.caller,
          may.by,
        )

    pub entry_fits : e.moment.0 ≤ LAST_READING → IsUtf8 e.caller → IsUtf8 e.by → HasSpelling Second e
    unfolding has_spelling entry head done act
    entry_fits early utf8 by_utf8 =
        and_from _ (fits_act Second (before_of e.caller e.by e.drawn) e.act)
        (and_from ((mark Second).fits tt) _ mark_fits
        (and_from (moment.fits e.moment) _ (moment_fits early)
        (and_from (text.fits e.caller) _ (text_fits e.caller utf8 (omega (arith, may.caller)))
        (and_from (text.fits e.by) (octets.fits e.drawn) (text_fits e.by by_utf8 (omega (arith, may.by)))
        (octets_fits e.drawn (omega (arith, short.drawn_few)))))))
        short.fits
