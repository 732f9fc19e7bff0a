-- Judging CreateSecret: what is drawn, when it is refused, when it repeats, and what it changes.
use Rattle.std.proofs.Common.{◌≡◌, ℕ, ◌+◌, ◌≤◌, Bool, true, false, not, ◌||◌, cond, List, [], ◌∷◌, length, length-drop, take, drop, Option, Some, None, is_some, is_none, unwrap_or, IfSome, IsNone, IsTrue, refl, sym, ap, ◌∙◌, arith}
use Rattle.std.proofs.lemmas.Bool.{and_from}
use Rattle.std.proofs.lemmas.Bool.Decides.{nat_tests}
use Rattle.std.proofs.lemmas.Grind.{common_steps}
use Rattle.sm_base.specs.declared.moment.Moment.{Moment}
use Rattle.sm_model.specs.declared.entry.Change.{Change}
use Rattle.sm_model.specs.declared.entry.Change.TheVariants as changes
use Rattle.sm_base.specs.declared.limits.TheConstants.{LABELS_LIMIT, SECRETS_LIMIT, TAGS_LIMIT, VERSIONS_LIMIT}
use Rattle.sm_model.specs.declared.reply.Reply.{Reply}
use Rattle.sm_model.specs.declared.request.CreateSecret.{CreateSecret}
use Rattle.sm_model.specs.declared.rows.Rows.{Rows}
use Rattle.sm_model.specs.declared.rows.SecretRow.{SecretRow}
use Rattle.sm_model.specs.declared.why.Why.{Why}
use Rattle.sm_model.specs.declared.why.What.TheVariants.{Secrets, Tags}
use Rattle.sm_model.specs.declared.why.Why.TheVariants.{SecretExists, Limit}
use Rattle.sm_model.specs.declared.value.Tag.{Tag}
use Rattle.sm_model.specs.Bounds.{fits, is_description, is_small, is_date}
use Rattle.sm_model.specs.Needed.{token_bytes_if}
use Rattle.sm_forms.specs.CreateSecret.{create_forms}
use Rattle.sm_forms.proofs.CreateSecretLemmas.{create_text, create_binary, create_description, create_kms, create_regions, create_tags}
use Rattle.sm_versions.specs.Texts.{is_aws, once}
use Rattle.sm_model.specs.Labels.{aws_current}
use Rattle.sm_versions.specs.Labels.{own_count}
use Rattle.sm_versions.specs.Regions.{are_regions}
use Rattle.sm_versions.specs.Sound.{IsArnOf, tag_keys, each_tag, each_version, RowFits}
use Rattle.sm_versions.proofs.ArnLemmas.{drawn_is_arn_of}
use Rattle.sm_versions.specs.Kept.{CurrentKept}
use Rattle.sm_versions.proofs.TextLemmas.{same_text_itself}
use Rattle.sm_versions.proofs.KeptLaws.{settle_stays}
use Rattle.sm_table.specs.Sweep.{swept, sweep}
use Rattle.sm_table.specs.Found.{row_named}
use Rattle.sm_table.specs.Sound.{Sound}
use Rattle.sm_table.proofs.SoundLaws.{sweep_sound}
use Rattle.sm_judge_common.specs.declared.judged.Judged.{Judged}
use Rattle.sm_judge_common.specs.declared.judged.Judged.TheVariants.{Accept, Refuse}
use Rattle.sm_judge_common.specs.Changes.{settled, IsChange}
use Rattle.sm_judge_common.specs.Judged.{refusal_told, IfAccepted, IfChange}
use Rattle.sm_judge_common.specs.Members.{value_of}
use Rattle.sm_judge_common.specs.Refusals.{refuse_if, first_refusal, scheduled_refusal}
use Rattle.sm_judge_common.specs.Secrets.{unless_scheduled}
use Rattle.sm_judge_common.proofs.JudgedLemmas.{unless_scheduled_accepts}
use Rattle.sm_judge_common.proofs.ChangeLemmas.{map_settle_push, unless_scheduled_change}
use Rattle.sm_judge_common.proofs.RegionLemmas.{new_regions}
use Rattle.sm_judge_values.specs.declared.new_value.NewValue.{NewValue}
use Rattle.sm_judge_values.specs.declared.create_secret.CreateCall.{CreateCall}
use Rattle.sm_judge_values.specs.NewValue.{is_repeat}
use Rattle.sm_judge_values.specs.CreateSecret.{create_needs, create_call, empty_row, first_version, with_first, created_row, has_too_many_tags, is_full, create_held, create_on, create_judgement, holds_same, create_repeat, create_refusal_on, create_refusal, create_effect}
use Rattle.sm_judge_values.proofs.NewValueLemmas.{value_small, new_small}

-- ---- what is drawn

-- behind the six bytes of the ARN there are those of a token
pub room_behind_six : (create : CreateSecret) (drawn : List ℕ) → create_needs create ≤ length drawn
    → token_bytes_if (is_some create.secret_string || is_some create.secret_binary) create.client_request_token
    ≤ length (drop 6 drawn)
room_behind_six create drawn room = omega (arith, length-drop 6 drawn, room)

-- ---- refusals

same_test : (row : SecretRow) (first : Option NewValue) → is_repeat row first ≡ holds_same (Some row) first
same_test row None = refl
same_test row (Some first) = refl

held_refuses : (repeats : Bool) (deletion : Option Moment) (reply : Reply) (name : List ℕ)
    → refusal_told (unless_scheduled deletion (cond repeats (Accept reply None) (Refuse (SecretExists name))))
    ≡ Some (first_refusal (scheduled_refusal deletion ∷ refuse_if (not repeats) (SecretExists name) ∷ []))
held_refuses true None reply name = refl
held_refuses false None reply name = refl
held_refuses true (Some date) reply name = refl
held_refuses false (Some date) reply name = refl

new_refuses : (many full : Bool) (reply : Reply) (change : Change)
    → refusal_told (cond many (Refuse (Limit TAGS_LIMIT Tags))
    (cond full (Refuse (Limit SECRETS_LIMIT Secrets)) (Accept reply (Some change))))
    ≡ Some (first_refusal
    (refuse_if many (Limit TAGS_LIMIT Tags) ∷ refuse_if full (Limit SECRETS_LIMIT Secrets) ∷ []))
new_refuses true full reply change = refl
new_refuses false true reply change = refl
new_refuses false false reply change = refl

on_refuses : (held : Option SecretRow) (rows : Rows) (moment : Moment) (call : CreateCall)
    → refusal_told (create_on held rows moment call) ≡ Some (create_refusal_on held rows moment call)
on_refuses None rows moment call = new_refuses (has_too_many_tags call.details.tags) (is_full rows moment) _ _
on_refuses (Some row) rows moment call =
    held_refuses (is_repeat row call.first) row.deletion _ call.names.name
    ∙ ap (λ b. Some (first_refusal (scheduled_refusal row.deletion ∷ refuse_if (not b) (SecretExists call.names.name)
    ∷ []))) (same_test row call.first)

pub create_refuses : (rows : Rows) (moment : Moment) (drawn : List ℕ) (create : CreateSecret)
    → refusal_told (create_judgement rows moment drawn create) ≡ Some (create_refusal rows moment drawn create)
create_refuses rows moment drawn create =
    on_refuses (row_named (swept rows.secrets moment) create.name) rows moment (create_call drawn create)

-- ---- repeats

held_repeats : (repeats wanted : Bool) (reply : Reply) (why : Why) → repeats ≡ wanted
    → IfAccepted (cond repeats (Accept reply None) (Refuse why)) (λ change. is_none change ≡ wanted)
held_repeats true wanted reply why e = e
held_repeats false wanted reply why e = tt

new_repeats : (many full : Bool) (reply : Reply) (change : Change) (why other : Why)
    → IfAccepted (cond many (Refuse why) (cond full (Refuse other) (Accept reply (Some change))))
    (λ c. is_none c ≡ false)
new_repeats true full reply change why other = tt
new_repeats false true reply change why other = tt
new_repeats false false reply change why other = refl

on_repeats : (held : Option SecretRow) (rows : Rows) (moment : Moment) (call : CreateCall)
    → IfAccepted (create_on held rows moment call) (λ change. is_none change ≡ holds_same held call.first)
on_repeats None rows moment call = new_repeats (has_too_many_tags call.details.tags) (is_full rows moment) _ _ _ _
on_repeats (Some row) rows moment call =
    unless_scheduled_accepts row.deletion (create_held row call)
    (λ change. is_none change ≡ holds_same (Some row) call.first)
    (held_repeats (is_repeat row call.first) (holds_same (Some row) call.first) _ _ (same_test row call.first))

-- nothing is changed exactly by a repeat
pub create_repeats : (rows : Rows) (moment : Moment) (drawn : List ℕ) (create : CreateSecret)
    → IfAccepted (create_judgement rows moment drawn create)
    (λ change. is_none change ≡ create_repeat rows moment drawn create)
create_repeats rows moment drawn create =
    on_repeats (row_named (swept rows.secrets moment) create.name) rows moment (create_call drawn create)

-- ---- the change

created_kept : (row : SecretRow) (moment : Moment) (first : Option NewValue) → row.versions ≡ [] → row.labels ≡ []
    → row.next_version ≡ 0
    → row.job ≡ None → CurrentKept (with_first row moment first)
created_kept row moment None versions labels next job = record {
  versions = record {
    once = rw labels refl;
    named = rw (versions, labels) refl;
    ids = rw versions refl;
    serials = rw
        (versions, next) refl;
    current = rw versions refl;
  };
  job = rw job tt;
}
created_kept row moment (Some first) versions labels next job = record {
  versions = record {
    once = refl;
    named = grind (arith, same_text_itself first.token);
    ids = refl;
    serials = refl;
    current = grind (arith, same_text_itself first.token, same_text_itself aws_current);
  };
  job = rw job tt;
}

same_row : (row : SecretRow) (moment : Moment) (first : Option NewValue)
    → ((with_first row moment first).serial ≡ row.serial) × ((with_first row moment first).name ≡ row.name)
    × ((with_first row moment first).arn ≡ row.arn)
same_row row moment None = (refl, refl, refl)
same_row row moment (Some first) = (refl, refl, refl)

six_drawn : (drawn : List ℕ) → 6 ≤ length drawn → length (take 6 drawn) ≡ 6
six_drawn drawn h = grind (arith, common_steps)

none_own : (first : NewValue) → own_count (record { label = aws_current; id = first.token } ∷ []) ≡ 0
unfolding is_aws
none_own first = grind (arith, same_text_itself aws_current)

-- what a new secret says fits: its details and its first value
record Fits (call : CreateCall) : Type 0 where
  arn : IsArnOf call.names.arn call.names.name
  description : IsTrue (fits is_description call.details.description)
  kms : IsTrue (fits is_description call.details.kms)
  tags : IsTrue (each_tag call.details.tags) × IsTrue (once (tag_keys call.details.tags))
  regions : IsTrue (are_regions call.details.regions)
  small : IfSome call.first (λ first. IsTrue (is_small first.value))

empty_fits : (serial : ℕ) (moment : Moment) (call : CreateCall) → IsTrue (is_date moment)
    → has_too_many_tags call.details.tags ≡ false → Fits call
    → RowFits (empty_row serial moment call.names call.details)
empty_fits serial moment call date few fit = record {
  arn = fit.arn;
  description = fit.description;
  kms = fit.kms;
  tag_count = grind (arith, nat_tests, few);
  tags = fit.tags.0;
  tag_once = fit.tags.1;
  policy = refl;
  versions = refl;
  labels = omega arith;
  created = date;
  changed = date;
  deletion = refl;
  rotation = refl;
  regions = fit.regions;
  job = refl;
}

with_first_fits : (row : SecretRow) (moment : Moment) (first : Option NewValue) → IsTrue (is_date moment)
    → IfSome first (λ f. IsTrue (is_small f.value)) → RowFits row → RowFits (with_first row moment first)
with_first_fits row moment None date small fit = fit
with_first_fits row moment (Some first) date small fit =
    let versions : each_version (first_version moment first ∷ []) ≡ true =
    and_from _ _ (and_from _ _ (and_from _ _ small refl) date) refl in
    let labels : own_count (record { label = aws_current; id = first.token } ∷ []) ≤ LABELS_LIMIT =
    omega (arith, none_own first) in
    assumption (versions, labels, fit)

text_fits : (text : Option (List ℕ)) → IfSome text (λ t. IsTrue (is_description t)) → IsTrue (fits is_description text)
text_fits None h = refl
text_fits (Some text) h = h

tags_fit : (tags : Option (List Tag)) → IfSome tags (λ ts. IsTrue (each_tag ts) × IsTrue (once (tag_keys ts)))
    → IsTrue (each_tag (unwrap_or tags [])) × IsTrue (once (tag_keys (unwrap_or tags [])))
tags_fit None h = (refl, refl)
tags_fit (Some tags) h = h

call_fits : (drawn : List ℕ) (create : CreateSecret) → create_forms create ≡ None → 6 ≤ length drawn
    → Fits (create_call drawn create)
call_fits drawn create forms room = record {
  arn = drawn_is_arn_of create.name (take 6 drawn) (six_drawn drawn room);
  description = text_fits create.description (create_description create forms);
  kms = text_fits create.kms_key_id (create_kms create forms);
  tags = tags_fit create.tags (create_tags create forms);
  regions = new_regions create.regions (create_regions create forms);
  small = new_small _ (value_of create.secret_string create.secret_binary)
      (value_small create.secret_string create.secret_binary (create_text create forms) (create_binary create forms));
}

not_none : (found : Option SecretRow) → found ≡ None → IsNone found
not_none None e = refl
not_none (Some row) e = absurd (cc)

abbrev AddsRow : Rows → Moment → List ℕ → CreateSecret → Change → Type 0
AddsRow rows moment drawn create = IsChange rows moment
    (settled (create_effect (sweep rows moment) moment drawn create))

first_few : (row : SecretRow) (moment : Moment) (first : Option NewValue) → row.versions ≡ []
    → length (with_first row moment first).versions ≤ VERSIONS_LIMIT
first_few row moment None none = let count : length row.versions ≡ 0 = ap length none in omega (arith, count)
first_few row moment (Some first) none = omega arith

add_is_change : (rows : Rows) (moment : Moment) (drawn : List ℕ) (create : CreateSecret) → Sound rows
    → IsTrue (is_date moment)
    → create_forms create ≡ None → 6 ≤ length drawn → has_too_many_tags (create_call drawn create).details.tags ≡ false
    → is_full rows moment ≡ false
    → row_named (swept rows.secrets moment) create.name ≡ None
    → AddsRow rows moment drawn create (changes.Add (created_row rows.next moment (create_call drawn create)))
add_is_change rows moment drawn create sound date forms room few full none =
    let call : CreateCall = create_call drawn create in
    let fit = call_fits drawn create forms room in
    let empty : SecretRow = empty_row rows.next moment call.names call.details in
    let same = same_row empty moment call.first in
    let current = created_kept empty moment call.first refl refl refl refl in
    let fits = with_first_fits empty moment call.first date fit.small (empty_fits rows.next moment call date few fit) in
    record {
      makes = ap (λ (secrets : List SecretRow). record { next = rows.next + 1; secrets = secrets })
          (sym (map_settle_push (swept rows.secrets moment) (created_row rows.next moment call)
          (sweep_sound rows moment sound).each (settle_stays _ current)));
      can = (same.0, grind (arith, nat_tests, full), fits.arn);
      stands = not_none _ (ap (row_named (swept rows.secrets moment)) same.1 ∙ none);
      sound = (
        record { kept = current; fits = fits; version_count = first_few empty moment call.first refl },
        grind (arith, nat_tests, full),
      );
    }

new_change : (many full : Bool) (judged : Judged) (why other : Why) (P : Change → Type 0)
    → (many ≡ false → full ≡ false → IfChange judged P)
    → IfChange (cond many (Refuse why) (cond full (Refuse other) judged)) P
new_change true full judged why other P h = tt
new_change false true judged why other P h = tt
new_change false false judged why other P h = h refl refl

held_change : (repeats : Bool) (reply : Reply) (why : Why) (P : Change → Type 0)
    → IfChange (cond repeats (Accept reply None) (Refuse why)) P
held_change true reply why P = tt
held_change false reply why P = tt

on_change : (held : Option SecretRow) (rows : Rows) (moment : Moment) (call : CreateCall) (P : Change → Type 0)
    → (held ≡ None → has_too_many_tags call.details.tags ≡ false → is_full rows moment ≡ false
    → P (changes.Add (created_row rows.next moment call)))
    → IfChange (create_on held rows moment call) P
on_change None rows moment call P h =
    new_change (has_too_many_tags call.details.tags) (is_full rows moment) _ _ _ P (λ few full. h refl few full)
on_change (Some row) rows moment call P h =
    unless_scheduled_change row.deletion (create_held row call) P (held_change (is_repeat row call.first) _ _ P)

needs_six : (create : CreateSecret) (n : ℕ) → create_needs create ≤ n → 6 ≤ n
needs_six create n h = omega (arith, h)

-- a change adds the row of the entry
pub create_change : (rows : Rows) (moment : Moment) (drawn : List ℕ) (create : CreateSecret) → Sound rows
    → IsTrue (is_date moment)
    → create_forms create ≡ None → create_needs create ≤ length drawn
    → IfChange (create_judgement rows moment drawn create) (AddsRow rows moment drawn create)
create_change rows moment drawn create sound date forms room =
    on_change (row_named (swept rows.secrets moment) create.name) rows moment (create_call drawn create) _
    (λ none few full. add_is_change rows moment drawn create sound date forms
    (needs_six create (length drawn) room) few full none)

some_few : (tags : Option (List Tag)) → length (unwrap_or tags []) ≤ TAGS_LIMIT
    → IfSome tags (λ ts. length ts ≤ TAGS_LIMIT)
some_few None h = tt
some_few (Some tags) h = h

-- a secret that is made has few enough tags
pub create_few : (rows : Rows) (moment : Moment) (drawn : List ℕ) (create : CreateSecret)
    → IfChange (create_judgement rows moment drawn create) (λ _. IfSome create.tags (λ ts. length ts ≤ TAGS_LIMIT))
create_few rows moment drawn create =
    on_change (row_named (swept rows.secrets moment) create.name) rows moment (create_call drawn create)
    (λ _. IfSome create.tags (λ ts. length ts ≤ TAGS_LIMIT))
    (λ none few full. some_few create.tags (grind (arith, nat_tests, few)))
