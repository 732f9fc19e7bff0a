-- How long the fields of entries are, and when they fit.
use Rattle.std.proofs.Common.{◌≡◌, ℕ, ◌+◌, ◌*◌, ◌^◌, ◌<◌, ◌≤◌, Bool, true, false, not, ◌&&◌, List, [], ◌∷◌, ◌++◌, length, Option, Some, None, IfSome, is_some, refl, ap, arith, length-append}
use Rattle.std.specs.Prelude.{ℤ, pos, negsuc, IsTrue, IsUtf8, nat_eq, nat_lt, nat_le, if◌then◌else◌, codes}
use Rattle.std.specs.Str.{is_utf8, chars, encode_utf8_all as encodes}
use Rattle.std.specs.Char.{is_ascii_digit, encode_utf8 as encode}
use Rattle.std.specs.List.{flat_map, list_all, starts_with}
use Rattle.std.proofs.lemmas.Bool.Decides.{nat_tests}
use Rattle.std.proofs.lemmas.Bool.{and_from, and_parts}
use Rattle.std.proofs.lemmas.List.Elements.{All-weaker}
use Rattle.std.proofs.lemmas.List.Sums.{AllPass-from_list_all}
use Rattle.std.proofs.lemmas.Str.{is_utf8-from_IsUtf8, IsUtf8-from_ascii, IsUtf8-from_is_utf8, encodes-chars, length-encode, len_utf8_bounds}
use Rattle.std.proofs.lemmas.Str.Ascii.{IsAscii-from_all}
use Rattle.sm_base.specs.Spelling.{is_run, is_name_byte, is_token, is_token_byte, is_name, is_label, is_arn, is_arn_like, is_secret_id, is_region_byte, IsArnOf}
use Rattle.sm_base.proofs.ArnShapeLemmas.{arn_has_shape}
use Rattle.sm_base.proofs.LabelLemmas.{label_is_utf8}
use Rattle.sm_cron.specs.Spelling.{is_schedule, is_schedule_expression}
use Rattle.sm_model.specs.Bounds.{fits, is_attempt, is_description, is_small, is_tag_key, is_tag, reserved_beginning}
use Rattle.sm_base.specs.Texts.{has_at_most}
use Rattle.sm_base.specs.declared.limits.TheConstants.{DAYS_LIMIT, DESCRIPTION_LIMIT, POLICY_LIMIT, SCHEDULE_LIMIT, TAGS_LIMIT, TAG_KEY_LIMIT, TAG_VALUE_LIMIT, VALUE_LIMIT, SHORTEST_WINDOW, LONGEST_WINDOW}
use Rattle.sm_model.specs.declared.request.Rules.{Rules}
use Rattle.sm_model.specs.declared.rows.Stage.{Stage}
use Rattle.sm_model.specs.declared.rows.Stage.TheVariants.{Create, Set, Test, Finish}
use Rattle.sm_model.specs.declared.value.Tag.{Tag}
use Rattle.sm_model.specs.declared.value.Value.{Value}
use Rattle.sm_model.specs.declared.value.Value.TheVariants.{Text, Bytes}
use Rattle.sm_policy_text.specs.Documents.{has_policy_length, is_policy, is_resource_policy}
use Rattle.sm_versions.specs.Regions.{is_region, are_regions}
use Rattle.sm_versions.specs.Texts.{once}
use Rattle.sm_versions.specs.Sound.{tag_keys, each_tag}
use Rattle.sm_forms.specs.DeleteSecret.{is_window}
use Rattle.sm_forms.specs.RotateSecret.{is_period}
use Rattle.sm_forms.specs.UntagResource.{is_untag_key}
use Rattle.sm_judge_common.proofs.RegionLemmas.{few_regions, each_region}
use Rattle.sm_record.specs.Codec.{optional}
use Rattle.sm_record.specs.declared.edition.Edition.TheVariants.{Second}
use Rattle.sm_record.specs.Fields.{arn, attempt, count, long, signed, octets, rotation_rules, stage, text, token, truth, listed, tag, value}
use Rattle.sm_encoded_size.specs.Texts.{TagTexts, EachText, ValueText}

count_size : (n : ℕ) → length (count.spell n) ≡ 4
unfolding count
count_size n = refl

pub octets_size : (bytes : List ℕ) → length (octets.spell bytes) ≡ 4 + length bytes
unfolding octets
octets_size bytes = omega (arith, length-append (count.spell (length bytes)) bytes, count_size (length bytes))

pub text_size : (t : List ℕ) → length (text.spell t) ≡ 4 + length t
unfolding text
text_size t = octets_size t

pub octets_fits : (bytes : List ℕ) → length bytes < 2 ^ 32 → octets.fits bytes ≡ true
unfolding octets count
octets_fits bytes short = grind (arith, nat_tests)

pub text_fits : (t : List ℕ) → IsUtf8 t → length t < 2 ^ 32 → text.fits t ≡ true
unfolding text
text_fits t utf8 short = and_from (is_utf8 t) (octets.fits t) (is_utf8-from_IsUtf8 t utf8) (octets_fits t short)

-- a truth value
pub truth_size : (b : Bool) → length (truth.spell b) ≡ 1
unfolding truth
truth_size b = refl

pub truth_fits : (b : Bool) → truth.fits b ≡ true
unfolding truth
truth_fits true = refl
truth_fits false = refl

-- a window that need not be there
signed_size : (z : ℤ) → length (signed.spell z) ≡ 8
unfolding signed long
signed_size z = refl

window_fit : (days : ℤ) → IsTrue (is_window days) → signed.fits days ≡ true
unfolding signed
window_fit (pos n) is =
    let le = (and_parts (nat_le SHORTEST_WINDOW n) (nat_le n LONGEST_WINDOW) is).1 in grind (arith, nat_tests, le)
window_fit (negsuc n) is = absurd (let f : false ≡ true = is in cc)

pub window_size : (t : Option ℤ) → length ((optional signed).spell t) ≤ 9
unfolding optional
window_size None = omega arith
window_size (Some days) = omega (arith, signed_size days)

pub window_fits : (t : Option ℤ) → IfSome t (λ days. IsTrue (is_window days)) → (optional signed).fits t ≡ true
unfolding optional
window_fits None h = refl
window_fits (Some days) h = window_fit days h

-- a text that need not be there
pub optional_size : (t : Option (List ℕ)) (n : ℕ) → IfSome t (λ x. length x ≤ n)
    → length ((optional text).spell t) ≤ n + 5
unfolding optional
optional_size None n h = omega arith
optional_size (Some t) n h = omega (arith, text_size t, h)

pub optional_fits : (t : Option (List ℕ)) (n : ℕ) → n < 2 ^ 32 → IfSome t IsUtf8 → IfSome t (λ x. length x ≤ n)
    → (optional text).fits t ≡ true
unfolding optional
optional_fits None n room utf8 h = refl
optional_fits (Some t) n room utf8 h = text_fits t utf8 (omega (arith, room, h))

-- bytes that need not be there
pub bytes_size : (t : Option (List ℕ)) (n : ℕ) → IfSome t (λ x. length x ≤ n)
    → length ((optional octets).spell t) ≤ n + 5
unfolding optional
bytes_size None n h = omega arith
bytes_size (Some t) n h = omega (arith, octets_size t, h)

pub bytes_fit : (t : Option (List ℕ)) (n : ℕ) → n < 2 ^ 32 → IfSome t (λ x. length x ≤ n)
    → (optional octets).fits t ≡ true
unfolding optional
bytes_fit None n room h = refl
bytes_fit (Some t) n room h = octets_fits t (omega (arith, room, h))

-- a run of at most so many bytes
run_size : (test : ℕ → Bool) (low high : ℕ) (t : List ℕ) → is_run test low high t ≡ true → length t ≤ high
run_size test low high t is =
    let both = and_parts (nat_le low (length t) && nat_le (length t) high) (list_all test t) is in
    let le = (and_parts (nat_le low (length t)) (nat_le (length t) high) both.0).1 in grind (arith, nat_tests, le)

pub token_size : (t : List ℕ) → is_token t ≡ true → length t ≤ 64
unfolding is_token
token_size t is = run_size is_token_byte 32 64 t is

pub name_size : (t : List ℕ) → is_name t ≡ true → length t ≤ 512
unfolding is_name
name_size t is = run_size is_name_byte 1 512 t is

encodes_size : (cs : List ℕ) → length (encodes cs) ≤ 4 * length cs
encodes_size [] = omega arith
encodes_size (c ∷ cs) =
    let bound = len_utf8_bounds c in
    omega (arith, encodes_size cs, length-append (encode c) (encodes cs), length-encode c, bound.1)

-- a text has at most four bytes for each of its characters
text_bytes : (t : List ℕ) → IsUtf8 t → length t ≤ 4 * length (chars t)
text_bytes t utf8 =
    let same : length (encodes (chars t)) ≡ length t = ap length (encodes-chars t utf8) in
    omega (arith, same, encodes_size (chars t))

few_bytes : (limit : ℕ) (t : List ℕ) → IsUtf8 t → IsTrue (has_at_most limit t) → length t ≤ 4 * limit
few_bytes limit t utf8 is =
    let few : length (chars t) ≤ limit = grind (arith, nat_tests, is) in omega (arith, few, text_bytes t utf8)

pub description_size : (t : List ℕ) → IsUtf8 t → IsTrue (is_description t) → length t ≤ 8192
description_size t utf8 is = few_bytes DESCRIPTION_LIMIT t utf8 is

pub label_size : (t : List ℕ) → is_label t ≡ true → length t ≤ 1024
unfolding is_label
label_size t is =
    let both = and_parts (is_utf8 t && nat_le 1 (length (chars t))) (nat_le (length (chars t)) 256) is in
    few_bytes 256 t (IsUtf8-from_is_utf8 t (label_is_utf8 t is)) both.1

arn_size : (t : List ℕ) → is_arn t ≡ true → length t ≤ 600
arn_size t is =
    let shape = arn_has_shape t is in
    let region : List ℕ = shape.0 in
    let account : List ℕ = shape.1 in
    let rest : List ℕ = shape.2 in
    let is_of : IsArnOf t region account rest = shape.3 in
    let start : List ℕ = codes "arn:aws:secretsmanager:" in
    let word : List ℕ = codes ":secret:" in
    let colon : List ℕ = codes ":" in
    omega (
      arith,
      ap length is_of.whole,
      length-append start (region ++ (colon ++ (account ++ (word ++ rest)))),
      length-append region (colon ++ (account ++ (word ++ rest))),
      length-append colon (account ++ (word ++ rest)),
      length-append account (word ++ rest),
      length-append word rest,
      run_size is_region_byte 1 32 region is_of.region_spelled,
      run_size is_ascii_digit 12 12 account is_of.account_spelled,
      run_size is_name_byte 1 519 rest is_of.rest_spelled,
    )

pub secret_id_size : (t : List ℕ) → is_secret_id t ≡ true → length t ≤ 600
unfolding is_secret_id
secret_id_size t is = by_kind (is_arn_like t) is
  where
    by_kind : (arn : Bool) → (if arn then is_arn t else is_name t) ≡ true → length t ≤ 600
    by_kind true is = arn_size t is
    by_kind false is = omega (arith, name_size t is)

-- texts in a list
listed_size : (items : List (List ℕ)) → list_all is_label items ≡ true
    → length (flat_map text.spell items) ≤ 1028 * length items
listed_size [] all = omega arith
listed_size (t ∷ items) all =
    let both = and_parts (is_label t) (list_all is_label items) all in
    omega (
      arith,
      length-append (text.spell t) (flat_map text.spell items),
      text_size t,
      label_size t both.0,
      listed_size items both.1,
    )

labels_fit : (items : List (List ℕ)) → list_all is_label items ≡ true → list_all text.fits items ≡ true
labels_fit [] all = refl
labels_fit (t ∷ items) all =
    let both = and_parts (is_label t) (list_all is_label items) all in
    and_from (text.fits t) (list_all text.fits items)
    (text_fits t (IsUtf8-from_is_utf8 t (label_is_utf8 t both.0)) (omega (arith, label_size t both.0)))
    (labels_fit items both.1)

-- a list of labels that need not be there
pub labels_size : (t : Option (List (List ℕ))) → IfSome t (λ items. IsTrue (list_all is_label items))
    → IfSome t (λ items. length items ≤ 20) → length ((optional (listed text)).spell t) ≤ 20565
unfolding optional listed
labels_size None all few = omega arith
labels_size (Some items) all few =
    omega (
      arith,
      length-append (count.spell (length items)) (flat_map text.spell items),
      count_size (length items),
      listed_size items all,
      few,
    )

pub labels_fits : (t : Option (List (List ℕ))) → IfSome t (λ items. IsTrue (list_all is_label items))
    → IfSome t (λ items. length items ≤ 20) → (optional (listed text)).fits t ≡ true
unfolding optional listed count
labels_fits None all few = refl
labels_fits (Some items) all few =
    and_from (nat_lt (length items) (2 ^ 32)) (list_all text.fits items) (grind (arith, nat_tests, few))
    (labels_fit items all)

-- tags
tag_size : (t : Tag) → IsUtf8 t.key → IsUtf8 t.value → IsTrue (is_tag t) → length (tag.spell t) ≤ 1544
unfolding tag
tag_size t key value is =
    let both = and_parts (is_tag_key t.key) (has_at_most TAG_VALUE_LIMIT t.value) is in
    let reserved = not (starts_with nat_eq t.key reserved_beginning) in
    let sized = and_parts (nat_le 1 (length (chars t.key)) && has_at_most TAG_KEY_LIMIT t.key) reserved both.0 in
    let few = (and_parts (nat_le 1 (length (chars t.key))) (has_at_most TAG_KEY_LIMIT t.key) sized.0).1 in
    omega (
      arith,
      length-append (text.spell t.key) (text.spell t.value),
      text_size t.key,
      text_size t.value,
      few_bytes TAG_KEY_LIMIT t.key key few,
      few_bytes TAG_VALUE_LIMIT t.value value both.1,
    )

tag_fits : (t : Tag) → IsUtf8 t.key → IsUtf8 t.value → length (tag.spell t) ≤ 1544 → tag.fits t ≡ true
unfolding tag
tag_fits t key value short =
    let parts = length-append (text.spell t.key) (text.spell t.value) in
    and_from (text.fits t.key) (text.fits t.value)
    (text_fits t.key key (omega (arith, parts, text_size t.key, short)))
    (text_fits t.value value (omega (arith, parts, text_size t.value, short)))

each_tag_size : (tags : List Tag) → TagTexts tags → IsTrue (each_tag tags)
    → length (flat_map tag.spell tags) ≤ 1544 * length tags
each_tag_size [] texts all = omega arith
each_tag_size (t ∷ tags) texts all =
    let both = and_parts (is_tag t) (each_tag tags) all in
    omega (
      arith,
      length-append (tag.spell t) (flat_map tag.spell tags),
      tag_size t texts.0 texts.1 both.0,
      each_tag_size tags texts.2 both.1,
    )

each_tag_fits : (tags : List Tag) → TagTexts tags → IsTrue (each_tag tags) → list_all tag.fits tags ≡ true
each_tag_fits [] texts all = refl
each_tag_fits (t ∷ tags) texts all =
    let both = and_parts (is_tag t) (each_tag tags) all in
    and_from (tag.fits t) (list_all tag.fits tags)
    (tag_fits t texts.0 texts.1 (tag_size t texts.0 texts.1 both.0)) (each_tag_fits tags texts.2 both.1)

-- a list of tags
pub tag_list_size : (tags : List Tag) → TagTexts tags → IsTrue (each_tag tags) → length tags ≤ TAGS_LIMIT
    → length ((listed tag).spell tags) ≤ 77204
unfolding listed
tag_list_size tags texts all few =
    omega (
      arith,
      length-append (count.spell (length tags)) (flat_map tag.spell tags),
      count_size (length tags),
      each_tag_size tags texts all,
      few,
    )

pub tag_list_fits : (tags : List Tag) → TagTexts tags → IsTrue (each_tag tags) → length tags ≤ TAGS_LIMIT
    → (listed tag).fits tags ≡ true
unfolding listed count
tag_list_fits tags texts all few =
    and_from (nat_lt (length tags) (2 ^ 32)) (list_all tag.fits tags) (grind (arith, nat_tests, few))
    (each_tag_fits tags texts all)

-- tags that need not be there
pub tags_size : (t : Option (List Tag)) → IfSome t TagTexts
    → IfSome t (λ tags. IsTrue (each_tag tags) × IsTrue (once (tag_keys tags)))
    → IfSome t (λ tags. length tags ≤ TAGS_LIMIT) → length ((optional (listed tag)).spell t) ≤ 77205
unfolding optional
tags_size None texts are few = omega arith
tags_size (Some tags) texts are few = omega (arith, tag_list_size tags texts are.0 few)

pub tags_fit : (t : Option (List Tag)) → IfSome t TagTexts
    → IfSome t (λ tags. IsTrue (each_tag tags) × IsTrue (once (tag_keys tags)))
    → IfSome t (λ tags. length tags ≤ TAGS_LIMIT) → (optional (listed tag)).fits t ≡ true
unfolding optional
tags_fit None texts are few = refl
tags_fit (Some tags) texts are few = tag_list_fits tags texts are.0 few

-- the keys of tags that are to be taken off
key_size : (key : List ℕ) → IsUtf8 key → IsTrue (is_untag_key key) → length key ≤ 512
key_size key utf8 is =
    few_bytes TAG_KEY_LIMIT key utf8 (and_parts (nat_le 1 (length (chars key))) (has_at_most TAG_KEY_LIMIT key) is).1

each_key_size : (keys : List (List ℕ)) → EachText keys → IsTrue (list_all is_untag_key keys)
    → length (flat_map text.spell keys) ≤ 516 * length keys
each_key_size [] texts all = omega arith
each_key_size (key ∷ keys) texts all =
    let both = and_parts (is_untag_key key) (list_all is_untag_key keys) all in
    omega (
      arith,
      length-append (text.spell key) (flat_map text.spell keys),
      text_size key,
      key_size key texts.0 both.0,
      each_key_size keys texts.1 both.1,
    )

each_key_fits : (keys : List (List ℕ)) → EachText keys → IsTrue (list_all is_untag_key keys)
    → list_all text.fits keys ≡ true
each_key_fits [] texts all = refl
each_key_fits (key ∷ keys) texts all =
    let both = and_parts (is_untag_key key) (list_all is_untag_key keys) all in
    and_from (text.fits key) (list_all text.fits keys)
    (text_fits key texts.0 (omega (arith, key_size key texts.0 both.0))) (each_key_fits keys texts.1 both.1)

pub keys_size : (keys : List (List ℕ)) → EachText keys → IsTrue (list_all is_untag_key keys)
    → length keys ≤ TAGS_LIMIT
    → length ((listed text).spell keys) ≤ 25804
unfolding listed
keys_size keys texts all few =
    omega (
      arith,
      length-append (count.spell (length keys)) (flat_map text.spell keys),
      count_size (length keys),
      each_key_size keys texts all,
      few,
    )

pub keys_fit : (keys : List (List ℕ)) → EachText keys → IsTrue (list_all is_untag_key keys)
    → length keys ≤ TAGS_LIMIT
    → (listed text).fits keys ≡ true
unfolding listed count
keys_fit keys texts all few =
    and_from (nat_lt (length keys) (2 ^ 32)) (list_all text.fits keys) (grind (arith, nat_tests, few))
    (each_key_fits keys texts all)

-- the ARN of a secret, and the id of a version
pub arn_field_size : (t : List ℕ) → is_arn t ≡ true → length (arn.spell t) ≤ 604
unfolding arn
arn_field_size t is = omega (arith, octets_size t, arn_size t is)

pub arn_field_fits : (t : List ℕ) → is_arn t ≡ true → arn.fits t ≡ true
unfolding arn
arn_field_fits t is = and_from (is_arn t) (octets.fits t) is (octets_fits t (omega (arith, arn_size t is)))

pub token_field_size : (t : List ℕ) → is_token t ≡ true → length (token.spell t) ≤ 68
unfolding token
token_field_size t is = omega (arith, octets_size t, token_size t is)

pub token_field_fits : (t : List ℕ) → is_token t ≡ true → token.fits t ≡ true
unfolding token
token_field_fits t is = and_from (is_token t) (octets.fits t) is (octets_fits t (omega (arith, token_size t is)))

-- a step of a rotation, and an attempt at it
pub stage_size : (s : Stage) → length (stage.spell s) ≡ 1
unfolding stage
stage_size s = refl

pub stage_fits : (s : Stage) → stage.fits s ≡ true
unfolding stage
stage_fits Create = refl
stage_fits Set = refl
stage_fits Test = refl
stage_fits Finish = refl

pub attempt_size : (n : ℕ) → length (attempt.spell n) ≡ 1
unfolding attempt
attempt_size n = refl

pub attempt_fits : (n : ℕ) → is_attempt n ≡ true → attempt.fits n ≡ true
unfolding attempt
attempt_fits n is = ap (λ b. is_some (if b then Some n else None)) is

-- a value
small : (bytes : List ℕ) → nat_le (length bytes) VALUE_LIMIT ≡ true → length bytes ≤ 65536
small bytes is = grind (arith, nat_tests, is)

pub value_size : (v : Value) → is_small v ≡ true → length (value.spell v) ≤ 65541
unfolding value
value_size (Text bytes) is = omega (arith, text_size bytes, small bytes is)
value_size (Bytes bytes) is = omega (arith, octets_size bytes, small bytes is)

pub value_fits : (v : Value) → ValueText v → is_small v ≡ true → value.fits v ≡ true
unfolding value
value_fits (Text bytes) utf8 is = text_fits bytes utf8 (omega (arith, small bytes is))
value_fits (Bytes bytes) utf8 is = octets_fits bytes (omega (arith, small bytes is))

-- the text of a policy
pub policy_size : (t : List ℕ) → IsUtf8 t → IsTrue (is_resource_policy t) → length t ≤ 81920
unfolding is_resource_policy
policy_size t utf8 is =
    let sized = (and_parts (has_policy_length t) (is_policy t) is).0 in
    few_bytes POLICY_LIMIT t utf8 (and_parts (nat_le 1 (length (chars t))) (has_at_most POLICY_LIMIT t) sized).1

-- rotation rules that need not be there
period_fits : (days : ℤ) → is_period days ≡ true → signed.fits days ≡ true
unfolding signed
period_fits (pos n) is = let le = (and_parts (nat_le 1 n) (nat_le n DAYS_LIMIT) is).1 in grind (arith, nat_tests, le)
period_fits (negsuc n) is = absurd (let f : false ≡ true = is in cc)

days_fit : (days : Option ℤ) → fits is_period days ≡ true → (optional signed).fits days ≡ true
unfolding optional
days_fit None is = refl
days_fit (Some days) is = period_fits days is

schedule_few : (t : Option (List ℕ)) → IsTrue (fits is_schedule_expression t) → IfSome t (λ x. length x ≤ 256)
schedule_few None is = tt
schedule_few (Some t) is =
    let few = (and_parts (nat_le (length t) SCHEDULE_LIMIT) (is_schedule t) is).0 in grind (arith, nat_tests, few)

pub rules_size : (rules : Option Rules) → IfSome rules (λ r. IsTrue (fits is_schedule_expression r.schedule))
    → length ((optional (rotation_rules Second)).spell rules) ≤ 271
unfolding optional rotation_rules
rules_size None is = omega arith
rules_size (Some rules) is =
    let days : List ℕ = (optional signed).spell rules.days in
    let schedule : List ℕ = (optional text).spell rules.schedule in
    omega (
      arith,
      length-append days schedule,
      window_size rules.days,
      optional_size rules.schedule 256 (schedule_few rules.schedule is),
    )

pub rules_fit : (rules : Option Rules) → IfSome rules (λ r. IsTrue (fits is_period r.days))
    → IfSome rules (λ r. IsTrue (fits is_schedule_expression r.schedule))
    → IfSome rules (λ r. IfSome r.schedule IsUtf8) → (optional (rotation_rules Second)).fits rules ≡ true
unfolding optional rotation_rules
rules_fit None days schedule utf8 = refl
rules_fit (Some rules) days schedule utf8 =
    and_from ((optional signed).fits rules.days) ((optional text).fits rules.schedule) (days_fit rules.days days)
    (optional_fits rules.schedule 256 (omega arith) utf8 (schedule_few rules.schedule schedule))

-- regions, whose names are ASCII
region_byte_is_ascii : (byte : ℕ) → is_region_byte byte ≡ true → byte < 128
unfolding is_region_byte
region_byte_is_ascii byte is = grind (arith, nat_tests)

region_is_utf8 : (t : List ℕ) → is_region t ≡ true → IsUtf8 t
region_is_utf8 t is =
    let bytes = (and_parts (nat_le 1 (length t) && nat_le (length t) 32) (list_all is_region_byte t) is).1 in
    IsUtf8-from_ascii t (IsAscii-from_all t
    (All-weaker (λ byte. is_region_byte byte ≡ true) (λ byte. byte < 128) region_byte_is_ascii t
    (AllPass-from_list_all is_region_byte t bytes)))

region_size : (t : List ℕ) → is_region t ≡ true → length t ≤ 32
region_size t is = run_size is_region_byte 1 32 t is

each_region_size : (regions : List (List ℕ)) → list_all is_region regions ≡ true
    → length (flat_map text.spell regions) ≤ 36 * length regions
each_region_size [] all = omega arith
each_region_size (region ∷ regions) all =
    let both = and_parts (is_region region) (list_all is_region regions) all in
    omega (
      arith,
      length-append (text.spell region) (flat_map text.spell regions),
      text_size region,
      region_size region both.0,
      each_region_size regions both.1,
    )

each_region_fits : (regions : List (List ℕ)) → list_all is_region regions ≡ true → list_all text.fits regions ≡ true
each_region_fits [] all = refl
each_region_fits (region ∷ regions) all =
    let both = and_parts (is_region region) (list_all is_region regions) all in
    and_from (text.fits region) (list_all text.fits regions)
    (text_fits region (region_is_utf8 region both.0) (omega (arith, region_size region both.0)))
    (each_region_fits regions both.1)

pub regions_size : (regions : List (List ℕ)) → IsTrue (are_regions regions)
    → length ((listed text).spell regions) ≤ 724
unfolding listed
regions_size regions are =
    omega (
      arith,
      length-append (count.spell (length regions)) (flat_map text.spell regions),
      count_size (length regions),
      each_region_size regions (each_region regions are),
      few_regions regions are,
    )

pub regions_fit : (regions : List (List ℕ)) → IsTrue (are_regions regions) → (listed text).fits regions ≡ true
unfolding listed count
regions_fit regions are =
    let few = few_regions regions are in
    and_from (nat_lt (length regions) (2 ^ 32)) (list_all text.fits regions) (grind (arith, nat_tests, few))
    (each_region_fits regions (each_region regions are))
