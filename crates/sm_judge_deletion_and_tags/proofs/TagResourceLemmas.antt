-- Judging TagResource: when it is refused, and what it changes.
use Rattle.std.proofs.Common.{◌≡◌, ◌<◌, ◌≤◌, Bool, true, false, cond, List, length, Some, None, is_none, IsTrue, refl, arith}
use Rattle.std.proofs.lemmas.Bool.Decides.{nat_tests}
use Rattle.sm_base.specs.declared.secret_id.SecretId.{SecretId}
use Rattle.sm_base.specs.SecretId.{secret_id}
use Rattle.sm_model.specs.declared.entry.Change.{Change}
use Rattle.sm_base.specs.declared.limits.TheConstants.{TAGS_LIMIT}
use Rattle.sm_model.specs.declared.request.TagResource.{TagResource}
use Rattle.sm_model.specs.declared.rows.Rows.{Rows}
use Rattle.sm_model.specs.declared.rows.SecretRow.{SecretRow}
use Rattle.sm_model.specs.declared.value.Tag.{Tag}
use Rattle.sm_model.specs.declared.why.What.TheVariants.{Tags}
use Rattle.sm_model.specs.declared.why.Why.{Why}
use Rattle.sm_model.specs.declared.why.Why.TheVariants.{Limit}
use Rattle.sm_model.specs.Bounds.{is_date}
use Rattle.sm_model.specs.Versions.{When}
use Rattle.sm_forms.specs.TagResource.{tag_forms}
use Rattle.sm_forms.proofs.TagResourceLemmas.{tag_tags}
use Rattle.sm_versions.specs.Texts.{once}
use Rattle.sm_versions.specs.Sound.{tag_keys, each_tag, UnsettledSound}
use Rattle.sm_table.specs.Sweep.{sweep}
use Rattle.sm_table.specs.Found.{found}
use Rattle.sm_table.specs.Sound.{Sound}
use Rattle.sm_judge_common.specs.declared.judged.Judged.{Judged}
use Rattle.sm_judge_common.specs.declared.judged.Judged.TheVariants.{Refuse}
use Rattle.sm_judge_common.specs.Changes.{settled, IsChange}
use Rattle.sm_judge_common.specs.Judged.{refusal_told, IfAccepted, IfChange}
use Rattle.sm_judge_common.specs.Refusals.{refuse_if}
use Rattle.sm_judge_common.proofs.JudgedLemmas.{on_secret_refusal, on_secret_reads}
use Rattle.sm_judge_common.proofs.ChangeLemmas.{OnRow, on_secret_change, found_change_beside}
use Rattle.sm_judge_deletion_and_tags.specs.TagResource.{with_tags, tagged, has_too_many_tags, tag_within_limit, tag_on, tag_judgement, tag_refusal_on, tag_refusal, tag_effect}
use Rattle.sm_judge_deletion_and_tags.proofs.RevisedLemmas.{revised_sound}
use Rattle.sm_judge_deletion_and_tags.proofs.TagLemmas.{with_tags_each, with_tags_once}
use Rattle.sm_judge_deletion_and_tags.proofs.TagCountLemmas.{given_no_more}

-- ---- refusals

limit_refuses : (many : Bool) (row : SecretRow) (when : When) (tags : List Tag)
    → refusal_told (cond many (Refuse (Limit TAGS_LIMIT Tags)) (tag_within_limit row when tags))
    ≡ Some (refuse_if many (Limit TAGS_LIMIT Tags))
limit_refuses true row when tags = refl
limit_refuses false row when tags = refl

on_refuses : (row : SecretRow) (when : When) (tags : List Tag)
    → refusal_told (tag_on row when tags) ≡ Some (tag_refusal_on row tags)
on_refuses row when tags =
    limit_refuses (has_too_many_tags (with_tags row.tags tags)) row when (with_tags row.tags tags)

pub tag_refuses : (rows : Rows) (when : When) (tag : TagResource)
    → refusal_told (tag_judgement rows when tag) ≡ Some (tag_refusal rows when.moment tag)
tag_refuses rows when tag =
    on_secret_refusal (found rows when.moment (secret_id tag.secret_id)) (λ row. tag_on row when tag.tags)
    (λ row. tag_refusal_on row tag.tags) (λ row. on_refuses row when tag.tags)

-- ---- it always changes the row

limit_changes : (many : Bool) (why : Why) (row : SecretRow) (when : When) (tags : List Tag)
    → IfAccepted (cond many (Refuse why) (tag_within_limit row when tags)) (λ change. is_none change ≡ false)
limit_changes true why row when tags = tt
limit_changes false why row when tags = refl

-- no accepted TagResource is without a change
pub tag_changes : (rows : Rows) (when : When) (tag : TagResource)
    → IfAccepted (tag_judgement rows when tag) (λ change. is_none change ≡ false)
tag_changes rows when tag =
    on_secret_reads (found rows when.moment (secret_id tag.secret_id)) (λ row. tag_on row when tag.tags) false
    (λ row. limit_changes (has_too_many_tags (with_tags row.tags tag.tags)) (Limit TAGS_LIMIT Tags) row when
    (with_tags row.tags tag.tags))

-- ---- the change

-- what is asked of the change is asked where there are few enough tags
limit_change : (many : Bool) (why : Why) (judged : Judged) (P : Change → Type 0) → (many ≡ false → IfChange judged P)
    → IfChange (cond many (Refuse why) judged) P
limit_change true why judged P h = tt
limit_change false why judged P h = h refl

tagged_sound : (row : SecretRow) (tags : List Tag) → has_too_many_tags (with_tags row.tags tags) ≡ false
    → IsTrue (each_tag tags) → UnsettledSound row → UnsettledSound (tagged tags row)
tagged_sound row tags few each sound =
    revised_sound row.deletion (with_tags row.tags tags) row sound.fits.deletion
    (record {
      count = grind (arith, nat_tests, few);
      each = with_tags_each row.tags tags sound.fits.tags each;
      once = with_tags_once row.tags tags sound.fits.tag_once;
    })
    sound

on_change : (rows : Rows) (when : When) (id : SecretId) (tags : List Tag) (row : SecretRow) → Sound rows
    → IsTrue (is_date when.moment) → IsTrue (each_tag tags) → found rows when.moment id ≡ Some row
    → IfChange (tag_on row when tags) (OnRow rows when id (tagged tags))
on_change rows when id tags row sound date each e =
    limit_change (has_too_many_tags (with_tags row.tags tags)) (Limit TAGS_LIMIT Tags)
    (tag_within_limit row when (with_tags row.tags tags)) (OnRow rows when id (tagged tags))
    (λ few. found_change_beside rows when id (tagged tags) row sound date e
    (record { serial = refl; name = refl; arn = refl; versions = refl })
    (tagged_sound row tags few each))

-- a change is the entry's
pub tag_change : (rows : Rows) (when : When) (tag : TagResource) → Sound rows → IsTrue (is_date when.moment)
    → tag_forms tag ≡ None
    → IfChange (tag_judgement rows when tag) (IsChange rows when.moment
    (settled (tag_effect (sweep rows when.moment) when tag)))
tag_change rows when tag sound date forms =
    on_secret_change (found rows when.moment (secret_id tag.secret_id)) (λ row. tag_on row when tag.tags) _
    (λ row e. on_change rows when (secret_id tag.secret_id) tag.tags row sound date (tag_tags tag forms).0 e)

-- ---- how many tags are given

-- the forms let no key stand twice
pub given_once : (tag : TagResource) → tag_forms tag ≡ None → IsTrue (once (tag_keys tag.tags))
given_once tag forms = (tag_tags tag forms).1

-- more tags than a secret may have are refused, whatever it has
pub many_refuse : (row : SecretRow) (when : When) (tags : List Tag) → IsTrue (once (tag_keys tags))
    → TAGS_LIMIT < length tags → Refuse (Limit TAGS_LIMIT Tags) ≡ tag_on row when tags
many_refuse row when tags once many =
    let all = given_no_more row.tags tags once in
    let more : TAGS_LIMIT < length (with_tags row.tags tags) = omega arith in
    let test : has_too_many_tags (with_tags row.tags tags) ≡ true = grind (arith, nat_tests, more) in
    rw test refl

few_given : (row : SecretRow) (tags : List Tag) → IsTrue (once (tag_keys tags))
    → has_too_many_tags (with_tags row.tags tags) ≡ false → length tags ≤ TAGS_LIMIT
few_given row tags once few =
    let all = given_no_more row.tags tags once in
    let most : length (with_tags row.tags tags) ≤ TAGS_LIMIT = grind (arith, nat_tests, few) in omega arith

-- a TagResource that makes an entry gives few enough tags
pub tag_few : (rows : Rows) (when : When) (tag : TagResource) → tag_forms tag ≡ None
    → IfChange (tag_judgement rows when tag) (λ _. length tag.tags ≤ TAGS_LIMIT)
tag_few rows when tag forms =
    on_secret_change (found rows when.moment (secret_id tag.secret_id)) (λ row. tag_on row when tag.tags)
    (λ _. length tag.tags ≤ TAGS_LIMIT)
    (λ row e. limit_change (has_too_many_tags (with_tags row.tags tag.tags)) (Limit TAGS_LIMIT Tags)
    (tag_within_limit row when (with_tags row.tags tag.tags)) (λ _. length tag.tags ≤ TAGS_LIMIT)
    (λ few. few_given row tag.tags (given_once tag forms) few))
