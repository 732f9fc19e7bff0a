-- TagResource: its tests on the rows, what it changes. Its reply says nothing.
-- AWS Secrets Manager API Reference, TagResource; User Guide, "AWS Secrets Manager quotas".
use Rattle.std.specs.Prelude.{Bool, nat_lt, if◌then◌else◌, List, [], ◌∷◌, length, Option, Some}
use Rattle.sm_base.specs.declared.moment.Moment.{Moment}
use Rattle.sm_base.specs.SecretId.{secret_id}
use Rattle.sm_model.specs.declared.entry.Change.TheVariants as changes
use Rattle.sm_base.specs.declared.limits.TheConstants.{TAGS_LIMIT}
use Rattle.sm_model.specs.declared.reply.Reply.TheVariants as replies
use Rattle.sm_model.specs.declared.request.TagResource.{TagResource}
use Rattle.sm_model.specs.declared.rows.Rows.{Rows}
use Rattle.sm_model.specs.declared.rows.SecretRow.{SecretRow}
use Rattle.sm_model.specs.declared.value.Tag.{Tag}
use Rattle.sm_model.specs.declared.why.What.TheVariants.{Tags}
use Rattle.sm_model.specs.declared.why.Why.{Why}
use Rattle.sm_model.specs.declared.why.Why.TheVariants.{Limit}
use Rattle.sm_base.specs.Texts.{same_text}
use Rattle.sm_model.specs.Versions.{When}
use Rattle.sm_table.specs.Found.{found}
use Rattle.sm_judge_common.specs.declared.judged.Judged.{Judged}
use Rattle.sm_judge_common.specs.declared.judged.Judged.TheVariants.{Accept, Refuse}
use Rattle.sm_judge_common.specs.Changes.{change_named}
use Rattle.sm_judge_common.specs.Refusals.{refuse_if, refusal_at}
use Rattle.sm_judge_common.specs.Secrets.{with_secret, finished_row}

-- ---- the row

-- the tags with one more: its value replaces that of the tag with its key, and a key that is not there comes last
abbrev pub with_tag : List Tag → Tag → List Tag
with_tag [] tag = tag ∷ []
with_tag (t ∷ ts) tag =
    if same_text t.key tag.key then record t { value = tag.value } ∷ ts else t ∷ with_tag ts tag

-- the tags of a secret with those that are given, one after the other
abbrev pub with_tags : List Tag → List Tag → List Tag
with_tags kept [] = kept
with_tags kept (tag ∷ tags) = with_tags (with_tag kept tag) tags

abbrev pub tagged : List Tag → SecretRow → SecretRow
tagged tags row = record row { tags = with_tags row.tags tags }

-- ---- the judgement

-- there are more tags than a secret may have
abbrev pub has_too_many_tags : List Tag → Bool
has_too_many_tags tags = nat_lt TAGS_LIMIT (length tags)

-- the row with these tags takes the place of the old one
abbrev pub tag_within_limit : SecretRow → When → List Tag → Judged
tag_within_limit row when tags =
    Accept replies.TagResource (Some (changes.Replace (finished_row (record row { tags = tags }) when)))

abbrev pub tag_on : SecretRow → When → List Tag → Judged
tag_on row when tags =
    if has_too_many_tags (with_tags row.tags tags) then Refuse (Limit TAGS_LIMIT Tags)
    else tag_within_limit row when (with_tags row.tags tags)

abbrev pub tag_judgement : Rows → When → TagResource → Judged
tag_judgement rows when tag =
    with_secret rows when.moment (secret_id tag.secret_id) (λ row. tag_on row when tag.tags)

-- ---- when it is refused, what it does to the rows

-- the secret has at most 50 tags then
abbrev pub tag_refusal_on : SecretRow → List Tag → Option Why
tag_refusal_on row tags = refuse_if (has_too_many_tags (with_tags row.tags tags)) (Limit TAGS_LIMIT Tags)

abbrev pub tag_refusal : Rows → Moment → TagResource → Option Why
tag_refusal rows moment tag =
    refusal_at (found rows moment (secret_id tag.secret_id)) (λ row. tag_refusal_on row tag.tags)

-- the secret's row with the tags
abbrev pub tag_effect : Rows → When → TagResource → Rows
tag_effect rows when tag = change_named rows (secret_id tag.secret_id) when (tagged tag.tags)
