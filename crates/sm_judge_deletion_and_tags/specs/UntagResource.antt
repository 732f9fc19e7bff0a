-- UntagResource: its tests on the rows, what it changes. Its reply says nothing.
-- AWS Secrets Manager API Reference, UntagResource.
use Rattle.std.specs.Prelude.{ℕ, if◌then◌else◌, List, [], ◌∷◌, Option, Some, None}
use Rattle.sm_base.specs.declared.moment.Moment.{Moment}
use Rattle.sm_base.specs.SecretId.{secret_id}
use Rattle.sm_model.specs.declared.entry.Change.TheVariants as changes
use Rattle.sm_model.specs.declared.reply.Reply.TheVariants as replies
use Rattle.sm_model.specs.declared.request.UntagResource.{UntagResource}
use Rattle.sm_model.specs.declared.rows.Rows.{Rows}
use Rattle.sm_model.specs.declared.rows.SecretRow.{SecretRow}
use Rattle.sm_model.specs.declared.value.Tag.{Tag}
use Rattle.sm_model.specs.declared.why.Why.{Why}
use Rattle.sm_model.specs.Versions.{When}
use Rattle.sm_versions.specs.Texts.{is_among}
use Rattle.sm_table.specs.Found.{found}
use Rattle.sm_judge_common.specs.declared.judged.Judged.{Judged}
use Rattle.sm_judge_common.specs.declared.judged.Judged.TheVariants.{Accept}
use Rattle.sm_judge_common.specs.Changes.{change_named}
use Rattle.sm_judge_common.specs.Refusals.{refusal_at}
use Rattle.sm_judge_common.specs.Secrets.{with_secret, finished_row}

-- ---- the row

-- the tags whose keys are none of these; a key that is not there changes nothing
abbrev pub without_tags : List Tag → List (List ℕ) → List Tag
without_tags [] keys = []
without_tags (tag ∷ tags) keys = if is_among keys tag.key then without_tags tags keys else tag ∷ without_tags tags keys

abbrev pub untagged : List (List ℕ) → SecretRow → SecretRow
untagged keys row = record row { tags = without_tags row.tags keys }

-- ---- the judgement

abbrev pub untag_on : SecretRow → When → List (List ℕ) → Judged
untag_on row when keys =
    Accept replies.UntagResource (Some (changes.Replace (finished_row (untagged keys row) when)))

abbrev pub untag_judgement : Rows → When → UntagResource → Judged
untag_judgement rows when untag =
    with_secret rows when.moment (secret_id untag.secret_id) (λ row. untag_on row when untag.tag_keys)

-- ---- when it is refused, what it does to the rows

-- the secret has to be there and not scheduled for deletion
abbrev pub untag_refusal : Rows → Moment → UntagResource → Option Why
untag_refusal rows moment untag = refusal_at (found rows moment (secret_id untag.secret_id)) (λ row. None)

-- the secret's row without the tags
abbrev pub untag_effect : Rows → When → UntagResource → Rows
untag_effect rows when untag = change_named rows (secret_id untag.secret_id) when (untagged untag.tag_keys)
