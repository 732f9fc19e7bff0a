-- ReplicateSecretToRegions: its tests on the rows, its reply, what it changes.
-- AWS Secrets Manager API Reference, ReplicateSecretToRegions. The limit of 20 regions is this project's own.
use Rattle.std.specs.Prelude.{ℕ, Bool, nat_lt, if◌then◌else◌, List, length, Option, Some}
use Rattle.sm_base.specs.declared.limits.TheConstants.{REGIONS_LIMIT}
use Rattle.sm_base.specs.declared.moment.Moment.{Moment}
use Rattle.sm_base.specs.SecretId.{secret_id}
use Rattle.sm_model.specs.declared.entry.Change.TheVariants as changes
use Rattle.sm_model.specs.declared.reply.Reply.TheVariants as replies
use Rattle.sm_model.specs.declared.request.RegionsOfSecret.{RegionsOfSecret}
use Rattle.sm_model.specs.declared.rows.Rows.{Rows}
use Rattle.sm_model.specs.declared.rows.SecretRow.{SecretRow}
use Rattle.sm_model.specs.declared.why.What.TheVariants.{Regions}
use Rattle.sm_model.specs.declared.why.Why.{Why}
use Rattle.sm_model.specs.declared.why.Why.TheVariants.{Limit}
use Rattle.sm_model.specs.Versions.{When}
use Rattle.sm_table.specs.Found.{found}
use Rattle.sm_judge_common.specs.declared.judged.Judged.{Judged}
use Rattle.sm_judge_common.specs.declared.judged.Judged.TheVariants.{Accept, Refuse}
use Rattle.sm_judge_common.specs.Changes.{change_named}
use Rattle.sm_judge_common.specs.Refusals.{refuse_if, refusal_at}
use Rattle.sm_judge_common.specs.Regions.{with_regions}
use Rattle.sm_judge_common.specs.Secrets.{with_secret, finished_row}
use Rattle.sm_judge_labels_and_regions.specs.Regional.{in_regions, replicated_secret}

-- ---- the row

-- the row with the regions that are given behind its own
abbrev pub replicated : List (List ℕ) → SecretRow → SecretRow
replicated regions row = in_regions (with_regions row.regions regions) row

-- ---- the judgement

-- there are more regions than a secret may have
abbrev pub has_too_many_regions : List (List ℕ) → Bool
has_too_many_regions regions = nat_lt REGIONS_LIMIT (length regions)

-- the row with these regions takes the place of the old one, and is shown
abbrev pub replicate_within_limit : SecretRow → When → List (List ℕ) → Judged
replicate_within_limit row when regions =
    let after = finished_row (in_regions regions row) when in
    Accept (replies.ReplicateSecretToRegions (replicated_secret after)) (Some (changes.Replace after))

abbrev pub replicate_on : SecretRow → When → List (List ℕ) → Judged
replicate_on row when regions =
    if has_too_many_regions (with_regions row.regions regions) then Refuse (Limit REGIONS_LIMIT Regions)
    else replicate_within_limit row when (with_regions row.regions regions)

abbrev pub replicate_judgement : Rows → When → RegionsOfSecret → Judged
replicate_judgement rows when replicate =
    with_secret rows when.moment (secret_id replicate.secret_id) (λ row. replicate_on row when replicate.regions)

-- ---- when it is refused, what it does to the rows

-- the secret has at most 20 regions then
abbrev pub replicate_refusal_on : SecretRow → List (List ℕ) → Option Why
replicate_refusal_on row regions =
    refuse_if (has_too_many_regions (with_regions row.regions regions)) (Limit REGIONS_LIMIT Regions)

abbrev pub replicate_refusal : Rows → Moment → RegionsOfSecret → Option Why
replicate_refusal rows moment replicate =
    refusal_at (found rows moment (secret_id replicate.secret_id))
    (λ row. replicate_refusal_on row replicate.regions)

-- the secret's row with the regions
abbrev pub replicate_effect : Rows → When → RegionsOfSecret → Rows
replicate_effect rows when replicate =
    change_named rows (secret_id replicate.secret_id) when (replicated replicate.regions)
