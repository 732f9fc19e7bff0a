-- RemoveRegionsFromReplication: its tests on the rows, its reply, what it changes.
-- AWS Secrets Manager API Reference, RemoveRegionsFromReplication.
use Rattle.std.specs.Prelude.{ℕ, if◌then◌else◌, List, [], ◌∷◌, Option, Some, None}
use Rattle.sm_base.specs.declared.moment.Moment.{Moment}
use Rattle.sm_base.specs.SecretId.{secret_id}
use Rattle.sm_model.specs.declared.entry.Change.TheVariants as changes
use Rattle.sm_model.specs.declared.reply.Reply.TheVariants as replies
use Rattle.sm_model.specs.declared.request.RegionsOfSecret.{RegionsOfSecret}
use Rattle.sm_model.specs.declared.rows.Rows.{Rows}
use Rattle.sm_model.specs.declared.rows.SecretRow.{SecretRow}
use Rattle.sm_model.specs.declared.why.Why.{Why}
use Rattle.sm_model.specs.Versions.{When}
use Rattle.sm_versions.specs.Texts.{is_among}
use Rattle.sm_table.specs.Found.{found}
use Rattle.sm_judge_common.specs.declared.judged.Judged.{Judged}
use Rattle.sm_judge_common.specs.declared.judged.Judged.TheVariants.{Accept}
use Rattle.sm_judge_common.specs.Changes.{change_named}
use Rattle.sm_judge_common.specs.Refusals.{refusal_at}
use Rattle.sm_judge_common.specs.Secrets.{with_secret, finished_row}
use Rattle.sm_judge_labels_and_regions.specs.Regional.{in_regions, replicated_secret}

-- ---- the row

-- the regions that are none of these; a region that is not there changes nothing
abbrev pub without_regions : List (List ℕ) → List (List ℕ) → List (List ℕ)
without_regions [] gone = []
without_regions (region ∷ regions) gone =
    if is_among gone region then without_regions regions gone else region ∷ without_regions regions gone

abbrev pub unreplicated : List (List ℕ) → SecretRow → SecretRow
unreplicated gone row = in_regions (without_regions row.regions gone) row

-- ---- the judgement

-- the row without the regions takes the place of the old one, and is shown
abbrev pub remove_on : SecretRow → When → List (List ℕ) → Judged
remove_on row when gone =
    let after = finished_row (unreplicated gone row) when in
    Accept (replies.RemoveRegionsFromReplication (replicated_secret after)) (Some (changes.Replace after))

abbrev pub remove_judgement : Rows → When → RegionsOfSecret → Judged
remove_judgement rows when remove =
    with_secret rows when.moment (secret_id remove.secret_id) (λ row. remove_on row when remove.regions)

-- ---- when it is refused, what it does to the rows

-- the secret has to be there and not scheduled for deletion; a secret with fewer regions has few enough
abbrev pub remove_refusal : Rows → Moment → RegionsOfSecret → Option Why
remove_refusal rows moment remove = refusal_at (found rows moment (secret_id remove.secret_id)) (λ row. None)

-- the secret's row without the regions
abbrev pub remove_effect : Rows → When → RegionsOfSecret → Rows
remove_effect rows when remove =
    change_named rows (secret_id remove.secret_id) when (unreplicated remove.regions)
