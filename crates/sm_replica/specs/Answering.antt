-- What a replica answers to a request: it shows the secrets of its region, and changes nothing.
-- AWS Secrets Manager User Guide: "Replicate AWS Secrets Manager secrets across Regions".
use Rattle.std.specs.Prelude.{ℕ, Bool, false, if◌then◌else◌, List, [], Option, Some, None}
use Rattle.sm_base.specs.SecretId.{secret_id}
use Rattle.sm_base.specs.declared.moment.Moment.{Moment}
use Rattle.sm_access.specs.Admission.{admission}
use Rattle.sm_core.specs.Judging.{judgement_for}
use Rattle.sm_forms.specs.Forms.{forms_of}
use Rattle.sm_judge_common.specs.declared.judged.Judged.{Judged}
use Rattle.sm_judge_common.specs.declared.judged.Judged.TheVariants.{Refuse}
use Rattle.sm_model.specs.declared.person.Person.{Person}
use Rattle.sm_model.specs.declared.request.Request.{Request}
use Rattle.sm_model.specs.declared.request.Request.TheVariants as requests
use Rattle.sm_model.specs.declared.rows.Rows.{Rows}
use Rattle.sm_model.specs.declared.rows.SecretRow.{SecretRow}
use Rattle.sm_model.specs.declared.why.Why.{Why}
use Rattle.sm_model.specs.declared.why.Why.TheVariants as whys
use Rattle.sm_table.specs.Found.{found}
use Rattle.sm_versions.specs.Prune.{pruning}
use Rattle.sm_versions.specs.Texts.{is_among}

-- the secret that a request reads, where it is one that a replica answers
abbrev pub read_by : Request → Option (List ℕ)
read_by (requests.GetSecretValue get) = Some get.secret_id
read_by (requests.DescribeSecret describe) = Some describe.secret_id
read_by _ = None

-- the secret is replicated to the region
abbrev pub is_in : List ℕ → SecretRow → Bool
is_in region row = is_among row.regions region

-- the secret is there, and in the region
abbrev pub is_shown : List ℕ → Option SecretRow → Bool
is_shown region None = false
is_shown region (Some row) = is_in region row

-- a secret that is not shown is none
abbrev pub in_region : List ℕ → Option SecretRow → Judged → Judged
in_region region row next = if is_shown region row then next else Refuse whys.NoSecret

-- a statement that denies, or that none allows, comes before what follows
abbrev pub unless_denied : Option (Option ℕ) → Judged → Judged
unless_denied (Some statement) next = Refuse (whys.Denied statement)
unless_denied None next = next

-- a member that is not in its form comes before what follows
abbrev pub unless_malformed : Option Why → Judged → Judged
unless_malformed (Some why) next = Refuse why
unless_malformed None next = next

-- the forms, then access, then whether the secret is in the region, then the tests on the rows
abbrev pub reading : List ℕ → Rows → Person → Moment → Request → List ℕ → Judged
reading region rows person moment request text =
    unless_malformed (forms_of request)
    (unless_denied (admission rows person moment request)
    (in_region region (found rows moment (secret_id text))
    (judgement_for rows person (pruning moment) [] request)))

-- a request that reads no secret is refused before all else
abbrev pub answer_of : List ℕ → Rows → Person → Moment → Request → Option (List ℕ) → Judged
answer_of region rows person moment request None = Refuse whys.ReadOnly
answer_of region rows person moment request (Some text) = reading region rows person moment request text

abbrev pub answer : List ℕ → Rows → Person → Moment → Request → Judged
answer region rows person moment request = answer_of region rows person moment request (read_by request)
