-- Judging DescribeSecret: when it is refused, and that it changes nothing.
use Rattle.std.proofs.Common.{◌≡◌, ◌+◌, true, List, [], ◌∷◌, ◌++◌, Some, is_none, refl, sym, ap, ◌∙◌, append_assoc, arith}
use Rattle.std.proofs.lemmas.List.{append-nil}
use Rattle.sm_base.specs.declared.moment.Moment.{Moment}
use Rattle.sm_base.specs.SecretId.{secret_id}
use Rattle.sm_model.specs.declared.entry.Change.{Change}
use Rattle.sm_model.specs.declared.request.OfSecret.{OfSecret}
use Rattle.sm_model.specs.declared.rows.Rows.{Rows}
use Rattle.sm_model.specs.declared.rows.SecretRow.{SecretRow}
use Rattle.sm_model.specs.declared.rows.VersionRow.{VersionRow}
use Rattle.sm_table.specs.Found.{found}
use Rattle.sm_judge_common.specs.Judged.{refusal_told, IfAccepted, IfChange}
use Rattle.sm_judge_common.specs.LabelsShown.{labels_shown}
use Rattle.sm_judge_common.proofs.JudgedLemmas.{if_there_refusal, if_there_accepts, if_there_change}
use Rattle.sm_judge_reads.specs.DescribeSecret.{with_labels, staged, describe_on, describe_judgement, describe_refusal}

pub describe_refuses : (rows : Rows) (moment : Moment) (describe : OfSecret)
    → refusal_told (describe_judgement rows moment describe) ≡ Some (describe_refusal rows moment describe)
describe_refuses rows moment describe =
    if_there_refusal (found rows moment (secret_id describe.secret_id)) describe_on (λ row. refl)

pub describe_reads : (rows : Rows) (moment : Moment) (describe : OfSecret)
    → IfAccepted (describe_judgement rows moment describe) (λ change. is_none change ≡ true)
describe_reads rows moment describe =
    if_there_accepts (found rows moment (secret_id describe.secret_id)) describe_on (λ change. is_none change ≡ true)
    (λ row. refl)

pub describe_change : (rows : Rows) (moment : Moment) (describe : OfSecret) (P : Change → Type 0)
    → IfChange (describe_judgement rows moment describe) P
describe_change rows moment describe P =
    if_there_change (found rows moment (secret_id describe.secret_id)) describe_on P (λ row e. tt)

-- ---- the versions with a label

staged-append : (row : SecretRow) (vs ws : List VersionRow) → staged row (vs ++ ws) ≡ staged row vs ++ staged row ws
staged-append row [] ws = refl
staged-append row (v ∷ vs) ws =
    ap (λ rest. with_labels v.id (labels_shown row v.id) ++ rest) (staged-append row vs ws)
    ∙ sym (append_assoc (with_labels v.id (labels_shown row v.id)) (staged row vs) (staged row ws))

-- one version more is shown behind the others
pub staged_more : (row : SecretRow) (versions : List VersionRow) (version : VersionRow)
    → staged row (versions ++ version ∷ [])
    ≡ staged row versions ++ with_labels version.id (labels_shown row version.id)
staged_more row versions version =
    rw (staged-append row versions (version ∷ []))
    (ap (λ rest. staged row versions ++ rest) (append-nil (with_labels version.id (labels_shown row version.id))))
