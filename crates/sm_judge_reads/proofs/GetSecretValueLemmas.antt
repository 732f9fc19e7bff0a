-- Judging GetSecretValue: when it is refused, and that it changes nothing.
use Rattle.std.proofs.Common.{◌≡◌, Bool, true, false, cond, Option, Some, None, is_some, is_none, refl}
use Rattle.sm_base.specs.declared.moment.Moment.{Moment}
use Rattle.sm_base.specs.SecretId.{secret_id}
use Rattle.sm_model.specs.declared.entry.Change.{Change}
use Rattle.sm_model.specs.declared.request.GetSecretValue.{GetSecretValue}
use Rattle.sm_model.specs.declared.rows.Rows.{Rows}
use Rattle.sm_model.specs.declared.rows.SecretRow.{SecretRow}
use Rattle.sm_model.specs.declared.value.Value.{Value}
use Rattle.sm_versions.specs.Find.{Lookup, here, nowhere, apart, lookup}
use Rattle.sm_table.specs.Found.{found}
use Rattle.sm_judge_common.specs.declared.judged.Judged.TheVariants.{Accept, Refuse}
use Rattle.sm_judge_common.specs.Judged.{refusal_told, IfAccepted, IfChange}
use Rattle.sm_judge_common.specs.Refusals.{refuse_if, first_refusal}
use Rattle.sm_judge_common.proofs.JudgedLemmas.{on_secret_refusal, on_secret_reads}
use Rattle.sm_judge_common.proofs.ChangeLemmas.{on_secret_change}
use Rattle.sm_model.specs.declared.reply.Reply.{Reply}
use Rattle.sm_model.specs.declared.why.Why.TheVariants.{NoVersion, Differ}
use Rattle.std.specs.Prelude.{[], ◌∷◌}
use Rattle.sm_judge_reads.specs.GetSecretValue.{get_call, get_found, get_on, get_judgement, is_nowhere, is_apart, is_empty, get_refusal_on, get_refusal}

-- ---- refusals

valued_refuses : (value : Option Value) (reply : Reply)
    → refusal_told (cond (is_some value) (Accept reply None) (Refuse NoVersion))
    ≡ Some (first_refusal (refuse_if (is_none value) NoVersion ∷ []))
valued_refuses None reply = refl
valued_refuses (Some value) reply = refl

found_refuses : (row : SecretRow) (version : Lookup)
    → refusal_told (get_found row version)
    ≡ Some (first_refusal (refuse_if (is_nowhere version) NoVersion ∷ refuse_if (is_apart version) Differ
    ∷ refuse_if (is_empty version) NoVersion ∷ []))
found_refuses row (here version) = valued_refuses version.value _
found_refuses row nowhere = refl
found_refuses row apart = refl

pub get_refuses : (rows : Rows) (moment : Moment) (get : GetSecretValue)
    → refusal_told (get_judgement rows moment get) ≡ Some (get_refusal rows moment get)
get_refuses rows moment get =
    on_secret_refusal (found rows moment (secret_id get.secret_id)) (λ row. get_on row (get_call get))
    (λ row. get_refusal_on row (get_call get))
    (λ row. found_refuses row (lookup row get.version_id get.version_stage))

-- ---- it changes nothing

valued_reads : (valued : Bool) (reply : Reply)
    → IfAccepted (cond valued (Accept reply None) (Refuse NoVersion)) (λ change. is_none change ≡ true)
valued_reads true reply = refl
valued_reads false reply = tt

found_reads : (row : SecretRow) (version : Lookup) → IfAccepted (get_found row version)
    (λ change. is_none change ≡ true)
found_reads row (here version) = valued_reads (is_some version.value) _
found_reads row nowhere = tt
found_reads row apart = tt

pub get_reads : (rows : Rows) (moment : Moment) (get : GetSecretValue)
    → IfAccepted (get_judgement rows moment get) (λ change. is_none change ≡ true)
get_reads rows moment get =
    on_secret_reads (found rows moment (secret_id get.secret_id)) (λ row. get_on row (get_call get)) true
    (λ row. found_reads row (lookup row get.version_id get.version_stage))

valued_change : (valued : Bool) (reply : Reply) (P : Change → Type 0)
    → IfChange (cond valued (Accept reply None) (Refuse NoVersion)) P
valued_change true reply P = tt
valued_change false reply P = tt

found_change : (row : SecretRow) (version : Lookup) (P : Change → Type 0) → IfChange (get_found row version) P
found_change row (here version) P = valued_change (is_some version.value) _ P
found_change row nowhere P = tt
found_change row apart P = tt

pub get_change : (rows : Rows) (moment : Moment) (get : GetSecretValue) (P : Change → Type 0)
    → IfChange (get_judgement rows moment get) P
get_change rows moment get P =
    on_secret_change (found rows moment (secret_id get.secret_id)) (λ row. get_on row (get_call get)) P
    (λ row e. found_change row (lookup row get.version_id get.version_stage) P)
