-- Judging BatchGetSecretValue: how each secret is answered, that it is not refused, and that it changes nothing.
use Rattle.std.proofs.Common.{◌≡◌, ℕ, ◌+◌, ◌<◌, Bool, true, false, cond, List, [], ◌∷◌, ◌++◌, length, take, get_or, Option, Some, None, is_none, is_some, Result, Ok, Err, IfOk, refl, sym, ap, subst, ◌∙◌, arith}
use Rattle.std.proofs.lemmas.List.{take_more, append_assoc, append-nil}
use Rattle.sm_base.specs.declared.memory.NoMemory.{NoMemory}
use Rattle.sm_base.specs.declared.moment.Moment.{Moment}
use Rattle.sm_model.specs.declared.entry.Change.{Change}
use Rattle.sm_model.specs.declared.request.BatchGetSecretValue.{BatchGetSecretValue}
use Rattle.sm_model.specs.declared.request.GetSecretValue.{GetSecretValue}
use Rattle.sm_model.specs.declared.rows.Rows.{Rows}
use Rattle.sm_judge_common.specs.Judged.{refusal_told, IfAccepted, IfChange}
use Rattle.sm_model.specs.declared.reply.GotSecret.{GotSecret}
use Rattle.sm_model.specs.declared.reply.Reply.TheVariants as replies
use Rattle.sm_model.specs.declared.rows.SecretRow.{SecretRow}
use Rattle.sm_model.specs.declared.why.Why.{Why}
use Rattle.sm_model.specs.declared.why.Why.TheVariants.{NoVersion}
use Rattle.sm_base.specs.SecretId.{secret_id}
use Rattle.sm_versions.specs.Find.{Lookup, here, nowhere, apart, lookup}
use Rattle.sm_table.specs.Found.{found}
use Rattle.sm_judge_common.specs.declared.judged.Judged.{Judged}
use Rattle.sm_judge_common.specs.declared.judged.Judged.TheVariants.{Accept, Refuse}
use Rattle.sm_judge_common.specs.Secrets.{unless_scheduled, on_secret}
use Rattle.sm_judge_reads.specs.GetSecretValue.{got_secret, get_call, get_found, get_on, get_judgement}
use Rattle.sm_judge_lists_and_passwords.specs.BatchGetSecretValue.{IsAnswer, value_in, error_in, values_of, errors_of, batch_judgement, batch_refusal}

-- ---- a GetSecretValue is answered by a value or refused

valued_answer : (valued : Bool) (got : GotSecret)
    → IsAnswer (cond valued (Accept (replies.GetSecretValue got) None) (Refuse NoVersion))
valued_answer true got = refl
valued_answer false got = tt

found_answer : (row : SecretRow) (version : Lookup) → IsAnswer (get_found row version)
found_answer row (here version) = valued_answer (is_some version.value) (got_secret row version)
found_answer row nowhere = tt
found_answer row apart = tt

unscheduled_answer : (deletion : Option Moment) (judged : Judged) → IsAnswer judged
    → IsAnswer (unless_scheduled deletion judged)
unscheduled_answer None judged answer = answer
unscheduled_answer (Some date) judged answer = tt

on_secret_answer : (found : Option SecretRow) (judge : SecretRow → Judged) → ((row : SecretRow) → IsAnswer (judge row))
    → IsAnswer (on_secret found judge)
on_secret_answer None judge each = tt
on_secret_answer (Some row) judge each = unscheduled_answer row.deletion (judge row) (each row)

got_answer : (rows : Rows) (moment : Moment) (get : GetSecretValue) → IsAnswer (get_judgement rows moment get)
got_answer rows moment get =
    on_secret_answer (found rows moment (secret_id get.secret_id)) (λ row. get_on row (get_call get))
    (λ row. found_answer row (lookup row get.version_id get.version_stage))

pub get_answer : (result : Result Judged NoMemory) (rows : Rows) (moment : Moment) (get : GetSecretValue)
    → IfOk result (λ judged. judged ≡ get_judgement rows moment get) → IfOk result IsAnswer
get_answer (Ok judged) rows moment get same = subst IsAnswer (sym same) (got_answer rows moment get)
get_answer (Err e) rows moment get same = tt

-- ---- one secret more

values-append : (answer : List ℕ → Judged) (ids others : List (List ℕ))
    → values_of answer (ids ++ others) ≡ values_of answer ids ++ values_of answer others
values-append answer [] others = refl
values-append answer (id ∷ ids) others =
    ap (λ rest. value_in (answer id) ++ rest) (values-append answer ids others)
    ∙ sym (append_assoc (value_in (answer id)) (values_of answer ids) (values_of answer others))

errors-append : (answer : List ℕ → Judged) (ids others : List (List ℕ))
    → errors_of answer (ids ++ others) ≡ errors_of answer ids ++ errors_of answer others
errors-append answer [] others = refl
errors-append answer (id ∷ ids) others =
    ap (λ rest. error_in id (answer id) ++ rest) (errors-append answer ids others)
    ∙ sym (append_assoc (error_in id (answer id)) (errors_of answer ids) (errors_of answer others))

more : (ids : List (List ℕ)) (i : ℕ) (id : List ℕ) → i < length ids → id ≡ get_or ids i id
    → take (i + 1) ids ≡ take i ids ++ id ∷ []
more ids i id under is = grind (arith, take_more ids i id under, is)

-- its value stands behind the others
pub values_more : (answer : List ℕ → Judged) (ids : List (List ℕ)) (i : ℕ) (id : List ℕ) (judged : Judged)
    → i < length ids → id ≡ get_or ids i id → judged ≡ answer id
    → values_of answer (take (i + 1) ids) ≡ values_of answer (take i ids) ++ value_in judged
values_more answer ids i id judged under is same =
    ap (values_of answer) (more ids i id under is) ∙ values-append answer (take i ids) (id ∷ [])
    ∙ ap (λ rest. values_of answer (take i ids) ++ rest) (append-nil (value_in (answer id)))
    ∙ ap (λ j. values_of answer (take i ids) ++ value_in j) (sym same)

-- and so does its refusal
pub errors_more : (answer : List ℕ → Judged) (ids : List (List ℕ)) (i : ℕ) (id : List ℕ) (judged : Judged)
    → i < length ids → id ≡ get_or ids i id → judged ≡ answer id
    → errors_of answer (take (i + 1) ids) ≡ errors_of answer (take i ids) ++ error_in id judged
errors_more answer ids i id judged under is same =
    ap (errors_of answer) (more ids i id under is) ∙ errors-append answer (take i ids) (id ∷ [])
    ∙ ap (λ rest. errors_of answer (take i ids) ++ rest) (append-nil (error_in id (answer id)))
    ∙ ap (λ j. errors_of answer (take i ids) ++ error_in id j) (sym same)

-- ---- the batch

pub batch_refuses : (question : List ℕ → Option Why) (rows : Rows) (moment : Moment) (batch : BatchGetSecretValue)
    → refusal_told (batch_judgement question rows moment batch) ≡ Some (batch_refusal rows moment batch)
batch_refuses question rows moment batch = refl

pub batch_reads : (question : List ℕ → Option Why) (rows : Rows) (moment : Moment) (batch : BatchGetSecretValue)
    → IfAccepted (batch_judgement question rows moment batch) (λ change. is_none change ≡ true)
batch_reads question rows moment batch = refl

pub batch_change : (question : List ℕ → Option Why) (rows : Rows) (moment : Moment) (batch : BatchGetSecretValue)
    (P : Change → Type 0) → IfChange (batch_judgement question rows moment batch) P
batch_change question rows moment batch P = tt
