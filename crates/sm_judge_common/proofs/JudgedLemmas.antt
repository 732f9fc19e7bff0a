-- What is said of a judgement, from the judgement of the secret's row.
use Rattle.std.proofs.Common.{◌≡◌, Bool, [], ◌∷◌, Option, Some, None, is_none, refl, sym, subst}
use Rattle.sm_base.specs.declared.moment.Moment.{Moment}
use Rattle.sm_base.specs.Outcomes.{OrMemory}
use Rattle.sm_model.specs.declared.entry.Change.{Change}
use Rattle.sm_model.specs.declared.rows.SecretRow.{SecretRow}
use Rattle.sm_model.specs.declared.why.Why.{Why}
use Rattle.sm_judge_common.specs.declared.judged.Judged.{Judged}
use Rattle.sm_judge_common.specs.declared.judged.Judged.TheVariants.{Accept, Refuse, Memory}
use Rattle.sm_judge_common.specs.Judged.{judged_told, refusal_told, IfAccepted, IfChange}
use Rattle.sm_judge_common.specs.Refusals.{first_refusal, unless_there, scheduled_refusal, refusal_at, repeat_at}
use Rattle.sm_judge_common.specs.Secrets.{IsStanding, standing_refusal, unless_scheduled, on_secret, if_there}

-- ---- what a call answers: the judgement, or out of memory

pub told_same : (judged wanted : Judged) → judged ≡ wanted → OrMemory (judged_told judged) wanted
told_same (Accept reply change) wanted e = e
told_same (Refuse why) wanted e = e
told_same Memory wanted e = tt

pub told_refusal : (judged : Judged) (refusal : Option Why) → refusal_told judged ≡ Some refusal
    → OrMemory (refusal_told judged) refusal
told_refusal judged refusal e = subst (λ o. OrMemory o refusal) (sym e) refl

-- one part of what is asked of a change
pub if_change_then : (judged : Judged) (P Q : Change → Type 0) → ((change : Change) → P change → Q change)
    → IfChange judged P → IfChange judged Q
if_change_then (Accept reply None) P Q f h = tt
if_change_then (Accept reply (Some change)) P Q f h = f change h
if_change_then (Refuse why) P Q f h = tt
if_change_then Memory P Q f h = tt

-- ---- on a secret that is there and not scheduled for deletion

first_alone : (test : Option Why) → test ≡ first_refusal (test ∷ [])
first_alone None = refl
first_alone (Some why) = refl

pub judged_of_standing : (found : Option SecretRow) (row : SecretRow) (judge : SecretRow → Judged)
    → IsStanding found row → judge row ≡ on_secret found judge
judged_of_standing found row judge (there, unscheduled) = rw (there, unscheduled) refl

scheduled_refuses : (deletion : Option Moment) (judged : Judged) (why : Why) → scheduled_refusal deletion ≡ Some why
    → Refuse why ≡ unless_scheduled deletion judged
scheduled_refuses None judged why e = absurd (cc)
scheduled_refuses (Some date) judged why e = cc

pub refused_unless_standing : (found : Option SecretRow) (judge : SecretRow → Judged) (why : Why)
    → standing_refusal found ≡ Some why → Refuse why ≡ on_secret found judge
refused_unless_standing None judge why e = cc
refused_unless_standing (Some row) judge why e = scheduled_refuses row.deletion (judge row) why e

unless_scheduled_refusal : (deletion : Option Moment) (judged : Judged) (test : Option Why) → refusal_told judged
    ≡ Some test
    → refusal_told (unless_scheduled deletion judged) ≡ Some (first_refusal (scheduled_refusal deletion ∷ test ∷ []))
unless_scheduled_refusal None judged test e = subst (λ t. refusal_told judged ≡ Some t) (first_alone test) e
unless_scheduled_refusal (Some date) judged test e = refl

pub on_secret_refusal : (found : Option SecretRow) (judge : SecretRow → Judged) (tests : SecretRow → Option Why)
    → ((row : SecretRow) → refusal_told (judge row) ≡ Some (tests row)) → refusal_told (on_secret found judge)
    ≡ Some (refusal_at found tests)
on_secret_refusal None judge tests each = refl
on_secret_refusal (Some row) judge tests each = unless_scheduled_refusal row.deletion (judge row) (tests row) (each row)

pub unless_scheduled_accepts : (deletion : Option Moment) (judged : Judged) (P : Option Change → Type 0)
    → IfAccepted judged P
    → IfAccepted (unless_scheduled deletion judged) P
unless_scheduled_accepts None judged P h = h
unless_scheduled_accepts (Some date) judged P h = tt

-- nothing is changed exactly where the row shows a repeat
pub on_secret_repeat : (found : Option SecretRow) (judge : SecretRow → Judged) (test : SecretRow → Bool)
    → ((row : SecretRow) → IfAccepted (judge row) (λ change. is_none change ≡ test row))
    → IfAccepted (on_secret found judge) (λ change. is_none change ≡ repeat_at found test)
on_secret_repeat None judge test each = tt
on_secret_repeat (Some row) judge test each =
    unless_scheduled_accepts row.deletion (judge row) (λ change. is_none change ≡ test row) (each row)

-- or always
pub on_secret_reads : (found : Option SecretRow) (judge : SecretRow → Judged) (b : Bool)
    → ((row : SecretRow) → IfAccepted (judge row) (λ change. is_none change ≡ b))
    → IfAccepted (on_secret found judge) (λ change. is_none change ≡ b)
on_secret_reads None judge b each = tt
on_secret_reads (Some row) judge b each = unless_scheduled_accepts row.deletion (judge row)
    (λ change. is_none change ≡ b) (each row)

-- ---- on a secret that is there, scheduled for deletion or not

pub if_there_refusal : (found : Option SecretRow) (judge : SecretRow → Judged)
    → ((row : SecretRow) → refusal_told (judge row) ≡ Some None)
    → refusal_told (if_there found judge) ≡ Some (unless_there found)
if_there_refusal None judge each = refl
if_there_refusal (Some row) judge each = each row

pub if_there_accepts : (found : Option SecretRow) (judge : SecretRow → Judged) (P : Option Change → Type 0)
    → ((row : SecretRow) → IfAccepted (judge row) P) → IfAccepted (if_there found judge) P
if_there_accepts None judge P each = tt
if_there_accepts (Some row) judge P each = each row

pub if_there_change : (found : Option SecretRow) (judge : SecretRow → Judged) (P : Change → Type 0)
    → ((row : SecretRow) → found ≡ Some row → IfChange (judge row) P) → IfChange (if_there found judge) P
if_there_change None judge P each = tt
if_there_change (Some row) judge P each = each row refl
