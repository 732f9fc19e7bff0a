-- An entry that is judged again: it is accepted exactly where it is legal, and its change is the entry's.
use Rattle.std.proofs.Common.{◌≡◌, ℕ, ◌≤◌, Bool, true, false, cond, nat_eq, List, [], length, Option, Some, None, IsSome, refl, sym, subst, arith, IsTrue}
use Rattle.std.proofs.lemmas.Bool.Decides.{nat_tests}
use Rattle.sm_base.specs.declared.moment.TheConstants.{LAST_READING}
use Rattle.sm_base.specs.Outcomes.{OrMemory}
use Rattle.sm_model.specs.declared.entry.Act.{Act}
use Rattle.sm_model.specs.declared.entry.Act.TheVariants.{Asked, Begun, Reported}
use Rattle.sm_model.specs.declared.entry.Change.{Change}
use Rattle.sm_model.specs.declared.entry.Entry.{Entry}
use Rattle.sm_model.specs.declared.request.Request.{Request}
use Rattle.sm_model.specs.declared.request.Request.TheVariants as requests
use Rattle.sm_model.specs.declared.rows.Rows.{Rows}
use Rattle.sm_model.specs.declared.why.Why.{Why}
use Rattle.sm_model.specs.Needed.{needed}
use Rattle.sm_model.specs.Versions.{When}
use Rattle.sm_table.specs.Sound.{Sound}
use Rattle.sm_table.specs.Sweep.{sweep}
use Rattle.sm_forms.specs.Forms.{forms_of}
use Rattle.sm_judge_common.specs.declared.judged.Judged.{Judged}
use Rattle.sm_judge_common.specs.declared.judged.Judged.TheVariants as judged
use Rattle.sm_judge_common.specs.Changes.{settled, IsChange}
use Rattle.sm_judge_common.specs.Judged.{IfChange}
use Rattle.sm_judge_lists_and_passwords.specs.BatchGetSecretValue.{no_question}
use Rattle.sm_judge_rotations.specs.Reported.{reported_change, MayReport}
use Rattle.sm_judge_rotations.proofs.ActLemmas.{Agrees, with_bytes}
use Rattle.sm_judge_rotations.proofs.BegunLemmas.{begun_agrees}
use Rattle.sm_judge_rotations.proofs.ReportedLemmas.{reported_agrees}
use Rattle.sm_core.specs.declared.replaying.Replayed.{Replayed}
use Rattle.sm_core.specs.declared.replaying.Replayed.TheVariants.{Accept, Refuse, Memory}
use Rattle.sm_core.specs.Effects.{when_of, act_effect, effect}
use Rattle.sm_core.specs.Histories.{IsDue, MayBeAsked, LegalAct, LegalEntry, may_stand}
use Rattle.sm_core.specs.Judging.{judgement, is_batch, is_of_nobody}
use Rattle.sm_core.specs.Replaying.{again_told, IfReplayed, AsLegal, change_of, change_asked, change_unless, replayed_act, replayed}
use Rattle.sm_core.proofs.JudgingLemmas.{is_kept_date, change_is_entry}
use Rattle.sm_core.proofs.NobodyLemmas.{nobody_agrees, nobody_changes}

-- the change of what is judged
judged_agrees : (judged : Judged) (P : Change → Type 0) → IfChange judged P → Agrees (IsDue judged) P (change_of judged)
judged_agrees (judged.Accept reply None) P h = λ due. absurd (let f : IsSome {T = Change} None = due in cc)
judged_agrees (judged.Accept reply (Some change)) P h = (refl, h)
judged_agrees (judged.Refuse why) P h = λ due. due
judged_agrees judged.Memory P h = λ due. due

request_agrees : (n m : ℕ) (enough : Bool) (forms : Option Why) (L : Type 0) (P : Change → Type 0)
    (change : Option Change)
    → nat_eq n m ≡ enough → (n ≡ m → forms ≡ None → Agrees L P change)
    → Agrees ((n ≡ m) × (forms ≡ None) × L) P (cond enough (change_unless forms change) None)
request_agrees n m true None L P None e h = λ legal. h legal.0 refl legal.2
request_agrees n m true None L P (Some change) e h =
    let same : n ≡ m = grind (arith, nat_tests, e) in let k = h same refl in ((same, refl, k.0), k.1)
request_agrees n m true (Some why) L P change e h = λ legal. absurd (let f : Some why ≡ None = legal.1 in cc)
request_agrees n m false forms L P change e h = λ legal. absurd (grind (arith, nat_tests, e, legal.0))

-- there is a change exactly where the act is legal, and it is the entry's
pub act_agrees : (rows : Rows) (when : When) (drawn : List ℕ) (act : Act) → Sound rows → when.moment.0 ≤ LAST_READING
    → Agrees (LegalAct rows when drawn act) (IsChange rows when.moment
    (settled (act_effect (sweep rows when.moment) when drawn act)))
    (replayed_act rows when drawn act)
act_agrees rows when drawn (Asked request) sound early =
    request_agrees (length drawn) (needed request) (nat_eq (length drawn) (needed request)) (forms_of request)
    (MayBeAsked rows when drawn request) _ (change_asked rows when drawn request) refl
    (λ room forms. nobody_agrees (is_of_nobody rows when.moment request) (IsDue (judgement rows when drawn request)) _
    (change_of (judgement rows when drawn request))
    (judged_agrees (judgement rows when drawn request) _
    (change_is_entry no_question rows when [] drawn request sound early forms room))
    (nobody_changes rows when drawn request sound))
act_agrees rows when drawn (Begun arn) sound early =
    begun_agrees rows when drawn arn sound early (is_kept_date when.moment early)
act_agrees rows when drawn (Reported arn at answer) sound early =
    with_bytes (length drawn) 0 (nat_eq (length drawn) 0) (MayReport rows when.moment arn at) _
    (reported_change rows when arn at answer) refl
    (reported_agrees rows when arn at answer sound early (is_kept_date when.moment early))

-- and only where it may be by who stands with it
guard_agrees : (may : Bool) (L : Type 0) (P : Change → Type 0) (change : Option Change) → Agrees L P change
    → Agrees (IsTrue may × L) P (cond may change None)
guard_agrees true L P None h = λ legal. h legal.1
guard_agrees true L P (Some change) h = ((refl, h.0), h.1)
guard_agrees false L P change h = λ legal. absurd (let f : false ≡ true = legal.0 in cc)

-- all that is said of an entry that is judged again
pub record IsReplayed (rows : Rows) (entry : Entry) (result : Replayed) : Type 0 where
  pub legal : AsLegal result (LegalEntry rows entry)
  pub change : IfReplayed result (IsChange rows entry.moment (effect rows entry))

by_change : (rows : Rows) (entry : Entry) (result : Replayed) (change : Option Change)
    → OrMemory (again_told result) change
    → Agrees (LegalEntry rows entry) (IsChange rows entry.moment (effect rows entry)) change
    → IsReplayed rows entry result
by_change rows entry (Accept made) change e agrees =
    let is = subst (Agrees (LegalEntry rows entry)
    (IsChange rows entry.moment (effect rows entry))) (sym e) agrees in
    record { legal = is.0; change = is.1 }
by_change rows entry Refuse change e agrees =
    record {
      legal = subst (Agrees (LegalEntry rows entry)
          (IsChange rows entry.moment (effect rows entry))) (sym e) agrees;
      change = tt;
    }
by_change rows entry Memory change e agrees = record { legal = tt; change = tt }

pub replays : (rows : Rows) (entry : Entry) (result : Replayed) → Sound rows → entry.moment.0 ≤ LAST_READING
    → OrMemory (again_told result) (replayed rows entry) → IsReplayed rows entry result
replays rows entry result sound early e =
    by_change rows entry result (replayed rows entry) e
    (guard_agrees (may_stand entry) (LegalAct rows (when_of entry) entry.drawn entry.act)
    (IsChange rows entry.moment (effect rows entry)) (replayed_act rows (when_of entry) entry.drawn entry.act)
    (act_agrees rows (when_of entry) entry.drawn entry.act sound early))

-- a batch makes no entry
pub batch_unchanged : (rows : Rows) (when : When) (drawn : List ℕ) (request : Request) → is_batch request ≡ true
    → None ≡ change_asked rows when drawn request
batch_unchanged rows when drawn (requests.BatchGetSecretValue batch) is = refl
batch_unchanged rows when drawn request is = absurd (cc)

-- one part of what is asked of a change
pub if_replayed_then : (result : Replayed) (P Q : Change → Type 0) → ((change : Change) → P change → Q change)
    → IfReplayed result P → IfReplayed result Q
if_replayed_then (Accept change) P Q f h = f change h
if_replayed_then Refuse P Q f h = tt
if_replayed_then Memory P Q f h = tt
