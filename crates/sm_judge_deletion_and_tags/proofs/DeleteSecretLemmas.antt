-- Judging DeleteSecret: when it is refused, when it changes nothing, and what it changes.
use Rattle.std.proofs.Common.{◌≡◌, ℕ, ◌≤◌, ℤ, pos, negsuc, Bool, true, false, ◌&&◌, cond, eqb, List, [], ◌∷◌, map, Option, Some, None, is_none, IfSome, IsSome, IsTrue, refl, sym, ap, subst, ◌∙◌, arith}
use Rattle.std.proofs.lemmas.Bool.Decides.{nat_tests}
use Rattle.sm_base.specs.declared.moment.Moment.{Moment}
use Rattle.sm_base.specs.declared.moment.TheConstants.{LAST_READING}
use Rattle.sm_base.specs.declared.secret_id.SecretId.{SecretId}
use Rattle.sm_base.specs.SecretId.{secret_id}
use Rattle.sm_model.specs.declared.entry.Change.{Change}
use Rattle.sm_model.specs.declared.entry.Change.TheVariants as changes
use Rattle.sm_model.specs.declared.reply.Reply.{Reply}
use Rattle.sm_model.specs.declared.request.DeleteSecret.{DeleteSecret}
use Rattle.sm_model.specs.declared.rows.Rows.{Rows}
use Rattle.sm_model.specs.declared.rows.SecretRow.{SecretRow}
use Rattle.sm_model.specs.Bounds.{is_date}
use Rattle.sm_base.specs.declared.limits.TheConstants.{LONGEST_WINDOW}
use Rattle.sm_model.specs.Versions.{When}
use Rattle.sm_forms.specs.DeleteSecret.{is_window, delete_forms}
use Rattle.sm_forms.proofs.DeleteSecretLemmas.{delete_window}
use Rattle.sm_dates.specs.Days.{days_after}
use Rattle.sm_versions.specs.Settle.{settle}
use Rattle.sm_versions.specs.Sound.{UnsettledSound}
use Rattle.sm_versions.proofs.KeptLaws.{settle_stays}
use Rattle.sm_table.specs.Sweep.{swept, sweep}
use Rattle.sm_table.specs.Found.{found}
use Rattle.sm_table.specs.Changes.{row_with, dropped}
use Rattle.sm_table.specs.Kept.{IsRowOf}
use Rattle.sm_table.specs.Sound.{EachSound, Sound}
use Rattle.sm_table.proofs.FoundLaws.{found_is_row}
use Rattle.sm_table.proofs.SoundLaws.{sound_rows_kept, sweep_sound}
use Rattle.sm_judge_common.specs.Changes.{change_named, settled, IsChange}
use Rattle.sm_judge_common.specs.Judged.{refusal_told, IfAccepted, IfChange}
use Rattle.sm_judge_common.specs.declared.judged.Judged.TheVariants.{Accept}
use Rattle.sm_judge_common.specs.Refusals.{first_refusal, scheduled_refusal, refusal_at}
use Rattle.sm_judge_common.specs.Secrets.{unless_scheduled}
use Rattle.sm_judge_common.proofs.JudgedLemmas.{unless_scheduled_accepts}
use Rattle.sm_judge_common.proofs.ChangeLemmas.{unless_scheduled_change, found_change_beside}
use Rattle.sm_judge_deletion_and_tags.specs.declared.delete_secret.DeleteCall.{DeleteCall}
use Rattle.sm_judge_deletion_and_tags.specs.declared.delete_secret.Deletion.TheVariants.{Forced, After}
use Rattle.sm_judge_deletion_and_tags.specs.DeleteSecret.{window_days, HasEnd, delete_call, scheduled_at, delete_later, delete_found, delete_judgement, delete_refusal, deletes_nobody, without_row, drop_named, delete_effect}
use Rattle.sm_judge_deletion_and_tags.proofs.RevisedLemmas.{tags_of, revised_sound}

-- ---- the window

window_short : (window : Option ℤ) → IfSome window (λ days. IsTrue (is_window days))
    → window_days window ≤ LONGEST_WINDOW
window_short None h = omega arith
window_short (Some (pos days)) h = grind (arith, nat_tests, h)
window_short (Some (negsuc n)) h = absurd (let f : false ≡ true = h in cc)

has_end : (force : Bool) (days : ℕ) → days ≤ LONGEST_WINDOW → HasEnd (cond force Forced (After days))
has_end true days h = tt
has_end false days h = h

-- the window of a DeleteSecret whose forms pass
pub call_has_end : (call : DeleteCall) (delete : DeleteSecret) → call ≡ delete_call delete → delete_forms delete ≡ None
    → HasEnd call.deletion
call_has_end call delete e forms =
    subst (λ (c : DeleteCall). HasEnd c.deletion) (sym e)
    (has_end delete.force_delete_without_recovery (window_days delete.recovery_window_in_days)
    (window_short delete.recovery_window_in_days (delete_window delete forms)))

-- ---- refusals

later_refuses : (deletion : Option Moment) (reply : Reply) (change : Change)
    → refusal_told (unless_scheduled deletion (Accept reply (Some change)))
    ≡ Some (first_refusal (scheduled_refusal deletion ∷ None ∷ []))
later_refuses None reply change = refl
later_refuses (Some date) reply change = refl

found_refuses : (force : Bool) (days : ℕ) (when : When) (given : List ℕ) (row : Option SecretRow)
    → refusal_told (delete_found row when (cond force Forced (After days)) given)
    ≡ Some (cond force None (refusal_at row (λ _. None)))
found_refuses true days when given None = refl
found_refuses true days when given (Some row) = refl
found_refuses false days when given None = refl
found_refuses false days when given (Some row) = later_refuses row.deletion _ _

pub delete_refuses : (rows : Rows) (when : When) (delete : DeleteSecret)
    → refusal_told (delete_judgement rows when delete) ≡ Some (delete_refusal rows when.moment delete)
delete_refuses rows when delete =
    found_refuses delete.force_delete_without_recovery (window_days delete.recovery_window_in_days) when
    delete.secret_id (found rows when.moment (secret_id delete.secret_id))

-- ---- when it changes nothing

found_unchanged : (force : Bool) (days : ℕ) (when : When) (given : List ℕ) (row : Option SecretRow)
    → IfAccepted (delete_found row when (cond force Forced (After days)) given)
    (λ change. is_none change ≡ (force && is_none row))
found_unchanged true days when given None = refl
found_unchanged true days when given (Some row) = refl
found_unchanged false days when given None = tt
found_unchanged false days when given (Some row) =
    unless_scheduled_accepts row.deletion (delete_later row when days) (λ change. is_none change ≡ false) refl

-- nothing is changed exactly where nobody is deleted
pub delete_changes : (rows : Rows) (when : When) (delete : DeleteSecret)
    → IfAccepted (delete_judgement rows when delete)
    (λ change. is_none change ≡ deletes_nobody rows when.moment delete)
delete_changes rows when delete =
    found_unchanged delete.force_delete_without_recovery (window_days delete.recovery_window_in_days) when
    delete.secret_id (found rows when.moment (secret_id delete.secret_id))

-- ---- the row that is scheduled

kept_moment : (moment : Moment) → moment.0 ≤ LAST_READING → IsTrue (is_date moment)
kept_moment moment early = grind (arith, nat_tests, early)

-- the end of a window is a date that a secret may keep
end_is_date : (moment : Moment) (days : ℕ) → moment.0 ≤ LAST_READING → days ≤ LONGEST_WINDOW
    → IsTrue (is_date (days_after moment days))
end_is_date moment days early short = grind (arith, nat_tests, early, short)

scheduled_sound : (date : Moment) (row : SecretRow) → IsTrue (is_date date) → UnsettledSound row
    → UnsettledSound (scheduled_at date row)
scheduled_sound date row is sound = revised_sound (Some date) row.tags row is (tags_of row sound) sound

-- ---- the row that is dropped

-- settling leaves the rows that are left
map_settle_dropped : (rows : List SecretRow) (serial : ℕ) → EachSound rows
    → dropped rows serial ≡ map settle (dropped rows serial)
map_settle_dropped [] serial each = refl
map_settle_dropped (r ∷ rs) serial each = by (eqb r.serial serial) (map_settle_dropped rs serial each.1)
  where
    by : (b : Bool) → dropped rs serial ≡ map settle (dropped rs serial)
        → cond b (dropped rs serial) (r ∷ dropped rs serial)
        ≡ map settle (cond b (dropped rs serial) (r ∷ dropped rs serial))
    by true e = e
    by false e = ap (λ q. q ∷ dropped rs serial) (sym (settle_stays r each.0.kept)) ∙ ap (λ qs. settle r ∷ qs) e

is_there : (o : Option SecretRow) (row : SecretRow) → o ≡ Some row → IsSome o
is_there o row e = subst (λ (o : Option SecretRow). IsSome o) (sym e) refl

drop_is_change : (rows : Rows) (moment : Moment) (row : SecretRow) → Sound rows → IsRowOf rows moment row
    → IsChange rows moment (settled (record (sweep rows moment)
    { secrets = dropped (swept rows.secrets moment) row.serial })) (changes.Drop row.serial)
drop_is_change rows moment row sound is = record {
  makes = ap (λ (secrets : List SecretRow). record (sweep rows moment) { secrets = secrets })
      (map_settle_dropped (swept rows.secrets moment) row.serial (sweep_sound rows moment sound).each);
  can = is_there (row_with rows.secrets row.serial) row is.there;
  stands = is_there (row_with (swept rows.secrets moment) row.serial) row is.stands;
  sound = tt;
}

dropped_change : (rows : Rows) (moment : Moment) (id : SecretId) (row : SecretRow) → Sound rows
    → found rows moment id ≡ Some row
    → IsChange rows moment (settled (drop_named (sweep rows moment) id)) (changes.Drop row.serial)
dropped_change rows moment id row sound e =
    subst (λ (o : Option SecretRow). IsChange rows moment
    (settled (record (sweep rows moment) { secrets = without_row (swept rows.secrets moment) o }))
    (changes.Drop row.serial))
    (sym e)
    (drop_is_change rows moment row sound (found_is_row rows moment id row (sound_rows_kept rows sound) e))

-- ---- the change

later_change : (rows : Rows) (when : When) (id : SecretId) (days : ℕ) (row : SecretRow) → Sound rows
    → when.moment.0 ≤ LAST_READING → days ≤ LONGEST_WINDOW → found rows when.moment id ≡ Some row
    → IfChange (delete_later row when days) (IsChange rows when.moment
    (settled (change_named (sweep rows when.moment) id when (scheduled_at (days_after when.moment days)))))
later_change rows when id days row sound early short e =
    found_change_beside rows when id (scheduled_at (days_after when.moment days)) row sound
    (kept_moment when.moment early) e
    (record { serial = refl; name = refl; arn = refl; versions = refl })
    (scheduled_sound (days_after when.moment days) row (end_is_date when.moment days early short))

-- the rows of the entry, by whether the deletion is forced
abbrev effect_of : Bool → ℕ → Rows → When → SecretId → Rows
effect_of force days rows when id =
    cond force (drop_named rows id) (change_named rows id when (scheduled_at (days_after when.moment days)))

by_found : (force : Bool) (days : ℕ) (rows : Rows) (when : When) (id : SecretId) (given : List ℕ)
    (row : Option SecretRow) → Sound rows → when.moment.0 ≤ LAST_READING → days ≤ LONGEST_WINDOW
    → found rows when.moment id ≡ row
    → IfChange (delete_found row when (cond force Forced (After days)) given)
    (IsChange rows when.moment (settled (effect_of force days (sweep rows when.moment) when id)))
by_found true days rows when id given None sound early short e = tt
by_found true days rows when id given (Some row) sound early short e = dropped_change rows when.moment id row sound e
by_found false days rows when id given None sound early short e = tt
by_found false days rows when id given (Some row) sound early short e =
    unless_scheduled_change row.deletion (delete_later row when days) _
    (later_change rows when id days row sound early short e)

-- a change is the entry's
pub delete_change : (rows : Rows) (when : When) (delete : DeleteSecret) → Sound rows → when.moment.0 ≤ LAST_READING
    → delete_forms delete ≡ None
    → IfChange (delete_judgement rows when delete) (IsChange rows when.moment
    (settled (delete_effect (sweep rows when.moment) when delete)))
delete_change rows when delete sound early forms =
    by_found delete.force_delete_without_recovery (window_days delete.recovery_window_in_days) rows when
    (secret_id delete.secret_id) delete.secret_id (found rows when.moment (secret_id delete.secret_id)) sound early
    (window_short delete.recovery_window_in_days (delete_window delete forms)) refl
