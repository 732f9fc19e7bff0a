-- The forced deletion of a secret that is not there: it may stand in a history, and changes nothing.
use Rattle.std.proofs.Common.{◌≡◌, ◌⊎◌, inl, inr, ℕ, Bool, true, false, ◌&&◌, cond, List, [], ◌∷◌, map, Option, Some, None, is_none, IsTrue, refl, sym, ap, subst, ◌∙◌}
use Rattle.std.proofs.lemmas.Bool.{false≢true}
use Rattle.sm_base.specs.declared.moment.Moment.{Moment}
use Rattle.sm_base.specs.declared.secret_id.SecretId.{SecretId}
use Rattle.sm_base.specs.SecretId.{secret_id}
use Rattle.sm_model.specs.declared.entry.Change.{Change}
use Rattle.sm_model.specs.declared.entry.Change.TheVariants.{Nothing}
use Rattle.sm_model.specs.declared.reply.Reply.{Reply}
use Rattle.sm_model.specs.declared.request.DeleteSecret.{DeleteSecret}
use Rattle.sm_model.specs.declared.request.Request.{Request}
use Rattle.sm_model.specs.declared.request.Request.TheVariants as requests
use Rattle.sm_model.specs.declared.rows.Rows.{Rows}
use Rattle.sm_model.specs.declared.rows.SecretRow.{SecretRow}
use Rattle.sm_model.specs.Versions.{When}
use Rattle.sm_versions.specs.Settle.{settle}
use Rattle.sm_versions.proofs.KeptLaws.{settle_stays}
use Rattle.sm_dates.specs.Days.{days_after}
use Rattle.sm_table.specs.Found.{found}
use Rattle.sm_table.specs.Sound.{EachSound, Sound}
use Rattle.sm_table.specs.Sweep.{swept, sweep}
use Rattle.sm_table.proofs.SoundLaws.{sweep_sound}
use Rattle.sm_judge_common.specs.declared.judged.Judged.{Judged}
use Rattle.sm_judge_common.specs.declared.judged.Judged.TheVariants.{Accept, Refuse, Memory}
use Rattle.sm_judge_common.specs.Changes.{change_named, settled, IsChange}
use Rattle.sm_judge_common.specs.Secrets.{unless_scheduled}
use Rattle.sm_judge_rotations.proofs.ActLemmas.{Agrees}
use Rattle.sm_judge_deletion_and_tags.specs.declared.delete_secret.Deletion.TheVariants.{Forced, After}
use Rattle.sm_judge_deletion_and_tags.specs.DeleteSecret.{window_days, scheduled_at, delete_found, without_row, drop_named}
use Rattle.sm_core.specs.Effects.{request_effect}
use Rattle.sm_core.specs.Judging.{judgement, is_of_nobody}
use Rattle.sm_core.specs.Replaying.{change_of, change_asked, change_kept, is_deletion}

-- ---- what may be asked

-- what is not of nobody is due
pub due_of : (L : Type 0) → L ⊎ IsTrue false → L
due_of L (inl due) = due
due_of L (inr nobody) = absurd (false≢true nobody)

-- an entry is legal where it is due or of nobody, and then changes nothing
pub nobody_agrees : (nobody : Bool) (L : Type 0) (P : Change → Type 0) (change : Option Change) → Agrees L P change
    → (nobody ≡ true → P Nothing) → Agrees (L ⊎ IsTrue nobody) P (cond nobody (Some Nothing) change)
nobody_agrees true L P change agrees nothing = (inr refl, nothing refl)
nobody_agrees false L P None agrees nothing = λ legal. agrees (due_of L legal)
nobody_agrees false L P (Some change) agrees nothing = (inl agrees.0, agrees.1)

-- ---- the change that is judged

kept_change : (judged : Judged) → change_kept false judged ≡ change_of judged
kept_change (Accept reply None) = refl
kept_change (Accept reply (Some change)) = refl
kept_change (Refuse why) = refl
kept_change Memory = refl

later_kept : (deletion : Option Moment) (reply : Reply) (change : Change)
    → change_kept true (unless_scheduled deletion (Accept reply (Some change)))
    ≡ change_of (unless_scheduled deletion (Accept reply (Some change)))
later_kept None reply change = refl
later_kept (Some date) reply change = refl

-- a deletion is accepted without a change exactly where it is forced and nobody is found
deletion_kept : (force : Bool) (days : ℕ) (when : When) (given : List ℕ) (row : Option SecretRow)
    → change_kept true (delete_found row when (cond force Forced (After days)) given)
    ≡ cond (force && is_none row) (Some Nothing)
    (change_of (delete_found row when (cond force Forced (After days)) given))
deletion_kept true days when given None = refl
deletion_kept true days when given (Some row) = refl
deletion_kept false days when given None = refl
deletion_kept false days when given (Some row) = later_kept row.deletion _ _

pub kept_is_asked : (rows : Rows) (when : When) (drawn : List ℕ) (request : Request)
    → change_kept (is_deletion request) (judgement rows when drawn request)
    ≡ change_asked rows when drawn request
kept_is_asked rows when drawn (requests.DeleteSecret delete) =
    deletion_kept delete.force_delete_without_recovery (window_days delete.recovery_window_in_days) when
    delete.secret_id (found rows when.moment (secret_id delete.secret_id))
kept_is_asked rows when drawn request = kept_change (judgement rows when drawn request)

-- ---- the rows

map_settle : (rows : List SecretRow) → EachSound rows → rows ≡ map settle rows
map_settle [] each = refl
map_settle (r ∷ rs) each =
    ap (λ q. q ∷ rs) (sym (settle_stays r each.0.kept)) ∙ ap (λ qs. settle r ∷ qs) (map_settle rs each.1)

-- the rows that are swept are all that is left
swept_is_change : (rows : Rows) (moment : Moment) → Sound rows
    → IsChange rows moment (settled (sweep rows moment)) Nothing
swept_is_change rows moment sound = record {
  makes = ap (λ (secrets : List SecretRow). record (sweep rows moment) { secrets = secrets })
      (map_settle (swept rows.secrets moment) (sweep_sound rows moment sound).each);
  can = tt;
  stands = tt;
  sound = tt;
}

nobody_dropped : (force : Bool) (rows : Rows) (moment : Moment) (id : SecretId) (later : Rows) (row : Option SecretRow)
    → Sound rows → found rows moment id ≡ row → (force && is_none row) ≡ true
    → IsChange rows moment (settled (cond force (drop_named (sweep rows moment) id) later)) Nothing
nobody_dropped true rows moment id later None sound e h =
    subst (λ (o : Option SecretRow). IsChange rows moment
    (settled (record (sweep rows moment) { secrets = without_row (swept rows.secrets moment) o })) Nothing)
    (sym e) (swept_is_change rows moment sound)
nobody_dropped true rows moment id later (Some row) sound e h = absurd (false≢true h)
nobody_dropped false rows moment id later row sound e h = absurd (false≢true h)

-- the forced deletion of a secret that is not there changes nothing
pub nobody_changes : (rows : Rows) (when : When) (drawn : List ℕ) (request : Request) → Sound rows
    → is_of_nobody rows when.moment request ≡ true
    → IsChange rows when.moment (settled (request_effect (sweep rows when.moment) when drawn request)) Nothing
nobody_changes rows when drawn (requests.DeleteSecret delete) sound h =
    let id : SecretId = secret_id delete.secret_id in
    nobody_dropped delete.force_delete_without_recovery rows when.moment id
    (change_named (sweep rows when.moment) id when
    (scheduled_at (days_after when.moment (window_days delete.recovery_window_in_days))))
    (found rows when.moment id) sound refl h
nobody_changes rows when drawn request sound h = absurd (false≢true h)
