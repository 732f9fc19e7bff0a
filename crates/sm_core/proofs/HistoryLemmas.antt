-- What holds of the rows after each entry of a legal history.
use Rattle.std.proofs.Common.{ℕ, ◌≤◌, List, [], ◌∷◌, Option, Some, None, subst}
use Rattle.sm_base.specs.declared.moment.Moment.{Moment}
use Rattle.sm_base.specs.declared.moment.TheConstants.{LAST_READING}
use Rattle.sm_model.specs.declared.entry.Act.{Act}
use Rattle.sm_model.specs.declared.entry.Change.{Change}
use Rattle.sm_model.specs.declared.entry.Entry.{Entry}
use Rattle.sm_model.specs.declared.rows.Rows.{Rows}
use Rattle.sm_model.specs.Versions.{When}
use Rattle.sm_table.specs.Sound.{Sound}
use Rattle.sm_table.specs.Sweep.{sweep}
use Rattle.sm_table.proofs.SoundLaws.{commit_sound}
use Rattle.sm_judge_common.specs.Changes.{settled, IsChange}
use Rattle.sm_judge_rotations.proofs.ActLemmas.{Agrees}
use Rattle.sm_core.specs.Effects.{when_of, act_effect, effect}
use Rattle.sm_core.specs.Histories.{replay, LegalAct, Legal, InTime}
use Rattle.sm_core.specs.Replaying.{replayed_act}
use Rattle.sm_core.proofs.ReplayLemmas.{act_agrees}

-- the change of a legal act leaves sound rows
agreed_keeps : (rows after : Rows) (moment : Moment) (L : Type 0) (change : Option Change) → Sound rows
    → Agrees L (IsChange rows moment after) change → L → Sound after
agreed_keeps rows after moment L None sound agrees legal = absurd (agrees legal)
agreed_keeps rows after moment L (Some change) sound agrees legal =
    let is = agrees.1 in
    subst Sound is.makes (commit_sound rows moment change is.can is.stands sound is.sound)

pub act_keeps : (rows : Rows) (when : When) (drawn : List ℕ) (act : Act) → Sound rows → when.moment.0 ≤ LAST_READING
    → LegalAct rows when drawn act → Sound (settled (act_effect (sweep rows when.moment) when drawn act))
act_keeps rows when drawn act sound early legal =
    agreed_keeps rows (settled (act_effect (sweep rows when.moment) when drawn act)) when.moment
    (LegalAct rows when drawn act) (replayed_act rows when drawn act) sound
    (act_agrees rows when drawn act sound early) legal

-- a legal entry leaves the rows sound, and so does a legal history
pub legal_keeps : (rows : Rows) → (before : Moment) → (entries : List Entry) → Sound rows → Legal rows before entries
    → InTime entries
    → Sound (replay rows entries)
legal_keeps rows before [] sound legal early = sound
legal_keeps rows before (entry ∷ entries) sound legal early =
    legal_keeps (effect rows entry) entry.moment entries
    (act_keeps rows (when_of entry) entry.drawn entry.act sound early.0 legal.1.1) legal.2 early.1
