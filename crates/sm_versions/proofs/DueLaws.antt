-- A due rotation, by the date at which it comes due.
use Rattle.std.proofs.Common.{◌≡◌, Bool, true, false, not, ◌&&◌, cond, Option, None, is_none, is_some, refl}
use Rattle.sm_base.specs.declared.moment.Moment.{Moment}
use Rattle.sm_model.specs.declared.rows.SecretRow.{SecretRow}
use Rattle.sm_model.specs.Due.{is_reached, is_free_or_held_by, is_due_when}
use Rattle.sm_model.specs.Labels.{aws_current, aws_pending, holder}
use Rattle.sm_model.specs.Versions.{When, is_full_when}
use Rattle.sm_versions.specs.Due.{due_date}

parts : (on stands held free room : Bool) (next : Option Moment) (moment : Moment)
    → (on && is_reached next moment && stands && held && free && room)
    ≡ (is_reached (cond (on && stands && held && free) next None) moment && room)
parts false stands held free room next moment = refl
parts true stands held free room next moment = by (is_reached next moment) refl stands held free
  where
    by : (r : Bool) → r ≡ is_reached next moment → (stands held free : Bool)
        → (r && stands && held && free && room)
        ≡ (is_reached (cond (stands && held && free) next None) moment && room)
    by true e true true true = rw (← e) refl
    by false e true true true = rw (← e) refl
    by true e true true false = refl
    by false e true true false = refl
    by true e true false free = refl
    by false e true false free = refl
    by true e false held free = refl
    by false e false held free = refl

pub due_by_date : (row : SecretRow) (when : When)
    → is_due_when row when ≡ (is_reached (due_date row) when.moment && not (is_full_when row when))
due_by_date row when =
    parts row.rotation.enabled (is_none row.deletion) (is_some (holder row.labels aws_current))
    (is_free_or_held_by (holder row.labels aws_pending) (holder row.labels aws_current)) (not (is_full_when row when))
    row.rotation.next when.moment
