-- What a change of the rows is: of one row in its place, or of a row more.
use Rattle.std.proofs.Common.{◌≡◌, ◌≤◌, Bool, true, false, cond, eqb, List, [], ◌∷◌, ◌++◌, length, map, Option, Some, None, IfSome, IsSome, IsSomeAnd, IsTrue, refl, sym, ap, subst, ◌∙◌}
use Rattle.sm_base.specs.declared.limits.TheConstants.{VERSIONS_LIMIT}
use Rattle.sm_base.specs.declared.moment.Moment.{Moment}
use Rattle.sm_base.specs.declared.secret_id.SecretId.{SecretId}
use Rattle.sm_model.specs.declared.entry.Change.{Change}
use Rattle.sm_model.specs.declared.entry.Change.TheVariants as changes
use Rattle.sm_model.specs.declared.rows.Rows.{Rows}
use Rattle.sm_model.specs.declared.rows.SecretRow.{SecretRow}
use Rattle.sm_model.specs.declared.rows.VersionRow.{VersionRow}
use Rattle.sm_model.specs.Bounds.{is_date}
use Rattle.sm_model.specs.Versions.{When, counted}
use Rattle.sm_versions.specs.Prune.{pruned}
use Rattle.sm_versions.specs.Settle.{settle}
use Rattle.sm_versions.specs.Sound.{UnsettledSound, RowSound}
use Rattle.sm_versions.proofs.CountLaws.{few_counted}
use Rattle.sm_versions.proofs.KeptLaws.{settle_keeps, settle_stays}
use Rattle.sm_versions.proofs.PruneLaws.{settle_pruned, pruned_sound}
use Rattle.sm_versions.proofs.SoundLaws.{settle_fits, unsettled_sound, changed_sound}
use Rattle.sm_table.specs.Sweep.{swept, sweep}
use Rattle.sm_table.specs.Found.{found}
use Rattle.sm_table.specs.Changes.{row_with, replaced}
use Rattle.sm_table.specs.Kept.{IsRowOf}
use Rattle.sm_table.specs.Sound.{EachSound, Sound}
use Rattle.sm_table.proofs.FoundLaws.{found_is_row}
use Rattle.sm_table.proofs.SoundLaws.{sound_rows_kept, sweep_sound, found_sound}
use Rattle.sm_judge_common.specs.declared.judged.Judged.{Judged}
use Rattle.sm_judge_common.specs.Changes.{with_row, change_named, settled, IsChange}
use Rattle.sm_judge_common.specs.Judged.{IfChange}
use Rattle.sm_judge_common.specs.Secrets.{unless_scheduled, on_secret, finished_row}

-- settling leaves rows that are sound
map_settle : (rows : List SecretRow) → EachSound rows → map settle rows ≡ rows
map_settle [] each = refl
map_settle (r ∷ rs) each = ap (λ q. q ∷ map settle rs) (settle_stays r each.0.kept)
    ∙ ap (λ qs. r ∷ qs) (map_settle rs each.1)

pub map_settle_push : (rows : List SecretRow) (row : SecretRow) → EachSound rows → settle row ≡ row
    → map settle (rows ++ row ∷ []) ≡ rows ++ row ∷ []
map_settle_push [] row each e = ap (λ q. q ∷ []) e
map_settle_push (r ∷ rs) row each e =
    ap (λ q. q ∷ map settle (rs ++ row ∷ [])) (settle_stays r each.0.kept)
    ∙ ap (λ qs. r ∷ qs) (map_settle_push rs row each.1 e)

map_settle_replaced : (rows : List SecretRow) (row : SecretRow) → EachSound rows
    → replaced rows (settle row) ≡ map settle (replaced rows row)
map_settle_replaced [] row each = refl
map_settle_replaced (r ∷ rs) row each = by (eqb r.serial row.serial) (map_settle_replaced rs row each.1)
  where
    by : (b : Bool) → replaced rs (settle row) ≡ map settle (replaced rs row)
        → cond b (settle row ∷ rs) (r ∷ replaced rs (settle row)) ≡ map settle (cond b (row ∷ rs) (r ∷ replaced rs row))
    by true e = ap (λ qs. settle row ∷ qs) (sym (map_settle rs each.1))
    by false e = ap (λ q. q ∷ replaced rs (settle row)) (sym (settle_stays r each.0.kept)) ∙ ap (λ qs. settle r ∷ qs) e

some_and : (found : Option SecretRow) (row : SecretRow) (P : SecretRow → Type 0) → found ≡ Some row → P row
    → IsSomeAnd found P
some_and found row P e h = subst (λ (o : Option SecretRow). IsSomeAnd o P) (sym e) h

is_there : (found : Option SecretRow) (row : SecretRow) → found ≡ Some row → IsSome found
is_there found row e = subst (λ (o : Option SecretRow). IsSome o) (sym e) refl

-- a row in the place of the one that was found: it is the same secret, sound before its job is settled, and no more of
-- its versions count than there may be
pub record InPlaceOf (row next : SecretRow) (when : When) : Type 0 where
  pub serial : next.serial ≡ row.serial
  pub name : next.name ≡ row.name
  pub arn : next.arn ≡ row.arn
  pub sound : UnsettledSound next
  pub few : length (counted next when) ≤ VERSIONS_LIMIT

-- the row that is changed, with the moment of its change
abbrev at_when : SecretRow → When → SecretRow
at_when next when = record next { changed = when.moment }

finished_sound : (next : SecretRow) (when : When) → IsTrue (is_date when.moment) → UnsettledSound next
    → length (counted next when) ≤ VERSIONS_LIMIT → RowSound (finished_row next when)
finished_sound next when date sound few =
    let changed : UnsettledSound (at_when next when) = changed_sound next when.moment date sound in
    pruned_sound (settle (at_when next when)) when (settle_keeps (at_when next when) changed.kept)
    (settle_fits (at_when next when) changed) few

replace_is_change : (rows : Rows) (when : When) (row next : SecretRow) → Sound rows → IsTrue (is_date when.moment)
    → IsRowOf rows when.moment row
    → InPlaceOf row next when
    → IsChange rows when.moment (settled (record (sweep rows when.moment)
    { secrets = replaced (swept rows.secrets when.moment) (pruned (at_when next when) when) }))
    (changes.Replace (finished_row next when))
replace_is_change rows when row next sound date is new = record {
  makes = ap (λ (secrets : List SecretRow). record (sweep rows when.moment) { secrets = secrets })
      (ap (replaced (swept rows.secrets when.moment)) (sym (settle_pruned (at_when next when) when))
      ∙ map_settle_replaced (swept rows.secrets when.moment) (pruned (at_when next when) when)
      (sweep_sound rows when.moment sound).each);
  can = some_and (row_with rows.secrets next.serial) row (λ old. (next.name ≡ old.name) × (next.arn ≡ old.arn))
      (ap (row_with rows.secrets) new.serial ∙ is.there) (new.name, new.arn);
  stands = is_there (row_with (swept rows.secrets when.moment) next.serial) row
      (ap (row_with (swept rows.secrets when.moment)) new.serial ∙ is.stands);
  sound = finished_sound next when date new.sound new.few;
}

-- ---- requests on a secret that is there

-- a change of the row that a SecretId names
abbrev pub OnRow : Rows → When → SecretId → (SecretRow → SecretRow) → Change → Type 0
OnRow rows when id change =
    IsChange rows when.moment (settled (change_named (sweep rows when.moment) id when change))

pub unless_scheduled_change : (deletion : Option Moment) (judged : Judged) (P : Change → Type 0) → IfChange judged P
    → IfChange (unless_scheduled deletion judged) P
unless_scheduled_change None judged P h = h
unless_scheduled_change (Some date) judged P h = tt

pub on_secret_change : (found : Option SecretRow) (judge : SecretRow → Judged) (P : Change → Type 0)
    → ((row : SecretRow) → found ≡ Some row → IfChange (judge row) P) → IfChange (on_secret found judge) P
on_secret_change None judge P each = tt
on_secret_change (Some row) judge P each = unless_scheduled_change row.deletion (judge row) P (each row refl)

-- a row that was found is the one with its serial, and sound
some_sound : (found : Option SecretRow) (row : SecretRow) → found ≡ Some row → IfSome found RowSound → RowSound row
some_sound found row e all = let h : IfSome (Some row) RowSound = subst
    (λ (o : Option SecretRow). IfSome o RowSound) e all in h

pub found_row_whole : (rows : Rows) (moment : Moment) (id : SecretId) (row : SecretRow) → Sound rows
    → found rows moment id ≡ Some row
    → RowSound row
found_row_whole rows moment id row sound e =
    some_sound (found rows moment id) row e (found_sound rows moment id (found rows moment id) refl sound)

pub found_row_sound : (rows : Rows) (moment : Moment) (id : SecretId) (row : SecretRow) → Sound rows
    → found rows moment id ≡ Some row
    → UnsettledSound row
found_row_sound rows moment id row sound e =
    unsettled_sound row (found_row_whole rows moment id row sound e)

-- and it has no more versions than there may be
pub found_row_few : (rows : Rows) (moment : Moment) (id : SecretId) (row : SecretRow) → Sound rows
    → found rows moment id ≡ Some row
    → length row.versions ≤ VERSIONS_LIMIT
found_row_few rows moment id row sound e = (found_row_whole rows moment id row sound e).version_count

-- the row that was found, changed
pub found_change : (rows : Rows) (when : When) (id : SecretId) (change : SecretRow → SecretRow) (row : SecretRow)
    → Sound rows → IsTrue (is_date when.moment) → found rows when.moment id ≡ Some row
    → InPlaceOf row (change row) when
    → OnRow rows when id change (changes.Replace (finished_row (change row) when))
found_change rows when id change row sound date e new =
    subst (λ (o : Option SecretRow). IsChange rows when.moment
    (settled (record (sweep rows when.moment) { secrets = with_row (swept rows.secrets when.moment) o when change }))
    (changes.Replace (finished_row (change row) when)))
    (sym e)
    (replace_is_change rows when row (change row) sound date
    (found_is_row rows when.moment id row (sound_rows_kept rows sound) e) new)

-- a row of the same secret with the same versions
pub record HasVersionsOf (row next : SecretRow) : Type 0 where
  pub serial : next.serial ≡ row.serial
  pub name : next.name ≡ row.name
  pub arn : next.arn ≡ row.arn
  pub versions : next.versions ≡ row.versions

-- the row that was found, changed beside its versions
pub found_change_beside : (rows : Rows) (when : When) (id : SecretId) (change : SecretRow → SecretRow) (row : SecretRow)
    → Sound rows → IsTrue (is_date when.moment) → found rows when.moment id ≡ Some row
    → HasVersionsOf row (change row) → (UnsettledSound row → UnsettledSound (change row))
    → OnRow rows when id change (changes.Replace (finished_row (change row) when))
found_change_beside rows when id change row sound date e same keeps =
    found_change rows when id change row sound date e (record {
      serial = same.serial;
      name = same.name;
      arn = same.arn;
      sound = keeps (found_row_sound rows when.moment id row sound e);
      few = few_counted (change row) when
          (subst (λ (vs : List VersionRow). length vs ≤ VERSIONS_LIMIT) (sym same.versions)
          (found_row_few rows when.moment id row sound e));
    })
