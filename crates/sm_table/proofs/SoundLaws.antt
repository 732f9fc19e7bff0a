-- What a sweep and a change keep of sound rows, and what sound rows are besides.
use Rattle.std.proofs.Common.{◌≡◌, ℕ, ◌≤◌, List, [], ◌∷◌, length, Option, Some, None, IfSome, sym, arith, length-append}
use Rattle.std.proofs.lemmas.Grind.{common_steps}
use Rattle.sm_base.specs.declared.moment.Moment.{Moment}
use Rattle.sm_base.specs.declared.secret_id.SecretId.{SecretId}
use Rattle.sm_base.specs.declared.limits.TheConstants.{SECRETS_LIMIT}
use Rattle.sm_model.specs.declared.entry.Change.{Change}
use Rattle.sm_model.specs.declared.entry.Change.TheVariants.{Add, Replace, Drop, Nothing}
use Rattle.sm_model.specs.declared.rows.SecretRow.{SecretRow}
use Rattle.sm_model.specs.declared.rows.Rows.{Rows}
use Rattle.sm_versions.specs.Kept.{CurrentKept}
use Rattle.sm_versions.specs.Sound.{RowSound}
use Rattle.sm_table.specs.Sweep.{swept, sweep}
use Rattle.sm_table.specs.Found.{found, found_arn}
use Rattle.sm_table.specs.Changes.{replaced, dropped, changed, CanMake, StandsAt}
use Rattle.sm_table.specs.Kept.{RowsKept, ChangeKept, HasOwnArn, NamesKept}
use Rattle.sm_table.specs.Sound.{EachSound, Sound, ChangeSound}
use Rattle.sm_table.proofs.EachLemmas.{each_then, swept_each, dropped_each, replaced_each, push_each}
use Rattle.sm_table.proofs.KeptLaws.{sweep_keeps, commit_keeps}
use Rattle.sm_table.proofs.NameLaws.{sweep_names, commit_names}
use Rattle.sm_table.proofs.FoundLaws.{each_in, unswept_in, named_by_in, with_arn_in}

-- ---- what sound rows are besides

-- the rows are kept
pub sound_rows_kept : (rows : Rows) → Sound rows → RowsKept rows
sound_rows_kept rows sound = record {
  serials = sound.serials;
  each = each_then RowSound CurrentKept rows.secrets (λ row own. own.kept) sound.each;
}

-- and so are their names
pub sound_names_kept : (rows : Rows) → Sound rows → NamesKept rows
sound_names_kept rows sound = record {
  once = sound.names;
  arns = each_then RowSound HasOwnArn rows.secrets (λ row own. own.fits.arn) sound.each;
}

-- a sound change is a kept one
pub sound_change_kept : (rows : Rows) (change : Change) → ChangeSound rows change → ChangeKept change
sound_change_kept rows (Add row) new = new.0.kept
sound_change_kept rows (Replace row) new = new.kept
sound_change_kept rows (Drop serial) new = tt
sound_change_kept rows Nothing new = tt

-- ---- each row

changed_each : (rows : Rows) (change : Change) → ChangeSound rows change → EachSound rows.secrets
    → EachSound (changed rows change).secrets
changed_each rows (Add row) new each = push_each RowSound rows.secrets row new.0 each
changed_each rows (Replace row) new each = replaced_each RowSound rows.secrets row new each
changed_each rows (Drop serial) new each = dropped_each RowSound rows.secrets serial each
changed_each rows Nothing new each = each

-- ---- how many rows

pub swept_fewer : (rows : List SecretRow) (moment : Moment) → length (swept rows moment) ≤ length rows
swept_fewer [] moment = omega arith
swept_fewer (r ∷ rs) moment = grind (arith, common_steps, swept_fewer rs moment)

dropped_fewer : (rows : List SecretRow) (serial : ℕ) → length (dropped rows serial) ≤ length rows
dropped_fewer [] serial = omega arith
dropped_fewer (r ∷ rs) serial = grind (arith, common_steps, dropped_fewer rs serial)

replaced_as_many : (rows : List SecretRow) (row : SecretRow) → length (replaced rows row) ≤ length rows
replaced_as_many [] row = omega arith
replaced_as_many (r ∷ rs) row = grind (arith, common_steps, replaced_as_many rs row)

changed_count : (rows : Rows) (change : Change) → ChangeSound rows change → length rows.secrets ≤ SECRETS_LIMIT
    → length (changed rows change).secrets ≤ SECRETS_LIMIT
changed_count rows (Add row) new count = omega (arith, length-append rows.secrets (row ∷ []), new.1)
changed_count rows (Replace row) new count = omega (arith, replaced_as_many rows.secrets row, count)
changed_count rows (Drop serial) new count = omega (arith, dropped_fewer rows.secrets serial, count)
changed_count rows Nothing new count = count

-- ---- all rows

-- a sweep keeps sound rows
pub sweep_sound : (rows : Rows) (moment : Moment) → Sound rows → Sound (sweep rows moment)
sweep_sound rows moment sound = record {
  serials = (sweep_keeps rows moment (sound_rows_kept rows sound)).serials;
  names = (sweep_names rows moment (sound_names_kept rows sound)).once;
  count = omega (arith, swept_fewer rows.secrets moment, sound.count);
  each = swept_each RowSound rows.secrets moment sound.each;
}

-- and so does a commit of a sound change
pub commit_sound : (rows : Rows) (moment : Moment) (change : Change) → CanMake rows change → StandsAt rows moment change
    → Sound rows → ChangeSound (sweep rows moment) change → Sound (changed (sweep rows moment) change)
commit_sound rows moment change can stands sound new =
    let kept = sound_rows_kept rows sound in
    let swept = sweep_sound rows moment sound in
    record {
      serials = (commit_keeps rows moment change can kept (sound_change_kept (sweep rows moment) change new)).serials;
      names = (commit_names rows moment change can stands kept.serials (sound_names_kept rows sound)).once;
      count = changed_count (sweep rows moment) change new swept.count;
      each = changed_each (sweep rows moment) change new swept.each;
    }

-- ---- look-ups

-- the row that was found is sound
pub found_sound : (rows : Rows) (moment : Moment) (id : SecretId) (result : Option SecretRow)
    → result ≡ found rows moment id → Sound rows → IfSome result RowSound
found_sound rows moment id None e sound = tt
found_sound rows moment id (Some row) e sound =
    each_in RowSound rows.secrets row sound.each
    (unswept_in rows.secrets moment row (named_by_in (swept rows.secrets moment) id row (sym e)))

pub found_arn_sound : (rows : Rows) (moment : Moment) (arn : List ℕ) (result : Option SecretRow)
    → result ≡ found_arn rows moment arn → Sound rows → IfSome result RowSound
found_arn_sound rows moment arn None e sound = tt
found_arn_sound rows moment arn (Some row) e sound =
    each_in RowSound rows.secrets row sound.each
    (unswept_in rows.secrets moment row (with_arn_in (swept rows.secrets moment) arn row (sym e)))
