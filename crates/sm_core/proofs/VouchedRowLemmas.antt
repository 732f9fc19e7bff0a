-- Rows in which one is changed stay vouched, where the change of that one keeps the attempts that it remembers.
use Rattle.std.proofs.Common.{◌≡◌, inl, inr, ℕ, eqb, Bool, true, false, cond, List, [], ◌∷◌, ◌++◌, map, Option, Some, None, refl, subst}
use Rattle.sm_base.specs.declared.moment.Moment.{Moment}
use Rattle.sm_base.specs.declared.secret_id.SecretId.{SecretId}
use Rattle.sm_model.specs.declared.rows.Rows.{Rows}
use Rattle.sm_model.specs.declared.rows.SecretRow.{SecretRow}
use Rattle.sm_model.specs.Versions.{When}
use Rattle.sm_versions.specs.Prune.{pruned}
use Rattle.sm_versions.specs.Settle.{settle}
use Rattle.sm_rotation.specs.Vouched.{Replies, RowVouched}
use Rattle.sm_rotation.proofs.AttemptLemmas.{SameAttempts, same_vouched}
use Rattle.sm_rotation.proofs.VouchedLemmas.{settle_vouched, prune_vouched}
use Rattle.sm_table.specs.Sweep.{is_gone, swept, sweep}
use Rattle.sm_table.specs.Found.{named_by, found, found_arn}
use Rattle.sm_table.specs.Changes.{replaced, dropped}
use Rattle.sm_table.proofs.FoundLaws.{IsIn, with_arn_in, named_by_in}
use Rattle.sm_judge_common.specs.Changes.{with_row, change_named, settled}
use Rattle.sm_judge_rotations.specs.WholeArns.{change_with_arn}
use Rattle.sm_judge_deletion_and_tags.specs.DeleteSecret.{without_row, drop_named}
use Rattle.sm_core.specs.Vouching.{EachVouched, Vouched}

-- ---- lists of rows

each_in : (replies : Replies) (rows : List SecretRow) (row : SecretRow) → EachVouched replies rows → IsIn rows row
    → RowVouched replies row
each_in replies [] row each i = absurd i
each_in replies (r ∷ rs) row each (inl e) = subst (λ (q : SecretRow). RowVouched replies q) e each.0
each_in replies (r ∷ rs) row each (inr i) = each_in replies rs row each.1 i

swept_each : (replies : Replies) (rows : List SecretRow) (moment : Moment) → EachVouched replies rows
    → EachVouched replies (swept rows moment)
swept_each replies [] moment each = each
swept_each replies (r ∷ rs) moment each = by (is_gone r moment) (swept_each replies rs moment each.1)
  where
    by : (b : Bool) → EachVouched replies (swept rs moment)
        → EachVouched replies (cond b (swept rs moment) (r ∷ swept rs moment))
    by true rest = rest
    by false rest = (each.0, rest)

dropped_each : (replies : Replies) (rows : List SecretRow) (serial : ℕ) → EachVouched replies rows
    → EachVouched replies (dropped rows serial)
dropped_each replies [] serial each = each
dropped_each replies (r ∷ rs) serial each = by (eqb r.serial serial) (dropped_each replies rs serial each.1)
  where
    by : (b : Bool) → EachVouched replies (dropped rs serial)
        → EachVouched replies (cond b (dropped rs serial) (r ∷ dropped rs serial))
    by true rest = rest
    by false rest = (each.0, rest)

pub push_each : (replies : Replies) (rows : List SecretRow) (row : SecretRow) → RowVouched replies row
    → EachVouched replies rows → EachVouched replies (rows ++ row ∷ [])
push_each replies [] row vouched each = (vouched, tt)
push_each replies (r ∷ rs) row vouched each = (each.0, push_each replies rs row vouched each.1)

pub settled_each : (replies : Replies) (rows : List SecretRow) → EachVouched replies rows
    → EachVouched replies (map settle rows)
settled_each replies [] each = each
settled_each replies (r ∷ rs) each = (settle_vouched replies r each.0, settled_each replies rs each.1)

-- a row in the place of another, where all are settled then
replaced_each : (replies : Replies) (rows : List SecretRow) (row : SecretRow) → RowVouched replies (settle row)
    → EachVouched replies rows → EachVouched replies (map settle (replaced rows row))
replaced_each replies [] row vouched each = each
replaced_each replies (r ∷ rs) row vouched each =
    by (eqb r.serial row.serial) (replaced_each replies rs row vouched each.1)
  where
    by : (b : Bool) → EachVouched replies (map settle (replaced rs row))
        → EachVouched replies (map settle (cond b (row ∷ rs) (r ∷ replaced rs row)))
    by true rest = (vouched, settled_each replies rs each.1)
    by false rest = (settle_vouched replies r each.0, rest)

-- ---- one row changed

-- the changed moment counts for nothing
moment_vouched : (replies : Replies) (row : SecretRow) (moment : Moment) → RowVouched replies row
    → RowVouched replies (record row { changed = moment })
moment_vouched replies row moment h =
    same_vouched replies row (record row { changed = moment }) (record { arn = refl; versions = refl; job = refl }) h

-- and versions that need not be kept are dropped
with_row_each : (replies : Replies) (secrets : List SecretRow) (found : Option SecretRow) (when : When)
    (change : SecretRow → SecretRow) → EachVouched replies secrets
    → ((row : SecretRow) → found ≡ Some row → RowVouched replies (change row))
    → EachVouched replies (map settle (with_row secrets found when change))
with_row_each replies secrets None when change each keeps = settled_each replies secrets each
with_row_each replies secrets (Some row) when change each keeps =
    let next : SecretRow = record (change row) { changed = when.moment } in
    replaced_each replies secrets (pruned next when)
    (prune_vouched replies next when (moment_vouched replies (change row) when.moment (keeps row refl))) each

pub swept_vouched : (replies : Replies) (rows : Rows) (moment : Moment) → Vouched replies rows
    → EachVouched replies (swept rows.secrets moment)
swept_vouched replies rows moment vouched = swept_each replies rows.secrets moment vouched

-- no row is changed
pub stay_vouched : (replies : Replies) (rows : Rows) (moment : Moment) → Vouched replies rows
    → Vouched replies (settled (sweep rows moment))
stay_vouched replies rows moment vouched =
    settled_each replies (swept rows.secrets moment) (swept_vouched replies rows moment vouched)

-- the row that a SecretId names is changed
pub named_vouched : (replies : Replies) (rows : Rows) (when : When) (id : SecretId)
    (change : SecretRow → SecretRow)
    → ((row : SecretRow) → found rows when.moment id ≡ Some row → RowVouched replies row
    → RowVouched replies (change row))
    → Vouched replies rows → Vouched replies (settled (change_named (sweep rows when.moment) id when change))
named_vouched replies rows when id change keeps vouched =
    let secrets : List SecretRow = swept rows.secrets when.moment in
    let each = swept_vouched replies rows when.moment vouched in
    with_row_each replies secrets (named_by secrets id) when change each
    (λ row e. keeps row e (each_in replies secrets row each (named_by_in secrets id row e)))

-- the same by a whole ARN
pub with_arn_vouched : (replies : Replies) (rows : Rows) (when : When) (arn : List ℕ)
    (change : SecretRow → SecretRow)
    → ((row : SecretRow) → found_arn rows when.moment arn ≡ Some row → RowVouched replies row
    → RowVouched replies (change row))
    → Vouched replies rows → Vouched replies (settled (change_with_arn (sweep rows when.moment) arn when change))
with_arn_vouched replies rows when arn change keeps vouched =
    let secrets : List SecretRow = swept rows.secrets when.moment in
    let each = swept_vouched replies rows when.moment vouched in
    with_row_each replies secrets (found_arn rows when.moment arn) when change each
    (λ row e. keeps row e (each_in replies secrets row each (with_arn_in secrets arn row e)))

-- only parts are changed that don't count
pub others_vouched : (replies : Replies) (rows : Rows) (when : When) (id : SecretId)
    (change : SecretRow → SecretRow) → ((row : SecretRow) → SameAttempts row (change row))
    → Vouched replies rows → Vouched replies (settled (change_named (sweep rows when.moment) id when change))
others_vouched replies rows when id change same vouched =
    named_vouched replies rows when id change (λ row e h. same_vouched replies row (change row) (same row) h) vouched

-- the row that a SecretId names is dropped
without_each : (replies : Replies) (secrets : List SecretRow) (found : Option SecretRow)
    → EachVouched replies secrets → EachVouched replies (without_row secrets found)
without_each replies secrets None each = each
without_each replies secrets (Some row) each = dropped_each replies secrets row.serial each

pub drop_vouched : (replies : Replies) (rows : Rows) (moment : Moment) (id : SecretId) → Vouched replies rows
    → Vouched replies (settled (drop_named (sweep rows moment) id))
drop_vouched replies rows moment id vouched =
    let secrets : List SecretRow = swept rows.secrets moment in
    settled_each replies (without_row secrets (named_by secrets id))
    (without_each replies secrets (named_by secrets id) (swept_vouched replies rows moment vouched))
