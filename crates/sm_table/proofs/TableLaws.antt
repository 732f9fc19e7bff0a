-- What a commit keeps of the table.
use Rattle.std.proofs.Common.{◌≡◌, ℕ, ◌+◌, ◌≤◌, leb, eqb, true, false, List, [], ◌∷◌, length, Option, Some, None, IsSome, IsNone, IfSome, refl, sym, ap, subst, ◌∙◌, arith}
use Rattle.std.proofs.lemmas.Bool.{and_parts, false≢true}
use Rattle.std.proofs.lemmas.Bool.Decides.{nat_tests}
use Rattle.sm_base.specs.declared.moment.Moment.{Moment}
use Rattle.sm_model.specs.declared.entry.Change.{Change}
use Rattle.sm_model.specs.declared.entry.Change.TheVariants.{Add}
use Rattle.sm_model.specs.declared.rows.SecretRow.{SecretRow}
use Rattle.sm_model.specs.declared.rows.Rows.{Rows}
use Rattle.sm_versions.specs.Serials.{rises}
use Rattle.sm_table.specs.declared.indexed.Added.{Added}
use Rattle.sm_table.specs.declared.indexed.Indexed.{Indexed}
use Rattle.sm_table.specs.declared.indexed.SpareMaps.{SpareMaps}
use Rattle.sm_table.specs.Sweep.{swept, sweep}
use Rattle.sm_table.specs.Found.{row_named}
use Rattle.sm_table.specs.Changes.{changed, row_with, CanMake, StandsAt, PreparedChange}
use Rattle.sm_table.specs.Kept.{row_serials, NamesKept}
use Rattle.sm_table.specs.Indexed.{behind, room_left, HasRoom, IsIndexed, AreSpareMaps}
use Rattle.sm_table.specs.Ready.{IsTable, IsAdded, CanAdd}
use Rattle.sm_table.proofs.KeptLaws.{swept_rises, commit_rises}
use Rattle.sm_table.proofs.NameLaws.{commit_names}
use Rattle.sm_table.proofs.SoundLaws.{swept_fewer}

-- what is known where a change is made of the rows
pub record Commits (rows : Rows) (moment : Moment) (change : Change) : Type 0 where
  pub can : CanMake rows change
  pub stands : StandsAt rows moment change
  pub serials : rises 0 (row_serials rows.secrets) rows.next ≡ true
  pub names : NamesKept rows

-- the same, of a prepared change and the table that it was prepared for
pub commits_from : (made seen : PreparedChange) (rows now : Rows) (moment : Moment) (change : Change) → made ≡ seen
    → seen.before ≡ now → rows ≡ now → made.change ≡ change → CanMake made.before made.change
    → StandsAt now moment seen.change → rises 0 (row_serials rows.secrets) rows.next ≡ true → NamesKept rows
    → Commits rows moment change
commits_from made seen rows now moment change e f g h can stands serials names = record {
  can = subst (λ (r : Rows). CanMake r change) (ap (λ p. p.before) e ∙ f ∙ sym g)
      (subst (λ (q : Change). CanMake made.before q) h can);
  stands = subst (λ (q : Change). StandsAt rows moment q) (sym (ap (λ p. p.change) e) ∙ h)
      (subst (λ (r : Rows). StandsAt r moment seen.change) (sym g) stands);
  serials = serials;
  names = names;
}

-- the table after a commit
pub table_after : (rows : Rows) (moment : Moment) (change : Change) (next : ℕ) (indexed : Indexed)
    → Commits rows moment change → IsIndexed indexed → indexed.left ≡ room_left next → HasRoom indexed (room_left next)
    → record { next = next; secrets = indexed.rows.list } ≡ changed (sweep rows moment) change → IsTable next indexed
table_after rows moment change next indexed made kept here room e = record {
  kept = kept;
  serials = subst (λ (r : Rows). rises 0 (row_serials r.secrets) r.next ≡ true) (sym e)
      (commit_rises rows moment change made.can made.serials);
  names = subst NamesKept (sym e) (commit_names rows moment change made.can made.stands made.serials made.names);
  left = here;
  room = room;
}

-- ---- a row that is added

-- no row has a serial from their next one on
row_with_past : (rows : List SecretRow) (serial low next : ℕ) → rises low (row_serials rows) next ≡ true
    → next ≤ serial → row_with rows serial ≡ None
row_with_past [] serial low next h past = refl
row_with_past (r ∷ rs) serial low next h past =
    let parts = and_parts (leb low r.serial) (rises (r.serial + 1) (row_serials rs) next) h in
    let below = rises_below (r.serial + 1) (row_serials rs) next parts.1 in
    let other : eqb r.serial serial ≡ false = grind (arith, nat_tests) in
    rw other (row_with_past rs serial (r.serial + 1) next parts.1 past)
  where
    rises_below : (low : ℕ) (ns : List ℕ) (next : ℕ) → rises low ns next ≡ true → low ≤ next
    rises_below low [] next h = grind (arith, nat_tests)
    rises_below low (n ∷ ns) next h =
        let parts = and_parts (leb low n) (rises (n + 1) ns next) h in
        let rest = rises_below (n + 1) ns next parts.1 in
        grind (arith, nat_tests, parts.0)

none_is : (r : Option SecretRow) → IsNone r → r ≡ None
none_is None h = refl
none_is (Some row) h = absurd (false≢true (sym h))

-- rooms for many rows do for less
enough_for : (room : Option SpareMaps) (more less : ℕ) → less ≤ more → IfSome room (λ r. AreSpareMaps r more)
    → IfSome room (λ r. AreSpareMaps r less)
enough_for None more less h enough = tt
enough_for (Some room) more less h enough = record {
  no_rows = enough.no_rows;
  no_names = enough.no_names;
  rows = omega (arith, h, enough.rows);
  names = omega (arith, h, enough.names);
  no_jobs = enough.no_jobs;
  no_dates = enough.no_dates;
  no_deletions = enough.no_deletions;
  signs = record {
    jobs = omega (arith, h, enough.signs.jobs);
    dates = omega (arith, h, enough.signs.dates);
    deletions = omega (arith, h, enough.signs.deletions);
  };
}

-- the state of a table whose rows were swept
pub record IsSwept (next : ℕ) (old now : Indexed) (moment : Moment) : Type 0 where
  pub table : IsTable next old
  pub kept : IsIndexed now
  pub rows : now.rows.list ≡ swept old.rows.list moment
  pub left : now.left ≡ old.left
  pub room : (count : ℕ) → HasRoom old count → HasRoom now count

-- a row may be added to it that was prepared for the rows before
pub can_add : (next : ℕ) (old now : Indexed) (moment : Moment) (before : Rows) (added : Added)
    → before ≡ record { next = next; secrets = old.rows.list } → IsSwept next old now moment
    → Commits (record { next = next; secrets = old.rows.list }) moment (Add added.kept)
    → IsAdded added before.next (length before.secrets) → CanAdd now added
can_add next old now moment before added same state made brought =
    let serial : added.kept.serial ≡ next = made.can.0 in
    let count : length before.secrets ≡ length old.rows.list = ap (λ (r : Rows). length r.secrets) same in
    let first : before.next ≡ added.kept.serial = ap (λ (r : Rows). r.next) same ∙ sym serial in
    let fewer : length now.rows.list ≤ length old.rows.list =
    omega (arith, ap length state.rows, swept_fewer old.rows.list moment) in
    record {
      kept = state.kept;
      new_serial = rw (state.rows, serial)
          (row_with_past (swept old.rows.list moment) next 0 next
          (swept_rises old.rows.list moment 0 next state.table.serials) (omega arith));
      new_name = rw state.rows (none_is (row_named (swept old.rows.list moment) added.kept.name) made.stands);
      rising = rw state.rows (
        next + 1,
        commit_rises (record { next = next; secrets = old.rows.list }) moment (Add added.kept) made.can
            made.serials,
      );
      left = rw serial (state.left ∙ state.table.left);
      room = rw serial (state.room (room_left next) state.table.room);
      brought = record {
        name = brought.name;
        needed = subst (λ n. room_left n ≡ 0 → IsSome added.room) first brought.needed;
        enough = enough_for added.room (length before.secrets + 1 + behind added.kept.serial)
            (length now.rows.list + 1 + behind added.kept.serial) (omega (arith, count, fewer))
            (subst (λ n. IfSome added.room (λ r. AreSpareMaps r (length before.secrets + 1 + behind n))) first
            brought.enough);
      };
    }
