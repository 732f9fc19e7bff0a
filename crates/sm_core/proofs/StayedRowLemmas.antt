-- The secrets stay with their versions, where one of them is changed, dropped or added.
use Rattle.std.proofs.Common.{◌≡◌, ◌⊎◌, inl, inr, ℕ, ◌<◌, ◌≤◌, ◌+◌, eqb, Bool, true, false, cond, List, [], ◌∷◌, ◌++◌, map, Option, Some, None, IsSome, IsTrue, refl, sym, ap, subst, ◌∙◌, arith}
use Rattle.std.proofs.lemmas.Bool.{eqb-true}
use Rattle.sm_base.specs.declared.moment.Moment.{Moment}
use Rattle.sm_base.specs.declared.secret_id.SecretId.{SecretId}
use Rattle.sm_model.specs.declared.rows.Rows.{Rows}
use Rattle.sm_model.specs.declared.rows.SecretRow.{SecretRow}
use Rattle.sm_model.specs.Versions.{When}
use Rattle.sm_versions.specs.Serials.{rises}
use Rattle.sm_versions.specs.Settle.{settle}
use Rattle.sm_table.specs.Changes.{row_with, replaced, dropped}
use Rattle.sm_table.specs.Found.{named_by, found, found_arn}
use Rattle.sm_table.specs.Kept.{row_serials}
use Rattle.sm_table.specs.Sound.{Sound}
use Rattle.sm_table.specs.Sweep.{swept, sweep}
use Rattle.sm_table.proofs.FoundLaws.{IsIn, with_arn_in, named_by_in, unswept_in, row_with_own}
use Rattle.sm_table.proofs.FoundLemmas.{row_with_has}
use Rattle.sm_table.proofs.SoundLaws.{sweep_sound}
use Rattle.sm_judge_common.specs.Changes.{with_row, change_named, settled}
use Rattle.sm_judge_rotations.specs.WholeArns.{change_with_arn}
use Rattle.sm_judge_deletion_and_tags.specs.DeleteSecret.{without_row, drop_named}
use Rattle.sm_core.specs.Tokens.{HasSecret, versions_in, versions_at}
use Rattle.sm_core.proofs.StayLemmas.{AllStay, stay_same, stay_on, RowStays}

-- at the moment, and nothing is dropped
abbrev pub plain : Moment → When
plain moment = record { moment = moment; prunes = false }

-- a secret that is there, and is no new one, was there, and all of its versions stay
pub record EachStays (old new : Rows) : Type 0 where
  pub later : old.next ≤ new.next
  pub there : (serial : ℕ) → serial < old.next → HasSecret new serial → HasSecret old serial
  pub stay : (serial : ℕ) → serial < old.next → HasSecret new serial
      → AllStay (versions_at old serial) (versions_at new serial)

-- ---- one serial

-- a secret that is there was there, and its versions stay
abbrev pub CameFrom : Option SecretRow → Option SecretRow → Type 0
CameFrom None old = Unit {0}
CameFrom (Some row) None = ⊥
CameFrom (Some row) (Some old) = AllStay old.versions row.versions

came_same : (row : Option SecretRow) → CameFrom row row
came_same None = tt
came_same (Some row) = stay_same row.versions

came_on : (old mid new : Option SecretRow) → CameFrom mid old → CameFrom new mid → CameFrom new old
came_on old mid None first second = tt
came_on old None (Some new) first second = absurd second
came_on None (Some mid) (Some new) first second = absurd first
came_on (Some old) (Some mid) (Some new) first second = stay_on old.versions mid.versions new.versions first second

came_there : (new old : Option SecretRow) → CameFrom new old → IsSome new → IsSome old
came_there None old came is = absurd (cc)
came_there (Some row) None came is = absurd came
came_there (Some row) (Some old) came is = refl

came_stay : (new old : Option SecretRow) → CameFrom new old → IsSome new
    → AllStay (versions_in old) (versions_in new)
came_stay None old came is = absurd (cc)
came_stay (Some row) None came is = absurd came
came_stay (Some row) (Some old) came is = came

-- ---- lists of rows

in_when : (b : Bool) (r row : SecretRow) (rs : List SecretRow) (rest : Option SecretRow)
    → cond b (Some r) rest ≡ Some row → (rest ≡ Some row → IsIn rs row) → IsIn (r ∷ rs) row
in_when true r row rs rest e later = inl (cc)
in_when false r row rs rest e later = inr (later e)

with_serial_in : (rows : List SecretRow) (serial : ℕ) (row : SecretRow) → row_with rows serial ≡ Some row
    → IsIn rows row
with_serial_in [] serial row e = absurd (cc)
with_serial_in (r ∷ rs) serial row e =
    in_when (eqb r.serial serial) r row rs (row_with rs serial) e (with_serial_in rs serial row)

-- where each row of a list was in the one before it
came_in : (old new : List SecretRow) (next serial : ℕ) → IsTrue (rises 0 (row_serials old) next)
    → ((row : SecretRow) → IsIn new row → IsIn old row) → CameFrom (row_with new serial) (row_with old serial)
came_in old new next serial rising was = by (row_with new serial) refl
  where
    by : (now : Option SecretRow) → row_with new serial ≡ now → CameFrom now (row_with old serial)
    by None e = tt
    by (Some row) e =
        let own : row_with old row.serial ≡ Some row =
        row_with_own old 0 next row rising (was row (with_serial_in new serial row e)) in
        let there : row_with old serial ≡ Some row =
        subst (λ n. row_with old n ≡ Some row) (row_with_has new serial row e) own in
        subst (λ (o : Option SecretRow). CameFrom (Some row) o) (sym there) (stay_same row.versions)

swept_came : (rows : List SecretRow) (moment : Moment) (next serial : ℕ) → IsTrue (rises 0 (row_serials rows) next)
    → CameFrom (row_with (swept rows moment) serial) (row_with rows serial)
swept_came rows moment next serial rising =
    came_in rows (swept rows moment) next serial rising (λ row i. unswept_in rows moment row i)

undropped_in : (rows : List SecretRow) (serial : ℕ) (row : SecretRow) → IsIn (dropped rows serial) row → IsIn rows row
undropped_in [] serial row i = i
undropped_in (r ∷ rs) serial row i = by (eqb r.serial serial) i (undropped_in rs serial row)
  where
    by : (b : Bool) → IsIn (cond b (dropped rs serial) (r ∷ dropped rs serial)) row
        → (IsIn (dropped rs serial) row → IsIn rs row) → (r ≡ row) ⊎ IsIn rs row
    by true i later = inr (later i)
    by false (inl e) later = inl e
    by false (inr i) later = inr (later i)

replaced_came : (rows : List SecretRow) (row old : SecretRow) (serial : ℕ) → row_with rows row.serial ≡ Some old
    → AllStay old.versions row.versions → CameFrom (row_with (replaced rows row) serial) (row_with rows serial)
replaced_came [] row old serial e stay = absurd (cc)
replaced_came (r ∷ rs) row old serial e stay =
    by (eqb r.serial row.serial) refl e (λ f. replaced_came rs row old serial f stay)
  where
    here : (b : Bool) → r ≡ old
        → CameFrom (cond b (Some row) (row_with rs serial)) (cond b (Some r) (row_with rs serial))
    here true same = subst (λ (q : SecretRow). AllStay q.versions row.versions) (sym same) stay
    here false same = came_same (row_with rs serial)

    behind : (b : Bool) → CameFrom (row_with (replaced rs row) serial) (row_with rs serial)
        → CameFrom (cond b (Some r) (row_with (replaced rs row) serial)) (cond b (Some r) (row_with rs serial))
    behind true rest = stay_same r.versions
    behind false rest = rest

    by : (b : Bool) → b ≡ eqb r.serial row.serial → cond b (Some r) (row_with rs row.serial) ≡ Some old
        → (row_with rs row.serial ≡ Some old → CameFrom (row_with (replaced rs row) serial) (row_with rs serial))
        → CameFrom (row_with (cond b (row ∷ rs) (r ∷ replaced rs row)) serial) (row_with (r ∷ rs) serial)
    by true t f later =
        let tests : eqb row.serial serial ≡ eqb r.serial serial =
        ap (λ n. eqb n serial) (sym (eqb-true r.serial row.serial (sym t))) in
        subst
        (λ b. CameFrom (cond (eqb row.serial serial) (Some row) (row_with rs serial))
        (cond b (Some r) (row_with rs serial)))
        tests (here (eqb row.serial serial) (cc))
    by false t f later = behind (eqb r.serial serial) (later f)

pushed_came : (rows : List SecretRow) (row : SecretRow) (serial : ℕ) → serial < row.serial
    → CameFrom (row_with (rows ++ row ∷ []) serial) (row_with rows serial)
pushed_came [] row serial early = by (eqb row.serial serial) refl
  where
    by : (b : Bool) → b ≡ eqb row.serial serial → CameFrom (cond b (Some row) None) None
    by true t =
        let same : row.serial ≡ serial = eqb-true row.serial serial (sym t) in absurd (omega (arith, same, early))
    by false t = tt
pushed_came (r ∷ rs) row serial early = by (eqb r.serial serial) (pushed_came rs row serial early)
  where
    by : (b : Bool) → CameFrom (row_with (rs ++ row ∷ []) serial) (row_with rs serial)
        → CameFrom (cond b (Some r) (row_with (rs ++ row ∷ []) serial)) (cond b (Some r) (row_with rs serial))
    by true rest = stay_same r.versions
    by false rest = rest

settled_came : (rows : List SecretRow) (serial : ℕ)
    → CameFrom (row_with (map settle rows) serial) (row_with rows serial)
settled_came [] serial = tt
settled_came (r ∷ rs) serial = by (eqb r.serial serial) (settled_came rs serial)
  where
    by : (b : Bool) → CameFrom (row_with (map settle rs) serial) (row_with rs serial)
        → CameFrom (cond b (Some (settle r)) (row_with (map settle rs) serial)) (cond b (Some r) (row_with rs serial))
    by true rest = stay_same r.versions
    by false rest = rest

-- ---- all rows of an entry

-- what came from the rows that were swept, and is settled then
after_sweep : (rows : Rows) (moment : Moment) (secrets : List SecretRow) (next : ℕ) → Sound rows → rows.next ≤ next
    → ((serial : ℕ) → serial < rows.next
    → CameFrom (row_with secrets serial) (row_with (swept rows.secrets moment) serial))
    → EachStays rows (record { next = next; secrets = map settle secrets })
after_sweep rows moment secrets next sound later came =
    let new : List SecretRow = map settle secrets in
    let all : (serial : ℕ) → serial < rows.next → CameFrom (row_with new serial) (row_with rows.secrets serial) =
    λ serial early. came_on (row_with rows.secrets serial) (row_with secrets serial) (row_with new serial)
    (came_on (row_with rows.secrets serial) (row_with (swept rows.secrets moment) serial) (row_with secrets serial)
    (swept_came rows.secrets moment rows.next serial sound.serials) (came serial early))
    (settled_came secrets serial) in
    record {
      later = later;
      there = λ serial early is. came_there (row_with new serial) (row_with rows.secrets serial) (all serial early) is;
      stay = λ serial early is. came_stay (row_with new serial) (row_with rows.secrets serial) (all serial early) is;
    }

-- no row is changed
pub none_changed : (rows : Rows) (moment : Moment) → Sound rows → EachStays rows (settled (sweep rows moment))
none_changed rows moment sound =
    after_sweep rows moment (swept rows.secrets moment) rows.next sound (omega arith)
    (λ serial early. came_same (row_with (swept rows.secrets moment) serial))

-- one row is changed
with_row_came : (secrets : List SecretRow) (next serial : ℕ) (moment : Moment) (change : SecretRow → SecretRow)
    (found : Option SecretRow) → IsTrue (rises 0 (row_serials secrets) next)
    → ((row : SecretRow) → found ≡ Some row → IsIn secrets row)
    → ((row : SecretRow) → found ≡ Some row → RowStays row (change row))
    → CameFrom (row_with (with_row secrets found (plain moment) change) serial) (row_with secrets serial)
with_row_came secrets next serial moment change None rising among stays = came_same (row_with secrets serial)
with_row_came secrets next serial moment change (Some row) rising among stays =
    let stay = stays row refl in
    replaced_came secrets (record (change row) { changed = moment }) row serial
    (ap (λ n. row_with secrets n) stay.serial ∙ row_with_own secrets 0 next row rising (among row refl)) stay.versions

-- the row that a SecretId names is changed
pub named_stays : (rows : Rows) (moment : Moment) (id : SecretId) (change : SecretRow → SecretRow) → Sound rows
    → ((row : SecretRow) → found rows moment id ≡ Some row → RowStays row (change row))
    → EachStays rows (settled (change_named (sweep rows moment) id (plain moment) change))
named_stays rows moment id change sound stays =
    let secrets : List SecretRow = swept rows.secrets moment in
    after_sweep rows moment (with_row secrets (named_by secrets id) (plain moment) change) rows.next sound (omega arith)
    (λ serial early. with_row_came secrets rows.next serial moment change (named_by secrets id)
    (sweep_sound rows moment sound).serials (λ row e. named_by_in secrets id row e) stays)

-- the same by a whole ARN
pub with_arn_stays : (rows : Rows) (moment : Moment) (arn : List ℕ) (change : SecretRow → SecretRow) → Sound rows
    → ((row : SecretRow) → found_arn rows moment arn ≡ Some row → RowStays row (change row))
    → EachStays rows (settled (change_with_arn (sweep rows moment) arn (plain moment) change))
with_arn_stays rows moment arn change sound stays =
    let secrets : List SecretRow = swept rows.secrets moment in
    after_sweep rows moment (with_row secrets (found_arn rows moment arn) (plain moment) change) rows.next sound
    (omega arith)
    (λ serial early. with_row_came secrets rows.next serial moment change (found_arn rows moment arn)
    (sweep_sound rows moment sound).serials (λ row e. with_arn_in secrets arn row e) stays)

-- the row that a SecretId names is dropped
without_came : (secrets : List SecretRow) (next serial : ℕ) (found : Option SecretRow)
    → IsTrue (rises 0 (row_serials secrets) next)
    → CameFrom (row_with (without_row secrets found) serial) (row_with secrets serial)
without_came secrets next serial None rising = came_same (row_with secrets serial)
without_came secrets next serial (Some row) rising =
    came_in secrets (dropped secrets row.serial) next serial rising (λ r i. undropped_in secrets row.serial r i)

pub drop_stays : (rows : Rows) (moment : Moment) (id : SecretId) → Sound rows
    → EachStays rows (settled (drop_named (sweep rows moment) id))
drop_stays rows moment id sound =
    let secrets : List SecretRow = swept rows.secrets moment in
    after_sweep rows moment (without_row secrets (named_by secrets id)) rows.next sound (omega arith)
    (λ serial early. without_came secrets rows.next serial (named_by secrets id)
    (sweep_sound rows moment sound).serials)

-- a row is added, under the next serial
pub push_stays : (rows : Rows) (moment : Moment) (row : SecretRow) → Sound rows → row.serial ≡ rows.next
    → EachStays rows (settled (record { next = rows.next + 1; secrets = swept rows.secrets moment ++ row ∷ [] }))
push_stays rows moment row sound e =
    after_sweep rows moment (swept rows.secrets moment ++ row ∷ []) (rows.next + 1) sound (omega arith)
    (λ serial early. pushed_came (swept rows.secrets moment) row serial (omega (arith, e, early)))
