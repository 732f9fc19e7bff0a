-- A walk over secrets that shows those that are still there.
use Rattle.std.proofs.Common.{◌≡◌, ℕ, zero, suc, subst, ◌+◌, ◌*◌, ◌≤◌, ◌<◌, Bool, true, false, cond, List, [], ◌∷◌, ◌++◌, length, take, Some, refl, sym, ap, ◌∙◌, arith, string_bytes}
use Rattle.std.specs.List.{slice_get}
use Rattle.std.proofs.lemmas.List.{length-append, append_assoc, append-nil, take_all}
use Rattle.std.proofs.lemmas.Grind.{take_at_read}
use Rattle.std.proofs.lemmas.Option.{slice_get_within, get_or_from_slice_get}
use Rattle.sm_base.specs.declared.moment.Moment.{Moment}
use Rattle.sm_base.specs.declared.limits.TheConstants.{VERSIONS_LIMIT}
use Rattle.sm_model.specs.declared.rows.SecretRow.{SecretRow}
use Rattle.sm_versions.specs.Sound.{RowSound}
use Rattle.sm_table.specs.Sound.{EachSound}
use Rattle.sm_table.specs.Sweep.{is_gone, swept}
use Rattle.sm_summary.specs.declared.walk.Counted.{Counted}
use Rattle.sm_summary.specs.declared.walk.Shown.{Shown}
use Rattle.sm_summary.specs.Lines.{IsLine, AreLines}
use Rattle.sm_summary.specs.Summary.{version_count, IsCounted, IsShown, IsSummaryOf, totals, with_row}
use Rattle.sm_summary.proofs.LineLemmas.{same_lines}

-- ---- one secret more

lines_push : (rows : List SecretRow) (row : SecretRow) (text line : List ℕ) → AreLines rows text → IsLine row line
    → AreLines (rows ++ row ∷ []) (text ++ line)
lines_push [] row text line are is = (line, [], is, refl, rw are (sym (append-nil line)))
lines_push (r ∷ rs) row text line are is =
    (are.0, are.1 ++ line, are.2, lines_push rs row are.1 line are.3 is, rw are.4 (append_assoc are.0 are.1 line))

count_push : (rows : List SecretRow) (row : SecretRow)
    → version_count (rows ++ row ∷ []) ≡ version_count rows + length row.versions
count_push [] row = omega arith
count_push (r ∷ rs) row = omega (arith, count_push rs row)

shown_push : (rows : List SecretRow) (row : SecretRow) (old new : Shown) (line : List ℕ) → IsShown rows old
    → IsLine row line → new.secrets ≡ old.secrets + 1 → new.versions ≡ old.versions + length row.versions
    → string_bytes new.lines ≡ string_bytes old.lines ++ line → IsShown (rows ++ row ∷ []) new
shown_push rows row old new line is one secrets versions lines = record {
  secrets = secrets ∙ rw is.secrets (sym (length-append rows (row ∷ [])));
  versions = versions ∙ rw is.versions (sym (count_push rows row));
  lines = rw lines (lines_push rows row (string_bytes old.lines) line is.lines one);
}

-- what is shown with one secret more
pub shown_with : (row : SecretRow) (old new : Shown) (line : List ℕ) → IsLine row line
    → new.secrets ≡ old.secrets + 1 → new.versions ≡ old.versions + length row.versions
    → string_bytes new.lines ≡ string_bytes old.lines ++ line → (before : List SecretRow) → IsShown before old
    → IsShown (before ++ row ∷ []) new
shown_with row old new line one secrets versions lines before is =
    shown_push before row old new line is one secrets versions lines

-- what is counted with one secret more
pub counted_with : (row : SecretRow) (old new : Counted) → new.secrets ≡ old.secrets + 1
    → new.versions ≡ old.versions + length row.versions → (before : List SecretRow) → IsCounted before old
    → IsCounted (before ++ row ∷ []) new
counted_with row old new secrets versions before is = record {
  secrets = secrets ∙ rw is.secrets (sym (length-append before (row ∷ [])));
  versions = versions ∙ rw is.versions (sym (count_push before row));
}

-- ---- the walk

swept_push : (rows : List SecretRow) (row : SecretRow) (moment : Moment)
    → swept (rows ++ row ∷ []) moment
    ≡ cond (is_gone row moment) (swept rows moment) (swept rows moment ++ row ∷ [])
swept_push [] row moment = by (is_gone row moment)
  where
    by : (b : Bool) → cond b [] (row ∷ []) ≡ cond b [] (row ∷ [])
    by b = refl
swept_push (r ∷ rs) row moment =
    rw (swept_push rs row moment) (by (is_gone r moment) (is_gone row moment))
  where
    by : (b c : Bool)
        → cond b (cond c (swept rs moment) (swept rs moment ++ row ∷ []))
        (r ∷ cond c (swept rs moment) (swept rs moment ++ row ∷ []))
        ≡ cond c (cond b (swept rs moment) (r ∷ swept rs moment))
        (cond b (swept rs moment) (r ∷ swept rs moment) ++ row ∷ [])
    by true true = refl
    by true false = refl
    by false true = refl
    by false false = refl

next_taken : (rows : List SecretRow) (place : ℕ) (row : SecretRow) → slice_get rows place ≡ Some row
    → take (place + 1) rows ≡ take place rows ++ row ∷ []
next_taken rows place row at =
    (take_at_read rows place row (slice_get_within rows place row at)).1
    ∙ ap (λ r. take place rows ++ r ∷ []) (get_or_from_slice_get rows place row row at)

-- the next secret of the walk
pub shown_next : (rows : List SecretRow) (place : ℕ) (row : SecretRow) (moment : Moment) (shown : Shown)
    → slice_get rows place ≡ Some row → IsShown (with_row (swept (take place rows) moment) row moment) shown
    → IsShown (swept (take (place + 1) rows) moment) shown
shown_next rows place row moment shown at is =
    rw (next_taken rows place row at) (rw (swept_push (take place rows) row moment) is)

-- the end of the walk
pub shown_all : (rows : List SecretRow) (place : ℕ) (moment : Moment) (shown : Shown) → length rows ≤ place
    → IsShown (swept (take place rows) moment) shown → IsShown (swept rows moment) shown
shown_all rows place moment shown end is =
    subst (λ taken. IsShown (swept taken moment) shown) (take_all place rows end) is

-- the same of what is counted
pub counted_next : (rows : List SecretRow) (place : ℕ) (row : SecretRow) (moment : Moment) (counted : Counted)
    → slice_get rows place ≡ Some row → IsCounted (with_row (swept (take place rows) moment) row moment) counted
    → IsCounted (swept (take (place + 1) rows) moment) counted
counted_next rows place row moment counted at is =
    rw (next_taken rows place row at) (rw (swept_push (take place rows) row moment) is)

pub counted_all : (rows : List SecretRow) (place : ℕ) (moment : Moment) (counted : Counted) → length rows ≤ place
    → IsCounted (swept (take place rows) moment) counted → IsCounted (swept rows moment) counted
counted_all rows place moment counted end is =
    subst (λ taken. IsCounted (swept taken moment) counted) (take_all place rows end) is

-- ---- what holds of each secret

pub sound_at : (rows : List SecretRow) (place : ℕ) (row : SecretRow) → EachSound rows → slice_get rows place ≡ Some row
    → RowSound row
sound_at [] place row each at = absurd (cc)
sound_at (r ∷ rs) zero row each at = let same : Some r ≡ Some row = at in subst RowSound (cc) each.0
sound_at (r ∷ rs) (suc place) row each at = sound_at rs place row each.1 at

-- ---- the whole

pub one_summary : (rows : List SecretRow) (entries : ℕ) (a b : List ℕ) → IsSummaryOf rows entries a
    → IsSummaryOf rows entries b → b ≡ a
one_summary rows entries a b x y =
    y.2 ∙ ap (λ lines. totals (length rows) (version_count rows) entries ++ lines) (same_lines rows y.0 x.0 y.1 x.1)
    ∙ sym x.2
