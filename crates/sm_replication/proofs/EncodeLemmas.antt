-- What encoding says.
use Rattle.std.proofs.Common.{◌≡◌, ℕ, ◌+◌, ◌^◌, ◌<◌, ◌≤◌, Bool, Some, None, Result, Ok, Err, IfOk, IfErr, slice_get, drop, take-add, List, [], ◌∷◌, ◌++◌, length, take, get_or, map, flat_map, IsTrue, refl, sym, ap, subst, ◌∙◌, append_assoc, append-nil, zero, suc, arith}
use Rattle.std.specs.List.{list_all}
use Rattle.std.proofs.lemmas.Bool.{and_parts}
use Rattle.std.proofs.lemmas.List.{take_all, take_more}
use Rattle.std.proofs.lemmas.List.Concat.{flat_map-append}
use Rattle.sm_model.specs.declared.entry.Entry.{Entry}
use Rattle.sm_record.specs.declared.edition.Edition.TheVariants.{Second}
use Rattle.sm_record.specs.Spelling.{spelling, HasSpelling}
use Rattle.sm_model.specs.declared.rows.SecretRow.{SecretRow}
use Rattle.sm_record.specs.Rows.{start, secret, row_head, version, head_of_row, start_of_base}
use Rattle.sm_record.specs.declared.base.Base.{Base}
use Rattle.sm_record.specs.Snapshots.{snapshot, HasSnapshot, start_body, secret_bodies}
use Rattle.sm_record.proofs.ReadingLemmas.{item_fits}
use Rattle.sm_record.proofs.SnapshotLaws.{snapshot_bodies, snapshot_fits, secret_fits, more_bodies}
use Rattle.sm_replication.specs.declared.frame.Frame.TheVariants as frame
use Rattle.sm_replication.specs.declared.frame.TheConstants.{FRAME_ENTRIES}
use Rattle.sm_replication.specs.Spelled.{AreSpelled}
use Rattle.sm_replication.specs.declared.encoding.EncodeRefused.{EncodeRefused}
use Rattle.sm_replication.specs.declared.encoding.EncodeRefused.TheVariants.{TooLong, Memory}
use Rattle.sm_replication.specs.Outputs.{IsEncoded, IfTooLong}
use Rattle.sm_replication.specs.Parcels as parcels
use Rattle.sm_replication.specs.declared.input.TheConstants.{LIST_LIMIT}
use Rattle.sm_replication.specs.Parcels.{bodies_at, listed_size}
use Rattle.sm_replication.proofs.ExtentLemmas.{items_count}
use Rattle.sm_replication.proofs.ParcelLaws.{parcel_spells}
use Rattle.sm_replication.proofs.DecodeLemmas.{size_take, size_more}

pub spelled_at : (entries : List Entry) (i : ℕ) (entry : Entry) → AreSpelled entries → i < length entries
    → entry ≡ get_or entries i entry → HasSpelling Second entry
spelled_at [] i entry all lt at = absurd (omega (arith, lt))
spelled_at (e ∷ es) zero entry all lt at = subst (HasSpelling Second) (sym at) all.0
spelled_at (e ∷ es) (suc i) entry all lt at = spelled_at es i entry all.1 (omega (arith, lt)) at

-- an item of a list that is not too long is not too long
pub item_short : (items : List (List ℕ)) (i : ℕ) (item : List ℕ) → listed_size items ≤ LIST_LIMIT → i < length items
    → item ≡ get_or items i item → length item < 2 ^ 32
item_short items i item le lt at =
    omega (arith, size_more items i item lt at, size_take (i + 1) items, le)

-- a list that is not too long has not too many items
pub count_short : (items : List (List ℕ)) → listed_size items ≤ LIST_LIMIT → length items < 2 ^ 32
count_short items le = omega (arith, items_count items, le)

-- the bodies of one more entry
pub entries_more : (entries : List Entry) (i : ℕ) (entry : Entry) (bodies : List (List ℕ)) → i < length entries
    → entry ≡ get_or entries i entry → bodies ≡ map (spelling Second) (take i entries)
    → bodies ++ spelling Second entry ∷ [] ≡ map (spelling Second) (take (i + 1) entries)
entries_more entries i entry bodies lt at so_far =
    ap (λ (xs : List (List ℕ)). xs ++ spelling Second entry ∷ []) so_far
    ∙ sym (map_push (take i entries) entry)
    ∙ ap (map (spelling Second)) (ap (λ (e : Entry). take i entries ++ e ∷ []) at ∙ sym (take_more entries i entry lt))
  where
    map_push : (es : List Entry) (e : Entry)
        → map (spelling Second) (es ++ e ∷ []) ≡ map (spelling Second) es ++ spelling Second e ∷ []
    map_push [] e = refl
    map_push (d ∷ es) e = ap (λ (xs : List (List ℕ)). spelling Second d ∷ xs) (map_push es e)

pub entries_all : (entries : List Entry) (i : ℕ) (bodies : List (List ℕ)) → length entries ≤ i
    → bodies ≡ map (spelling Second) (take i entries) → bodies ≡ map (spelling Second) entries
entries_all entries i bodies le is = is ∙ ap (map (spelling Second)) (take_all i entries le)

-- ---- bodies that are added one thing after the other

pub head_fits : (row : SecretRow) → IsTrue ((secret Second).fits row)
    → IsTrue ((row_head Second).fits (head_of_row row))
head_fits row fits = (secret_fits Second row fits).0

pub versions_fit : (row : SecretRow) → IsTrue ((secret Second).fits row) → IsTrue (list_all version.fits row.versions)
versions_fit row fits = (secret_fits Second row fits).1

pub fits_at : {A : Type 0} (test : A → Bool) (items : List A) (place : ℕ) (item : A) → Some item ≡ slice_get items place
    → IsTrue (list_all test items) → IsTrue (test item)
fits_at test [] place item is all = cc
fits_at test (x ∷ xs) zero item is all =
    let same : x ≡ item = cc in
    subst (λ y. IsTrue (test y)) same (and_parts (test x) (list_all test xs) all).0
fits_at test (x ∷ xs) (suc place) item is all =
    fits_at test xs place item is (and_parts (test x) (list_all test xs) all).1

pub one_at : {A : Type 0} (items : List A) (place : ℕ) (item : A) → Some item ≡ slice_get items place
    → take 1 (drop place items) ≡ item ∷ []
one_at [] place item is = cc
one_at (x ∷ xs) zero item is = let same : x ≡ item = cc in ap (λ y. y ∷ []) same
one_at (x ∷ xs) (suc place) item is = one_at xs place item is

none_at : {A : Type 0} (items : List A) (place : ℕ) → None ≡ slice_get items place → take 1 (drop place items) ≡ []
none_at [] zero is = refl
none_at [] (suc place) is = refl
none_at (x ∷ xs) zero is = cc
none_at (x ∷ xs) (suc place) is = none_at xs place is

pub bodies_same : {A : Type 0} (spell : A → List (List ℕ)) (items : List A) (place : ℕ) (old : List (List ℕ))
    → None ≡ slice_get items place → old ≡ old ++ flat_map spell (take 1 (drop place items))
bodies_same spell items place old none =
    sym (append-nil old) ∙ ap (λ xs. old ++ flat_map spell xs) (sym (none_at items place none))

pub bodies_more : {A : Type 0} (spell : A → List (List ℕ)) (items : List A) (place : ℕ)
    (first old new : List (List ℕ)) → old ≡ first ++ flat_map spell (take place items)
    → new ≡ old ++ flat_map spell (take 1 (drop place items))
    → new ≡ first ++ flat_map spell (take (place + 1) items)
bodies_more spell items place first old new before more =
    more ∙ ap (λ (xs : List (List ℕ)). xs ++ flat_map spell (take 1 (drop place items))) before
    ∙ append_assoc first (flat_map spell (take place items)) (flat_map spell (take 1 (drop place items)))
    ∙ ap (λ (xs : List (List ℕ)). first ++ xs)
    (sym (flat_map-append spell (take place items) (take 1 (drop place items)))
    ∙ ap (flat_map spell) (sym (take-add place 1 items)))

pub bodies_all : {A : Type 0} (spell : A → List (List ℕ)) (items : List A) (place : ℕ) (first new : List (List ℕ))
    → length items ≤ place → new ≡ first ++ flat_map spell (take place items) → new ≡ first ++ flat_map spell items
bodies_all spell items place first new le is =
    is ∙ ap (λ xs. first ++ flat_map spell xs) (take_all place items le)

pub secret_fits_at : (secrets : List SecretRow) (i : ℕ) (row : SecretRow)
    → IsTrue (list_all (secret Second).fits secrets) → i < length secrets → row ≡ get_or secrets i row
    → IsTrue ((secret Second).fits row)
secret_fits_at secrets i row fits lt at =
    subst (λ r. IsTrue ((secret Second).fits r)) (sym at) (item_fits (secret Second).fits secrets i row lt fits)

pub secrets_more : (secrets : List SecretRow) (i : ℕ) (row : SecretRow) (first old new : List (List ℕ))
    → i < length secrets → row ≡ get_or secrets i row
    → old ≡ first ++ flat_map (secret_bodies Second) (take i secrets) → new ≡ old ++ secret_bodies Second row
    → new ≡ first ++ flat_map (secret_bodies Second) (take (i + 1) secrets)
secrets_more secrets i row first old new lt at before more =
    more ∙ ap (λ (xs : List (List ℕ)). xs ++ secret_bodies Second row) before
    ∙ append_assoc first (flat_map (secret_bodies Second) (take i secrets)) (secret_bodies Second row)
    ∙ ap (λ (xs : List (List ℕ)). first ++ xs) (sym (more_bodies (secret_bodies Second) secrets i row lt at))

pub rows_start : (base : Base) → HasSnapshot Second base → IsTrue (start.fits (start_of_base base))
rows_start base fits = (snapshot_fits Second base fits).0

pub rows_secrets : (base : Base) → HasSnapshot Second base → IsTrue (list_all (secret Second).fits base.rows.secrets)
rows_secrets base fits = (snapshot_fits Second base fits).1

pub rows_are : (base : Base) (body : List ℕ) (first new : List (List ℕ)) → body ≡ start_body base
    → first ≡ body ∷ [] → new ≡ first ++ flat_map (secret_bodies Second) base.rows.secrets
    → new ≡ snapshot Second base
rows_are base body first new body_is first_is is =
    is ∙ ap (λ (xs : List (List ℕ)). xs ++ flat_map (secret_bodies Second) base.rows.secrets)
    (first_is ∙ ap (λ (b : List ℕ). b ∷ []) body_is)
    ∙ sym (snapshot_bodies Second base)

-- ---- frames

module _ (at : ℕ) (bodies : List (List ℕ)) (result : Result (List ℕ) EncodeRefused) (lt : at < 2 ^ 64)
    (short : IfOk result (λ _. listed_size bodies ≤ LIST_LIMIT))
    (long : IfErr result (IfTooLong (listed_size bodies ≤ LIST_LIMIT → ⊥))) where
  pub entries_encoded : (entries : List Entry) → AreSpelled entries → length entries ≤ FRAME_ENTRIES
      → bodies ≡ map (spelling Second) entries
      → IfOk result (λ bytes. bytes ≡ 1 ∷ bodies_at.spell (at, bodies)) → IsEncoded (frame.Entries at entries) result
  entries_encoded entries spelled few are bytes_are = by result short long bytes_are
    where
      own : List (List ℕ)
      own = map (spelling Second) entries

      count_of : (es : List Entry) → length (map (spelling Second) es) ≡ length es
      count_of [] = refl
      count_of (e ∷ es) = ap suc (count_of es)

      by : (r : Result (List ℕ) EncodeRefused) → IfOk r (λ _. listed_size bodies ≤ LIST_LIMIT)
          → IfErr r (IfTooLong (listed_size bodies ≤ LIST_LIMIT → ⊥))
          → IfOk r (λ bytes. bytes ≡ 1 ∷ bodies_at.spell (at, bodies)) → IsEncoded (frame.Entries at entries) r
      by (Ok bytes) s l e = (
        record {
          parts = spelled;
          within = (lt, omega (arith, count_of entries, few), subst (λ bs. listed_size bs ≤ LIST_LIMIT) are s);
        },
        e ∙ ap (λ bs. 1 ∷ bodies_at.spell (at, bs)) are ∙ sym (parcel_spells (parcels.Entries at own)),
      )
      by (Err TooLong) s l e = λ within. l (subst (λ bs. listed_size bs ≤ LIST_LIMIT) (sym are) within.2)
      by (Err Memory) s l e = tt

  pub rows_encoded : (base : Base) → HasSnapshot Second base → bodies ≡ snapshot Second base
      → IfOk result (λ bytes. bytes ≡ 2 ∷ bodies_at.spell (at, bodies)) → IsEncoded (frame.Rows at base) result
  rows_encoded base spelled are bytes_are = by result short long bytes_are
    where
      by : (r : Result (List ℕ) EncodeRefused) → IfOk r (λ _. listed_size bodies ≤ LIST_LIMIT)
          → IfErr r (IfTooLong (listed_size bodies ≤ LIST_LIMIT → ⊥))
          → IfOk r (λ bytes. bytes ≡ 2 ∷ bodies_at.spell (at, bodies)) → IsEncoded (frame.Rows at base) r
      by (Ok bytes) s l e = (
        record {
          parts = spelled;
          within = (lt, subst (λ bs. listed_size bs ≤ LIST_LIMIT) are s);
        },
        e ∙ ap (λ bs. 2 ∷ bodies_at.spell (at, bs)) are ∙ sym (parcel_spells (parcels.Rows at (snapshot Second base))),
      )
      by (Err TooLong) s l e = λ within. l (subst (λ bs. listed_size bs ≤ LIST_LIMIT) (sym are) within.1)
      by (Err Memory) s l e = tt
