-- How far bytes reach stays with more bytes behind them, and the bytes of parts reach their own length.
use Rattle.std.proofs.Common.{◌≡◌, ℕ, zero, suc, ◌+◌, ◌-◌, ◌*◌, ◌^◌, ◌<◌, ◌≤◌, ◌==◌, Bool, true, false, cond, IsTrue, ltb, List, [], ◌∷◌, ◌++◌, length, take, drop, flat_map, Result, Ok, Err, refl, sym, ap, subst, ◌∙◌, append_assoc, arith, length-append, length-drop}
use Rattle.std.specs.Int.{w32, w64, from_be_bytes}
use Rattle.std.proofs.lemmas.Bool.{ltb-true, ltb-false, lt-ltb, le-ltb}
use Rattle.std.proofs.lemmas.List.{take-append-le, drop-append-le}
use Rattle.sm_record.specs.Fields.{count, long, octets, listed}
use Rattle.sm_record.proofs.FieldLaws.{count_lawful, long_lawful}
use Rattle.sm_replication.specs.declared.extent.Extent.{Extent}
use Rattle.sm_replication.specs.declared.extent.Extent.TheVariants.{Whole, Over, Open}
use Rattle.sm_replication.specs.declared.frame.TheConstants.{FRAME_ENTRIES}
use Rattle.sm_replication.specs.declared.input.TheConstants.{LIST_LIMIT}
use Rattle.sm_replication.specs.Extents.{further, then_extent, reach, octets_extent, items_extent, counted, list_extent, placed, any_count, body_extent, extent}
use Rattle.sm_replication.specs.Laws.{Stays, StaysReached}
use Rattle.sm_replication.specs.Parcels.{Parcel, Entries, Rows, Message, bodies_at, spell_parcel, listed_size, IsWithin}

-- ---- numbers with more bytes behind them

-- a number at the front, and the bytes behind it
pub record Reads (read : List ℕ → Result (ℕ × List ℕ) ℕ) (width : ℕ) (bytes : List ℕ) (x : ℕ × List ℕ) : Type 0 where
  pub later : (more : List ℕ) → read (bytes ++ more) ≡ Ok (x.0, x.1 ++ more)
  pub size : length bytes ≡ width + length x.1

abbrev number_at : (width : ℕ) (of : List ℕ → ℕ) (bytes : List ℕ) → Result (ℕ × List ℕ) ℕ
number_at width of bytes =
    cond (ltb (length bytes) width) (Err (length bytes)) (Ok (of (take width bytes), drop width bytes))

module _ (width : ℕ) (of : List ℕ → ℕ) (bytes : List ℕ) where
  there : (more : List ℕ) → width ≤ length bytes
      → number_at width of (bytes ++ more) ≡ Ok (of (take width bytes), drop width bytes ++ more)
  there more le =
      rw (
        le-ltb (length (bytes ++ more)) width (omega (arith, length-append bytes more, le)),
        take-append-le width bytes more le,
        drop-append-le width bytes more le,
      ) refl

  pub number_reads : (x : ℕ × List ℕ) → number_at width of bytes ≡ Ok x → Reads (number_at width of) width bytes x
  number_reads x e = by (ltb (length bytes) width) refl e
    where
      by : (short : Bool) → ltb (length bytes) width ≡ short
          → cond short (Err (length bytes)) (Ok (of (take width bytes), drop width bytes)) ≡ Ok x
          → Reads (number_at width of) width bytes x
      by true is e = cc
      by false is e =
          let le : width ≤ length bytes = ltb-false (length bytes) width is in
          let x_is : (of (take width bytes), drop width bytes) ≡ x = cc in
          subst (λ (y : ℕ × List ℕ). Reads (number_at width of) width bytes y) x_is (record {
            later = λ more. there more le;
            size = omega (arith, length-drop width bytes, le);
          })

pub count_reads : (bytes : List ℕ) (x : ℕ × List ℕ) → count.read bytes ≡ Ok x → Reads count.read 4 bytes x
unfolding count
count_reads bytes x e = number_reads 4 (from_be_bytes w32) bytes x e

pub long_reads : (bytes : List ℕ) (x : ℕ × List ℕ) → long.read bytes ≡ Ok x → Reads long.read 8 bytes x
unfolding long
long_reads bytes x e = number_reads 8 (from_be_bytes w64) bytes x e

-- ---- what stays

further_stays : (n : ℕ) (e later : Extent) (size : ℕ) → n ≤ size → Stays e later (size - n)
    → Stays (further n e) (further n later) size
further_stays n (Whole m) later size le s = (ap (further n) s.0, omega (arith, s.1, le))
further_stays n Over later size le s = ap (further n) s
further_stays n Open later size le s = tt

then_stays : (e later : Extent) (size : ℕ) (next after : ℕ → Extent) → Stays e later size
    → ((n : ℕ) → e ≡ Whole n → n ≤ size → Stays (next n) (after n) (size - n))
    → Stays (then_extent e next) (then_extent later after) size
then_stays (Whole n) later size next after s step =
    subst (λ (l : Extent). Stays (further n (next n)) (then_extent l after) size) (sym s.0)
    (further_stays n (next n) (after n) size s.1 (step n refl s.1))
then_stays Over later size next after s step = ap (λ (l : Extent). then_extent l after) s
then_stays Open later size next after s step = tt

cond_stays : (b : Bool) (x x' y y' : Extent) (size : ℕ) → Stays x x' size → Stays y y' size
    → Stays (cond b x y) (cond b x' y') size
cond_stays true x x' y y' size s t = s
cond_stays false x x' y y' size s t = t

module _ (room n : ℕ) (rest more : List ℕ) (size : ℕ) (size_is : size ≡ 4 + length rest) where
  behind_stays : (short still : Bool) → ltb (length rest) n ≡ short → ltb (length (rest ++ more)) n ≡ still
      → Stays (cond short Open (Whole (4 + n))) (cond still Open (Whole (4 + n))) size
  behind_stays true still e f = tt
  behind_stays false true e f =
      absurd (omega (
        arith,
        ltb-false (length rest) n e,
        ltb-true (length (rest ++ more)) n f,
        length-append rest more,
      ))
  behind_stays false false e f = (refl, omega (arith, ltb-false (length rest) n e, size_is))

  reach_stays : Stays (reach room (Ok (n, rest))) (reach room (Ok (n, rest ++ more))) size
  reach_stays =
      cond_stays (ltb room (4 + n)) Over Over (cond (ltb (length rest) n) Open (Whole (4 + n)))
      (cond (ltb (length (rest ++ more)) n) Open (Whole (4 + n))) size refl
      (behind_stays (ltb (length rest) n) (ltb (length (rest ++ more)) n) refl refl)

pub octets_stay : (room : ℕ) (bytes more : List ℕ)
    → Stays (octets_extent room bytes) (octets_extent room (bytes ++ more)) (length bytes)
octets_stay room bytes more = by (count.read bytes) refl
  where
    by : (r : Result (ℕ × List ℕ) ℕ) → count.read bytes ≡ r
        → Stays (reach room r) (reach room (count.read (bytes ++ more))) (length bytes)
    by (Err left) e = tt
    by (Ok x) e =
        let reads = count_reads bytes x e in
        rw (reads.later more) (reach_stays room x.0 x.1 more (length bytes) reads.size)

pub items_stay : (n room : ℕ) (bytes more : List ℕ)
    → Stays (items_extent n room bytes) (items_extent n room (bytes ++ more)) (length bytes)
unfolding items_extent
items_stay zero room bytes more = (refl, omega arith)
items_stay (suc n) room bytes more =
    then_stays (octets_extent room bytes) (octets_extent room (bytes ++ more)) (length bytes)
    (λ used. items_extent n (room - used) (drop used bytes))
    (λ used. items_extent n (room - used) (drop used (bytes ++ more)))
    (octets_stay room bytes more)
    (λ used e le. subst
    (λ (xs : List ℕ). Stays (items_extent n (room - used) (drop used bytes)) (items_extent n (room - used) xs)
    (length bytes - used))
    (sym (drop-append-le used bytes more le))
    (subst (λ (size : ℕ). Stays (items_extent n (room - used) (drop used bytes))
    (items_extent n (room - used) (drop used bytes ++ more)) size) (length-drop used bytes)
    (items_stay n (room - used) (drop used bytes) more)))

pub list_stays : (most : ℕ) (bytes more : List ℕ)
    → Stays (list_extent most bytes) (list_extent most (bytes ++ more)) (length bytes)
list_stays most bytes more = by (count.read bytes) refl
  where
    by : (r : Result (ℕ × List ℕ) ℕ) → count.read bytes ≡ r
        → Stays (counted most r) (counted most (count.read (bytes ++ more))) (length bytes)
    by (Err left) e = tt
    by (Ok x) e =
        let reads = count_reads bytes x e in
        rw (reads.later more)
        (cond_stays (ltb most x.0) Over Over (further 4 (items_extent x.0 LIST_LIMIT x.1))
        (further 4 (items_extent x.0 LIST_LIMIT (x.1 ++ more))) (length bytes) refl
        (further_stays 4 (items_extent x.0 LIST_LIMIT x.1) (items_extent x.0 LIST_LIMIT (x.1 ++ more)) (length bytes)
        (omega (arith, reads.size))
        (subst (λ (size : ℕ). Stays (items_extent x.0 LIST_LIMIT x.1) (items_extent x.0 LIST_LIMIT (x.1 ++ more)) size)
        (omega (arith, reads.size)) (items_stay x.0 LIST_LIMIT x.1 more))))

pub placed_stays : (most : ℕ) (bytes more : List ℕ)
    → Stays (placed most (long.read bytes)) (placed most (long.read (bytes ++ more))) (length bytes)
placed_stays most bytes more = by (long.read bytes) refl
  where
    by : (r : Result (ℕ × List ℕ) ℕ) → long.read bytes ≡ r
        → Stays (placed most r) (placed most (long.read (bytes ++ more))) (length bytes)
    by (Err left) e = tt
    by (Ok x) e =
        let reads = long_reads bytes x e in
        rw (reads.later more)
        (further_stays 8 (list_extent most x.1) (list_extent most (x.1 ++ more)) (length bytes)
        (omega (arith, reads.size))
        (subst (λ (size : ℕ). Stays (list_extent most x.1) (list_extent most (x.1 ++ more)) size)
        (omega (arith, reads.size)) (list_stays most x.1 more)))

pub body_stays : (tag : ℕ) (bytes more : List ℕ)
    → Stays (body_extent tag bytes) (body_extent tag (bytes ++ more)) (length bytes)
body_stays tag bytes more =
    cond_stays (tag == 1) (placed FRAME_ENTRIES (long.read bytes)) (placed FRAME_ENTRIES (long.read (bytes ++ more)))
    (cond (tag == 2) (placed any_count (long.read bytes))
    (cond (tag == 3) (octets_extent (4 + LIST_LIMIT) bytes) Over))
    (cond (tag == 2) (placed any_count (long.read (bytes ++ more)))
    (cond (tag == 3) (octets_extent (4 + LIST_LIMIT) (bytes ++ more)) Over)) (length bytes)
    (placed_stays FRAME_ENTRIES bytes more)
    (cond_stays (tag == 2) (placed any_count (long.read bytes)) (placed any_count (long.read (bytes ++ more)))
    (cond (tag == 3) (octets_extent (4 + LIST_LIMIT) bytes) Over)
    (cond (tag == 3) (octets_extent (4 + LIST_LIMIT) (bytes ++ more)) Over) (length bytes)
    (placed_stays any_count bytes more)
    (cond_stays (tag == 3) (octets_extent (4 + LIST_LIMIT) bytes) (octets_extent (4 + LIST_LIMIT) (bytes ++ more))
    Over Over (length bytes) (octets_stay (4 + LIST_LIMIT) bytes more) refl))

pub stays_reached : StaysReached
stays_reached [] more = tt
stays_reached (tag ∷ bytes) more =
    further_stays 1 (body_extent tag bytes) (body_extent tag (bytes ++ more)) (suc (length bytes)) (omega arith)
    (subst (λ (size : ℕ). Stays (body_extent tag bytes) (body_extent tag (bytes ++ more)) size)
    (omega arith) (body_stays tag bytes more))

-- ---- how far parts reach

count_size : (n : ℕ) → length (count.spell n) ≡ 4
unfolding count
count_size n = refl

long_size : (n : ℕ) → length (long.spell n) ≡ 8
unfolding long
long_size n = refl

count_fits : (n : ℕ) → n < 2 ^ 32 → IsTrue (count.fits n)
unfolding count
count_fits n lt = lt-ltb n (2 ^ 32) lt

long_fits : (n : ℕ) → n < 2 ^ 64 → IsTrue (long.fits n)
unfolding long
long_fits n lt = lt-ltb n (2 ^ 64) lt

pub octets_size : (bytes : List ℕ) → length (octets.spell bytes) ≡ 4 + length bytes
unfolding octets
octets_size bytes =
    omega (arith, length-append (count.spell (length bytes)) bytes, count_size (length bytes))

reached : (room n : ℕ) (bytes rest : List ℕ) → n ≡ length bytes → 4 + n ≤ room
    → reach room (Ok (n, bytes ++ rest)) ≡ Whole (4 + n)
reached room n bytes rest is le =
    rw (
      le-ltb room (4 + n) le,
      le-ltb (length (bytes ++ rest)) n (omega (arith, length-append bytes rest, is)),
    ) refl

pub octets_whole : (room : ℕ) (bytes rest : List ℕ) → 4 + length bytes ≤ room → length bytes < 2 ^ 32
    → octets_extent room (octets.spell bytes ++ rest) ≡ Whole (4 + length bytes)
unfolding octets
octets_whole room bytes rest le lt =
    ap (λ (xs : List ℕ). octets_extent room xs) (append_assoc (count.spell (length bytes)) bytes rest)
    ∙ ap (reach room) (count_lawful.again (length bytes) (bytes ++ rest) (count_fits (length bytes) lt))
    ∙ reached room (length bytes) bytes rest refl le

pub items_size : (items : List (List ℕ)) → length (flat_map octets.spell items) ≡ listed_size items
items_size [] = refl
items_size (item ∷ items) =
    omega (arith, length-append (octets.spell item) (flat_map octets.spell items), octets_size item, items_size items)

pub items_whole : (items : List (List ℕ)) (room : ℕ) (rest : List ℕ) → listed_size items ≤ room → room < 2 ^ 32
    → items_extent (length items) room (flat_map octets.spell items ++ rest) ≡ Whole (listed_size items)
unfolding items_extent
items_whole [] room rest le lt = refl
items_whole (item ∷ items) room rest le lt =
    let others : List ℕ = flat_map octets.spell items ++ rest in
    let used : ℕ = 4 + length item in
    let front : octets_extent room (octets.spell item ++ others) ≡ Whole used
    = octets_whole room item others (omega (arith, le)) (omega (arith, le, lt)) in
    let behind : drop used (octets.spell item ++ others) ≡ others
    = ap (λ (n : ℕ). drop n (octets.spell item ++ others)) (sym (octets_size item))
    ∙ drop_front (octets.spell item) others in
    ap (λ (xs : List ℕ). items_extent (suc (length items)) room xs)
    (append_assoc (octets.spell item) (flat_map octets.spell items) rest)
    ∙ ap (λ (e : Extent). then_extent e (λ n. items_extent (length items) (room - n)
    (drop n (octets.spell item ++ others)))) front
    ∙ ap (λ (xs : List ℕ). further used (items_extent (length items) (room - used) xs)) behind
    ∙ ap (further used) (items_whole items (room - used) rest (omega (arith, le)) (omega (arith, lt)))
  where
    drop_front : (xs ys : List ℕ) → drop (length xs) (xs ++ ys) ≡ ys
    drop_front [] ys = refl
    drop_front (x ∷ xs) ys = drop_front xs ys

-- as many items as there are bytes for their lengths
pub items_count : (items : List (List ℕ)) → 4 * length items ≤ listed_size items
items_count [] = omega arith
items_count (item ∷ items) = omega (arith, items_count items)

pub list_whole : (most : ℕ) (items : List (List ℕ)) (rest : List ℕ) → length items ≤ most
    → listed_size items ≤ LIST_LIMIT
    → list_extent most ((listed octets).spell items ++ rest) ≡ Whole (4 + listed_size items)
unfolding listed
list_whole most items rest few le =
    let bodies : List ℕ = flat_map octets.spell items in
    ap (λ (xs : List ℕ). list_extent most xs) (append_assoc (count.spell (length items)) bodies rest)
    ∙ ap (counted most) (count_lawful.again (length items) (bodies ++ rest)
    (count_fits (length items) (omega (arith, items_count items, le))))
    ∙ ap (λ (b : Bool). cond b Over (further 4 (items_extent (length items) LIST_LIMIT (bodies ++ rest))))
    (le-ltb most (length items) few)
    ∙ ap (further 4) (items_whole items LIST_LIMIT rest le (omega arith))

pub list_size : (items : List (List ℕ)) → length ((listed octets).spell items) ≡ 4 + listed_size items
unfolding listed
list_size items =
    omega (
      arith,
      length-append (count.spell (length items)) (flat_map octets.spell items),
      count_size (length items),
      items_size items,
    )

pub bodies_whole : (most at : ℕ) (items : List (List ℕ)) (rest : List ℕ) → at < 2 ^ 64 → length items ≤ most
    → listed_size items ≤ LIST_LIMIT
    → placed most (long.read (bodies_at.spell (at, items) ++ rest)) ≡ Whole (12 + listed_size items)
bodies_whole most at items rest lt few le =
    let size : 8 + (4 + listed_size items) ≡ 12 + listed_size items = omega arith in
    ap (λ (xs : List ℕ). placed most (long.read xs)) (append_assoc (long.spell at) ((listed octets).spell items) rest)
    ∙ ap (placed most) (long_lawful.again at ((listed octets).spell items ++ rest) (long_fits at lt))
    ∙ ap (further 8) (list_whole most items rest few le) ∙ ap Whole size

pub bodies_size : (at : ℕ) (items : List (List ℕ)) → length (bodies_at.spell (at, items)) ≡ 12 + listed_size items
bodies_size at items =
    omega (arith, length-append (long.spell at) ((listed octets).spell items), long_size at, list_size items)

-- the bytes of parts reach their length
pub parcel_whole : (p : Parcel) (rest : List ℕ) → IsWithin p
    → extent (spell_parcel p ++ rest) ≡ Whole (length (spell_parcel p))
parcel_whole (Entries at bodies) rest w =
    ap (further 1) (bodies_whole FRAME_ENTRIES at bodies rest w.0 w.1 w.2)
    ∙ ap Whole (omega (arith, bodies_size at bodies))
parcel_whole (Rows at bodies) rest w =
    ap (further 1) (bodies_whole any_count at bodies rest w.0 (omega (arith, items_count bodies, w.1)) w.1)
    ∙ ap Whole (omega (arith, bodies_size at bodies))
parcel_whole (Message bytes) rest w =
    ap (further 1) (octets_whole (4 + LIST_LIMIT) bytes rest (omega (arith, w)) (omega (arith, w)))
    ∙ ap Whole (omega (arith, octets_size bytes))
