-- Entries that are spelled: when they were made, and where they stand in a file.
use Rattle.std.proofs.Common.{◌≡◌, ℕ, zero, suc, ◌+◌, ◌^◌, ◌<◌, ◌≤◌, ◌&&◌, nat_le, List, [], ◌∷◌, ◌++◌, map, flat_map, length, take, drop, get_or, Option, None, Some, refl, sym, ap, subst, ◌∙◌, arith, length-append, take-append-drop}
use Rattle.std.proofs.lemmas.Bool.{and_parts, leb-true}
use Rattle.std.proofs.lemmas.List.{take_more, take_all, length-take, length-map}
use Rattle.std.proofs.lemmas.List.Concat.{flat_map-append}
use Rattle.sm_base.specs.declared.moment.TheConstants.{LAST_READING}
use Rattle.sm_core.specs.Histories.{InTime}
use Rattle.sm_journal.specs.Records.{size, record_size, place_behind}
use Rattle.sm_model.specs.declared.entry.Entry.{Entry}
use Rattle.sm_model.specs.declared.rows.SecretRow.{SecretRow}
use Rattle.sm_model.specs.declared.rows.VersionRow.{VersionRow}
use Rattle.sm_record.proofs.SnapshotLaws.{snapshot_bodies}
use Rattle.sm_record.specs.Editions.{mark}
use Rattle.sm_record.specs.Entries.{entry, head, head_of}
use Rattle.sm_record.specs.Fields.{moment, long}
use Rattle.sm_record.specs.Snapshots.{snapshot, one_version, secret_bodies}
use Rattle.sm_record.specs.Spelling.{spelling, has_spelling, HasSpelling}
use Rattle.sm_record.specs.declared.base.Base.{Base}
use Rattle.sm_record.specs.declared.edition.Edition.{Edition}
use Rattle.sm_store.proofs.FillRuns.{size-append}
use Rattle.sm_store.specs.Held.{Held, base_bodies, bodies_in, AreEntries}
use Rattle.sm_recovery.specs.Unlawful.{front_of, IsToldBehind}

-- ---- when they were made

-- a spelled entry has a moment that a clock reads
spelled_moment : (edition : Edition) (e : Entry) → HasSpelling edition e → e.moment.0 ≤ LAST_READING
unfolding has_spelling entry head moment
spelled_moment edition e fits =
    let of_head = (and_parts ((head edition).fits (head_of e)) _ fits).0 in
    let behind_mark = (and_parts ((mark edition).fits tt) _ of_head).1 in
    let own = (and_parts (moment.fits e.moment) _ behind_mark).0 in
    leb-true e.moment.0 LAST_READING (and_parts (nat_le e.moment.0 LAST_READING) (long.fits e.moment.0) own).0

pub spelled_in_time : (edition : Edition) (list : List Entry) → AreEntries edition list → InTime list
spelled_in_time edition [] all = tt
spelled_in_time edition (e ∷ list) all = (spelled_moment edition e all.0, spelled_in_time edition list all.1)

-- ---- each of them, and a front of them

pub entry_at : (edition : Edition) (list : List Entry) (k : ℕ) (e : Entry) → AreEntries edition list
    → k < length list → e ≡ get_or list k e → HasSpelling edition e
entry_at edition [] k e all lt is = absurd (omega (arith, lt))
entry_at edition (d ∷ list) zero e all lt is = subst (HasSpelling edition) (sym is) all.0
entry_at edition (d ∷ list) (suc k) e all lt is = entry_at edition list k e all.1 (omega (arith, lt)) is

pub entries_take : (edition : Edition) (list : List Entry) (k : ℕ) → AreEntries edition list
    → AreEntries edition (take k list)
entries_take edition list zero all = tt
entries_take edition [] (suc k) all = tt
entries_take edition (d ∷ list) (suc k) all = (all.0, entries_take edition list k all.1)

-- ---- where they stand

pub sizes_take : (edition : Edition) (list : List Entry) (k : ℕ)
    → size (map (spelling edition) (take k list)) ≤ size (map (spelling edition) list)
sizes_take edition list zero = omega arith
sizes_take edition [] (suc k) = omega arith
sizes_take edition (d ∷ list) (suc k) = omega (arith, sizes_take edition list k)

sizes_more : (edition : Edition) (list : List Entry) (e : Entry)
    → size (map (spelling edition) (list ++ e ∷ []))
    ≡ size (map (spelling edition) list) + (5 + length (spelling edition e))
sizes_more edition [] e = omega arith
sizes_more edition (d ∷ list) e = omega (arith, sizes_more edition list e)

pub sizes_front : (edition : Edition) (list : List Entry) (k : ℕ) (e : Entry) → k < length list → e ≡ get_or list k e
    → size (map (spelling edition) (take (k + 1) list))
    ≡ size (map (spelling edition) (take k list)) + record_size (spelling edition e)
sizes_front edition list k e lt is =
    ap (λ (l : List Entry). size (map (spelling edition) l))
    (take_more list k e lt ∙ ap (λ (d : Entry). take k list ++ d ∷ []) (sym is))
    ∙ sizes_more edition (take k list) e

pub sizes_all : (edition : Edition) (list : List Entry) (k : ℕ) → length list ≤ k
    → size (map (spelling edition) (take k list)) ≡ size (map (spelling edition) list)
sizes_all edition list k le = ap (λ (l : List Entry). size (map (spelling edition) l)) (take_all k list le)

pub sizes_in : (edition : Edition) (h : Held)
    → size (bodies_in edition h) ≡ size (base_bodies edition h.base) + size (map (spelling edition) h.entries)
sizes_in edition h = size-append (base_bodies edition h.base) (map (spelling edition) h.entries)

-- each record has bytes
pub fewer_than_bytes : (bodies : List (List ℕ)) → length bodies ≤ size bodies
fewer_than_bytes [] = omega arith
fewer_than_bytes (body ∷ bodies) = omega (arith, fewer_than_bytes bodies)

-- what is told of the entry behind so many others
pub told_behind : (edition : Edition) (h : Held) (count at number gate bodies : ℕ) → count ≤ length h.entries
    → gate ≡ place_behind (base_bodies edition h.base)
    → at ≡ gate + size (map (spelling edition) (take count h.entries))
    → bodies ≡ length (base_bodies edition h.base) → number ≡ bodies + count → IsToldBehind edition h count at number
told_behind edition h count at number gate bodies within first place own is = record {
  place = omega (arith, place, first, sizes_in edition (front_of h count));
  number = omega (
    arith,
    is,
    own,
    within,
    length-append (base_bodies edition h.base) (map (spelling edition) (take count h.entries)),
    length-map (take count h.entries) (spelling edition),
    length-take count h.entries,
  );
}

-- ---- how many bodies a base has

versions_count : (versions : List VersionRow) → length (flat_map one_version versions) ≡ length versions
versions_count [] = refl
versions_count (v ∷ versions) = ap suc (versions_count versions)

pub secret_count : (edition : Edition) (row : SecretRow)
    → length (secret_bodies edition row) ≡ 1 + length row.versions
secret_count edition row = omega (arith, versions_count row.versions)

module _ (edition : Edition) (secrets : List SecretRow) where
  counts_next : (k : ℕ) (row : SecretRow) → k < length secrets → row ≡ get_or secrets k row
      → length (flat_map (secret_bodies edition) (take (k + 1) secrets))
      ≡ length (flat_map (secret_bodies edition) (take k secrets)) + (1 + length row.versions)
  counts_next k row lt is =
      let next : take (k + 1) secrets ≡ take k secrets ++ row ∷ [] =
      take_more secrets k row lt ∙ ap (λ (r : SecretRow). take k secrets ++ r ∷ []) (sym is) in
      omega (
        arith,
        ap (λ (rows : List SecretRow). length (flat_map (secret_bodies edition) rows)) next,
        ap length (flat_map-append (secret_bodies edition) (take k secrets) (row ∷ [])),
        length-append (flat_map (secret_bodies edition) (take k secrets))
            (flat_map (secret_bodies edition) (row ∷ [])),
        length-append (secret_bodies edition row) [],
        secret_count edition row,
      )

  counts_take : (k : ℕ) → length (flat_map (secret_bodies edition) (take k secrets))
      ≤ length (flat_map (secret_bodies edition) secrets)
  counts_take k =
      omega (
        arith,
        ap (λ (rows : List SecretRow). length (flat_map (secret_bodies edition) rows))
            (sym (take-append-drop k secrets)),
        ap length (flat_map-append (secret_bodies edition) (take k secrets) (drop k secrets)),
        length-append (flat_map (secret_bodies edition) (take k secrets))
            (flat_map (secret_bodies edition) (drop k secrets)),
      )

  -- what a count and one secret more come to
  pub record Counts (k count : ℕ) : Type 0 where
    pub is : count ≡ length (flat_map (secret_bodies edition) (take (k + 1) secrets))
    pub within : count ≤ length (flat_map (secret_bodies edition) secrets)

  pub count_more : (k count : ℕ) (row : SecretRow) → k < length secrets → row ≡ get_or secrets k row
      → count ≡ length (flat_map (secret_bodies edition) (take k secrets))
      → Counts k (count + (1 + length row.versions))
  count_more k count row lt is was = record {
    is = omega (arith, was, counts_next k row lt is);
    within = omega (arith, was, counts_next k row lt is, counts_take (k + 1));
  }

  pub count_all : (k : ℕ) → length secrets ≤ k
      → length (flat_map (secret_bodies edition) (take k secrets))
      ≡ length (flat_map (secret_bodies edition) secrets)
  count_all k le =
      ap (λ (rows : List SecretRow). length (flat_map (secret_bodies edition) rows)) (take_all k secrets le)

-- those of a base are one more
pub base_count : (edition : Edition) (base : Base)
    → length (snapshot edition base) ≡ 1 + length (flat_map (secret_bodies edition) base.rows.secrets)
base_count edition base = omega (arith, ap length (snapshot_bodies edition base))
