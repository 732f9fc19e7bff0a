-- A file holds one thing at most.
use Rattle.std.proofs.Common.{◌≡◌, ℕ, ◌+◌, ◌<◌, ◌≤◌, ◌&&◌, Bool, true, false, cond, nat_le, List, [], ◌∷◌, ◌++◌, map, length, get_or, flat_map, Option, None, Some, refl, sym, ap, subst, ◌∙◌, inl, inr, arith}
use Rattle.std.proofs.lemmas.Bool.{cases_lt, and_parts, leb-true}
use Rattle.std.proofs.lemmas.List.{take_at, drop_at, length-take}
use Rattle.std.proofs.lemmas.List.Sums.{prefix_len-le-length}
use Rattle.std.specs.Int.{w64, to_be_bytes}
use Rattle.std.specs.List.{prefix_len}
use Rattle.sm_base.specs.declared.moment.TheConstants.{LAST_READING}
use Rattle.sm_journal.proofs.Front.{one_list, one_format, not_damaged}
use Rattle.sm_journal.specs.Records.{Recovers, IsDamaged}
use Rattle.sm_journal.specs.declared.format.Format.{Format}
use Rattle.sm_model.specs.declared.entry.Entry.{Entry}
use Rattle.sm_model.specs.declared.rows.SecretRow.{SecretRow}
use Rattle.sm_model.specs.declared.rows.VersionRow.{VersionRow}
use Rattle.sm_record.proofs.SnapshotLaws.{snapshot_bodies, spells_one_base}
use Rattle.sm_record.proofs.SpellingLaws.{spells_one}
use Rattle.sm_record.specs.Editions.{mark}
use Rattle.sm_record.specs.Entries.{entry, head, head_of}
use Rattle.sm_record.specs.Fields.{moment, long}
use Rattle.sm_record.specs.Rows.{start, row_head, version}
use Rattle.sm_record.specs.Snapshots.{snapshot, start_body, row_body, version_body, one_version, secret_bodies}
use Rattle.sm_record.specs.Spelling.{spelling, has_spelling, HasSpelling}
use Rattle.sm_record.specs.declared.base.Base.{Base}
use Rattle.sm_record.specs.declared.edition.Edition.{Edition}
use Rattle.sm_record.specs.declared.edition.Edition.TheVariants.{First, Second}
use Rattle.sm_store.proofs.EntryLists.{first_is, rest_is, none_is_some}
use Rattle.sm_store.specs.Files.{nothing_held, HoldsAs, IsForeign}
use Rattle.sm_store.specs.Held.{edition_of, Held, base_bodies, bodies_in, IsSnapshot, AreEntries, IsSpelledIn, HoldsFile}
use Rattle.sm_store.specs.Loading.{is_marked, marked_count, marked, behind_marked, IsUnheld}

-- ---- the first bytes of bodies

abbrev marked_byte : ℕ → Bool
marked_byte n = nat_le 241 n && nat_le n 243

early_byte : (n : ℕ) → n ≤ LAST_READING → get_or (to_be_bytes w64 n) 0 0 ≡ 0
early_byte n early = omega (arith, early)

first_byte : (d : Entry) → HasSpelling First d → get_or (spelling First d) 0 0 ≡ 0
unfolding spelling has_spelling entry head mark moment long
first_byte d fits =
    let of_head = (and_parts ((head First).fits (head_of d)) _ fits).0 in
    let early = (and_parts (nat_le d.moment.0 LAST_READING) _ (and_parts (moment.fits d.moment) _ of_head).0).0 in
    early_byte d.moment.0 (leb-true d.moment.0 LAST_READING early)

second_byte : (e : Entry) → get_or (spelling Second e) 0 0 ≡ 2
unfolding spelling entry head mark
second_byte e = refl

-- no entry's body is one of rows
entry_unmarked : (edition : Edition) (e : Entry) → HasSpelling edition e → is_marked (spelling edition e) ≡ false
unfolding spelling
entry_unmarked First e fits = ap marked_byte (first_byte e fits)
entry_unmarked Second e fits = ap marked_byte (second_byte e)

start_marked : (base : Base) → is_marked (start_body base) ≡ true
unfolding start_body start
start_marked base = refl

row_marked : (edition : Edition) (row : SecretRow) → is_marked (row_body edition row) ≡ true
unfolding row_body row_head
row_marked edition row = refl

version_marked : (v : VersionRow) → is_marked (version_body v) ≡ true
unfolding version_body version
version_marked v = refl

-- ---- the bodies of a base, and those behind them

abbrev AreMarked : List (List ℕ) → Type 0
AreMarked [] = Unit {0}
AreMarked (body ∷ bodies) = (is_marked body ≡ true) × AreMarked bodies

marked-append : (xs ys : List (List ℕ)) → AreMarked xs → AreMarked ys → AreMarked (xs ++ ys)
marked-append [] ys first second = second
marked-append (x ∷ xs) ys first second = (first.0, marked-append xs ys first.1 second)

versions_marked : (versions : List VersionRow) → AreMarked (flat_map one_version versions)
versions_marked [] = tt
versions_marked (v ∷ versions) = (version_marked v, versions_marked versions)

secrets_marked : (edition : Edition) (secrets : List SecretRow)
    → AreMarked (flat_map (secret_bodies edition) secrets)
secrets_marked edition [] = tt
secrets_marked edition (row ∷ secrets) =
    marked-append (secret_bodies edition row) (flat_map (secret_bodies edition) secrets)
    (row_marked edition row, versions_marked row.versions) (secrets_marked edition secrets)

base_marked : (edition : Edition) (base : Option Base) → AreMarked (base_bodies edition base)
base_marked edition None = tt
base_marked edition (Some base) = subst AreMarked (sym (snapshot_bodies edition base))
    (start_marked base, secrets_marked edition base.rows.secrets)

none_marked : (edition : Edition) (list : List Entry) → AreEntries edition list
    → marked_count (map (spelling edition) list) ≡ 0
none_marked edition [] all = refl
none_marked edition (e ∷ list) all =
    ap (λ (b : Bool). cond b (1 + prefix_len is_marked (map (spelling edition) list)) 0)
    (entry_unmarked edition e all.0)

count_is : (xs ys : List (List ℕ)) → AreMarked xs → marked_count ys ≡ 0 → marked_count (xs ++ ys) ≡ length xs
count_is [] ys all none = none
count_is (x ∷ xs) ys all none =
    let first : marked_count (x ∷ (xs ++ ys)) ≡ 1 + marked_count (xs ++ ys) =
    ap (λ (b : Bool). cond b (1 + prefix_len is_marked (xs ++ ys)) 0) all.0 in
    omega (arith, first, count_is xs ys all.1 none)

module _ (edition : Edition) (h : Held) (spelled : IsSpelledIn edition h) where
  count_in : marked_count (bodies_in edition h) ≡ length (base_bodies edition h.base)
  count_in = count_is (base_bodies edition h.base) (map (spelling edition) h.entries) (base_marked edition h.base)
      (none_marked edition h.entries spelled.entries)

  pub marked_in : marked (bodies_in edition h) ≡ base_bodies edition h.base
  marked_in = take_at (base_bodies edition h.base) (map (spelling edition) h.entries)
      (marked_count (bodies_in edition h)) (sym count_in)

  pub behind_in : behind_marked (bodies_in edition h) ≡ map (spelling edition) h.entries
  behind_in = drop_at (base_bodies edition h.base) (map (spelling edition) h.entries)
      (marked_count (bodies_in edition h)) (sym count_in)

-- ---- one thing for one list of bodies

has_start : (edition : Edition) (base : Base) → [] ≡ snapshot edition base → ⊥
has_start edition base same =
    none_is_some (start_body base) (flat_map (secret_bodies edition) base.rows.secrets)
    (same ∙ snapshot_bodies edition base)

pub same_base : (edition : Edition) (a b : Option Base) → IsSnapshot edition a → IsSnapshot edition b
    → base_bodies edition a ≡ base_bodies edition b → a ≡ b
same_base edition None None left right same = refl
same_base edition None (Some b) left right same = absurd (has_start edition b same)
same_base edition (Some a) None left right same = absurd (has_start edition a (sym same))
same_base edition (Some a) (Some b) left right same = ap Some (spells_one_base edition a b left right same)

same_entries : (edition : Edition) (a b : List Entry) → AreEntries edition a → AreEntries edition b
    → map (spelling edition) a ≡ map (spelling edition) b → a ≡ b
same_entries edition [] [] left right same = refl
same_entries edition [] (e ∷ b) left right same =
    absurd (none_is_some (spelling edition e) (map (spelling edition) b) same)
same_entries edition (d ∷ a) [] left right same =
    absurd (none_is_some (spelling edition d) (map (spelling edition) a) (sym same))
same_entries edition (d ∷ a) (e ∷ b) left right same =
    let one : d ≡ e = spells_one edition d e left.0 right.0
    (first_is (spelling edition d) (spelling edition e) (map (spelling edition) a) (map (spelling edition) b) same) in
    let more : a ≡ b = same_entries edition a b left.1 right.1
    (rest_is (spelling edition d) (spelling edition e) (map (spelling edition) a) (map (spelling edition) b) same) in
    cc

pub same_held : (edition : Edition) (a b : Held) → IsSpelledIn edition a → IsSpelledIn edition b
    → bodies_in edition a ≡ bodies_in edition b → a ≡ b
same_held edition a b left right same =
    let base = same_base edition a.base b.base left.base right.base
    (sym (marked_in edition a left) ∙ ap marked same ∙ marked_in edition b right) in
    let entries = same_entries edition a.entries b.entries left.entries right.entries
    (sym (behind_in edition a left) ∙ ap behind_marked same ∙ behind_in edition b right) in
    λ i. record { base = base i; entries = entries i }

none_held : (edition : Edition) (h : Held) → IsSpelledIn edition h → bodies_in edition h ≡ [] → h ≡ nothing_held
none_held edition h spelled same =
    same_held edition h nothing_held spelled (record { base = tt; entries = tt }) same

-- ---- one thing for one file

same_as : (bytes : List ℕ) (f g : Format) (a b : Held) → f ≡ g → HoldsAs f a bytes → HoldsAs g b bytes → a ≡ b
same_as bytes f g a b is left right =
    let right' = subst (λ (k : Format). HoldsAs k b bytes) (sym is) right in
    same_held (edition_of f) a b left.1 right'.1
    (one_list bytes f f (bodies_in (edition_of f) a) (bodies_in (edition_of f) b) left.0 right'.0)

short_none : (bytes : List ℕ) (f : Format) (bodies : List (List ℕ)) → length bytes ≤ 9 → Recovers bytes f bodies
    → bodies ≡ []
short_none bytes f bodies short (inl has) = has.1
short_none bytes f bodies short (inr has) = absurd (omega (arith, has.0, short))

pub one_held : (bytes : List ℕ) (a b : Held) → HoldsFile a bytes → HoldsFile b bytes → a ≡ b
one_held bytes a b left right = elim (cases_lt 9 (length bytes)) [
  | inl long ↦ same_as bytes left.0 right.0 a b
      (one_format bytes left.0 right.0 (bodies_in (edition_of left.0) a) (bodies_in (edition_of right.0) b) long left.1
      right.1)
      (left.1, left.2) (right.1, right.2)
  | inr short ↦ none_held (edition_of left.0) a left.2 (short_none bytes left.0 _ short left.1)
      ∙ sym (none_held (edition_of right.0) b right.2 (short_none bytes right.0 _ short right.1))
]

-- the bodies of a file that holds something spell it
pub held_bodies : (bytes : List ℕ) (h : Held) (f : Format) (bodies : List (List ℕ)) → HoldsFile h bytes
    → Recovers bytes f bodies → (bodies ≡ bodies_in (edition_of f) h) × IsSpelledIn (edition_of f) h
held_bodies bytes h f bodies has recovers = elim (cases_lt 9 (length bytes)) [
  | inl long ↦
      let is = one_format bytes has.0 f (bodies_in (edition_of has.0) h) bodies long has.1 recovers in
      let same = one_list bytes f has.0 bodies (bodies_in (edition_of has.0) h) recovers has.1 in
      subst (λ (k : Format). (bodies ≡ bodies_in (edition_of k) h) × IsSpelledIn (edition_of k) h) is (same, has.2)
  | inr short ↦
      let none = none_held (edition_of has.0) h has.2 (short_none bytes has.0 _ short has.1) in
      subst (λ (k : Held). (bodies ≡ bodies_in (edition_of f) k) × IsSpelledIn (edition_of f) k) (sym none)
      (short_none bytes f bodies short recovers, record { base = tt; entries = tt })
]

pub held_not_damaged : (bytes : List ℕ) (h : Held) (at entry : ℕ) → HoldsFile h bytes → IsDamaged bytes at entry → ⊥
held_not_damaged bytes h at entry has damaged =
    not_damaged bytes has.0 (bodies_in (edition_of has.0) h) at entry has.1 damaged

-- ---- what is held isn't foreign

-- a body among those of entries is somebody's spelling
among : (edition : Edition) (list before : List Entry) (body : List ℕ) (after : List (List ℕ))
    → AreEntries edition list → map (spelling edition) list ≡ map (spelling edition) before ++ body ∷ after
    → ((e : Entry) → HasSpelling edition e → ¬ (spelling edition e ≡ body)) → ⊥
among edition [] [] body after all same none = none_is_some body after same
among edition [] (b ∷ before) body after all same none =
    none_is_some (spelling edition b) (map (spelling edition) before ++ body ∷ after) same
among edition (e ∷ list) [] body after all same none =
    none e all.0 (first_is (spelling edition e) body (map (spelling edition) list) after same)
among edition (e ∷ list) (b ∷ before) body after all same none = among edition list before body after all.1
    (rest_is (spelling edition e) (spelling edition b) (map (spelling edition) list)
    (map (spelling edition) before ++ body ∷ after) same) none

-- marked bodies are some
pub some_marked : (bodies : List (List ℕ)) → 0 < marked_count bodies → marked bodies ≡ [] → ⊥
some_marked bodies some same = absurd (omega (
  arith,
  some,
  ap length same,
  length-take (marked_count bodies) bodies,
  prefix_len-le-length is_marked bodies,
))

not_unheld : (edition : Edition) (h : Held) (at entry : ℕ) → IsSpelledIn edition h
    → IsUnheld edition (bodies_in edition h) at entry → ⊥
not_unheld edition h at entry spelled (inl none) = by h.base spelled.base (marked_in edition h spelled)
  where
    by : (base : Option Base) → IsSnapshot edition base → marked (bodies_in edition h) ≡ base_bodies edition base → ⊥
    by None fits same = some_marked (bodies_in edition h) none.0 same
    by (Some base) fits same = none.1.none base fits (sym same)
not_unheld edition h at entry spelled (inr none) =
    let behind = none.1.behind in
    among edition h.entries none.0.entries behind.body behind.after spelled.entries
    (sym (behind_in edition h spelled) ∙ behind.split) behind.none

nothing_unheld : (edition : Edition) (at entry : ℕ) → IsUnheld edition [] at entry → ⊥
nothing_unheld edition at entry foreign =
    not_unheld edition nothing_held at entry (record { base = tt; entries = tt }) foreign

pub held_not_foreign : (bytes : List ℕ) (h : Held) (at entry : ℕ) → HoldsFile h bytes → IsForeign bytes at entry → ⊥
held_not_foreign bytes h at entry has foreign = elim (cases_lt 9 (length bytes)) [
  | inl long ↦
      let is = one_format bytes foreign.0 has.0 foreign.1 (bodies_in (edition_of has.0) h) long foreign.2 has.1 in
      let same = one_list bytes foreign.0 has.0 foreign.1 (bodies_in (edition_of has.0) h) foreign.2 has.1 in
      not_unheld (edition_of has.0) h at entry has.2
      (subst (λ (bodies : List (List ℕ)). IsUnheld (edition_of has.0) bodies at entry) same
      (subst (λ (f : Format). IsUnheld (edition_of f) foreign.1 at entry) is foreign.3))
  | inr short ↦ nothing_unheld (edition_of foreign.0) at entry
      (subst (λ (bodies : List (List ℕ)). IsUnheld (edition_of foreign.0) bodies at entry)
      (short_none bytes foreign.0 foreign.1 short foreign.2) foreign.3)
]
