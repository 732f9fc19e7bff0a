-- One spelling for rows, and rows for each spelling.
use Rattle.std.proofs.Common.{◌≡◌, ℕ, ◌-◌, ◌+◌, ◌<◌, ◌≤◌, ◌==◌, ◌&&◌, IsTrue, IfOk, List, [], ◌∷◌, ◌++◌, length, take, get_or, Result, Ok, Err, flat_map, refl, sym, ap, subst, ◌∙◌, inl, inr, append-nil, eqb-true}
use Rattle.std.proofs.lemmas.List.{nil_from_length, take_more}
use Rattle.std.proofs.lemmas.List.Concat.{flat_map-append}
use Rattle.sm_base.specs.Outcomes.{OrMemory}
use Rattle.sm_model.specs.declared.rows.SecretRow.{SecretRow}
use Rattle.std.specs.List.{list_all}
use Rattle.std.proofs.lemmas.Bool.{and_parts}
use Rattle.sm_record.specs.Rows.{rows, start, secret, row_head, version, head_of_row, start_of_base}
use Rattle.sm_record.specs.Series.{AreBytes, total}
use Rattle.sm_record.specs.Snapshots.{snapshot, has_snapshot, HasSnapshot, placed_rows, decoded_rows, rows_told, AreDecodedFromSpelling, SpellsOneBase, version_body, row_body, start_body, secret_bodies}
use Rattle.sm_record.specs.declared.base.Base.{Base}
use Rattle.sm_record.specs.declared.edition.Edition.{Edition}
use Rattle.sm_record.specs.declared.unread.DecodeRefused.{DecodeRefused}
use Rattle.sm_record.specs.declared.unread.DecodeRefused.TheVariants.{NoEntry}
use Rattle.sm_record.proofs.Bytes.{chosen}
use Rattle.sm_record.proofs.SeriesLaws.{BeginsWith, brings}
use Rattle.sm_record.proofs.RowLaws.{rows_orderly}

abbrev whole_base : Base → Result Base ℕ
whole_base base = Ok base

abbrev no_base_at : ℕ → Result Base ℕ
no_base_at place = Err place

base_is : (a b : Base) → whole_base a ≡ whole_base b → a ≡ b
base_is a b same = cc

place_is : (p q : ℕ) → no_base_at p ≡ no_base_at q → p ≡ q
place_is p q same = cc

base_no_place : (a : Base) (p : ℕ) → no_base_at p ≡ whole_base a → ⊥
base_no_place a p same = cc

pub snapshot_is_decoded : (edition : Edition) (base : Base) → HasSnapshot edition base
    → decoded_rows edition (snapshot edition base) ≡ Ok base
unfolding decoded_rows snapshot has_snapshot
snapshot_is_decoded edition base fits =
    ap (placed_rows (total ((rows edition).spell base)))
    (ap (rows edition).read (sym (append-nil ((rows edition).spell base))) ∙ (rows_orderly edition).again base [] fits)

placed_ok : (whole : ℕ) (r : Result (Base × List (List ℕ)) ℕ) (base : Base) → placed_rows whole r ≡ whole_base base
    → r ≡ brings (base, [])
placed_ok whole (Ok x) base e =
    elim (chosen (length x.1 == 0) (whole_base x.0) (no_base_at (whole - total x.1)) (whole_base base) e) [
      | inl none_left ↦
          let first : x.0 ≡ base = base_is x.0 base none_left.1 in
          let second : x.1 ≡ [] = nil_from_length x.1 (eqb-true (length x.1) 0 none_left.0) in
          ap (λ (b : Base). brings (b, x.1)) first ∙ ap (λ (rest : List (List ℕ)). brings (base, rest)) second
      | inr more ↦ absurd (base_no_place base (whole - total x.1) more.1)
    ]
placed_ok whole (Err left) base e = absurd (base_no_place base (whole - left) e)

pub decoded_is_snapshot : (edition : Edition) (bodies : List (List ℕ)) (base : Base) → AreBytes bodies
    → decoded_rows edition bodies ≡ Ok base → HasSnapshot edition base × (snapshot edition base ≡ bodies)
unfolding decoded_rows snapshot has_snapshot
decoded_is_snapshot edition bodies base bytes h =
    let p : BeginsWith (rows edition) bodies base [] =
    (rows_orderly edition).takes bodies base [] bytes (placed_ok (total bodies) ((rows edition).read bodies) base h) in
    (p.fits, sym (p.parts ∙ append-nil ((rows edition).spell base)))

pub decoded_from_spelling : AreDecodedFromSpelling
decoded_from_spelling edition bodies base bytes = (
  decoded_is_snapshot edition bodies base bytes,
  λ s. ap (decoded_rows edition) (sym s.1) ∙ snapshot_is_decoded edition base s.0,
)

pub spells_one_base : SpellsOneBase
spells_one_base edition a b fits_a fits_b same =
    base_is a b
    (sym (snapshot_is_decoded edition a fits_a) ∙ ap (decoded_rows edition) same
    ∙ snapshot_is_decoded edition b fits_b)

-- ---- what decoding says

pub rows_found : (edition : Edition) (bodies : List (List ℕ)) (result : Result Base DecodeRefused) → AreBytes bodies
    → OrMemory (rows_told result) (decoded_rows edition bodies)
    → IfOk result (λ base. HasSnapshot edition base × (snapshot edition base ≡ bodies))
rows_found edition bodies (Ok base) bytes exact = decoded_is_snapshot edition bodies base bytes (sym exact)
rows_found edition bodies (Err refused) bytes exact = tt

pub only_rows : (edition : Edition) (bodies : List (List ℕ)) (result : Result Base DecodeRefused) (base : Base)
    → OrMemory (rows_told result) (decoded_rows edition bodies) → HasSnapshot edition base
    → snapshot edition base ≡ bodies → OrMemory (rows_told result) (Ok base)
only_rows edition bodies result base exact fits same =
    subst (λ (wanted : Result Base ℕ). OrMemory (rows_told result) wanted)
    (ap (decoded_rows edition) (sym same) ∙ snapshot_is_decoded edition base fits) exact

pub no_rows : (edition : Edition) (bodies : List (List ℕ)) (result : Result Base DecodeRefused) (place : ℕ)
    → OrMemory (rows_told result) (decoded_rows edition bodies) → result ≡ Err (NoEntry place)
    → (base : Base) → HasSnapshot edition base → ¬ (snapshot edition base ≡ bodies)
no_rows edition bodies result place exact is base fits same =
    let told : Err place ≡ decoded_rows edition bodies =
    subst (λ (r : Result Base DecodeRefused). OrMemory (rows_told r) (decoded_rows edition bodies)) is exact in
    base_no_place base place (told ∙ ap (decoded_rows edition) (sym same) ∙ snapshot_is_decoded edition base fits)

-- what is left behind rows, and from a field on that is not spelled, is no more than all bodies
pub left_within_all : (edition : Edition) (bodies : List (List ℕ)) (left : ℕ) → AreBytes bodies
    → (rows edition).read bodies ≡ Err left → left ≤ total bodies
left_within_all edition bodies left bytes h = (rows_orderly edition).within bodies left bytes h

-- ---- the bodies of rows, one by one

pub snapshot_bodies : (edition : Edition) (base : Base)
    → snapshot edition base ≡ start_body base ∷ flat_map (secret_bodies edition) base.rows.secrets
unfolding snapshot rows secret start_body row_body version_body
snapshot_bodies edition base = refl

pub snapshot_fits : (edition : Edition) (base : Base) → HasSnapshot edition base
    → IsTrue (start.fits (start_of_base base)) × IsTrue (list_all (secret edition).fits base.rows.secrets)
unfolding has_snapshot rows
snapshot_fits edition base fits =
    let parts = and_parts (start.fits (start_of_base base))
    (length base.rows.secrets == length base.rows.secrets && list_all (secret edition).fits base.rows.secrets) fits in (
      parts.0,
      (and_parts (length base.rows.secrets == length base.rows.secrets)
          (list_all (secret edition).fits base.rows.secrets) parts.1).1,
    )

pub secret_fits : (edition : Edition) (row : SecretRow) → IsTrue ((secret edition).fits row)
    → IsTrue ((row_head edition).fits (head_of_row row)) × IsTrue (list_all version.fits row.versions)
unfolding secret
secret_fits edition row fits =
    let parts = and_parts ((row_head edition).fits (head_of_row row))
    (length row.versions == length row.versions && list_all version.fits row.versions) fits in (
      parts.0,
      (and_parts (length row.versions == length row.versions) (list_all version.fits row.versions) parts.1).1,
    )

-- ---- bodies that are written one after the other

pub more_bodies : {A : Type 0} (g : A → List (List ℕ)) (items : List A) (i : ℕ) (a : A) → i < length items
    → a ≡ get_or items i a
    → flat_map g (take (i + 1) items) ≡ flat_map g (take i items) ++ g a
more_bodies g items i a lt at =
    ap (flat_map g) (take_more items i a lt)
    ∙ flat_map-append g (take i items) (get_or items i a ∷ [])
    ∙ ap (λ (t : List (List ℕ)). flat_map g (take i items) ++ t) (append-nil (g (get_or items i a)) ∙ ap g (sym at))
