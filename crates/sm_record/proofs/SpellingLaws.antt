-- One spelling for each entry, and one entry for each spelling.
use Rattle.std.proofs.Common.{◌≡◌, ℕ, ◌-◌, ◌≤◌, ◌==◌, nat_le, List, [], length, get_or, Result, Ok, Err, refl, sym, ap, ◌∙◌, inl, inr, append-nil, arith, eqb-true}
use Rattle.std.specs.Int.{w64, to_be_bytes}
use Rattle.std.proofs.lemmas.Bool.{and_parts, leb-true}
use Rattle.std.proofs.lemmas.List.{nil_from_length}
use Rattle.sm_base.specs.declared.moment.TheConstants.{LAST_READING}
use Rattle.sm_model.specs.declared.entry.Entry.{Entry}
use Rattle.sm_record.specs.Codec.{IsBytes}
use Rattle.sm_record.specs.Editions.{mark}
use Rattle.sm_record.specs.declared.edition.Edition.{Edition}
use Rattle.sm_record.specs.declared.edition.Edition.TheVariants.{First, Second}
use Rattle.sm_record.specs.Entries.{head, head_of, entry}
use Rattle.sm_record.specs.Fields.{moment, long}
use Rattle.sm_record.specs.Spelling.{spelling, has_spelling, HasSpelling, alone, placed, decoded, IsDecodedFromSpelling, SpellsOne, IsReadAgain, TellsEditions}
use Rattle.sm_record.proofs.Bytes.{gives, chosen}
use Rattle.sm_record.proofs.CodecLaws.{Begins}
use Rattle.sm_record.proofs.EntryLaws.{entry_lawful}

abbrev whole_entry : Entry → Result Entry ℕ
whole_entry e = Ok e

abbrev no_entry_at : ℕ → Result Entry ℕ
no_entry_at place = Err place

entry_is : (d e : Entry) → whole_entry d ≡ whole_entry e → d ≡ e
entry_is d e same = cc

place_is : (p q : ℕ) → no_entry_at p ≡ no_entry_at q → p ≡ q
place_is p q same = cc

entry_no_place : (e : Entry) (p : ℕ) → no_entry_at p ≡ whole_entry e → ⊥
entry_no_place e p same = cc

pub spelled_is_decoded : (edition : Edition) (e : Entry) → HasSpelling edition e
    → decoded edition (spelling edition e) ≡ Ok e
unfolding decoded spelling has_spelling
spelled_is_decoded edition e fits =
    ap (placed (length ((entry edition).spell e)))
    (ap (entry edition).read (sym (append-nil ((entry edition).spell e))) ∙ (entry_lawful edition).again e [] fits)

alone_ok : (whole : ℕ) (x : Entry × List ℕ) (e : Entry) → alone whole x.0 (length x.1) ≡ whole_entry e
    → gives x ≡ gives (e, [])
alone_ok whole x e h =
    elim (chosen (length x.1 == 0) (whole_entry x.0) (no_entry_at (whole - length x.1)) (whole_entry e) h) [
      | inl none_left ↦
          let first : x.0 ≡ e = entry_is x.0 e none_left.1 in
          let second : x.1 ≡ [] = nil_from_length x.1 (eqb-true (length x.1) 0 none_left.0) in
          ap (λ (d : Entry). gives (d, x.1)) first ∙ ap (λ (rest : List ℕ). gives (e, rest)) second
      | inr more ↦ absurd (entry_no_place e (whole - length x.1) more.1)
    ]

placed_ok : (whole : ℕ) (r : Result (Entry × List ℕ) ℕ) (e : Entry) → placed whole r ≡ whole_entry e
    → r ≡ gives (e, [])
placed_ok whole (Ok x) e h = alone_ok whole x e h
placed_ok whole (Err left) e h = absurd (entry_no_place e (whole - left) h)

pub decoded_is_spelled : (edition : Edition) (body : List ℕ) (e : Entry) → IsBytes body → decoded edition body ≡ Ok e
    → HasSpelling edition e × (spelling edition e ≡ body)
unfolding decoded spelling has_spelling
decoded_is_spelled edition body e bytes h =
    let p : Begins (entry edition) body e [] =
    (entry_lawful edition).takes body e [] bytes (placed_ok (length body) ((entry edition).read body) e h) in
    (p.fits, sym (p.parts ∙ append-nil ((entry edition).spell e)))

pub decoded_from_spelling : IsDecodedFromSpelling
decoded_from_spelling edition body e bytes = (
  decoded_is_spelled edition body e bytes,
  λ s. ap (decoded edition) (sym s.1) ∙ spelled_is_decoded edition e s.0,
)

pub spells_one : SpellsOne
spells_one edition d e fits_d fits_e same =
    entry_is d e
    (sym (spelled_is_decoded edition d fits_d) ∙ ap (decoded edition) same ∙ spelled_is_decoded edition e fits_e)

pub is_read_again : IsReadAgain
is_read_again edition e fits = spelled_is_decoded edition e fits

-- ---- the formats

-- a moment that a clock reads begins with the byte 0
early_byte : (n : ℕ) → n ≤ LAST_READING → get_or (to_be_bytes w64 n) 0 1 ≡ 0
early_byte n early = omega (arith, early)

first_byte : (d : Entry) → HasSpelling First d → get_or (spelling First d) 0 1 ≡ 0
unfolding spelling has_spelling entry head mark moment long
first_byte d fits =
    let of_head = (and_parts ((head First).fits (head_of d)) _ fits).0 in
    let early = (and_parts (nat_le d.moment.0 LAST_READING) _ (and_parts (moment.fits d.moment) _ of_head).0).0 in
    early_byte d.moment.0 (leb-true d.moment.0 LAST_READING early)

second_byte : (e : Entry) → get_or (spelling Second e) 0 1 ≡ 2
unfolding spelling entry head mark
second_byte e = refl

pub tells_editions : TellsEditions
tells_editions d e fits_d fits_e same =
    absurd (omega (arith, first_byte d fits_d, second_byte e, ap (λ (bytes : List ℕ). get_or bytes 0 1) same))

-- ---- places

alone_within : (whole : ℕ) (x : Entry × List ℕ) (place : ℕ) → alone whole x.0 (length x.1) ≡ no_entry_at place
    → place ≤ whole
alone_within whole x place h =
    elim (chosen (length x.1 == 0) (whole_entry x.0) (no_entry_at (whole - length x.1)) (no_entry_at place) h) [
      | inl none_left ↦ absurd (entry_no_place x.0 place (sym none_left.1))
      | inr more ↦ omega (arith, place_is (whole - length x.1) place more.1)
    ]

placed_within : (whole : ℕ) (r : Result (Entry × List ℕ) ℕ) (place : ℕ) → placed whole r ≡ no_entry_at place
    → place ≤ whole
placed_within whole (Ok x) place h = alone_within whole x place h
placed_within whole (Err left) place h = omega (arith, place_is (whole - left) place h)

pub place_within : (edition : Edition) (body : List ℕ) (place : ℕ) → decoded edition body ≡ Err place
    → place ≤ length body
unfolding decoded
place_within edition body place h = placed_within (length body) ((entry edition).read body) place h

-- a body that is not decoded is nobody's spelling
pub no_spelling : (edition : Edition) (body : List ℕ) (place : ℕ) → decoded edition body ≡ Err place
    → (e : Entry) → HasSpelling edition e → spelling edition e ≡ body → ⊥
no_spelling edition body place h e fits same =
    entry_no_place e place (sym h ∙ ap (decoded edition) (sym same) ∙ spelled_is_decoded edition e fits)
