-- What decoding a body says of it.
use Rattle.std.proofs.Common.{◌≡◌, ℕ, ◌≤◌, IfOk, List, length, Result, Ok, Err, sym, ap, subst, ◌∙◌}
use Rattle.sm_base.specs.Outcomes.{OrMemory}
use Rattle.sm_model.specs.declared.entry.Entry.{Entry}
use Rattle.sm_record.specs.Codec.{IsBytes}
use Rattle.sm_record.specs.declared.edition.Edition.{Edition}
use Rattle.sm_record.specs.Entries.{entry}
use Rattle.sm_record.specs.Spelling.{spelling, HasSpelling, decoded, decode_told}
use Rattle.sm_record.specs.declared.unread.DecodeRefused.{DecodeRefused}
use Rattle.sm_record.specs.declared.unread.DecodeRefused.TheVariants.{NoEntry}
use Rattle.sm_record.proofs.Bytes.{no_longer}
use Rattle.sm_record.proofs.CodecLaws.{Begins}
use Rattle.sm_record.proofs.EntryLaws.{entry_lawful}
use Rattle.sm_record.proofs.SpellingLaws.{spelled_is_decoded, decoded_is_spelled, place_within, no_spelling}

pub is_found : (edition : Edition) (body : List ℕ) (result : Result Entry DecodeRefused) → IsBytes body
    → OrMemory (decode_told result) (decoded edition body)
    → IfOk result (λ e. HasSpelling edition e × (spelling edition e ≡ body))
is_found edition body (Ok e) bytes exact = decoded_is_spelled edition body e bytes (sym exact)
is_found edition body (Err refused) bytes exact = tt

pub only_spelled : (edition : Edition) (body : List ℕ) (result : Result Entry DecodeRefused) (e : Entry)
    → OrMemory (decode_told result) (decoded edition body) → HasSpelling edition e → spelling edition e ≡ body
    → OrMemory (decode_told result) (Ok e)
only_spelled edition body result e exact fits same =
    subst (λ (wanted : Result Entry ℕ). OrMemory (decode_told result) wanted)
    (ap (decoded edition) (sym same) ∙ spelled_is_decoded edition e fits) exact

pub is_no_entry : (edition : Edition) (body : List ℕ) (result : Result Entry DecodeRefused) (place : ℕ)
    → OrMemory (decode_told result) (decoded edition body) → result ≡ Err (NoEntry place)
    → (place ≤ length body) × ((e : Entry) → HasSpelling edition e → ¬ (spelling edition e ≡ body))
is_no_entry edition body result place exact is =
    let told : Err place ≡ decoded edition body =
    subst (λ (r : Result Entry DecodeRefused). OrMemory (decode_told r) (decoded edition body)) is exact in (
      place_within edition body place (sym told),
      λ e fits same. no_spelling edition body place (sym told) e fits same,
    )

-- what is left behind an entry, and from a field on that is not spelled, is no more than the body
pub rest_within : (edition : Edition) (body : List ℕ) (e : Entry) (rest : List ℕ) → IsBytes body
    → (entry edition).read body ≡ Ok (e, rest) → length rest ≤ length body
rest_within edition body e rest bytes h =
    let p : Begins (entry edition) body e rest = (entry_lawful edition).takes body e rest bytes h in
    no_longer body ((entry edition).spell e) rest p.parts

pub left_within : (edition : Edition) (body : List ℕ) (left : ℕ) → IsBytes body
    → (entry edition).read body ≡ Err left → left ≤ length body
left_within edition body left bytes h = (entry_lawful edition).within body left bytes h
