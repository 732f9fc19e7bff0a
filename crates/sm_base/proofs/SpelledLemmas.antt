-- Texts in which a reader finds no fault are those that it reads.
use Rattle.std.proofs.Common.{◌≡◌, ℕ, Bool, true, false, List, [], ◌∷◌, Option, Some, None, is_none, inl, inr, sym, ◌∙◌}
use Rattle.std.proofs.lemmas.Bool.{cases_Bool}
use Rattle.sm_base.specs.declared.parts.Alphabet.TheVariants.{NameBytes, RegionBytes, Digits}
use Rattle.sm_base.specs.declared.parts.Word.TheVariants.{ArnStart, Colon, ResourceType}
use Rattle.sm_base.specs.declared.parts.Part.{Part}
use Rattle.sm_base.specs.declared.parts.Part.TheVariants.{Literal, Run}
use Rattle.sm_base.specs.Characters.{fault_after, no_progress}
use Rattle.sm_base.specs.FirstFault.{IsFirstFault}
use Rattle.sm_base.specs.Parts.{fault_from, has_parts, are_apart}
use Rattle.sm_base.specs.Spelling.{is_label, is_arn}
use Rattle.sm_base.proofs.ArnLemmas.{arn_is_parts, region_ends}
use Rattle.sm_base.proofs.LabelLemmas.{label_no_fault, label_fault_place}
use Rattle.sm_base.proofs.PartLemmas.{no_fault, fault_place}

unspelled_is_false : (is_spelled : List ℕ → Bool) (text : List ℕ) (place : ℕ) → IsFirstFault is_spelled text place
    → false ≡ is_spelled text
unspelled_is_false is_spelled text place fault = elim (cases_Bool (is_spelled text)) [
  | inl is ↦ absurd (fault.unspelled is)
  | inr other ↦ sym other
]

pub label_fault_tells : (text : List ℕ) (fault : Option ℕ) → fault ≡ fault_after no_progress 0 text
    → is_none fault ≡ is_label text
label_fault_tells text None e = sym (label_no_fault text e)
label_fault_tells text (Some place) e = unspelled_is_false is_label text place (label_fault_place text place e)

-- the parts of an ARN
abbrev arn_parts : List Part
arn_parts = Literal ArnStart ∷ Run RegionBytes 1 32 ∷ Literal Colon ∷ Run Digits 12 12 ∷ Literal ResourceType
    ∷ Run NameBytes 1 519 ∷ []

parts_fault_tells : (text : List ℕ) (fault : Option ℕ) → are_apart arn_parts ≡ true
    → fault ≡ fault_from 0 arn_parts text → is_none fault ≡ has_parts arn_parts text
parts_fault_tells text None apart e = sym (no_fault arn_parts text apart e)
parts_fault_tells text (Some place) apart e = unspelled_is_false (has_parts arn_parts) text place
    (fault_place arn_parts text place apart e)

pub arn_fault_tells : (text : List ℕ) (fault : Option ℕ)
    → fault ≡ fault_from 0 (Literal ArnStart ∷ Run RegionBytes 1 32 ∷ Literal Colon ∷ Run Digits 12 12
    ∷ Literal ResourceType ∷ Run NameBytes 1 519 ∷ []) text
    → is_none fault ≡ is_arn text
arn_fault_tells text fault e = parts_fault_tells text fault region_ends e ∙ arn_is_parts text
