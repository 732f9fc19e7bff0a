-- A frame and its bytes: each has the other alone.
use Rattle.std.proofs.Common.{◌≡◌, ℕ, ◌≤◌, List, [], ◌∷◌, ◌++◌, length, take, drop, get_or, map, refl, sym, ap, subst, ◌∙◌, inl, inr, arith}
use Rattle.std.proofs.lemmas.List.{take-append-le}
use Rattle.sm_model.specs.declared.entry.Entry.{Entry}
use Rattle.sm_record.specs.declared.edition.Edition.TheVariants.{Second}
use Rattle.sm_record.specs.Snapshots.{snapshot}
use Rattle.sm_record.specs.Spelling.{spelling}
use Rattle.sm_record.proofs.SnapshotLaws.{spells_one_base}
use Rattle.sm_record.proofs.SpellingLaws.{spells_one}
use Rattle.sm_replication.specs.declared.extent.Extent.{Extent}
use Rattle.sm_replication.specs.declared.extent.Extent.TheVariants.{Whole, Over}
use Rattle.sm_replication.specs.declared.frame.Frame.{Frame as frames}
use Rattle.sm_replication.specs.declared.frame.Frame.TheVariants as frame
use Rattle.sm_replication.specs.declared.input.Input.{Input}
use Rattle.sm_replication.specs.declared.input.Input.TheVariants as input
use Rattle.sm_replication.specs.Extents.{extent}
use Rattle.sm_replication.specs.Spelled.{AreSpelled}
use Rattle.sm_replication.specs.Frames.{parcel_of, HasInputParts, frame_bytes}
use Rattle.sm_replication.specs.Laws.{ReachesItsBytes, Stays, SpellsOneFrame, StaysBad}
use Rattle.sm_replication.specs.Parcels.{Message}
use Rattle.sm_replication.specs.Reading.{StartsBadly}
use Rattle.sm_replication.proofs.ExtentLemmas.{parcel_whole, stays_reached}
use Rattle.sm_replication.proofs.ParcelLaws.{parcel_spells, parcel_is_read, parts_are}

pub reaches_its_bytes : ReachesItsBytes
reaches_its_bytes i rest is =
    subst (λ (bytes : List ℕ). extent (bytes ++ rest) ≡ Whole (length bytes)) (sym (parcel_spells (parcel_of i)))
    (parcel_whole (parcel_of i) rest is.within)

-- ---- one frame

abbrev bodies_of : List Entry → List (List ℕ)
bodies_of entries = map (spelling Second) entries

one_list : (ds es : List Entry) → AreSpelled ds → AreSpelled es → bodies_of ds ≡ bodies_of es → ds ≡ es
one_list [] [] p q same = refl
one_list [] (e ∷ es) p q same = absurd (omega (arith, ap length same))
one_list (d ∷ ds) [] p q same = absurd (omega (arith, ap length same))
one_list (d ∷ ds) (e ∷ es) p q same =
    let first : d ≡ e = spells_one Second d e p.0 q.0 (ap (λ (xs : List (List ℕ)). get_or xs 0 []) same) in
    let others : ds ≡ es = one_list ds es p.1 q.1 (ap (λ (xs : List (List ℕ)). drop 1 xs) same) in
    cc

same_frame : (f g : frames) → HasInputParts (input.Frame f) → HasInputParts (input.Frame g)
    → parcel_of (input.Frame f) ≡ parcel_of (input.Frame g) → f ≡ g
same_frame (frame.Entries a ds) (frame.Entries b es) p q same =
    let at : a ≡ b = cc in
    let bodies : bodies_of ds ≡ bodies_of es = cc in
    let entries : ds ≡ es = one_list ds es p q bodies in
    cc
same_frame (frame.Entries a ds) (frame.Rows b base) p q same = cc
same_frame (frame.Rows a base) (frame.Entries b es) p q same = cc
same_frame (frame.Rows a base) (frame.Rows b other) p q same =
    let at : a ≡ b = cc in
    let bodies : snapshot Second base ≡ snapshot Second other = cc in
    let rows : base ≡ other = spells_one_base Second base other p q bodies in
    cc

frame_no_message : (f : frames) (bytes : List ℕ) → parcel_of (input.Frame f) ≡ Message bytes → ⊥
frame_no_message (frame.Entries a ds) bytes same = cc
frame_no_message (frame.Rows a base) bytes same = cc

same_input : (i j : Input) → HasInputParts i → HasInputParts j → parcel_of i ≡ parcel_of j → i ≡ j
same_input (input.Frame f) (input.Frame g) p q same = ap input.Frame (same_frame f g p q same)
same_input (input.Frame f) (input.Message bytes) p q same = absurd (frame_no_message f bytes same)
same_input (input.Message bytes) (input.Frame f) p q same = absurd (frame_no_message f bytes (sym same))
same_input (input.Message bytes) (input.Message others) p q same =
    let same_bytes : bytes ≡ others = cc in ap input.Message same_bytes

pub spells_one_frame : SpellsOneFrame
spells_one_frame i j p q same =
    same_input i j p.parts q.parts
    (parts_are (frame_bytes j) (parcel_of j) (parcel_of i) (parcel_is_read (parcel_of j) q.within) p.within same)

-- ---- no frame

over_whole : (n : ℕ) → Over ≡ Whole n → ⊥
over_whole n e = cc

whole_is : (m n : ℕ) → Whole m ≡ Whole n → m ≡ n
whole_is m n e = cc

pub stays_bad : StaysBad
stays_bad bytes more i rest bad is same = by bad
  where
    whole : extent (bytes ++ more) ≡ Whole (length (frame_bytes i))
    whole = ap extent same ∙ reaches_its_bytes i rest is

    by : StartsBadly bytes → ⊥
    by (inl over) =
        let later : extent (bytes ++ more) ≡ Over =
        subst (λ (e : Extent). Stays e (extent (bytes ++ more)) (length bytes)) over (stays_reached bytes more) in
        over_whole (length (frame_bytes i)) (sym later ∙ whole)
    by (inr h) =
        let later : (extent (bytes ++ more) ≡ Whole h.0) × (h.0 ≤ length bytes) =
        subst (λ (e : Extent). Stays e (extent (bytes ++ more)) (length bytes)) h.1 (stays_reached bytes more) in
        let size : length (frame_bytes i) ≡ h.0 = whole_is (length (frame_bytes i)) h.0 (sym whole ∙ later.0) in
        let front : frame_bytes i ≡ take h.0 bytes =
        sym (front_is (frame_bytes i) rest) ∙ ap (λ (n : ℕ). take n (frame_bytes i ++ rest)) size
        ∙ ap (take h.0) (sym same) ∙ take-append-le h.0 bytes more later.1 in
        h.2 i is front
      where
        front_is : (xs ys : List ℕ) → take (length xs) (xs ++ ys) ≡ xs
        front_is [] ys = refl
        front_is (x ∷ xs) ys = ap (λ (zs : List ℕ). x ∷ zs) (front_is xs ys)
