-- The parts of a frame and its bytes.
use Rattle.std.proofs.Common.{◌≡◌, ℕ, ◌^◌, ◌<◌, ◌≤◌, ◌==◌, IsTrue, List, [], ◌∷◌, ◌++◌, length, Result, Ok, Err, refl, sym, ap, subst, ◌∙◌, inl, inr, append-nil, arith, eqb-true}
use Rattle.std.specs.List.{list_all}
use Rattle.std.proofs.lemmas.Bool.{and_from, lt-ltb}
use Rattle.std.proofs.lemmas.List.{nil_from_length}
use Rattle.sm_record.specs.Codec.{IsBytes, then_read, read_byte, arm, no_arm}
use Rattle.sm_record.specs.Fields.{count, long, octets, listed}
use Rattle.sm_record.proofs.ArmLaws.{Arms, no_arms, arm_laws, within_arm, tagged_lawful}
use Rattle.sm_record.proofs.Bytes.{gives, chosen}
use Rattle.sm_record.proofs.CodecLaws.{Begins, Lawful, both_lawful}
use Rattle.sm_record.proofs.FieldLaws.{long_lawful, octets_lawful, listed_lawful}
use Rattle.sm_replication.specs.declared.input.TheConstants.{LIST_LIMIT}
use Rattle.sm_replication.specs.Decoding.{IsUnread}
use Rattle.sm_replication.specs.Parcels.{Parcel, Entries, Rows, Message, bodies_at, spell_parcel, fits_parcel, parcel, alone, parcel_in, listed_size, IsWithin}
use Rattle.sm_replication.proofs.ExtentLemmas.{items_count}

pub bodies_lawful : Lawful bodies_at
bodies_lawful = both_lawful long_lawful (listed_lawful octets octets_lawful)

abbrev arms : ℕ → List ℕ → Result (Parcel × List ℕ) ℕ
arms = arm 1 bodies_at (λ x. Entries x.0 x.1)
    (arm 2 bodies_at (λ x. Rows x.0 x.1)
    (arm 3 octets Message no_arm))

arms_lawful : Arms spell_parcel fits_parcel arms
arms_lawful =
    arm_laws spell_parcel fits_parcel 1 bodies_at bodies_lawful (λ x. Entries x.0 x.1)
    (arm 2 bodies_at (λ x. Rows x.0 x.1) (arm 3 octets Message no_arm))
    (arm_laws spell_parcel fits_parcel 2 bodies_at bodies_lawful (λ x. Rows x.0 x.1) (arm 3 octets Message no_arm)
    (arm_laws spell_parcel fits_parcel 3 octets octets_lawful Message no_arm
    (no_arms spell_parcel fits_parcel) (λ _. refl) (λ _. refl))
    (λ _. refl) (λ _. refl))
    (λ _. refl) (λ _. refl)

arms_again : (p : Parcel) (rest : List ℕ) → IsTrue (fits_parcel p)
    → then_read (read_byte (spell_parcel p ++ rest)) arms ≡ gives (p, rest)
arms_again (Entries at bodies) rest fits =
    within_arm bodies_at bodies_lawful (λ x. Entries x.0 x.1) (at, bodies) rest fits
arms_again (Rows at bodies) rest fits =
    within_arm bodies_at bodies_lawful (λ x. Rows x.0 x.1) (at, bodies) rest fits
arms_again (Message bytes) rest fits = within_arm octets octets_lawful Message bytes rest fits

pub parcel_lawful : Lawful parcel
unfolding parcel
parcel_lawful = tagged_lawful spell_parcel fits_parcel arms arms_lawful arms_again

pub parcel_spells : (p : Parcel) → parcel.spell p ≡ spell_parcel p
unfolding parcel
parcel_spells p = refl

pub parcel_fits : (p : Parcel) → parcel.fits p ≡ fits_parcel p
unfolding parcel
parcel_fits p = refl

-- ---- parts within the limits can be spelled

octets_fit : (bytes : List ℕ) → length bytes < 2 ^ 32 → IsTrue (octets.fits bytes)
unfolding octets count
octets_fit bytes lt = lt-ltb (length bytes) (2 ^ 32) lt

each_fits : (items : List (List ℕ)) → listed_size items ≤ LIST_LIMIT → IsTrue (list_all octets.fits items)
each_fits [] le = refl
each_fits (item ∷ items) le =
    and_from (octets.fits item) (list_all octets.fits items) (octets_fit item (omega (arith, le)))
    (each_fits items (omega (arith, le)))

list_fits : (items : List (List ℕ)) → listed_size items ≤ LIST_LIMIT → IsTrue ((listed octets).fits items)
unfolding listed count
list_fits items le =
    and_from (count.fits (length items)) (list_all octets.fits items)
    (lt-ltb (length items) (2 ^ 32) (omega (arith, items_count items, le))) (each_fits items le)

bodies_fit : (at : ℕ) (items : List (List ℕ)) → at < 2 ^ 64 → listed_size items ≤ LIST_LIMIT
    → IsTrue (bodies_at.fits (at, items))
unfolding long
bodies_fit at items lt le =
    and_from (long.fits at) ((listed octets).fits items) (lt-ltb at (2 ^ 64) lt) (list_fits items le)

pub within_fits : (p : Parcel) → IsWithin p → IsTrue (fits_parcel p)
within_fits (Entries at bodies) w = bodies_fit at bodies w.0 w.2
within_fits (Rows at bodies) w = bodies_fit at bodies w.0 w.1
within_fits (Message bytes) w = octets_fit bytes (omega (arith, w))

-- ---- bytes are decoded to parts exactly where they are theirs

abbrev whole_parcel : Parcel → Result Parcel ℕ
whole_parcel p = Ok p

abbrev no_parcel : ℕ → Result Parcel ℕ
no_parcel n = Err n

parcel_is : (p q : Parcel) → whole_parcel p ≡ whole_parcel q → p ≡ q
parcel_is p q e = cc

no_parcel_is : (p : Parcel) (n : ℕ) → no_parcel n ≡ whole_parcel p → ⊥
no_parcel_is p n e = cc

pub parcel_is_read : (p : Parcel) → IsWithin p → parcel_in (parcel.spell p) ≡ Ok p
parcel_is_read p w =
    ap alone (ap parcel.read (sym (append-nil (parcel.spell p)))
    ∙ parcel_lawful.again p [] (parcel_fits p ∙ within_fits p w))

alone_ok : (r : Result (Parcel × List ℕ) ℕ) (p : Parcel) → alone r ≡ whole_parcel p → r ≡ gives (p, [])
alone_ok (Ok x) p e =
    elim (chosen (length x.1 == 0) (whole_parcel x.0) (no_parcel (length x.1)) (whole_parcel p) e) [
      | inl none_left ↦
          let first : x.0 ≡ p = parcel_is x.0 p none_left.1 in
          let second : x.1 ≡ [] = nil_from_length x.1 (eqb-true (length x.1) 0 none_left.0) in
          ap (λ (q : Parcel). gives (q, x.1)) first ∙ ap (λ (rest : List ℕ). gives (p, rest)) second
      | inr more ↦ absurd (no_parcel_is p (length x.1) more.1)
    ]
alone_ok (Err left) p e = absurd (no_parcel_is p left e)

pub read_is_parcel : (bytes : List ℕ) (p : Parcel) → IsBytes bytes → parcel_in bytes ≡ Ok p → parcel.spell p ≡ bytes
read_is_parcel bytes p fits e =
    let b : Begins parcel bytes p [] = parcel_lawful.takes bytes p [] fits (alone_ok (parcel.read bytes) p e) in
    sym (b.parts ∙ append-nil (parcel.spell p))

-- bytes of which no parts are read are those of none
pub unread_is_none : (bytes : List ℕ) (p : Parcel) → IsUnread (parcel_in bytes) → IsWithin p → parcel.spell p ≡ bytes
    → ⊥
unread_is_none bytes p none w same =
    subst IsUnread (ap parcel_in (sym same) ∙ parcel_is_read p w) none

pub parts_are : (bytes : List ℕ) (p q : Parcel) → parcel_in bytes ≡ Ok p → IsWithin q → parcel.spell q ≡ bytes → q ≡ p
parts_are bytes p q read w same =
    parcel_is q p (sym (parcel_is_read q w) ∙ ap parcel_in same ∙ read)
