-- How things are spelled as bytes, and read from bytes again.
use Rattle.std.specs.Prelude.{ℕ, zero, suc, ◌+◌, ◌-◌, ◌<◌, ◌==◌, nat_le, Bool, true, false, ◌&&◌, if◌then◌else◌, List, [], ◌∷◌, ◌++◌, length, get_or, Option, Some, None, is_some, Result, Ok, Err}

-- each number is a byte
abbrev pub IsBytes : List ℕ → Type 0
IsBytes bytes = (i : ℕ) → get_or bytes i 0 < 256

-- A way to spell things: the bytes of a thing, whether it has a spelling, and what is read at the front of bytes. That
-- is a thing with the bytes behind it, or how many bytes are left at the first field that is not spelled.
pub record Codec (A : Type 0) : Type 0 where
  pub spell : A → List ℕ
  pub fits : A → Bool
  pub read : List ℕ → Result (A × List ℕ) ℕ

-- what is read behind a thing that was read
abbrev pub then_read : {A B : Type 0} → Result (A × List ℕ) ℕ → (A → List ℕ → Result (B × List ℕ) ℕ)
    → Result (B × List ℕ) ℕ
then_read (Ok x) next = next x.0 x.1
then_read (Err left) next = Err left

-- one thing behind another
abbrev pub both : {A B : Type 0} → Codec A → Codec B → Codec (A × B)
both c d = record {
  spell = λ x. c.spell x.0 ++ d.spell x.1;
  fits = λ x. c.fits x.0 && d.fits x.1;
  read = λ bytes. then_read (c.read bytes) (λ a rest. then_read (d.read rest) (λ b after. Ok ((a, b), after)));
}

-- one thing behind another, which says how it is spelled
abbrev pub chained : {A B : Type 0} → Codec A → (A → Codec B) → Codec (A × B)
chained c d = record {
  spell = λ x. c.spell x.0 ++ (d x.0).spell x.1;
  fits = λ x. c.fits x.0 && (d x.0).fits x.1;
  read = λ bytes. then_read (c.read bytes) (λ a rest. then_read ((d a).read rest) (λ b after. Ok ((a, b), after)));
}

-- a thing that is another one by other names
abbrev pub mapped : {A B : Type 0} → Codec A → (A → B) → (B → A) → Codec B
mapped c into out = record {
  spell = λ b. c.spell (out b);
  fits = λ b. c.fits (out b);
  read = λ bytes. then_read (c.read bytes) (λ a rest. Ok (into a, rest));
}

-- the things that pass a test
abbrev pub only : {A : Type 0} → (A → Bool) → Codec A → Codec A
only test c = record {
  spell = c.spell;
  fits = λ a. test a && c.fits a;
  read = λ bytes. then_read (c.read bytes) (λ a rest. if test a then Ok (a, rest) else Err (length bytes));
}

-- the byte at the front
abbrev pub read_byte : List ℕ → Result (ℕ × List ℕ) ℕ
read_byte [] = Err 0
read_byte (byte ∷ rest) = Ok (byte, rest)

-- the thing of a byte, or that byte's place where it is of none
abbrev pub coded_as : {A : Type 0} → Option A → List ℕ → Result (A × List ℕ) ℕ
coded_as None rest = Err (length rest + 1)
coded_as (Some a) rest = Ok (a, rest)

-- a thing that is one byte
abbrev pub coded : {A : Type 0} → (A → ℕ) → (ℕ → Option A) → Codec A
coded byte_of thing_of = record {
  spell = λ a. byte_of a ∷ [];
  fits = λ a. is_some (thing_of (byte_of a));
  read = λ bytes. then_read (read_byte bytes) (λ byte rest. coded_as (thing_of byte) rest);
}

-- nothing, and no bytes
abbrev pub nothing : Codec (Unit {0})
nothing = record { spell = λ _. []; fits = λ _. true; read = λ bytes. Ok (tt, bytes) }

-- a tag that nothing follows: its place is not spelled
abbrev pub no_arm : {B : Type 0} → ℕ → List ℕ → Result (B × List ℕ) ℕ
no_arm given rest = Err (length rest + 1)

-- What stands behind a tag: each arm says whether its tag may stand there, and has its tag, how what stands behind it
-- is spelled, what it makes of that, and the arms after it.
abbrev pub arm_if : {A B : Type 0} → Bool → ℕ → Codec A → (A → B) → (ℕ → List ℕ → Result (B × List ℕ) ℕ)
    → ℕ → List ℕ → Result (B × List ℕ) ℕ
arm_if may tag c into others given rest =
    if given == tag then (if may then then_read (c.read rest) (λ a after. Ok (into a, after)) else no_arm given rest)
    else others given rest

-- an arm whose tag may always stand there
abbrev pub arm : {A B : Type 0} → ℕ → Codec A → (A → B) → (ℕ → List ℕ → Result (B × List ℕ) ℕ)
    → ℕ → List ℕ → Result (B × List ℕ) ℕ
arm tag c into others = arm_if true tag c into others

-- a thing of several kinds: a tag byte, and what its kind has
abbrev pub tagged : {B : Type 0} → (B → List ℕ) → (B → Bool) → (ℕ → List ℕ → Result (B × List ℕ) ℕ) → Codec B
tagged spelling has_spelling arms = record {
  spell = spelling;
  fits = has_spelling;
  read = λ bytes. then_read (read_byte bytes) arms;
}

-- a tag, and a truth value in its highest bit
abbrev pub flagged_tag : Bool → ℕ → ℕ
flagged_tag false tag = tag
flagged_tag true tag = tag + 128

-- the truth value of a flagged tag, and its tag
abbrev pub flag_of : ℕ → Bool
flag_of byte = nat_le 128 byte

abbrev pub tag_of : ℕ → ℕ
tag_of byte = if nat_le 128 byte then byte - 128 else byte

abbrev pub with_flag : Bool → List ℕ → List ℕ
with_flag flag [] = []
with_flag flag (tag ∷ rest) = flagged_tag flag tag ∷ rest

-- a truth value and a thing that begins with its tag, which has the truth value in its highest bit
abbrev pub flagged : {A : Type 0} → Codec A → Codec (Bool × A)
flagged c = record {
  spell = λ x. with_flag x.0 (c.spell x.1);
  fits = λ x. c.fits x.1;
  read = λ bytes. then_read (read_byte bytes) (λ byte rest.
      then_read (c.read (tag_of byte ∷ rest)) (λ a after. Ok ((flag_of byte, a), after)));
}

abbrev pub spell_optional : {A : Type 0} → Codec A → Option A → List ℕ
spell_optional c None = 0 ∷ []
spell_optional c (Some a) = 1 ∷ c.spell a

abbrev pub fits_optional : {A : Type 0} → Codec A → Option A → Bool
fits_optional c None = true
fits_optional c (Some a) = c.fits a

-- an option is the byte 0, or the byte 1 and the thing
unfoldable pub optional : {A : Type 0} → Codec A → Codec (Option A)
optional c = tagged (spell_optional c) (fits_optional c) (arm 0 nothing (λ _. None) (arm 1 c Some no_arm))

-- as many things as the number says
unfoldable pub read_items : {A : Type 0} → Codec A → ℕ → List ℕ → Result (List A × List ℕ) ℕ
read_items c zero bytes = Ok ([], bytes)
read_items c (suc n) bytes =
    then_read (c.read bytes) (λ a rest. then_read (read_items c n rest) (λ items after. Ok (a ∷ items, after)))
