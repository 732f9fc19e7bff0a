-- The fields of entries: numbers are big end first, texts and bytes begin with their length, lists with their count.
use Rattle.std.specs.Prelude.{ℕ, ◌^◌, ◌==◌, nat_lt, nat_le, Bool, true, false, ◌&&◌, if◌then◌else◌, List, ◌∷◌, ◌++◌, length, take, drop, Option, Some, None, Ok, Err, ℤ, pos, negsuc}
use Rattle.std.specs.List.{flat_map, list_all}
use Rattle.std.specs.Int.{Width, w32, w64, byte_len, to_be_bytes, from_be_bytes, cast_signed, cast_unsigned}
use Rattle.std.specs.Str.{is_utf8}
use Rattle.sm_base.specs.Spelling.{is_arn, is_token}
use Rattle.sm_base.specs.declared.moment.Moment.{Moment}
use Rattle.sm_base.specs.declared.moment.TheConstants.{LAST_READING}
use Rattle.sm_model.specs.declared.rows.Stage.{Stage}
use Rattle.sm_model.specs.declared.rows.Stage.TheVariants as stages
use Rattle.sm_model.specs.declared.value.Value.{Value}
use Rattle.sm_model.specs.declared.value.Value.TheVariants as values
use Rattle.sm_model.specs.declared.value.Tag.{Tag}
use Rattle.sm_model.specs.declared.request.Rules.{Rules}
use Rattle.sm_model.specs.Bounds.{is_attempt}
use Rattle.sm_record.specs.Codec.{Codec, then_read, both, mapped, only, coded, arm, no_arm, tagged, optional, read_items}
use Rattle.sm_record.specs.Editions.{is_none, since}
use Rattle.sm_record.specs.declared.edition.Edition.{Edition}

-- a number below a limit in the bytes of a width
abbrev pub number : Width → ℕ → Codec ℕ
number width limit = record {
  spell = to_be_bytes width;
  fits = λ n. nat_lt n limit;
  read = λ bytes. if nat_lt (length bytes) (byte_len width) then Err (length bytes)
      else Ok (from_be_bytes width (take (byte_len width) bytes), drop (byte_len width) bytes);
}

-- a length or a count: four bytes
unfoldable pub count : Codec ℕ
count = number w32 (2 ^ 32)

-- a number: eight bytes
unfoldable pub long : Codec ℕ
long = number w64 (2 ^ 64)

-- a signed number of 64 bits
abbrev pub is_i64 : ℤ → Bool
is_i64 (pos n) = nat_lt n (2 ^ 63)
is_i64 (negsuc n) = nat_lt n (2 ^ 63)

-- a signed number: eight bytes, in two's complement
unfoldable pub signed : Codec ℤ
signed = record {
  spell = λ z. long.spell (cast_unsigned w64 z);
  fits = is_i64;
  read = λ bytes. then_read (long.read bytes) (λ n rest. Ok (cast_signed w64 n, rest));
}

-- A moment is at most the greatest reading of a clock.
unfoldable pub moment : Codec Moment
moment = mapped (only (λ n. nat_le n LAST_READING) long) (λ n. record { 0 = n }) (λ m. m.0)

-- bytes behind their length, which has the place of what is not spelled
unfoldable pub octets : Codec (List ℕ)
octets = record {
  spell = λ bytes. count.spell (length bytes) ++ bytes;
  fits = λ bytes. count.fits (length bytes);
  read = λ bytes. then_read (count.read bytes) (λ n rest.
      if nat_lt (length rest) n then Err (length bytes) else Ok (take n rest, drop n rest));
}

-- UTF-8 text
unfoldable pub text : Codec (List ℕ)
text = only is_utf8 octets

-- the ARN of a secret
unfoldable pub arn : Codec (List ℕ)
arn = only is_arn octets

-- the id of a version
unfoldable pub token : Codec (List ℕ)
token = only is_token octets

-- a list is its count and its items
unfoldable pub listed : {A : Type 0} → Codec A → Codec (List A)
listed c = record {
  spell = λ items. count.spell (length items) ++ flat_map c.spell items;
  fits = λ items. count.fits (length items) && list_all c.fits items;
  read = λ bytes. then_read (count.read bytes) (λ n rest. read_items c n rest);
}

abbrev pub byte_of_truth : Bool → ℕ
byte_of_truth false = 0
byte_of_truth true = 1

abbrev pub truth_of_byte : ℕ → Option Bool
truth_of_byte byte = if byte == 0 then Some false else (if byte == 1 then Some true else None)

-- a truth value is the byte 0 or 1
unfoldable pub truth : Codec Bool
truth = coded byte_of_truth truth_of_byte

abbrev pub byte_of_stage : Stage → ℕ
byte_of_stage stages.Create = 1
byte_of_stage stages.Set = 2
byte_of_stage stages.Test = 3
byte_of_stage stages.Finish = 4

abbrev pub stage_of_byte : ℕ → Option Stage
stage_of_byte byte =
    if byte == 1 then Some stages.Create
    else (if byte == 2 then Some stages.Set
    else (if byte == 3 then Some stages.Test
    else (if byte == 4 then Some stages.Finish else None)))

-- a step of a rotation is the byte 1 to 4
unfoldable pub stage : Codec Stage
stage = coded byte_of_stage stage_of_byte

abbrev pub attempt_of_byte : ℕ → Option ℕ
attempt_of_byte byte = if is_attempt byte then Some byte else None

-- an attempt is the byte 1 to 5
unfoldable pub attempt : Codec ℕ
attempt = coded (λ n. n) attempt_of_byte

abbrev pub spell_value : Value → List ℕ
spell_value (values.Text bytes) = 1 ∷ text.spell bytes
spell_value (values.Bytes bytes) = 2 ∷ octets.spell bytes

abbrev pub fits_value : Value → Bool
fits_value (values.Text bytes) = text.fits bytes
fits_value (values.Bytes bytes) = octets.fits bytes

-- a value is 1 and its text, or 2 and its bytes
unfoldable pub value : Codec Value
value = tagged spell_value fits_value (arm 1 text values.Text (arm 2 octets values.Bytes no_arm))

-- a tag is its key and its value
unfoldable pub tag : Codec Tag
tag = mapped (both text text) (λ x. record { key = x.0; value = x.1 }) (λ t. (t.key, t.value))

-- a schedule that need not be there, since the second format
abbrev pub schedule : Edition → Codec (Option (List ℕ))
schedule e = since None is_none (optional text) e

-- rotation rules are their days and their schedule
unfoldable pub rotation_rules : Edition → Codec Rules
rotation_rules e = mapped (both (optional signed) (schedule e))
    (λ x. record { days = x.0; schedule = x.1 }) (λ r. (r.days, r.schedule))
