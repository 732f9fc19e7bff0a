-- How things are spelled as several bodies, and read from bodies again.
use Rattle.std.specs.Prelude.{ℕ, zero, suc, ◌+◌, ◌==◌, Bool, true, ◌&&◌, if◌then◌else◌, List, [], ◌∷◌, ◌++◌, length, Result, Ok, Err}
use Rattle.std.specs.List.{flat_map, list_all}
use Rattle.sm_record.specs.Codec.{IsBytes, Codec}

-- how many bytes these bodies have together
abbrev pub total : List (List ℕ) → ℕ
total [] = 0
total (body ∷ bodies) = length body + total bodies

-- each number of each body is a byte
abbrev pub AreBytes : List (List ℕ) → Type 0
AreBytes [] = Unit {0}
AreBytes (body ∷ bodies) = IsBytes body × AreBytes bodies

-- A way to spell things as bodies: the bodies of a thing, whether it has a spelling, and what is read at the front of
-- bodies. That is a thing with the bodies behind it, or how many bytes are left at the first field that is not spelled.
pub record Series (A : Type 0) : Type 0 where
  pub spell : A → List (List ℕ)
  pub fits : A → Bool
  pub read : List (List ℕ) → Result (A × List (List ℕ)) ℕ

-- what is read behind a thing that was read
abbrev pub then_bodies : {A B : Type 0} → Result (A × List (List ℕ)) ℕ
    → (A → List (List ℕ) → Result (B × List (List ℕ)) ℕ) → Result (B × List (List ℕ)) ℕ
then_bodies (Ok x) next = next x.0 x.1
then_bodies (Err left) next = Err left

-- the thing of a body, where it is all of the body
abbrev pub whole_body : {A : Type 0} → Result (A × List ℕ) ℕ → List (List ℕ) → Result (A × List (List ℕ)) ℕ
whole_body (Ok x) bodies = if length x.1 == 0 then Ok (x.0, bodies) else Err (length x.1 + total bodies)
whole_body (Err left) bodies = Err (left + total bodies)

abbrev pub read_body : {A : Type 0} → Codec A → List (List ℕ) → Result (A × List (List ℕ)) ℕ
read_body c [] = Err 0
read_body c (body ∷ bodies) = whole_body (c.read body) bodies

-- a thing that is one body
abbrev pub one : {A : Type 0} → Codec A → Series A
one c = record { spell = λ a. c.spell a ∷ []; fits = c.fits; read = read_body c }

-- as many things as the number says
unfoldable pub read_times : {A : Type 0} → Series A → ℕ → List (List ℕ) → Result (List A × List (List ℕ)) ℕ
read_times s zero bodies = Ok ([], bodies)
read_times s (suc n) bodies =
    then_bodies (s.read bodies) (λ a rest. then_bodies (read_times s n rest) (λ items after. Ok (a ∷ items, after)))

-- a thing, and as many others behind it as it says
abbrev pub then_times : {A B : Type 0} → (A → ℕ) → Series A → Series B → Series (A × List B)
then_times count s t = record {
  spell = λ x. s.spell x.0 ++ flat_map t.spell x.1;
  fits = λ x. s.fits x.0 && (count x.0 == length x.1 && list_all t.fits x.1);
  read = λ bodies. then_bodies (s.read bodies) (λ a rest.
      then_bodies (read_times t (count a) rest) (λ items after. Ok ((a, items), after)));
}

-- a thing that is another one by other names
abbrev pub renamed : {A B : Type 0} → Series A → (A → B) → (B → A) → Series B
renamed s into out = record {
  spell = λ b. s.spell (out b);
  fits = λ b. s.fits (out b);
  read = λ bodies. then_bodies (s.read bodies) (λ a rest. Ok (into a, rest));
}
