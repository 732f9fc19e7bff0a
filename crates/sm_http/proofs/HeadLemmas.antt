-- Where a head ends, and what its fields are, place by place.
use Rattle.std.proofs.Common.{◌≡◌, ℕ, ◌+◌, ◌-◌, ◌*◌, ◌^◌, ◌<◌, ◌≤◌, List, ◌∷◌, ◌&&◌, length, All, drop, take, map, get_or, true, false, zero, suc, [], Option, Some, None, option_map, ⊎_elim, refl, ap, sym, ◌∙◌, arith, cond, nat_eq}
use Rattle.std.proofs.lemmas.Bool.{cond_both, cases_Bool}
use Rattle.std.proofs.lemmas.Bool.Decides.{nat_tests}
use Rattle.std.proofs.lemmas.List.{drop_more, drop_all, at_drop_more, take_all, length-drop}
use Rattle.std.proofs.lemmas.List.Folds.{list_all_more, list_all_at}
use Rattle.std.proofs.lemmas.Int.Digits.{digits_value_more}
use Rattle.std.proofs.lemmas.Grind.{pow_more}
use Rattle.std.proofs.Math.Nat.{pow-le-pow_right}
use Rattle.std.specs.Char.{is_ascii_digit, digit_value}
use Rattle.std.specs.List.{list_all, starts_with}
use Rattle.std.specs.Str.Parse.{digits_value}
use Rattle.std.specs.Str.{str_eq_ignore_ascii_case}
use Rattle.httparse.specs.declared.spans.HeaderSpan.{HeaderSpan}
use Rattle.httparse.specs.Spans.{header_bytes, span_bytes}
use Rattle.memchr.proofs.lemmas.CallerLemmas.{All-places}
use Rattle.memchr.specs.Find.{is_byte, places, places_from}
use Rattle.sm_http.specs.Heads.{blank_line, line_ends, values_of}

-- two shifts are one
shifted : (o : Option ℕ) (i : ℕ) → option_map (λ n. n + i) (option_map (λ n. n + 1) o) ≡ option_map (λ n. n + (i + 1)) o
shifted None i = refl
shifted (Some n) i = ap Some (omega arith)

-- the line stands at the front
front_is : (bytes rest : List ℕ) (b : ℕ) → bytes ≡ b ∷ rest → starts_with nat_eq bytes line_ends ≡ true
    → blank_line bytes ≡ Some 4
front_is bytes rest b e h = rw e (rw (rw e at h) refl)

-- it does not, so it is found behind the first byte or nowhere
front_is_not : (bytes rest : List ℕ) (b : ℕ) → bytes ≡ b ∷ rest → starts_with nat_eq bytes line_ends ≡ false
    → blank_line bytes ≡ option_map (λ n. n + 1) (blank_line rest)
front_is_not bytes rest b e h = rw e (rw (rw e at h) refl)

-- the line does not begin with another byte than CR
begins_not : (bytes rest : List ℕ) (b : ℕ) → bytes ≡ b ∷ rest → is_byte 13 b ≡ false
    → starts_with nat_eq bytes line_ends ≡ false
begins_not bytes rest b e other = rw e (grind (arith, nat_tests))

-- how many bytes there are up to and including the line at the first of some places where it stands, if there is one
abbrev pub line_at : List ℕ → List ℕ → Option ℕ
line_at bytes [] = None
line_at bytes (place ∷ others) =
    cond (starts_with nat_eq (drop place bytes) line_ends) (Some (place + 4)) (line_at bytes others)

-- at a CR the line stands, or is looked for behind it
at_this : (bytes others : List ℕ) (i : ℕ) → i < length bytes
    → option_map (λ n. n + (i + 1)) (blank_line (drop (i + 1) bytes)) ≡ line_at bytes others
    → option_map (λ n. n + i) (blank_line (drop i bytes)) ≡ line_at bytes (i ∷ others)
at_this bytes others i h later = ⊎_elim
    (λ yes. rw yes (ap (option_map (λ n. n + i)) (front_is (drop i bytes) _ _ (drop_more bytes i 0 h) yes)
    ∙ ap Some (omega arith)))
    (λ no. rw no (ap (option_map (λ n. n + i)) (front_is_not (drop i bytes) _ _ (drop_more bytes i 0 h) no)
    ∙ shifted (blank_line (drop (i + 1) bytes)) i ∙ later))
    (cases_Bool (starts_with nat_eq (drop i bytes) line_ends))

-- at another byte it is looked for behind it
at_no_cr : (bytes others : List ℕ) (i : ℕ) → i < length bytes → is_byte 13 (get_or bytes i 0) ≡ false
    → option_map (λ n. n + (i + 1)) (blank_line (drop (i + 1) bytes)) ≡ line_at bytes others
    → option_map (λ n. n + i) (blank_line (drop i bytes)) ≡ line_at bytes others
at_no_cr bytes others i h other later =
    let front = drop_more bytes i 0 h in
    ap (option_map (λ n. n + i)) (front_is_not (drop i bytes) _ _ front (begins_not _ _ _ front other))
    ∙ shifted (blank_line (drop (i + 1) bytes)) i ∙ later

-- the line stands at one of the places of CR from a place on, or nowhere behind it
line_at_from : (bytes : List ℕ) (i n : ℕ) → i + n ≡ length bytes
    → option_map (λ k. k + i) (blank_line (drop i bytes)) ≡ line_at bytes (places_from (is_byte 13) bytes i n)
unfolding places_from
line_at_from bytes i zero e =
    ap (λ rest. option_map (λ k. k + i) (blank_line rest)) (drop_all i bytes (omega (arith, e)))
line_at_from bytes i (suc n) e =
    let later = line_at_from bytes (i + 1) n (omega (arith, e)) in
    cond_both (is_byte 13 (get_or bytes i 0)) (i ∷ places_from (is_byte 13) bytes (i + 1) n)
    (places_from (is_byte 13) bytes (i + 1) n)
    (λ others. option_map (λ k. k + i) (blank_line (drop i bytes)) ≡ line_at bytes others)
    (λ _. at_this bytes _ i (omega (arith, e)) later)
    (λ other. at_no_cr bytes _ i (omega (arith, e)) other later)

-- no shift
unmoved : (o : Option ℕ) → o ≡ option_map (λ k. k + 0) o
unmoved None = refl
unmoved (Some n) = ap Some (omega arith)

-- the line stands at one of the places of CR, or nowhere
line_at_places : (bytes : List ℕ) → blank_line bytes ≡ line_at bytes (places (is_byte 13) bytes)
line_at_places bytes = unmoved (blank_line bytes) ∙ line_at_from bytes 0 (length bytes - 0) (omega arith)

-- at first all places of CR are left, each within the bytes
pub all_sought : (bytes found : List ℕ) → found ≡ places (is_byte 13) bytes
    → (blank_line bytes ≡ line_at bytes found) × All (λ place. place < length bytes) found
all_sought bytes found e = rw e (
  line_at_places bytes,
  λ k d h. (All-places (is_byte 13) bytes k d h).0,
)

-- the line stands at the next place
pub line_here : (bytes left rest : List ℕ) (place : ℕ) → blank_line bytes ≡ line_at bytes left → left ≡ place ∷ rest
    → starts_with nat_eq (drop place bytes) line_ends ≡ true → Some (place + 4) ≡ blank_line bytes
line_here bytes left rest place e is here =
    let at : line_at bytes (place ∷ rest) ≡ Some (place + 4) = rw here refl in
    sym (e ∙ ap (line_at bytes) is ∙ at)

-- it does not, so it stands at one of those that are left then, or nowhere
pub line_further : (bytes left rest : List ℕ) (place : ℕ) → blank_line bytes ≡ line_at bytes left → left ≡ place ∷ rest
    → place < length bytes
    → starts_with nat_eq (take (length bytes - place) (drop place bytes)) line_ends ≡ false
    → blank_line bytes ≡ line_at bytes rest
line_further bytes left rest place e is h other =
    let whole : take (length bytes - place) (drop place bytes) ≡ drop place bytes =
    take_all _ _ (omega (arith, length-drop place bytes)) in
    let at : line_at bytes (place ∷ rest) ≡ line_at bytes rest = rw (rw whole at other) refl in
    e ∙ ap (line_at bytes) is ∙ at

-- no place is left
pub line_nowhere : (bytes left : List ℕ) → blank_line bytes ≡ line_at bytes left → left ≡ [] → None ≡ blank_line bytes
line_nowhere bytes left e is = sym (e ∙ ap (line_at bytes) is)

-- the values from a place on: that of the field there, where it has the name, and those behind it
pub values_at : (name bytes : List ℕ) (headers : List HeaderSpan) (i : ℕ) (x : HeaderSpan) → i < length headers
    → x ≡ get_or headers i x →
    values_of name (map (header_bytes bytes) (drop i headers))
    ≡ cond (str_eq_ignore_ascii_case (span_bytes bytes x.name) name)
    (span_bytes bytes x.value ∷ values_of name (map (header_bytes bytes) (drop (i + 1) headers)))
    (values_of name (map (header_bytes bytes) (drop (i + 1) headers)))
values_at name bytes headers i x h e =
    at_drop_more (λ (xs : List HeaderSpan). values_of name (map (header_bytes bytes) xs)) headers i x h
    ∙ ap (λ (y : HeaderSpan). values_of name (map (header_bytes bytes) (y ∷ drop (i + 1) headers))) (sym e)

-- a decimal digit's value
digit : (c : ℕ) → is_ascii_digit c ≡ true → (digit_value c ≡ c - 48) × (48 ≤ c) × (c ≤ 57)
digit c h = grind (arith, nat_tests)

-- what is known of the number that the first digits write
pub record IsRead (text : List ℕ) (i value : ℕ) : Type 0 where
  pub digits : list_all is_ascii_digit (take i text) ≡ true
  pub value_is : value ≡ digits_value 10 (take i text)
  pub below : value < 10 ^ i

pub one_more_digit : (text : List ℕ) (i value : ℕ) → IsRead text i value → i < length text → length text ≤ 10
    → is_ascii_digit (get_or text i 0) ≡ true
    → IsRead text (i + 1) (value * 10 + (get_or text i 0 - 48)) × (value < 10000000000)
one_more_digit text i value r h short d =
    let is = digit (get_or text i 0) d in (
      record {
        digits = list_all_more is_ascii_digit text i 0 h ∙ ap (λ b. b && is_ascii_digit (get_or text i 0)) r.digits ∙ d;
        value_is = ap (λ v. v * 10 + (get_or text i 0 - 48)) r.value_is
            ∙ ap (λ v. digits_value 10 (take i text) * 10 + v) (sym is.0) ∙ sym (digits_value_more 10 text i h);
        below = omega (arith, pow_more 10 i, r.below, is);
      },
      omega (arith, r.below, pow-le-pow_right {n = 10} (omega arith) {i = i} {j = 10} (omega arith)),
    )

-- all digits were read
pub all_are_digits : (text : List ℕ) (i value : ℕ) → IsRead text i value → length text ≤ i
    → Some value ≡ cond (list_all is_ascii_digit text) (Some (digits_value 10 text)) None
all_are_digits text i value r h =
    let whole = take_all i text h in
    let digits : list_all is_ascii_digit text ≡ true = rw whole at r.digits in
    rw digits (ap Some (r.value_is ∙ ap (digits_value 10) whole))

-- a byte that is no digit
pub one_is_no_digit : (text : List ℕ) (i : ℕ) → i < length text → is_ascii_digit (get_or text i 0) ≡ false
    → None ≡ cond (list_all is_ascii_digit text) (Some (digits_value 10 text)) None
one_is_no_digit text i h d = rw (list_all_at is_ascii_digit text i 0 h d) refl
