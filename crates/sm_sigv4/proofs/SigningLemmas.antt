-- The text of names, and digits as text.
use Rattle.std.proofs.Common.{◌≡◌, ◌≢◌, ℕ, ◌+◌, ◌<◌, ◌≤◌, ◌&&◌, nat_le, nat_lt, Bool, true, false, List, [], ◌∷◌, ◌++◌, length, drop, get_or, refl, ap, sym, ◌∙◌, append_assoc, append-nil, arith}
use Rattle.std.specs.Prelude.{All}
use Rattle.std.specs.List.{list_all}
use Rattle.std.specs.Str.{is_utf8, IsAscii}
use Rattle.std.proofs.lemmas.List.{at_drop_more, drop_all, drop_more}
use Rattle.std.proofs.lemmas.Bool.Decides.{nat_tests}
use Rattle.std.proofs.lemmas.List.Elements.{All-nil, All-cons}
use Rattle.std.proofs.lemmas.Str.Ascii.{IsAscii-from_all}
use Rattle.std.proofs.lemmas.Str.{IsUtf8-from_ascii, is_utf8-from_IsUtf8}
use Rattle.httparse.specs.Grammar.{is_token_byte}
use Rattle.hex.specs.Hex.{lower_digits}
use Rattle.hex.proofs.HexLemmas.{IsAscii-encode_with}
use Rattle.sm_http.specs.Messages.{Message}
use Rattle.sm_http.specs.Heads.{NameValue}
use Rattle.sm_sigv4.specs.declared.scope.Scope.{Scope}
use Rattle.sm_sigv4.specs.Texts.{lacks}
use Rattle.sm_sigv4.specs.Names.{is_name_byte, is_field_name, is_next, are_next, are_signable, names_of, names_text}
use Rattle.sm_sigv4.specs.Signatures.{signature}
use Rattle.sm_sigv4.specs.Outcomes.{more_names}
use Rattle.sm_sigv4.proofs.TestLemmas.{and_left, and_right, and_false}
use Rattle.sm_sigv4.proofs.PieceLemmas.{pieces_front, pieces_only, lacks_by, lacks_append}

-- the first name and those behind it
names_parted : (first : List ℕ) (rest : List (List ℕ)) → first ++ more_names rest ≡ names_text (first ∷ rest)
names_parted first [] = append-nil first
names_parted first (name ∷ rest) = ap (λ (t : List ℕ). first ++ (59 ∷ t)) (names_parted name rest)

pub first_and_more : (names : List (List ℕ)) (first : List ℕ) (rest : List (List ℕ)) → 0 < length names
    → first ≡ get_or names 0 first → rest ≡ drop 1 names → first ++ more_names rest ≡ names_text names
first_and_more names first rest h first_is rest_is =
    names_parted first rest
    ∙ ap (λ (n : List ℕ). names_text (n ∷ rest)) first_is
    ∙ ap (λ (t : List (List ℕ)). names_text (get_or names 0 first ∷ t)) rest_is
    ∙ ap names_text (sym (drop_more names 0 first h))

-- one name more behind a text
module _ (whole wanted : List ℕ) (names : List (List ℕ)) (i : ℕ) (was : whole ++ more_names (drop i names) ≡ wanted)
  where
    pub one_name_more : (name : List ℕ) → i < length names → name ≡ get_or names i name
        → (whole ++ 59 ∷ []) ++ name ++ more_names (drop (i + 1) names) ≡ wanted
    one_name_more name h is =
        append_assoc (whole ++ 59 ∷ []) name (more_names (drop (i + 1) names))
        ∙ append_assoc whole (59 ∷ []) (name ++ more_names (drop (i + 1) names))
        ∙ sym (ap (λ (t : List ℕ). whole ++ t)
        (at_drop_more more_names names i name h
        ∙ ap (λ (n : List ℕ). more_names (n ∷ drop (i + 1) names)) (sym is)))
        ∙ was

    pub no_name_more : length names ≤ i → whole ≡ wanted
    no_name_more h =
        sym (append-nil whole) ∙ sym (ap (λ (t : List (List ℕ)). whole ++ more_names t) (drop_all i names h)) ∙ was

-- the parts of a scope behind a text
pub scope_pushed : (text k d r s l : List ℕ) →
    (((((((text ++ k) ++ (47 ∷ [])) ++ d) ++ (47 ∷ [])) ++ r) ++ (47 ∷ [])) ++ s) ++ l
    ≡ text ++ (k ++ (47 ∷ []) ++ (d ++ (47 ∷ []) ++ r ++ (47 ∷ []) ++ s ++ l))
scope_pushed text k d r s l = simp append_assoc

-- a name has neither a semicolon nor a comma
semicolon_is_none : is_name_byte 59 ≡ false
unfolding is_name_byte is_token_byte
semicolon_is_none = refl

comma_is_none : is_name_byte 44 ≡ false
unfolding is_name_byte is_token_byte
comma_is_none = refl

bytes_of_name : (name : List ℕ) → is_field_name name ≡ true → list_all is_name_byte name ≡ true
unfolding is_field_name
bytes_of_name name h = and_right (nat_le 1 (length name)) (list_all is_name_byte name) h

lacks_semicolons : (name : List ℕ) → is_field_name name ≡ true → lacks 59 name ≡ true
lacks_semicolons name h = lacks_by is_name_byte 59 semicolon_is_none name (bytes_of_name name h)

come_back : (first : List ℕ) (rest : List (List ℕ)) → list_all is_field_name (first ∷ rest) ≡ true
    → names_of (names_text (first ∷ rest)) ≡ first ∷ rest
come_back first [] h = pieces_only 59 first (lacks_semicolons first (and_left (is_field_name first) true h))
come_back first (name ∷ rest) h =
    pieces_front 59 first (names_text (name ∷ rest))
    (lacks_semicolons first (and_left (is_field_name first) (list_all is_field_name (name ∷ rest)) h))
    ∙ ap (λ (names : List (List ℕ)). first ∷ names)
    (come_back name rest (and_right (is_field_name first) (list_all is_field_name (name ∷ rest)) h))

-- the names of the text of names are these
pub names_come_back : (names : List (List ℕ)) → (length names ≢ 0) → list_all is_field_name names ≡ true
    → names_of (names_text names) ≡ names
names_come_back [] n h = absurd (n refl)
names_come_back (first ∷ rest) n h = come_back first rest h

-- and it has no comma
pub text_lacks_commas : (names : List (List ℕ)) → list_all is_field_name names ≡ true → lacks 44 (names_text names) ≡
    true
text_lacks_commas [] h = refl
text_lacks_commas (first ∷ []) h =
    lacks_by is_name_byte 44 comma_is_none first (bytes_of_name first (and_left (is_field_name first) true h))
text_lacks_commas (first ∷ name ∷ rest) h =
    lacks_append 44 first (59 ∷ names_text (name ∷ rest))
    (lacks_by is_name_byte 44 comma_is_none first
    (bytes_of_name first (and_left (is_field_name first) (list_all is_field_name (name ∷ rest)) h)))
    (text_lacks_commas (name ∷ rest) (and_right (is_field_name first) (list_all is_field_name (name ∷ rest)) h))

-- names of which one is no name may not be signed
next_is_name : (fields : List NameValue) (before name : List ℕ) → is_field_name name ≡ false
    → is_next fields before name ≡ false
unfolding is_next
next_is_name fields before name h = rw h refl

not_next_by : (fields : List NameValue) (before name : List ℕ) (names : List (List ℕ))
    → (list_all is_field_name names ≡ false → are_next fields name names ≡ false) → (b : Bool) → is_field_name name ≡ b
    → (b && list_all is_field_name names) ≡ false → (is_next fields before name && are_next fields name names) ≡ false
not_next_by fields before name names known false is h =
    ap (λ b. b && are_next fields name names) (next_is_name fields before name is)
not_next_by fields before name names known true is h =
    ap (λ b. is_next fields before name && b) (known h) ∙ and_false (is_next fields before name)

not_next : (fields : List NameValue) (before : List ℕ) (names : List (List ℕ)) → list_all is_field_name names ≡ false
    → are_next fields before names ≡ false
not_next fields before [] h = absurd (cc)
not_next fields before (name ∷ names) h =
    not_next_by fields before name names (not_next fields name names) (is_field_name name) refl h

pub no_names_fit : (fields : List NameValue) (names : List (List ℕ)) → list_all is_field_name names ≡ false
    → are_signable fields names ≡ false
unfolding are_signable
no_names_fit fields names h = rw (not_next fields [] names h) refl

pub none_fits : (fields : List NameValue) (names : List (List ℕ)) → length names ≡ 0 → are_signable fields names ≡ false
unfolding are_signable
none_fits fields [] h = refl
none_fits fields (name ∷ names) h = absurd (omega arith)

-- the digits of a signature are text
below_from : (b : ℕ) → nat_lt b 128 ≡ true → b < 128
below_from b h = grind (arith, nat_tests)

all_from : (bytes : List ℕ) → list_all (λ b. nat_lt b 128) bytes ≡ true → All (λ b. b < 128) bytes
all_from [] h = All-nil (λ b. b < 128)
all_from (b ∷ bytes) h =
    All-cons (λ b. b < 128) b bytes (below_from b (and_left (nat_lt b 128) (list_all (λ b. nat_lt b 128) bytes) h))
    (all_from bytes (and_right (nat_lt b 128) (list_all (λ b. nat_lt b 128) bytes) h))

digits_are_ascii : IsAscii lower_digits
digits_are_ascii = IsAscii-from_all lower_digits (all_from lower_digits refl)

pub signature_is_text : (secret : List ℕ) (scope : Scope) (moment : List ℕ) (message : Message) (names : List ℕ)
    → is_utf8 (signature secret scope moment message names) ≡ true
unfolding signature
signature_is_text secret scope moment message names =
    is_utf8-from_IsUtf8 _ (IsUtf8-from_ascii _ (IsAscii-encode_with lower_digits _ digits_are_ascii))
