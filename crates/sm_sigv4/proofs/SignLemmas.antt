-- A message with the field that signs it is signed.
use Rattle.std.proofs.Common.{◌≡◌, ◌≢◌, ℕ, ◌&&◌, ◌||◌, not, cond, Bool, true, false, List, [], ◌∷◌, ◌++◌, length, codes, is_some, Option, Some, None, option_and_then, Result, Ok, Err, IfOk, refl, ap, sym, ◌∙◌}
use Rattle.std.specs.List.{list_all}
use Rattle.httparse.specs.Grammar.{is_token_byte}
use Rattle.sha2.specs.Sha256.{sha256}
use Rattle.hex.specs.Hex.{encode_lower}
use Rattle.sm_base.specs.Outcomes.{OrMemory}
use Rattle.sm_base.specs.Texts.{same_text}
use Rattle.sm_http.specs.Messages.{Message}
use Rattle.sm_http.specs.Heads.{NameValue, values_of, first_of, field_of}
use Rattle.sm_sigv4.specs.declared.part.Part.{Part}
use Rattle.sm_sigv4.specs.declared.part.Part.TheVariants as part
use Rattle.sm_sigv4.specs.declared.part.SignRefused.{SignRefused}
use Rattle.sm_sigv4.specs.declared.part.SignRefused.TheVariants as refused
use Rattle.sm_sigv4.specs.declared.scope.Scope.{Scope}
use Rattle.std.specs.Cmp.Lexicographic.{bytes_decides}
use Rattle.sm_sigv4.specs.Hmac.{hmac}
use Rattle.sm_sigv4.specs.Authorizations.{Authorization, is_scope, authorization_in, spelled}
use Rattle.sm_sigv4.specs.Names.{is_name_byte, is_field_name, is_before, is_next, are_next, is_among, are_signable, names_of, names_text}
use Rattle.sm_sigv4.specs.Canonical.{line_end, values_text, line, lines, canonical}
use Rattle.sm_sigv4.specs.Signatures.{is_moment, signing_key, text_to_sign, signature, by_moment, by_authorization, signed, field_with, sign_at}
use Rattle.sm_sigv4.specs.Outcomes.{told}
use Rattle.sm_sigv4.specs.Laws.{IsAuthorization, Carries, ByNamesAlone}
use Rattle.sm_sigv4.proofs.TestLemmas.{and_left, and_right, not_true, same_as_itself}
use Rattle.sm_sigv4.proofs.SentenceLemmas.{reads_spellings, spelled_is}
use Rattle.sm_sigv4.proofs.SigningLemmas.{names_come_back, text_lacks_commas, no_names_fit, none_fits}
use Rattle.sm_sigv4.proofs.SignatureLemmas.{signature_is_signature}

-- the values of these names are the same
abbrev SameValues : List NameValue → List NameValue → List (List ℕ) → Type 0
SameValues fields others names = (name : List ℕ) → is_among names name ≡ true
    → values_of name fields ≡ values_of name others

or_true : (b : Bool) → (b || true) ≡ true
or_true true = refl
or_true false = refl

among_first : (name : List ℕ) (names : List (List ℕ)) → is_among (name ∷ names) name ≡ true
among_first name names = ap (λ b. b || is_among names name) (same_as_itself name)

among_more : (found name : List ℕ) (names : List (List ℕ)) → is_among names name ≡ true
    → is_among (found ∷ names) name ≡ true
among_more found name names h = ap (λ b. same_text found name || b) h ∙ or_true (same_text found name)

lines_same : (fields others : List NameValue) (names : List (List ℕ)) → SameValues fields others names
    → lines fields names ≡ lines others names
lines_same fields others [] same = refl
lines_same fields others (name ∷ names) same =
    ap (λ (vs : List (List ℕ)). (name ++ codes ":" ++ values_text vs ++ line_end) ++ lines fields names)
    (same name (among_first name names))
    ∙ ap (λ (t : List ℕ). line others name ++ t)
    (lines_same fields others names (λ n h. same n (among_more name n names h)))

-- the canonical text of its parts
canonical_of : List ℕ → List ℕ → List ℕ → List ℕ → List ℕ → List ℕ
canonical_of method path found names body =
    method ++ line_end ++ path ++ (10 ∷ 10 ∷ []) ++ found ++ line_end ++ names ++ line_end ++ encode_lower (sha256 body)

pub by_names_alone : ByNamesAlone
unfolding canonical canonical_of
by_names_alone one other names same_method same_path same_body same =
    let found = lines one.fields (names_of names) in
    ap (λ (t : List ℕ). canonical_of t one.path found names one.body) same_method
    ∙ ap (λ (t : List ℕ). canonical_of other.method t found names one.body) same_path
    ∙ ap (λ (t : List ℕ). canonical_of other.method other.path t names one.body)
    (lines_same one.fields other.fields (names_of names) same)
    ∙ ap (λ (t : List ℕ). canonical_of other.method other.path (lines other.fields (names_of names)) names t)
    same_body

-- names that may be signed with some fields may be with others that have the same values
next_same : (fields others : List NameValue) (before name : List ℕ) → values_of name fields ≡ values_of name others
    → is_next fields before name ≡ is_next others before name
unfolding is_next
next_same fields others before name same =
    ap (λ (vs : List (List ℕ)). is_field_name name && is_some (first_of vs) && is_before before name) same

are_next_same : (fields others : List NameValue) (before : List ℕ) (names : List (List ℕ)) → SameValues fields others
    names
    → are_next fields before names ≡ are_next others before names
are_next_same fields others before [] same = refl
are_next_same fields others before (name ∷ names) same =
    ap (λ b. b && are_next fields name names) (next_same fields others before name (same name (among_first name names)))
    ∙ ap (λ b. is_next others before name && b)
    (are_next_same fields others name names (λ n h. same n (among_more name n names h)))

signable_same : (fields others : List NameValue) (names : List (List ℕ)) → SameValues fields others names
    → are_signable fields names ≡ are_signable others names
unfolding are_signable
signable_same fields others names same =
    ap (λ b. b && is_among names (codes "host") && is_among names (codes "x-amz-date")
    && is_among names (codes "x-amz-target") && not (is_among names (codes "authorization")))
    (are_next_same fields others [] names same)

-- what is known of names that may be signed
pub record IsSignable (names : List (List ℕ)) : Type 0 where
  pub some : length names ≢ 0
  pub plain : list_all is_field_name names ≡ true
  pub without : is_among names (codes "authorization") ≡ false

false_is_true : false ≡ true → ⊥
false_is_true f = absurd (cc)

plain_by : (fields : List NameValue) (names : List (List ℕ)) → are_signable fields names ≡ true → (b : Bool)
    → list_all is_field_name names ≡ b → b ≡ true
plain_by fields names h true is = refl
plain_by fields names h false is = sym (no_names_fit fields names is) ∙ h

last_of_five : (a b c d e : Bool) → (a && b && c && d && not e) ≡ true → e ≡ false
last_of_five a b c d e h = not_true e (and_right (a && b && c && d) (not e) h)

pub signable : (fields : List NameValue) (names : List (List ℕ)) → are_signable fields names ≡ true → IsSignable names
unfolding are_signable
signable fields names h = record {
  some = λ none. false_is_true (sym (none_fits fields names none) ∙ h);
  plain = plain_by fields names h (list_all is_field_name names) refl;
  without = last_of_five (are_next fields [] names) (is_among names (codes "host"))
      (is_among names (codes "x-amz-date"))
      (is_among names (codes "x-amz-target")) (is_among names (codes "authorization")) h;
}

-- a name among these is one, and another than one that isn't among them
same_names : (one other : List ℕ) → same_text one other ≡ true → one ≡ other
unfolding same_text
same_names one other h = (bytes_decides one other).0 h

passes_by : (test : List ℕ → Bool) (found name : List ℕ) (names : List (List ℕ)) (b : Bool) → same_text found name ≡ b
    → (is_among names name ≡ true → test name ≡ true) → test found ≡ true → (b || is_among names name) ≡ true
    → test name ≡ true
passes_by test found name names true is known here h = sym (ap test (same_names found name is)) ∙ here
passes_by test found name names false is known here h = known h

passes_among : (test : List ℕ → Bool) (names : List (List ℕ)) (name : List ℕ) → list_all test names ≡ true
    → is_among names name ≡ true → test name ≡ true
passes_among test [] name all h = absurd (cc)
passes_among test (found ∷ names) name all h =
    passes_by test found name names (same_text found name) refl
    (passes_among test names name (and_right (test found) (list_all test names) all))
    (and_left (test found) (list_all test names) all) h

other_by : (names : List (List ℕ)) (name left_out : List ℕ) → is_among names left_out ≡ false → is_among names name ≡
    true
    → (b : Bool) → same_text name left_out ≡ b → b ≡ false
other_by names name left_out none h true is =
    absurd (false_is_true (sym none ∙ sym (ap (is_among names) (same_names name left_out is)) ∙ h))
other_by names name left_out none h false is = refl

-- fields that differ in Authorization alone have the same values of names that may be signed
carried_same : (message : Message) (value : List ℕ) (sent : Message) → Carries message value sent
    → (names : List (List ℕ)) → IsSignable names → SameValues sent.fields message.fields names
carried_same message value sent carries names is name among =
    carries.others name (passes_among is_field_name names name is.plain among)
    (other_by names name (codes "authorization") is.without among (same_text name (codes "authorization")) refl)

date_is_name : is_field_name (codes "x-amz-date") ≡ true
unfolding is_field_name is_name_byte is_token_byte
date_is_name = refl

date_is_other : same_text (codes "x-amz-date") (codes "authorization") ≡ false
unfolding same_text
date_is_other = refl

module _ (secret : List ℕ) (message : Message) (scope : Scope) (names : List (List ℕ)) (moment value : List ℕ)
    (is : is_scope scope ≡ true) (may : are_signable message.fields names ≡ true)
    (dated : is_moment scope.date moment ≡ true)
    (date_is : field_of (codes "x-amz-date") message.fields ≡ Some moment)
    (value_is : field_with secret message scope (names_text names) moment ≡ value)
    (sent : Message) (carries : Carries message value sent) where
  known : IsSignable names
  known = signable message.fields names may

  same : SameValues sent.fields message.fields names
  same = carried_same message value sent carries names known

  back_again : names_of (names_text names) ≡ names
  back_again = names_come_back names known.some known.plain

  digits : List ℕ
  digits = signature secret scope moment message (names_text names)

  said : Authorization
  said = record { scope = scope; names = names_text names; digits = digits }

  said_is : field_with secret message scope (names_text names) moment ≡ spelled said
  unfolding said digits
  said_is = refl

  is_formed : IsAuthorization said
  unfolding said digits
  is_formed = record {
    scope = is;
    names = text_lacks_commas names known.plain;
    digits = signature_is_signature secret scope moment message (names_text names);
  }

  value_is_read : authorization_in value ≡ Some said
  value_is_read =
      ap authorization_in (sym value_is ∙ said_is ∙ spelled_is said) ∙ reads_spellings 1 1 said is_formed

  field_is : option_and_then authorization_in (field_of (codes "authorization") sent.fields) ≡ Some said
  field_is =
      ap (λ (vs : List (List ℕ)). option_and_then authorization_in (first_of vs)) carries.alone ∙ value_is_read

  names_fit : are_signable sent.fields (names_of (names_text names)) ≡ true
  names_fit =
      ap (are_signable sent.fields) back_again ∙ signable_same sent.fields message.fields names same ∙
      may

  date_is_sent : field_of (codes "x-amz-date") sent.fields ≡ Some moment
  date_is_sent = ap first_of (carries.others (codes "x-amz-date") date_is_name date_is_other) ∙ date_is

  text_is : canonical sent (names_text names) ≡ canonical message (names_text names)
  text_is =
      by_names_alone sent message (names_text names) carries.method carries.path carries.body
      (λ name h. same name (sym (ap (λ (ns : List (List ℕ)). is_among ns name) back_again) ∙ h))

  signature_is : signature secret scope moment sent (names_text names) ≡ digits
  unfolding signature digits
  signature_is =
      ap (λ (t : List ℕ). encode_lower (hmac (signing_key secret scope) (text_to_sign scope moment t))) text_is

  digits_fit : same_text digits (signature secret scope moment sent (names_text names)) ≡ true
  digits_fit = ap (same_text digits) signature_is ∙ same_as_itself digits

  by_digits : by_moment secret sent said (Some moment) ≡ None
  unfolding said
  by_digits =
      ap (λ b. cond b (cond (same_text digits (signature secret scope moment sent (names_text names))) None
      (Some part.Signature))
      (Some part.Date)) dated
      ∙ ap (λ b. cond b None (Some part.Signature)) digits_fit

  by_names : by_authorization secret sent (Some said) ≡ None
  unfolding said
  by_names =
      ap (λ b. cond b (by_moment secret sent said (field_of (codes "x-amz-date") sent.fields))
      (Some part.SignedHeaders))
      names_fit
      ∙ ap (by_moment secret sent said) date_is_sent ∙ by_digits

  pub sent_is_signed : signed secret sent ≡ None
  sent_is_signed = ap (by_authorization secret sent) field_is ∙ by_names

-- whatever the moment is
signs_at : (secret : List ℕ) (message : Message) (scope : Scope) (names : List (List ℕ)) (value : List ℕ)
    → is_scope scope ≡ true → are_signable message.fields names ≡ true → (found : Option (List ℕ))
    → field_of (codes "x-amz-date") message.fields ≡ found → sign_at secret message scope names found ≡ Ok value
    → (sent : Message) → Carries message value sent → signed secret sent ≡ None
signs_at secret message scope names value is may None date_is h = absurd (cc)
signs_at secret message scope names value is may (Some moment) date_is h =
    by (is_moment scope.date moment) refl h
  where
    by : (b : Bool) → is_moment scope.date moment ≡ b
        → cond b (Ok (field_with secret message scope (names_text names) moment)) (Err part.Date) ≡ Ok value
        → (sent : Message) → Carries message value sent → signed secret sent ≡ None
    by true dated h =
        let value_is : field_with secret message scope (names_text names) moment ≡ value = cc in
        sent_is_signed secret message scope names moment value is may dated date_is value_is
    by false dated h = absurd (cc)

-- an answer that is an equation beside memory
pub on_told : (result : Result (List ℕ) SignRefused) (wanted : Result (List ℕ) Part) (P : List ℕ → Type 0)
    → OrMemory (told result) wanted → ((value : List ℕ) → wanted ≡ Ok value → P value) → IfOk result P
on_told (Ok value) wanted P is holds = holds value (sym is)
on_told (Err (refused.Part part)) wanted P is holds = tt
on_told (Err refused.Memory) wanted P is holds = tt

pub signs : (secret : List ℕ) (message : Message) (scope : Scope) (names : List (List ℕ)) → is_scope scope ≡ true
    → are_signable message.fields names ≡ true → (result : Result (List ℕ) SignRefused)
    → OrMemory (told result) (sign_at secret message scope names (field_of (codes "x-amz-date") message.fields))
    → IfOk result (λ value. (sent : Message) → Carries message value sent → signed secret sent ≡ None)
signs secret message scope names is may result told_is =
    on_told result _ (λ value. (sent : Message) → Carries message value sent → signed secret sent ≡ None) told_is
    (λ value h. signs_at secret message scope names value is may _ refl h)
