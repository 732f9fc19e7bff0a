-- An Authorization field that is spelled is read.
use Rattle.std.proofs.Common.{◌≡◌, ℕ, ◌&&◌, nat_le, cond, Bool, true, false, List, [], ◌∷◌, ◌++◌, replicate, length, codes, Some, None, option_and_then, refl, ap, ◌∙◌, append_assoc}
use Rattle.std.specs.List.{list_all}
use Rattle.std.specs.Char.{is_ascii_digit}
use Rattle.sm_base.specs.Spelling.{is_region_byte, is_run}
use Rattle.sm_base.specs.Texts.{same_text}
use Rattle.sm_base.specs.declared.limits.TheConstants.{KEY_LIMIT}
use Rattle.sm_sigv4.specs.declared.scope.Scope.{Scope}
use Rattle.sm_sigv4.specs.Texts.{behind, pieces, lacks}
use Rattle.sm_sigv4.specs.Authorizations.{Authorization, is_key_byte, is_lower_digit, is_key, is_date, is_place, is_signature, is_scope, scope_of, scope_at, scope_in, names_in, signature_if, signature_in, with_digits, with_names, with_scope, authorization_of, authorization_in, scope_text, spelled}
use Rattle.sm_sigv4.specs.Laws.{spelled_with, IsAuthorization}
use Rattle.sm_sigv4.proofs.TestLemmas.{and_left, and_right, and_both, same_as_itself}
use Rattle.sm_sigv4.proofs.PieceLemmas.{pieces_front, pieces_only, lacks_append, lacks_by, spaces_passed, spaces_lack_commas, behind_front}

all_of_run : (test : ℕ → Bool) (low high : ℕ) (text : List ℕ) → is_run test low high text ≡ true
    → list_all test text ≡ true
all_of_run test low high text h =
    and_right (nat_le low (length text) && nat_le (length text) high) (list_all test text) h

-- the forms of a scope's parts
pub record HasForms (scope : Scope) : Type 0 where
  pub key : is_key scope.key ≡ true
  pub date : is_date scope.date ≡ true
  pub region : is_place scope.region ≡ true
  pub service : is_place scope.service ≡ true

pub forms_of : (scope : Scope) → is_scope scope ≡ true → HasForms scope
unfolding is_scope
forms_of scope h =
    let three = and_left (is_key scope.key && is_date scope.date && is_place scope.region) (is_place scope.service) h in
    let two = and_left (is_key scope.key && is_date scope.date) (is_place scope.region) three in
    record {
      key = and_left (is_key scope.key) (is_date scope.date) two;
      date = and_right (is_key scope.key) (is_date scope.date) two;
      region = and_right (is_key scope.key && is_date scope.date) (is_place scope.region) three;
      service = and_right (is_key scope.key && is_date scope.date && is_place scope.region) (is_place scope.service) h;
    }

-- a byte of none of their alphabets is in none of them
module _ (byte : ℕ) (no_key : is_key_byte byte ≡ false) (no_digit : is_ascii_digit byte ≡ false)
    (no_place : is_region_byte byte ≡ false) (scope : Scope) (h : HasForms scope) where
  key_lacks : lacks byte scope.key ≡ true
  key_lacks = lacks_by is_key_byte byte no_key scope.key (all_of_run is_key_byte 1 KEY_LIMIT scope.key h.key)

  date_lacks : lacks byte scope.date ≡ true
  date_lacks = lacks_by is_ascii_digit byte no_digit scope.date (all_of_run is_ascii_digit 8 8 scope.date h.date)

  region_lacks : lacks byte scope.region ≡ true
  region_lacks = lacks_by is_region_byte byte no_place scope.region
      (all_of_run is_region_byte 1 64 scope.region h.region)

  service_lacks : lacks byte scope.service ≡ true
  service_lacks =
      lacks_by is_region_byte byte no_place scope.service (all_of_run is_region_byte 1 64 scope.service h.service)

no_key_slash : is_key_byte 47 ≡ false
unfolding is_key_byte
no_key_slash = refl

no_place_slash : is_region_byte 47 ≡ false
unfolding is_region_byte
no_place_slash = refl

no_key_comma : is_key_byte 44 ≡ false
unfolding is_key_byte
no_key_comma = refl

no_place_comma : is_region_byte 44 ≡ false
unfolding is_region_byte
no_place_comma = refl

-- scopes
pub scope_parts : (k d r s l : List ℕ) → k ++ (47 ∷ []) ++ (d ++ (47 ∷ []) ++ r ++ (47 ∷ []) ++ s ++ (47 ∷ l))
    ≡ k ++ 47 ∷ (d ++ 47 ∷ (r ++ 47 ∷ (s ++ 47 ∷ l)))
scope_parts k d r s l = simp append_assoc

module _ (scope : Scope) (is : is_scope scope ≡ true) (h : HasForms scope) where
  scope_pieces : pieces 47 (scope.key ++ 47 ∷
      (scope.date ++ 47 ∷ (scope.region ++ 47 ∷ (scope.service ++ 47 ∷ codes "aws4_request"))))
      ≡ scope.key ∷ scope.date ∷ scope.region ∷ scope.service ∷ codes "aws4_request" ∷ []
  scope_pieces =
      pieces_front 47 scope.key _ (key_lacks 47 no_key_slash refl no_place_slash scope h)
      ∙ ap (λ (t : List (List ℕ)). scope.key ∷ t)
      (pieces_front 47 scope.date _ (date_lacks 47 no_key_slash refl no_place_slash scope h)
      ∙ ap (λ (t : List (List ℕ)). scope.date ∷ t)
      (pieces_front 47 scope.region _ (region_lacks 47 no_key_slash refl no_place_slash scope h)
      ∙ ap (λ (t : List (List ℕ)). scope.region ∷ t)
      (pieces_front 47 scope.service _ (service_lacks 47 no_key_slash refl no_place_slash scope h)
      ∙ ap (λ (t : List (List ℕ)). scope.service ∷ t) (pieces_only 47 (codes "aws4_request") refl))))

  scope_is_read : scope_at (scope.key ++ codes "/" ++ scope_text scope) ≡ Some scope
  scope_is_read =
      ap scope_at (scope_parts scope.key scope.date scope.region scope.service (codes "aws4_request"))
      ∙ ap scope_of scope_pieces
      ∙ ap (λ b. cond b (Some scope) None)
      (and_both (same_text (codes "aws4_request") (codes "aws4_request")) (is_scope scope)
      (same_as_itself (codes "aws4_request")) is)

  credential_is_read : scope_in (codes "AWS4-HMAC-SHA256 Credential=" ++ (scope.key ++ codes "/" ++ scope_text scope))
      ≡ Some scope
  credential_is_read =
      ap (option_and_then scope_at)
      (behind_front (codes "AWS4-HMAC-SHA256 Credential=") (scope.key ++ codes "/" ++ scope_text scope))
      ∙ scope_is_read

  scope_text_lacks_commas : lacks 44 (scope_text scope) ≡ true
  scope_text_lacks_commas =
      lacks_append 44 (scope.date ++ codes "/" ++ scope.region ++ codes "/" ++ scope.service) (codes "/aws4_request")
      (lacks_append 44 (scope.date ++ codes "/" ++ scope.region ++ codes "/") scope.service
      (lacks_append 44 (scope.date ++ codes "/" ++ scope.region) (codes "/")
      (lacks_append 44 (scope.date ++ codes "/") scope.region
      (lacks_append 44 scope.date (codes "/") (date_lacks 44 no_key_comma refl no_place_comma scope h) refl)
      (region_lacks 44 no_key_comma refl no_place_comma scope h)) refl)
      (service_lacks 44 no_key_comma refl no_place_comma scope h)) refl

  credential_lacks_commas : lacks 44 (codes "AWS4-HMAC-SHA256 Credential=" ++
      (scope.key ++ codes "/" ++ scope_text scope)) ≡ true
  credential_lacks_commas =
      lacks_append 44 (codes "AWS4-HMAC-SHA256 Credential=") (scope.key ++ codes "/" ++ scope_text scope) refl
      (lacks_append 44 (scope.key ++ codes "/") (scope_text scope)
      (lacks_append 44 scope.key (codes "/") (key_lacks 44 no_key_comma refl no_place_comma scope h) refl)
      scope_text_lacks_commas)

-- fields
pub field_parts : (c k t sp h n sq g d : List ℕ) →
    c ++ k ++ (47 ∷ []) ++ t ++ (44 ∷ []) ++ sp ++ h ++ n ++ (44 ∷ []) ++ sq ++ g ++ d
    ≡ (c ++ (k ++ (47 ∷ []) ++ t)) ++ 44 ∷ ((sp ++ (h ++ n)) ++ 44 ∷ (sq ++ (g ++ d)))
field_parts c k t sp h n sq g d = simp append_assoc

names_are_read : (spaces : ℕ) (names : List ℕ)
    → names_in (replicate spaces 32 ++ (codes "SignedHeaders=" ++ names)) ≡ Some names
names_are_read spaces names =
    ap (behind (codes "SignedHeaders=")) (spaces_passed spaces 83 (codes "ignedHeaders=" ++ names) refl)
    ∙ behind_front (codes "SignedHeaders=") names

digits_are_read : (spaces : ℕ) (digits : List ℕ) → is_signature digits ≡ true
    → signature_in (replicate spaces 32 ++ (codes "Signature=" ++ digits)) ≡ Some digits
digits_are_read spaces digits is =
    ap (λ (t : List ℕ). option_and_then signature_if (behind (codes "Signature=") t))
    (spaces_passed spaces 83 (codes "ignature=" ++ digits) refl)
    ∙ ap (option_and_then signature_if) (behind_front (codes "Signature=") digits)
    ∙ ap (λ b. cond b (Some digits) None) is

digits_lack_commas : (digits : List ℕ) → is_signature digits ≡ true → lacks 44 digits ≡ true
unfolding is_lower_digit
digits_lack_commas digits is =
    lacks_by is_lower_digit 44 refl digits (all_of_run is_lower_digit 64 64 digits is)

pub reads_spellings : (first second : ℕ) (a : Authorization) → IsAuthorization a
    → authorization_in (spelled_with first second a) ≡ Some a
reads_spellings first second a is =
    let h = forms_of a.scope is.scope in
    let credential = codes "AWS4-HMAC-SHA256 Credential=" ++ (a.scope.key ++ codes "/" ++ scope_text a.scope) in
    let names = replicate first 32 ++ (codes "SignedHeaders=" ++ a.names) in
    let digits = replicate second 32 ++ (codes "Signature=" ++ a.digits) in
    ap authorization_in (field_parts (codes "AWS4-HMAC-SHA256 Credential=") a.scope.key (scope_text a.scope)
    (replicate first 32) (codes "SignedHeaders=") a.names (replicate second 32) (codes "Signature=") a.digits)
    ∙ ap authorization_of
    (pieces_front 44 credential (names ++ 44 ∷ digits) (credential_lacks_commas a.scope is.scope h)
    ∙ ap (λ (t : List (List ℕ)). credential ∷ t)
    (pieces_front 44 names digits
    (lacks_append 44 (replicate first 32) (codes "SignedHeaders=" ++ a.names) (spaces_lack_commas first)
    (lacks_append 44 (codes "SignedHeaders=") a.names refl is.names))
    ∙ ap (λ (t : List (List ℕ)). names ∷ t)
    (pieces_only 44 digits
    (lacks_append 44 (replicate second 32) (codes "Signature=" ++ a.digits) (spaces_lack_commas second)
    (lacks_append 44 (codes "Signature=") a.digits refl (digits_lack_commas a.digits is.digits))))))
    ∙ ap (λ o. with_scope o (names_in names) (signature_in digits)) (credential_is_read a.scope is.scope h)
    ∙ ap (λ o. with_names a.scope o (signature_in digits)) (names_are_read first a.names)
    ∙ ap (λ o. with_digits a.scope a.names o) (digits_are_read second a.digits is.digits)

spelled_parts : (c k t n d : List ℕ) →
    c ++ k ++ (47 ∷ []) ++ t ++ codes ", SignedHeaders=" ++ n ++ codes ", Signature=" ++ d
    ≡ c ++ k ++ (47 ∷ []) ++ t ++ (44 ∷ []) ++ (32 ∷ []) ++ codes "SignedHeaders=" ++ n ++ (44 ∷ []) ++ (32 ∷ [])
    ++ codes "Signature=" ++ d
spelled_parts c k t n d = simp append_assoc

-- what is written has one space behind each comma
pub spelled_is : (a : Authorization) → spelled a ≡ spelled_with 1 1 a
spelled_is a = spelled_parts (codes "AWS4-HMAC-SHA256 Credential=") a.scope.key (scope_text a.scope) a.names a.digits
