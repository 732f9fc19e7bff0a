-- An Authorization field that is read is one that is spelled.
use Rattle.std.proofs.Common.{◌≡◌, ℕ, suc, ◌==◌, ◌&&◌, not, cond, Bool, true, false, List, [], ◌∷◌, ◌++◌, replicate, length, take, drop, codes, Option, Some, None, option_and_then, refl, ap, sym, ◌∙◌}
use Rattle.std.specs.Prelude.{nat_eq}
use Rattle.std.specs.Cmp.Lexicographic.{pointwise, bytes_decides}
use Rattle.std.specs.List.{list_all, onto_first, join_with_byte}
use Rattle.std.proofs.lemmas.List.{take-append-drop}
use Rattle.std.proofs.lemmas.List.Splits.{join_with_byte-slice_split}
use Rattle.sm_base.specs.Texts.{same_text}
use Rattle.sm_sigv4.specs.declared.scope.Scope.{Scope}
use Rattle.sm_sigv4.specs.Texts.{behind, pieces, lacks, past_spaces}
use Rattle.sm_sigv4.specs.Authorizations.{Authorization, is_signature, is_scope, scope_of, scope_at, scope_in, names_in, signature_if, signature_in, with_scope, authorization_of, authorization_in, scope_text}
use Rattle.sm_sigv4.specs.Laws.{IsSpelled}
use Rattle.sm_sigv4.proofs.TestLemmas.{test_true, and_left, and_right}
use Rattle.sm_sigv4.proofs.SentenceLemmas.{scope_parts, field_parts}

-- the three parts of a field that is read
record HasThree (parts : List (List ℕ)) (a : Authorization) : Type 0 where
  credential : List ℕ
  names : List ℕ
  digits : List ℕ
  are : parts ≡ credential ∷ names ∷ digits ∷ []
  scope_is : scope_in credential ≡ Some a.scope
  names_are : names_in names ≡ Some a.names
  digits_are : signature_in digits ≡ Some a.digits

all_there : (scope : Option Scope) (names digits : Option (List ℕ)) (a : Authorization)
    → with_scope scope names digits ≡ Some a
    → (scope ≡ Some a.scope) × (names ≡ Some a.names) × (digits ≡ Some a.digits)
all_there None names digits a h = absurd (cc)
all_there (Some scope) None digits a h = absurd (cc)
all_there (Some scope) (Some names) None a h = absurd (cc)
all_there (Some scope) (Some names) (Some digits) a h =
    let e : record { scope = scope; names = names; digits = digits } ≡ a = cc in (
      ap (λ (x : Authorization). Some x.scope) e,
      ap (λ (x : Authorization). Some x.names) e,
      ap (λ (x : Authorization). Some x.digits) e,
    )

three_of : (parts : List (List ℕ)) (a : Authorization) → authorization_of parts ≡ Some a → HasThree parts a
three_of [] a h = absurd (cc)
three_of (c ∷ []) a h = absurd (cc)
three_of (c ∷ n ∷ []) a h = absurd (cc)
three_of (c ∷ n ∷ s ∷ []) a h =
    let there = all_there (scope_in c) (names_in n) (signature_in s) a h in record {
      credential = c;
      names = n;
      digits = s;
      are = refl;
      scope_is = there.0;
      names_are = there.1;
      digits_are = there.2;
    }
three_of (c ∷ n ∷ s ∷ x ∷ more) a h = absurd (cc)

-- a text with something behind its beginning is both
behind_by : (front text rest : List ℕ) (b : Bool) → pointwise nat_eq (take (length front) text) front ≡ b
    → cond b (Some (drop (length front) text)) None ≡ Some rest → text ≡ front ++ rest
behind_by front text rest true is h =
    let rest_is : drop (length front) text ≡ rest = cc in
    sym (take-append-drop (length front) text)
    ∙ ap (λ (t : List ℕ). t ++ drop (length front) text) ((bytes_decides (take (length front) text) front).0 is)
    ∙ ap (λ (t : List ℕ). front ++ t) rest_is
behind_by front text rest false is h = absurd (cc)

behind_is : (front text rest : List ℕ) → behind front text ≡ Some rest → text ≡ front ++ rest
unfolding behind
behind_is front text rest h = behind_by front text rest (pointwise nat_eq (take (length front) text) front) refl h

-- the spaces that were passed
record HasSpaces (text : List ℕ) : Type 0 where
  count : ℕ
  is : text ≡ replicate count 32 ++ past_spaces text

spaces_by : (c : ℕ) (text : List ℕ) → HasSpaces text → (b : Bool) → (c == 32) ≡ b → HasSpaces (c ∷ text)
spaces_by c text h true is = record {
  count = suc h.count;
  is = ap (λ (d : ℕ). d ∷ text) (test_true c 32 is) ∙ ap (λ (t : List ℕ). 32 ∷ t) h.is
      ∙ sym (ap (λ b. 32 ∷ (replicate h.count 32 ++ cond b (past_spaces text) (c ∷ text))) is);
}
spaces_by c text h false is = record {
  count = 0;
  is = sym (ap (λ b. cond b (past_spaces text) (c ∷ text)) is);
}

spaces_of : (text : List ℕ) → HasSpaces text
spaces_of [] = record { count = 0; is = refl }
spaces_of (c ∷ text) = spaces_by c text (spaces_of text) (c == 32) refl

-- a piece has no byte at which it was cut
pieces_lack_onto : (byte c : ℕ) → (c == byte) ≡ false → (parts : List (List ℕ)) → list_all (lacks byte) parts ≡ true
    → list_all (lacks byte) (onto_first c parts) ≡ true
pieces_lack_onto byte c is [] h = ap (λ b. (not b && true) && true) is
pieces_lack_onto byte c is (part ∷ parts) h = ap (λ b. (not b && lacks byte part) && list_all (lacks byte) parts) is ∙ h

pieces_lack_by : (byte c : ℕ) (parts : List (List ℕ)) → list_all (lacks byte) parts ≡ true → (b : Bool) → (c == byte)
    ≡ b
    → list_all (lacks byte) (cond b ([] ∷ parts) (onto_first c parts)) ≡ true
pieces_lack_by byte c parts h true is = h
pieces_lack_by byte c parts h false is = pieces_lack_onto byte c is parts h

pieces_lack : (byte : ℕ) (text : List ℕ) → list_all (lacks byte) (pieces byte text) ≡ true
pieces_lack byte [] = refl
pieces_lack byte (c ∷ text) = pieces_lack_by byte c (pieces byte text) (pieces_lack byte text) (c == byte) refl

lacks_end : (byte : ℕ) (front end : List ℕ) → lacks byte (front ++ end) ≡ true → lacks byte end ≡ true
lacks_end byte [] end h = h
lacks_end byte (c ∷ front) end h = lacks_end byte front end (and_right (not (c == byte)) (lacks byte (front ++ end)) h)

-- scopes
record HasScope (parts : List (List ℕ)) (scope : Scope) : Type 0 where
  are : parts ≡ scope.key ∷ scope.date ∷ scope.region ∷ scope.service ∷ codes "aws4_request" ∷ []
  formed : is_scope scope ≡ true

same_text_is : (one other : List ℕ) → same_text one other ≡ true → one ≡ other
unfolding same_text
same_text_is one other h = (bytes_decides one other).0 h

scope_by : (found : Scope) (last : List ℕ) (scope : Scope) (b : Bool)
    → (same_text last (codes "aws4_request") && is_scope found) ≡ b → cond b (Some found) None ≡ Some scope
    → HasScope (found.key ∷ found.date ∷ found.region ∷ found.service ∷ last ∷ []) scope
scope_by found last scope true is h =
    let e : found ≡ scope = cc in record {
      are = ap (λ (l : List ℕ). found.key ∷ found.date ∷ found.region ∷ found.service ∷ l ∷ [])
          (same_text_is last (codes "aws4_request")
          (and_left (same_text last (codes "aws4_request")) (is_scope found) is))
          ∙ ap (λ (s : Scope). s.key ∷ s.date ∷ s.region ∷ s.service ∷ codes "aws4_request" ∷ []) e;
      formed = ap is_scope (sym e) ∙ and_right (same_text last (codes "aws4_request")) (is_scope found) is;
    }
scope_by found last scope false is h = absurd (cc)

five_of : (parts : List (List ℕ)) (scope : Scope) → scope_of parts ≡ Some scope → HasScope parts scope
five_of [] scope h = absurd (cc)
five_of (k ∷ []) scope h = absurd (cc)
five_of (k ∷ d ∷ []) scope h = absurd (cc)
five_of (k ∷ d ∷ r ∷ []) scope h = absurd (cc)
five_of (k ∷ d ∷ r ∷ s ∷ []) scope h = absurd (cc)
five_of (k ∷ d ∷ r ∷ s ∷ l ∷ []) scope h =
    scope_by (record { key = k; date = d; region = r; service = s }) l scope
    (same_text l (codes "aws4_request") && is_scope (record { key = k; date = d; region = r; service = s })) refl h
five_of (k ∷ d ∷ r ∷ s ∷ l ∷ x ∷ more) scope h = absurd (cc)

record HasCredential (text : List ℕ) (scope : Scope) : Type 0 where
  is : text ≡ codes "AWS4-HMAC-SHA256 Credential=" ++ (scope.key ++ codes "/" ++ scope_text scope)
  formed : is_scope scope ≡ true

credential_by : (text : List ℕ) (scope : Scope) (found : Option (List ℕ))
    → behind (codes "AWS4-HMAC-SHA256 Credential=") text ≡ found → option_and_then scope_at found ≡ Some scope
    → HasCredential text scope
credential_by text scope None is h = absurd (cc)
credential_by text scope (Some rest) is h =
    let five = five_of (pieces 47 rest) scope h in record {
      is = behind_is (codes "AWS4-HMAC-SHA256 Credential=") text rest is
          ∙ ap (λ (t : List ℕ). codes "AWS4-HMAC-SHA256 Credential=" ++ t)
          (sym (join_with_byte-slice_split 47 rest) ∙ ap (join_with_byte 47) five.are
          ∙ sym (scope_parts scope.key scope.date scope.region scope.service (codes "aws4_request")));
      formed = five.formed;
    }

-- names and digits
record HasBehind (word text rest : List ℕ) : Type 0 where
  spaces : ℕ
  is : text ≡ replicate spaces 32 ++ (word ++ rest)

behind_spaces : (word text rest : List ℕ) → behind word (past_spaces text) ≡ Some rest → HasBehind word text rest
behind_spaces word text rest h =
    let passed = spaces_of text in record {
      spaces = passed.count;
      is = passed.is ∙ ap (λ (t : List ℕ). replicate passed.count 32 ++ t) (behind_is word (past_spaces text) rest h);
    }

record HasDigits (text digits : List ℕ) : Type 0 where
  found : HasBehind (codes "Signature=") text digits
  formed : is_signature digits ≡ true

digits_if : (text rest digits : List ℕ) → behind (codes "Signature=") (past_spaces text) ≡ Some rest → (b : Bool)
    → is_signature rest ≡ b → cond b (Some rest) None ≡ Some digits → HasDigits text digits
digits_if text rest digits at true is h =
    let e : rest ≡ digits = cc in record {
      found = behind_spaces (codes "Signature=") text digits (at ∙ ap Some e);
      formed = ap is_signature (sym e) ∙ is;
    }
digits_if text rest digits at false is h = absurd (cc)

digits_by : (text digits : List ℕ) (found : Option (List ℕ)) → behind (codes "Signature=") (past_spaces text) ≡ found
    → option_and_then signature_if found ≡ Some digits → HasDigits text digits
digits_by text digits None at h = absurd (cc)
digits_by text digits (Some rest) at h = digits_if text rest digits at (is_signature rest) refl h

-- the second of three
second_lacks : (byte : ℕ) (one two three : List ℕ) → list_all (lacks byte) (one ∷ two ∷ three ∷ []) ≡ true
    → lacks byte two ≡ true
second_lacks byte one two three h =
    and_left (lacks byte two) (lacks byte three && true)
    (and_right (lacks byte one) (lacks byte two && (lacks byte three && true)) h)

pub reads_no_other : (text : List ℕ) (a : Authorization) → authorization_in text ≡ Some a → IsSpelled text a
reads_no_other text a h =
    let three = three_of (pieces 44 text) a h in
    let credential = credential_by three.credential a.scope _ refl three.scope_is in
    let names = behind_spaces (codes "SignedHeaders=") three.names a.names three.names_are in
    let digits = digits_by three.digits a.digits _ refl three.digits_are in
    let plain = second_lacks 44 three.credential three.names three.digits
    (ap (list_all (lacks 44)) (sym three.are) ∙ pieces_lack 44 text) in
    record {
      first = names.spaces;
      second = digits.found.spaces;
      whole = sym (join_with_byte-slice_split 44 text) ∙ ap (join_with_byte 44) three.are
          ∙ ap (λ (t : List ℕ). t ++ 44 ∷ (three.names ++ 44 ∷ three.digits)) credential.is
          ∙ ap (λ (t : List ℕ). (codes "AWS4-HMAC-SHA256 Credential=" ++
          (a.scope.key ++ codes "/" ++ scope_text a.scope)) ++ 44 ∷ (t ++ 44 ∷ three.digits))
          names.is
          ∙ ap (λ (t : List ℕ). (codes "AWS4-HMAC-SHA256 Credential=" ++
          (a.scope.key ++ codes "/" ++ scope_text a.scope))
          ++ 44 ∷ ((replicate names.spaces 32 ++ (codes "SignedHeaders=" ++ a.names)) ++ 44 ∷ t)) digits.found.is
          ∙ sym (field_parts (codes "AWS4-HMAC-SHA256 Credential=") a.scope.key (scope_text a.scope)
          (replicate names.spaces 32) (codes "SignedHeaders=") a.names (replicate digits.found.spaces 32)
          (codes "Signature=") a.digits);
      formed = record {
        scope = credential.formed;
        names = lacks_end 44 (codes "SignedHeaders=") a.names
            (lacks_end 44 (replicate names.spaces 32) (codes "SignedHeaders=" ++ a.names)
            (ap (lacks 44) (sym names.is) ∙ plain));
        digits = digits.formed;
      };
    }
