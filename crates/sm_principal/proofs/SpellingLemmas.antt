-- What a line spells, and the line of what was read.
use Rattle.std.proofs.Common.{◌≡◌, ℕ, ◌==◌, ◌&&◌, cond, Bool, true, false, List, [], ◌∷◌, ◌++◌, codes, Option, Some, None, refl, ap, sym, subst, ◌∙◌, append-nil, arith}
use Rattle.std.specs.List.{list_all}
use Rattle.std.specs.Cmp.Lexicographic.{same_text as texts_same}
use Rattle.std.proofs.lemmas.Bool.Decides.{nat_tests}
use Rattle.sm_base.specs.PersonArn.{is_person_arn}
use Rattle.sm_base.specs.Spelling.{is_token_byte}
use Rattle.sm_base.specs.Texts.{same_text}
use Rattle.sm_principal.specs.Persons.{Known}
use Rattle.sm_principal.specs.Lines.{is_key_byte, is_key, pushed, parted, kind_of, known_with, fits, known_if, with_arn, with_kind, with_key, known_of}
use Rattle.sm_principal.specs.Spellings.{kind_text, secret_text, line_text, IsFormed, ReadsLines, ReadsNoOther}
use Rattle.sm_principal.proofs.LineLemmas.{both, key_bytes_all, arn_bytes_all}

-- a text without a byte, in front of the byte
false_is_true : false ≡ true → ⊥
false_is_true f = absurd (cc)

other_bytes : (test : ℕ → Bool) (byte : ℕ) → test byte ≡ false → (c : ℕ) → test c ≡ true → (c == byte) ≡ false
other_bytes test byte none c is = by (c == byte) refl
  where
    by : (b : Bool) → (c == byte) ≡ b → b ≡ false
    by true same =
        let one : c ≡ byte = grind (arith, nat_tests) in absurd (false_is_true (sym none ∙ sym (ap test one) ∙ is))
    by false same = refl

pub parted_front : (test : ℕ → Bool) (byte : ℕ) → test byte ≡ false → (front back : List ℕ)
    → list_all test front ≡ true → parted byte (front ++ byte ∷ back) ≡ Some (front, back)
parted_front test byte none [] back all = ap (λ b. cond b (Some ([], back)) (pushed byte (parted byte back))) same
  where
    same : (byte == byte) ≡ true
    same = grind (arith, nat_tests)
parted_front test byte none (c ∷ front) back all =
    let parts = both (test c) (list_all test front) all in
    ap (λ b. cond b (Some ([], front ++ byte ∷ back)) (pushed c (parted byte (front ++ byte ∷ back))))
    (other_bytes test byte none c parts.0)
    ∙ ap (pushed c) (parted_front test byte none front back parts.1)

parted_nowhere : (test : ℕ → Bool) (byte : ℕ) → test byte ≡ false → (text : List ℕ) → list_all test text ≡ true
    → parted byte text ≡ None
parted_nowhere test byte none [] all = refl
parted_nowhere test byte none (c ∷ text) all =
    let parts = both (test c) (list_all test text) all in
    ap (λ b. cond b (Some ([], text)) (pushed c (parted byte text))) (other_bytes test byte none c parts.0)
    ∙ ap (pushed c) (parted_nowhere test byte none text parts.1)

space_is_no_key : is_key_byte 32 ≡ false
unfolding is_key_byte
space_is_no_key = refl

space_is_no_token : is_token_byte 32 ≡ false
unfolding is_token_byte
space_is_no_token = refl

-- what a line spells is read
kind_reads : (full : Bool) → kind_of (kind_text full) ≡ Some full
unfolding kind_of same_text
kind_reads true = refl
kind_reads false = refl

kind_parts : (full : Bool) (back : List ℕ) → parted 32 (kind_text full ++ 32 ∷ back) ≡ Some (kind_text full, back)
kind_parts true back = refl
kind_parts false back = refl

arn_parts : (kind : Option Bool) (key arn : List ℕ) (secret : Option (List ℕ)) → is_person_arn arn ≡ true
    → with_arn key kind (arn ++ secret_text secret) (parted 32 (arn ++ secret_text secret))
    ≡ known_if key kind arn secret
arn_parts kind key arn None is =
    ap (λ (t : List ℕ). with_arn key kind t (parted 32 t)) (append-nil arn)
    ∙ ap (with_arn key kind arn) (parted_nowhere is_token_byte 32 space_is_no_token arn (arn_bytes_all arn is))
arn_parts kind key arn (Some secret) is =
    ap (with_arn key kind (arn ++ 32 ∷ secret))
    (parted_front is_token_byte 32 space_is_no_token arn secret (arn_bytes_all arn is))

all_three : (a b c : Bool) → a ≡ true → b ≡ true → c ≡ true → ((a && b) && c) ≡ true
all_three a b c f g h = ap (λ x. (x && b) && c) f ∙ ap (λ x. x && c) g ∙ h

-- of its parts
module _ (key arn : List ℕ) (full : Bool) (secret : Option (List ℕ)) (key_fits : is_key key ≡ true)
    (arn_fits : is_person_arn arn ≡ true) (secret_fits : fits secret ≡ true) where
  line_of : List ℕ
  line_of = key ++ 32 ∷ (kind_text full ++ 32 ∷ (arn ++ secret_text secret))

  key_stands : parted 32 line_of ≡ Some (key, kind_text full ++ 32 ∷ (arn ++ secret_text secret))
  unfolding line_of
  key_stands =
      parted_front is_key_byte 32 space_is_no_key key (kind_text full ++ 32 ∷ (arn ++ secret_text secret))
      (key_bytes_all key key_fits)

  all_fit : known_if key (Some full) arn secret ≡ Some (known_with key full arn secret)
  all_fit =
      ap (λ b. cond b (Some (known_with key full arn secret)) None)
      (all_three (is_key key) (is_person_arn arn) (fits secret) key_fits arn_fits secret_fits)

  line_reads : known_of line_of ≡ Some (known_with key full arn secret)
  line_reads =
      ap with_key key_stands ∙ ap (with_kind key) (kind_parts full (arn ++ secret_text secret))
      ∙ arn_parts (kind_of (kind_text full)) key arn secret arn_fits
      ∙ ap (λ (k : Option Bool). known_if key k arn secret) (kind_reads full) ∙ all_fit

pub reads_lines : ReadsLines
unfolding line_of
reads_lines one formed =
    line_reads one.person.key one.person.arn one.person.full one.secret formed.key formed.arn formed.secret

-- the parts of a text make it
unpushed : (c byte : ℕ) (text : List ℕ)
    → ((q : List ℕ × List ℕ) → parted byte text ≡ Some q → text ≡ q.0 ++ byte ∷ q.1) → (o : Option (List ℕ × List ℕ))
    → parted byte text ≡ o → (p : List ℕ × List ℕ) → pushed c o ≡ Some p → c ∷ text ≡ p.0 ++ byte ∷ p.1
unpushed c byte text known None is p e = absurd (cc)
unpushed c byte text known (Some q) is p e =
    let f : (c ∷ q.0, q.1) ≡ p = cc in
    ap (λ (t : List ℕ). c ∷ t) (known q is) ∙ ap (λ (r : List ℕ × List ℕ). r.0 ++ byte ∷ r.1) f

joined_step : (c byte : ℕ) (text : List ℕ)
    → ((q : List ℕ × List ℕ) → parted byte text ≡ Some q → text ≡ q.0 ++ byte ∷ q.1) → (b : Bool) → (c == byte) ≡ b
    → (p : List ℕ × List ℕ) → cond b (Some ([], text)) (pushed c (parted byte text)) ≡ Some p
    → c ∷ text ≡ p.0 ++ byte ∷ p.1
joined_step c byte text known true is p e =
    let one : c ≡ byte = grind (arith, nat_tests) in
    let f : ([], text) ≡ p = cc in
    ap (λ x. x ∷ text) one ∙ ap (λ (r : List ℕ × List ℕ). r.0 ++ byte ∷ r.1) f
joined_step c byte text known false is p e = unpushed c byte text known (parted byte text) refl p e

parts_joined : (byte : ℕ) (text : List ℕ) (p : List ℕ × List ℕ) → parted byte text ≡ Some p
    → text ≡ p.0 ++ byte ∷ p.1
parts_joined byte [] p e = absurd (cc)
parts_joined byte (c ∷ text) p e = joined_step c byte text (parts_joined byte text) (c == byte) refl p e

-- the line of what was read
same_texts : (one other : List ℕ) → same_text one other ≡ true → one ≡ other
unfolding same_text
same_texts one other same = texts_same one other (sym same)

guest_by : (text : List ℕ) (guest : Bool) → same_text text (codes "guest") ≡ guest → (full : Bool)
    → cond guest (Some false) None ≡ Some full → text ≡ kind_text full
guest_by text true is full e =
    let f : false ≡ full = cc in same_texts text (codes "guest") is ∙ ap kind_text f
guest_by text false is full e = absurd (cc)

full_by : (text : List ℕ) (is_full : Bool) → same_text text (codes "full") ≡ is_full → (full : Bool)
    → cond is_full (Some true) (cond (same_text text (codes "guest")) (Some false) None) ≡ Some full
    → text ≡ kind_text full
full_by text true is full e = let f : true ≡ full = cc in same_texts text (codes "full") is ∙ ap kind_text f
full_by text false is full e = guest_by text (same_text text (codes "guest")) refl full e

kind_spells : (text : List ℕ) (full : Bool) → kind_of text ≡ Some full → text ≡ kind_text full
unfolding kind_of
kind_spells text full e = full_by text (same_text text (codes "full")) refl full e

-- key, ARN and secret of these texts, and the kind
record Parts (key : List ℕ) (kind : Option Bool) (arn : List ℕ) (secret : Option (List ℕ)) (one : Known) : Type 0
  where
    pub key_is : one.person.key ≡ key
    pub kind_is : kind ≡ Some one.person.full
    pub arn_is : one.person.arn ≡ arn
    pub secret_is : one.secret ≡ secret
    pub formed : IsFormed one

of_forms : (key : List ℕ) (full : Bool) (arn : List ℕ) (secret : Option (List ℕ)) (spelled : Bool) (one : Known)
    → ((is_key key && is_person_arn arn) && fits secret) ≡ spelled
    → cond spelled (Some (known_with key full arn secret)) None ≡ Some one → Parts key (Some full) arn secret one
of_forms key full arn secret true one are is =
    let forms = both (is_key key && is_person_arn arn) (fits secret) are in
    let texts = both (is_key key) (is_person_arn arn) forms.0 in
    let same : known_with key full arn secret ≡ one = cc in
    subst (Parts key (Some full) arn secret) same (record {
      key_is = refl;
      kind_is = refl;
      arn_is = refl;
      secret_is = refl;
      formed = record { key = texts.0; arn = texts.1; secret = forms.1 };
    })
of_forms key full arn secret false one are is = absurd (cc)

of_kind : (key : List ℕ) (kind : Option Bool) (arn : List ℕ) (secret : Option (List ℕ)) (one : Known)
    → known_if key kind arn secret ≡ Some one → Parts key kind arn secret one
of_kind key None arn secret one is = absurd (cc)
of_kind key (Some full) arn secret one is =
    of_forms key full arn secret ((is_key key && is_person_arn arn) && fits secret) one refl is

-- a line is that of its parts
abbrev behind_key : List ℕ → List ℕ → Option (List ℕ) → List ℕ
behind_key kind arn secret = kind ++ 32 ∷ (arn ++ secret_text secret)

line_is : (key kind arn : List ℕ) (secret : Option (List ℕ)) (one : Known) → Parts key (kind_of kind) arn secret one
    → key ++ 32 ∷ behind_key kind arn secret ≡ line_text one
line_is key kind arn secret one parts =
    ap (λ (t : List ℕ). t ++ 32 ∷ behind_key kind arn secret) (sym parts.key_is)
    ∙ ap (λ (t : List ℕ). one.person.key ++ 32 ∷ behind_key t arn secret)
    (kind_spells kind one.person.full parts.kind_is)
    ∙ ap (λ (t : List ℕ). one.person.key ++ 32 ∷ behind_key (kind_text one.person.full) t secret) (sym parts.arn_is)
    ∙ ap (λ (s : Option (List ℕ)). one.person.key ++ 32 ∷ behind_key (kind_text one.person.full) one.person.arn s)
    (sym parts.secret_is)

abbrev IsLineOf : List ℕ → Known → Type 0
IsLineOf line one = (line ≡ line_text one) × IsFormed one

of_arn : (key kind rest : List ℕ) (o : Option (List ℕ × List ℕ)) → parted 32 rest ≡ o → (one : Known)
    → with_arn key (kind_of kind) rest o ≡ Some one → IsLineOf (key ++ 32 ∷ (kind ++ 32 ∷ rest)) one
of_arn key kind rest None is one e =
    let parts = of_kind key (kind_of kind) rest None one e in
    let more : key ++ 32 ∷ (kind ++ 32 ∷ rest) ≡ key ++ 32 ∷ behind_key kind rest None =
    ap (λ (t : List ℕ). key ++ 32 ∷ (kind ++ 32 ∷ t)) (sym (append-nil rest)) in
    (more ∙ line_is key kind rest None one parts, parts.formed)
of_arn key kind rest (Some p) is one e =
    let parts = of_kind key (kind_of kind) p.0 (Some p.1) one e in
    let more : key ++ 32 ∷ (kind ++ 32 ∷ rest) ≡ key ++ 32 ∷ behind_key kind p.0 (Some p.1) =
    ap (λ (t : List ℕ). key ++ 32 ∷ (kind ++ 32 ∷ t)) (parts_joined 32 rest p is) in
    (more ∙ line_is key kind p.0 (Some p.1) one parts, parts.formed)

of_rest : (key rest : List ℕ) (o : Option (List ℕ × List ℕ)) → parted 32 rest ≡ o → (one : Known)
    → with_kind key o ≡ Some one → IsLineOf (key ++ 32 ∷ rest) one
of_rest key rest None is one e = absurd (cc)
of_rest key rest (Some p) is one e =
    subst (λ (t : List ℕ). IsLineOf (key ++ 32 ∷ t) one) (sym (parts_joined 32 rest p is))
    (of_arn key p.0 p.1 (parted 32 p.1) refl one e)

of_line : (line : List ℕ) (o : Option (List ℕ × List ℕ)) → parted 32 line ≡ o → (one : Known)
    → with_key o ≡ Some one → IsLineOf line one
of_line line None is one e = absurd (cc)
of_line line (Some p) is one e =
    subst (λ (t : List ℕ). IsLineOf t one) (sym (parts_joined 32 line p is))
    (of_rest p.0 p.1 (parted 32 p.1) refl one e)

pub reads_no_other : ReadsNoOther
reads_no_other line one is = of_line line (parted 32 line) refl one is
