-- SecretIds: names and ARNs together.
use Rattle.std.proofs.Common.{◌≡◌, ℕ, zero, suc, ◌+◌, ◌<◌, true, false, ◌&&◌, List, [], ◌∷◌, ◌++◌, length, take, drop, codes, nat_eq, nat_le, refl, sym, ap, ◌∙◌, inl, inr, arith}
use Rattle.std.proofs.lemmas.Bool.{cases_Bool, and_parts, and_from, false≢true, eqb-true, eq-eqb}
use Rattle.std.proofs.lemmas.List.{take-append-drop, append-nil}
use Rattle.std.specs.List.{list_all, starts_with}
use Rattle.sm_base.specs.Spelling.{is_name_byte, is_name, is_arn, is_arn_like, is_secret_id}
use Rattle.sm_base.specs.FirstFault.{IsFirstFault, CanBecomeSpelled}
use Rattle.sm_base.specs.Reading.{IsRefusal}
use Rattle.sm_base.specs.Drawn.{drawn_arn}
use Rattle.sm_base.specs.declared.spelling.ReadRefused.{ReadRefused}
use Rattle.sm_base.specs.declared.spelling.ReadRefused.TheVariants.{Spelling, Memory}
use Rattle.sm_base.proofs.DrawnLemmas.{drawn_arn_is_arn}

-- the first byte of a text that begins with bytes
starts_head : (x : ℕ) (xs text : List ℕ) → starts_with nat_eq text (x ∷ xs) ≡ true
    → (rest : List ℕ) × (text ≡ x ∷ rest) × (starts_with nat_eq rest xs ≡ true)
starts_head x xs [] starts = absurd (false≢true starts)
starts_head x xs (b ∷ text) starts =
    let both = and_parts (nat_eq x b) (starts_with nat_eq text xs) starts in
    (text, ap (λ c. c ∷ text) (sym (eqb-true x b both.0)), both.1)

starts_front : (xs ys text : List ℕ) → starts_with nat_eq text (xs ++ ys) ≡ true → starts_with nat_eq text xs ≡ true
starts_front [] ys text starts = refl
starts_front (x ∷ xs) ys text starts =
    let head = starts_head x (xs ++ ys) text starts in
    rw head.1 (and_from (nat_eq x x) (starts_with nat_eq head.0 xs) (eq-eqb x x refl)
    (starts_front xs ys head.0 head.2))

-- a text that begins with arn:
begins_so : (text : List ℕ) → is_arn_like text ≡ true → (rest : List ℕ) × (text ≡ 97 ∷ 114 ∷ 110 ∷ 58 ∷ rest)
begins_so text is =
    let a = starts_head 97 (114 ∷ 110 ∷ 58 ∷ []) text is in
    let r = starts_head 114 (110 ∷ 58 ∷ []) a.0 a.2 in
    let n = starts_head 110 (58 ∷ []) r.0 r.2 in
    let colon = starts_head 58 [] n.0 n.2 in
    (colon.0, a.1 ∙ ap (λ t. 97 ∷ t) r.1 ∙ ap (λ t. 97 ∷ 114 ∷ t) n.1 ∙ ap (λ t. 97 ∷ 114 ∷ 110 ∷ t) colon.1)

-- an ARN begins so, and no name does
arn_begins : (text : List ℕ) → is_arn text ≡ true → is_arn_like text ≡ true
unfolding is_arn
arn_begins text is =
    starts_front (codes "arn:") (codes "aws:secretsmanager:") text
    (and_parts (starts_with nat_eq text (codes "arn:aws:secretsmanager:")) _ is).0

name_begins_other : (text : List ℕ) → is_name text ≡ true → is_arn_like text ≡ false
unfolding is_name is_name_byte
name_begins_other text is = elim (cases_Bool (is_arn_like text)) [
  | inl like ↦
      let begins = begins_so text like in
      let all : list_all is_name_byte text ≡ true =
      (and_parts (nat_le 1 (length text) && nat_le (length text) 512) _ is).1 in
      let colon : list_all is_name_byte (97 ∷ 114 ∷ 110 ∷ 58 ∷ begins.0) ≡ true =
      ap (list_all is_name_byte) (sym begins.1) ∙ all in
      absurd (false≢true colon)
  | inr other ↦ other
]

pub arn_is_secret_id : (text : List ℕ) → is_arn text ≡ true → is_secret_id text ≡ true
unfolding is_secret_id
arn_is_secret_id text is = rw (arn_begins text is) is

pub name_is_secret_id : (text : List ℕ) → is_name text ≡ true → is_secret_id text ≡ true
unfolding is_secret_id
name_is_secret_id text is = rw (name_begins_other text is) is

secret_id_is_arn : (text : List ℕ) → is_arn_like text ≡ true → is_secret_id text ≡ is_arn text
unfolding is_secret_id
secret_id_is_arn text like = rw like refl

secret_id_is_name : (text : List ℕ) → is_arn_like text ≡ false → is_secret_id text ≡ is_name text
unfolding is_secret_id
secret_id_is_name text other = rw other refl

-- each front of arn: is a front of some ARN
front_of_arn : (n : ℕ) → CanBecomeSpelled is_arn (take n (drawn_arn (97 ∷ []) (0 ∷ 0 ∷ 0 ∷ 0 ∷ 0 ∷ 0 ∷ [])))
unfolding is_name is_name_byte
front_of_arn n =
    let some_arn : List ℕ = drawn_arn (97 ∷ []) (0 ∷ 0 ∷ 0 ∷ 0 ∷ 0 ∷ 0 ∷ []) in (
      drop n some_arn,
      ap is_arn (take-append-drop n some_arn)
          ∙ drawn_arn_is_arn (97 ∷ []) (0 ∷ 0 ∷ 0 ∷ 0 ∷ 0 ∷ 0 ∷ []) refl refl,
    )

-- past arn: a text is an ARN's or none
arn_beyond : (rest : List ℕ) (place : ℕ) → ¬ CanBecomeSpelled is_arn (take (place + 1) (97 ∷ 114 ∷ 110 ∷ 58 ∷ rest))
    → ¬ CanBecomeSpelled is_secret_id (take (place + 1) (97 ∷ 114 ∷ 110 ∷ 58 ∷ rest))
unfolding drawn_arn
arn_beyond rest zero refused = λ w. refused (front_of_arn 1)
arn_beyond rest (suc zero) refused = λ w. refused (front_of_arn 2)
arn_beyond rest (suc (suc zero)) refused = λ w. refused (front_of_arn 3)
arn_beyond rest (suc (suc (suc n))) refused = λ w.
    let four : suc (suc (suc n)) + 1 ≡ suc (suc (suc (suc n))) = omega arith in
    let is : is_secret_id (97 ∷ 114 ∷ 110 ∷ 58 ∷ (take n rest ++ w.0)) ≡ true = rw four at w.1 in
    refused (w.0, rw four (sym (secret_id_is_arn (97 ∷ 114 ∷ 110 ∷ 58 ∷ (take n rest ++ w.0)) refl) ∙ is))

arn_id_fault : (text : List ℕ) (place : ℕ) → is_arn_like text ≡ true → IsFirstFault is_arn text place
    → IsFirstFault is_secret_id text place
arn_id_fault text place like fault =
    let begins = begins_so text like in
    record {
      unspelled = λ is. fault.unspelled (sym (secret_id_is_arn text like) ∙ is);
      within = fault.within;
      before = (fault.before.0, arn_is_secret_id (take place text ++ fault.before.0) fault.before.1);
      from_there = λ under w.
          arn_beyond begins.0 place
          (λ v. fault.from_there under (v.0, ap (λ t. is_arn (take (place + 1) t ++ v.0)) begins.1 ∙ v.1))
          (w.0, ap (λ t. is_secret_id (take (place + 1) t ++ w.0)) (sym begins.1) ∙ w.1);
    }

pub arn_id_refusal : (text : List ℕ) (why : ReadRefused) → is_arn_like text ≡ true → IsRefusal is_arn text why
    → IsRefusal is_secret_id text why
arn_id_refusal text (Spelling place) like fault = arn_id_fault text place like fault
arn_id_refusal text Memory like spelled = secret_id_is_arn text like ∙ spelled

-- a front that begins with arn:, of a text that does not, is a name
front_is_name : (text more rest : List ℕ) (place : ℕ) → is_arn_like text ≡ false → place < length text
    → take (place + 1) text ++ more ≡ 97 ∷ 114 ∷ 110 ∷ 58 ∷ rest → is_name (take (place + 1) text) ≡ true
unfolding is_name is_name_byte
front_is_name [] more rest place other under begins = absurd (omega arith)
front_is_name (a ∷ text) more rest zero other under begins =
    let is_a : a ≡ 97 = cc in rw is_a refl
front_is_name (a ∷ []) more rest (suc place) other under begins = absurd (omega arith)
front_is_name (a ∷ b ∷ text) more rest (suc zero) other under begins =
    let is_a : a ≡ 97 = cc in
    let is_r : b ≡ 114 = cc in
    rw (is_a, is_r) refl
front_is_name (a ∷ b ∷ []) more rest (suc (suc place)) other under begins = absurd (omega arith)
front_is_name (a ∷ b ∷ c ∷ text) more rest (suc (suc zero)) other under begins =
    let is_a : a ≡ 97 = cc in
    let is_r : b ≡ 114 = cc in
    let is_n : c ≡ 110 = cc in
    rw (is_a, is_r, is_n) refl
front_is_name (a ∷ b ∷ c ∷ []) more rest (suc (suc (suc place))) other under begins = absurd (omega arith)
front_is_name (a ∷ b ∷ c ∷ d ∷ text) more rest (suc (suc (suc place))) other under begins =
    let four : suc (suc (suc place)) + 1 ≡ suc (suc (suc (suc place))) = omega arith in
    let whole : a ∷ b ∷ c ∷ d ∷ (take place text ++ more) ≡ 97 ∷ 114 ∷ 110 ∷ 58 ∷ rest = rw four at begins in
    let is_a : a ≡ 97 = cc in
    let is_r : b ≡ 114 = cc in
    let is_n : c ≡ 110 = cc in
    let is_colon : d ≡ 58 = cc in
    absurd (false≢true (sym other ∙ rw (is_a, is_r, is_n, is_colon) refl))

name_beyond : (text : List ℕ) (place : ℕ) → is_arn_like text ≡ false → place < length text
    → ¬ CanBecomeSpelled is_name (take (place + 1) text) → ¬ CanBecomeSpelled is_secret_id (take (place + 1) text)
name_beyond text place other under refused = λ w.
    let front : List ℕ = take (place + 1) text in
    elim (cases_Bool (is_arn_like (front ++ w.0))) [
      | inl like ↦
          let begins = begins_so (front ++ w.0) like in
          refused ([], ap is_name (append-nil front) ∙ front_is_name text w.0 begins.0 place other under begins.1)
      | inr unlike ↦ refused (w.0, sym (secret_id_is_name (front ++ w.0) unlike) ∙ w.1)
    ]

name_id_fault : (text : List ℕ) (place : ℕ) → is_arn_like text ≡ false → IsFirstFault is_name text place
    → IsFirstFault is_secret_id text place
name_id_fault text place other fault = record {
  unspelled = λ is. fault.unspelled (sym (secret_id_is_name text other) ∙ is);
  within = fault.within;
  before = (fault.before.0, name_is_secret_id (take place text ++ fault.before.0) fault.before.1);
  from_there = λ under. name_beyond text place other under (fault.from_there under);
}

pub name_id_refusal : (text : List ℕ) (why : ReadRefused) → is_arn_like text ≡ false → IsRefusal is_name text why
    → IsRefusal is_secret_id text why
name_id_refusal text (Spelling place) other fault = name_id_fault text place other fault
name_id_refusal text Memory other spelled = secret_id_is_name text other ∙ spelled
