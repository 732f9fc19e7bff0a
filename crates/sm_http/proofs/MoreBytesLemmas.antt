-- More bytes behind a message, or behind a fault, change neither.
use Rattle.std.proofs.Common.{◌≡◌, ℕ, zero, suc, ◌+◌, ◌-◌, ◌<◌, ◌≤◌, Bool, true, false, ◌&&◌, cond, List, [], ◌∷◌, ◌++◌, length, drop, take, Option, Some, None, option_map, nat_eq, refl, ap, sym, ◌∙◌, subst, arith, inl, inr, append_assoc, length-append}
use Rattle.std.proofs.lemmas.Bool.{cases_lt}
use Rattle.std.proofs.lemmas.List.{take_all, length-take, take-append-le}
use Rattle.std.proofs.Math.Seq.{take-append-add}
use Rattle.std.specs.List.{starts_with}
use Rattle.httparse.specs.Grammar.{RequestHead}
use Rattle.sm_base.specs.declared.bad_kind.BadKind.{BadKind}
use Rattle.sm_base.specs.declared.bad_kind.BadKind.TheVariants.{HeadTooLong, Head, Chunked, Length, BodyTooLong}
use Rattle.sm_http.specs.Heads.{blank_line, Passed, line_ends, head_limit, head_length, IsHead}
use Rattle.sm_http.specs.Messages.{Message, Begins, IsMessage, StartsBadly}

-- three bytes begin no empty line

and_false : (b : Bool) → (b && false) ≡ false
and_false true = refl
and_false false = refl

none_in_one : (a : ℕ) → blank_line (a ∷ []) ≡ None
none_in_one a =
    let no : starts_with nat_eq (a ∷ []) line_ends ≡ false = and_false (nat_eq 13 a) in rw no refl

none_in_two : (a b : ℕ) → blank_line (a ∷ b ∷ []) ≡ None
none_in_two a b =
    let no : starts_with nat_eq (a ∷ b ∷ []) line_ends ≡ false
    = ap (λ x. nat_eq 13 a && x) (and_false (nat_eq 10 b)) ∙ and_false (nat_eq 13 a) in
    rw no (ap (option_map (λ n. n + 1)) (none_in_one b))

none_in_three : (a b c : ℕ) → blank_line (a ∷ b ∷ c ∷ []) ≡ None
none_in_three a b c =
    let no : starts_with nat_eq (a ∷ b ∷ c ∷ []) line_ends ≡ false
    = ap (λ x. nat_eq 13 a && (nat_eq 10 b && x)) (and_false (nat_eq 13 c))
    ∙ ap (λ x. nat_eq 13 a && x) (and_false (nat_eq 10 b)) ∙ and_false (nat_eq 13 a) in
    rw no (ap (option_map (λ n. n + 1)) (none_in_two b c))

-- what is found here, or behind the first byte

found_same : (here : Bool) (o p : Option ℕ) (n : ℕ) → ((m : ℕ) → o ≡ Some m → p ≡ Some m)
    → cond here (Some 4) (option_map (λ k. k + 1) o) ≡ Some n → cond here (Some 4) (option_map (λ k. k + 1) p) ≡ Some n
found_same true o p n further e = e
found_same false None p n further e = cc
found_same false (Some m) p n further e = ap (option_map (λ k. k + 1)) (further m refl) ∙ e

found_within : (here : Bool) (o : Option ℕ) (n l : ℕ) → 3 ≤ l → ((m : ℕ) → o ≡ Some m → m ≤ l)
    → cond here (Some 4) (option_map (λ k. k + 1) o) ≡ Some n → n ≤ l + 1
found_within true o n l h further e = let same : 4 ≡ n = cc in omega (arith, same)
found_within false None n l h further e = let no : ⊥ = cc in absurd no
found_within false (Some m) n l h further e =
    let same : m + 1 ≡ n = cc in let below : m ≤ l = further m refl in omega (arith, same, below)

found_some : (here : Bool) (o : Option ℕ) (n : ℕ) → cond here (Some 4) (option_map (λ k. k + 1) o) ≡ Some n → 0 < n
found_some true o n e = let same : 4 ≡ n = cc in omega (arith, same)
found_some false None n e = let no : ⊥ = cc in absurd no
found_some false (Some m) n e = let same : m + 1 ≡ n = cc in omega (arith, same)

found_not : (here : Bool) (o p : Option ℕ) → cond here (Some 4) (option_map (λ k. k + 1) o) ≡ None
    → (cond here (Some 4) (option_map (λ k. k + 1) p) ≡ option_map (λ k. k + 1) p) × (o ≡ None)
found_not true o p e = let no : ⊥ = cc in absurd no
found_not false None p e = (refl, refl)
found_not false (Some m) p e = let no : ⊥ = cc in absurd no

-- an empty line that is there stays where it is, and lies in the bytes

pub blank_line-append : (xs ys : List ℕ) (n : ℕ) → blank_line xs ≡ Some n → blank_line (xs ++ ys) ≡ Some n
blank_line-append [] ys n e = cc
blank_line-append (a ∷ []) ys n e = let no : None ≡ Some n = sym (none_in_one a) ∙ e in cc
blank_line-append (a ∷ (b ∷ [])) ys n e = let no : None ≡ Some n = sym (none_in_two a b) ∙ e in cc
blank_line-append (a ∷ (b ∷ (c ∷ []))) ys n e = let no : None ≡ Some n = sym (none_in_three a b c) ∙ e in cc
blank_line-append (a ∷ (b ∷ (c ∷ (d ∷ xs)))) ys n e =
    found_same (starts_with nat_eq (a ∷ b ∷ c ∷ d ∷ xs) line_ends) (blank_line (b ∷ c ∷ d ∷ xs))
    (blank_line (b ∷ c ∷ d ∷ (xs ++ ys))) n (blank_line-append (b ∷ (c ∷ (d ∷ xs))) ys) e

pub blank_line_within : (xs : List ℕ) (n : ℕ) → blank_line xs ≡ Some n → n ≤ length xs
blank_line_within [] n e = let no : ⊥ = cc in absurd no
blank_line_within (a ∷ []) n e = let same : None ≡ Some n = sym (none_in_one a) ∙ e in let no : ⊥ = cc in absurd no
blank_line_within (a ∷ (b ∷ [])) n e =
    let same : None ≡ Some n = sym (none_in_two a b) ∙ e in let no : ⊥ = cc in absurd no
blank_line_within (a ∷ (b ∷ (c ∷ []))) n e =
    let same : None ≡ Some n = sym (none_in_three a b c) ∙ e in let no : ⊥ = cc in absurd no
blank_line_within (a ∷ (b ∷ (c ∷ (d ∷ xs)))) n e =
    let within = found_within (starts_with nat_eq (a ∷ b ∷ c ∷ d ∷ xs) line_ends) (blank_line (b ∷ c ∷ d ∷ xs)) n
    (length (b ∷ c ∷ d ∷ xs)) (omega arith) (blank_line_within (b ∷ (c ∷ (d ∷ xs)))) e in
    omega (arith, within)

blank_line_some : (xs : List ℕ) (n : ℕ) → blank_line xs ≡ Some n → 0 < n
blank_line_some [] n e = let no : ⊥ = cc in absurd no
blank_line_some (a ∷ xs) n e = found_some (starts_with nat_eq (a ∷ xs) line_ends) (blank_line xs) n e

-- where none is there, it begins at none of the first places, whatever follows

pub unmoved : (o : Option ℕ) → o ≡ option_map (λ n. n + 0) o
unmoved None = refl
unmoved (Some n) = ap Some (omega arith)

moved : (o : Option ℕ) (k : ℕ) → option_map (λ n. n + 1) (option_map (λ n. n + k) o) ≡ option_map (λ n. n + suc k) o
moved None k = refl
moved (Some n) k = ap Some (omega arith)

pub none_before : (k : ℕ) (xs ys : List ℕ) → blank_line xs ≡ None → k + 3 ≤ length xs
    → blank_line (xs ++ ys) ≡ option_map (λ n. n + k) (blank_line (drop k (xs ++ ys)))
none_before zero xs ys e h = unmoved (blank_line (xs ++ ys))
none_before (suc k) [] ys e h = absurd (omega (arith, h))
none_before (suc k) (a ∷ []) ys e h = absurd (omega (arith, h))
none_before (suc k) (a ∷ (b ∷ [])) ys e h = absurd (omega (arith, h))
none_before (suc k) (a ∷ (b ∷ (c ∷ []))) ys e h = absurd (omega (arith, h))
none_before (suc k) (a ∷ (b ∷ (c ∷ (d ∷ xs)))) ys e h =
    let not = found_not (starts_with nat_eq (a ∷ b ∷ c ∷ d ∷ xs) line_ends) (blank_line (b ∷ c ∷ d ∷ xs))
    (blank_line (b ∷ c ∷ d ∷ (xs ++ ys))) e in
    not.0 ∙ ap (option_map (λ n. n + 1)) (none_before k (b ∷ (c ∷ (d ∷ xs))) ys not.1 (omega (arith, h)))
    ∙ moved (blank_line (drop k (b ∷ c ∷ d ∷ (xs ++ ys)))) k

-- the end of a head stays, and that there is none within the limit

-- the front up to the limit
short_front : (xs ys : List ℕ) → length xs ≤ head_limit
    → take head_limit (xs ++ ys) ≡ xs ++ take (head_limit - length xs) ys
short_front xs ys h =
    let split : head_limit ≡ length xs + (head_limit - length xs) = omega (arith, h) in
    ap (λ n. take n (xs ++ ys)) split ∙ take-append-add xs ys (head_limit - length xs)

pub head_length_is : (xs : List ℕ) → length xs ≤ head_limit → head_length xs ≡ blank_line xs
head_length_is xs h = ap blank_line (take_all head_limit xs h)

pub head_length_long : (xs ys : List ℕ) → head_limit ≤ length xs → head_length (xs ++ ys) ≡ head_length xs
head_length_long xs ys h = ap blank_line (take-append-le head_limit xs ys h)

pub head_length-append : (xs ys : List ℕ) (n : ℕ) → head_length xs ≡ Some n → head_length (xs ++ ys) ≡ Some n
head_length-append xs ys n e =
    elim (cases_lt (length xs) head_limit) [
      | inl short ↦
          ap blank_line (short_front xs ys (omega (arith, short)))
          ∙ blank_line-append xs (take (head_limit - length xs) ys) n
          (sym (head_length_is xs (omega (arith, short))) ∙ e)
      | inr long ↦ head_length_long xs ys long ∙ e
    ]

pub head_length_within : (xs : List ℕ) (n : ℕ) → head_length xs ≡ Some n → n ≤ length xs
head_length_within xs n e = omega (arith, blank_line_within (take head_limit xs) n e, length-take head_limit xs)

-- the first places that were passed stay passed with more bytes
pub searched_more : (xs ys : List ℕ) (k : ℕ) → head_length xs ≡ None → length xs ≤ head_limit → k + 3 ≤ length xs
    → head_length (xs ++ ys) ≡ option_map (λ n. n + k) (blank_line (drop k (take head_limit (xs ++ ys))))
searched_more xs ys k e h room =
    let front = short_front xs ys h in
    rw front (none_before k xs (take (head_limit - length xs) ys) (sym (head_length_is xs h) ∙ e) room)

-- and so all but the last three, which may begin it
pub passed_more : (xs ys : List ℕ) (k : ℕ) → head_length xs ≡ None → length xs ≤ head_limit → k ≡ length xs - 3
    → Passed k (take head_limit (xs ++ ys))
passed_more xs ys k e h is =
    elim (cases_lt (length xs) 3) [
      | inl short ↦
          let none : k ≡ 0 = omega (arith, short, is) in rw none (unmoved (head_length (xs ++ ys)))
      | inr long ↦ searched_more xs ys k e h (omega (arith, long, is))
    ]

-- a head has bytes
pub begun_text : (bytes text : List ℕ) (head : RequestHead) → Begins bytes text head → 0 < length text
begun_text bytes text head is = blank_line_some (take head_limit bytes) (length text) is.ends

pub begun : (bytes text : List ℕ) (head : RequestHead) → Begins bytes text head → 0 < length bytes
begun bytes text head is =
    omega (arith, begun_text bytes text head is, head_length_within bytes (length text) is.ends)

-- a message and a fault stay

pub begins-append : (bytes more text : List ℕ) (head : RequestHead) → Begins bytes text head
    → Begins (bytes ++ more) text head
begins-append bytes more text head b = record {
  ends = head_length-append bytes more (length text) b.ends;
  front = take-append-le (length text) bytes more (head_length_within bytes (length text) b.ends) ∙ b.front;
  reads = b.reads;
}

pub message-append : (bytes more : List ℕ) (m : Message) (rest : List ℕ) → IsMessage bytes m rest
    → IsMessage (bytes ++ more) m (rest ++ more)
message-append bytes more m rest is = record {
  text = is.text;
  head = is.head;
  begins = begins-append bytes more is.text is.head is.begins;
  whole = is.whole;
  sized = is.sized;
  fits = is.fits;
  parts = ap (λ xs. xs ++ more) is.parts ∙ append_assoc (is.text ++ m.body) rest more;
  is = is.is;
}

pub bad-append : (bytes more : List ℕ) (kind : BadKind) → StartsBadly bytes kind → StartsBadly (bytes ++ more) kind
bad-append bytes more HeadTooLong bad = (
  head_length_long bytes more bad.1 ∙ bad.0,
  omega (arith, bad.1, length-append bytes more),
)
bad-append bytes more Head (n, ends, none) = (
  n,
  head_length-append bytes more n ends,
  λ head is. none head
      (subst (λ text. IsHead text head) (take-append-le n bytes more (head_length_within bytes n ends)) is),
)
bad-append bytes more Chunked (text, head, begins, fault) =
    (text, head, begins-append bytes more text head begins, fault)
bad-append bytes more Length (text, head, begins, fault) =
    (text, head, begins-append bytes more text head begins, fault)
bad-append bytes more BodyTooLong (text, head, begins, fault) =
    (text, head, begins-append bytes more text head begins, fault)
