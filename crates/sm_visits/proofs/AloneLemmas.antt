-- A message is one also without the bytes behind it.
use Rattle.std.proofs.Common.{◌≡◌, ℕ, ◌+◌, ◌-◌, ◌<◌, ◌≤◌, Bool, true, false, cond, List, [], ◌∷◌, ◌++◌, length, drop, take, Option, Some, None, option_map, nat_eq, refl, ap, sym, ◌∙◌, subst, arith, inl, inr, append-nil, length-append}
use Rattle.std.proofs.lemmas.Bool.{cases_lt}
use Rattle.std.proofs.lemmas.List.{take_at}
use Rattle.std.proofs.Math.Seq.{take-append-add}
use Rattle.std.specs.List.{starts_with}
use Rattle.sm_http.specs.Heads.{blank_line, line_ends, head_limit, head_length}
use Rattle.sm_http.specs.Messages.{Message, IsMessage}
use Rattle.sm_http.proofs.MessageLemmas.{message_rest}
use Rattle.sm_http.proofs.MoreBytesLemmas.{begun_text, head_length_is, head_length_long}

-- an empty line takes four bytes

four_found : (here : Bool) (o : Option ℕ) (n : ℕ) → ((m : ℕ) → o ≡ Some m → 4 ≤ m)
    → cond here (Some 4) (option_map (λ k. k + 1) o) ≡ Some n → 4 ≤ n
four_found true o n further e = let same : 4 ≡ n = cc in omega (arith, same)
four_found false None n further e = let no : ⊥ = cc in absurd no
four_found false (Some m) n further e =
    let same : m + 1 ≡ n = cc in let four : 4 ≤ m = further m refl in omega (arith, same, four)

four_bytes : (xs : List ℕ) (n : ℕ) → blank_line xs ≡ Some n → 4 ≤ n
four_bytes [] n e = let no : ⊥ = cc in absurd no
four_bytes (a ∷ xs) n e = four_found (starts_with nat_eq (a ∷ xs) line_ends) (blank_line xs) n (four_bytes xs) e

-- an empty line that ends in the front is there without the bytes behind the front

cut_found : (here : Bool) (o p : Option ℕ) (n l : ℕ) → ((m : ℕ) → o ≡ Some m → m ≤ l → p ≡ Some m)
    → cond here (Some 4) (option_map (λ k. k + 1) o) ≡ Some n → n ≤ l + 1
    → cond here (Some 4) (option_map (λ k. k + 1) p) ≡ Some n
cut_found true o p n l further e h = e
cut_found false None p n l further e h = let no : ⊥ = cc in absurd no
cut_found false (Some m) p n l further e h =
    let same : m + 1 ≡ n = cc in
    let there : p ≡ Some m = further m refl (omega (arith, same, h)) in
    ap (option_map (λ k. k + 1)) there ∙ e

line_cut : (xs ys : List ℕ) (n : ℕ) → blank_line (xs ++ ys) ≡ Some n → n ≤ length xs → blank_line xs ≡ Some n
line_cut [] ys n e h = absurd (omega (arith, four_bytes ys n e, h))
line_cut (a ∷ []) ys n e h = absurd (omega (arith, four_bytes (a ∷ ys) n e, h))
line_cut (a ∷ (b ∷ [])) ys n e h = absurd (omega (arith, four_bytes (a ∷ b ∷ ys) n e, h))
line_cut (a ∷ (b ∷ (c ∷ []))) ys n e h = absurd (omega (arith, four_bytes (a ∷ b ∷ c ∷ ys) n e, h))
line_cut (a ∷ (b ∷ (c ∷ (d ∷ xs)))) ys n e h =
    cut_found (starts_with nat_eq (a ∷ b ∷ c ∷ d ∷ xs) line_ends) (blank_line (b ∷ c ∷ d ∷ (xs ++ ys)))
    (blank_line (b ∷ c ∷ d ∷ xs)) n (length (b ∷ c ∷ d ∷ xs))
    (λ m there within. line_cut (b ∷ (c ∷ (d ∷ xs))) ys m there within) e (omega (arith, h))

head_cut : (xs ys : List ℕ) (n : ℕ) → head_length (xs ++ ys) ≡ Some n → n ≤ length xs → head_length xs ≡ Some n
head_cut xs ys n e h =
    elim (cases_lt (length xs) head_limit) [
      | inl short ↦
          let split : head_limit ≡ length xs + (head_limit - length xs) = omega (arith, short) in
          let front : take head_limit (xs ++ ys) ≡ xs ++ take (head_limit - length xs) ys
          = ap (λ k. take k (xs ++ ys)) split ∙ take-append-add xs ys (head_limit - length xs) in
          head_length_is xs (omega (arith, short))
          ∙ line_cut xs (take (head_limit - length xs) ys) n (sym (ap blank_line front) ∙ e) h
      | inr long ↦ sym (head_length_long xs ys long) ∙ e
    ]

module _ (bytes : List ℕ) (m : Message) (rest : List ℕ) (is : IsMessage bytes m rest) where
  abbrev part : List ℕ
  part = is.text ++ m.body

  part_len : length part ≡ length is.text + length m.body
  part_len = length-append is.text m.body

  alone : IsMessage part m []
  alone = record {
    text = is.text;
    head = is.head;
    begins = record {
      ends = head_cut part rest (length is.text)
          (subst (λ xs. head_length xs ≡ Some (length is.text)) is.parts is.begins.ends) (omega (arith, part_len));
      front = take_at is.text m.body (length is.text) refl;
      reads = is.begins.reads;
    };
    whole = is.whole;
    sized = is.sized;
    fits = is.fits;
    parts = sym (append-nil part);
    is = is.is;
  }

  -- how long the message is
  pub message_len : length bytes - length rest ≡ length is.text + length m.body
  message_len = omega (arith, (message_rest bytes m rest is).2)

  -- the bytes of the message are it and nothing else
  pub message_alone : IsMessage (take (length bytes - length rest) bytes) m []
  message_alone =
      let front : take (length bytes - length rest) bytes ≡ part
      = ap (take (length bytes - length rest)) is.parts
      ∙ take_at part rest (length bytes - length rest) (omega (arith, part_len, message_len)) in
      subst (λ xs. IsMessage xs m []) (sym front) alone

  -- and the rest stands behind them
  pub message_behind : drop (length bytes - length rest) bytes ≡ rest
  message_behind = ap (λ n. drop n bytes) message_len ∙ sym (message_rest bytes m rest is).1

  -- a message has bytes
  pub message_some : 0 < length bytes - length rest
  message_some = omega (arith, message_len, begun_text bytes is.text is.head is.begins)
