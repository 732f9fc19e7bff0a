-- What writes and cuts make of a file's end, whole or cut short.
use Rattle.std.proofs.Common.{◌≡◌, ℕ, ◌+◌, ◌≤◌, min, List, [], ◌∷◌, ◌++◌, length, get_or, take, drop, sym, ◌∙◌, ap, subst, ⊎_elim, arith, append_assoc, length-append, length-take, length-drop, take-append-drop}
use Rattle.std.proofs.lemmas.List.{take_at, drop_at, take_all, drop_all, take-take, drop_more, append-nil}
use Rattle.sm_disk.specs.Steps.{Holds, Torn, IsCut, CutOrNot}
use Rattle.std.specs.Int.{w32, to_be_bytes}
use Rattle.sm_journal.specs.Records.{record_of, Closed, AtRest, Loose, Gated, Short}

length_at : (before behind : List ℕ) (gate : ℕ) → length (before ++ gate ∷ behind) ≡ length before + (1 + length behind)
length_at before behind gate = omega (arith, length-append before (gate ∷ behind))

front_of : (before behind : List ℕ) (gate : ℕ) → take (length before + 1) (before ++ gate ∷ behind) ≡ before ++ gate
    ∷ []
front_of before behind gate =
    ap (λ (l : List ℕ). take (length before + 1) l) (sym (append_assoc before (gate ∷ []) behind))
    ∙ take_at (before ++ gate ∷ []) behind (length before + 1) (length-append before (gate ∷ []))

behind_of : (before behind : List ℕ) (gate : ℕ) → drop (length before + 1) (before ++ gate ∷ behind) ≡ behind
behind_of before behind gate =
    ap (λ (l : List ℕ). drop (length before + 1) l) (sym (append_assoc before (gate ∷ []) behind))
    ∙ drop_at (before ++ gate ∷ []) behind (length before + 1) (length-append before (gate ∷ []))

-- how long a file is after a write at its end
pub held_length : (at : ℕ) (piece d c : List ℕ) → length d ≡ at → Holds at piece d c → length c ≡ at + length piece
held_length at piece d c is holds =
    omega (
      arith,
      ap length holds,
      length-append (take at d ++ piece) (drop (at + length piece) d),
      length-append
          (take at d) piece,
      length-take at d,
      length-drop (at + length piece) d,
    )

-- and after a write of one byte inside it
pub held_byte : (at byte : ℕ) (d c : List ℕ) → at + 1 ≤ length d → Holds at (byte ∷ []) d c → length c ≡ length d
held_byte at byte d c inside holds =
    omega (
      arith,
      inside,
      ap length holds,
      length-append (take at d ++ byte ∷ []) (drop (at + 1) d),
      length-append
          (take at d) (byte ∷ []),
      length-take at d,
      length-drop (at + 1) d,
    )

module _ (before : List ℕ) where
  pub length-closed : (behind bytes : List ℕ) (closed : Closed before behind bytes)
      → length bytes ≡ length before + (1 + length behind)
  length-closed behind bytes closed = ap length closed.split ∙ length_at before behind closed.gate

  pub length-gated : (behind bytes : List ℕ) (gated : Gated before behind bytes)
      → length bytes ≡ length before + (1 + length behind)
  length-gated behind bytes gated = ap length gated.split ∙ length_at before behind gated.gate

  -- a write behind a closed gate leaves it closed
  pub torn_behind : (at n : ℕ) (d c : List ℕ) → length before + 1 ≤ at → Loose before d → Torn at n d c → Loose before c
  torn_behind at n d c past loose torn =
      let k = length before + 1 in
      let long : k ≤ length d = omega (arith, length-closed loose.rest d loose.is) in
      let kept : take k c ≡ take k d = sym (take-take k (min at (length d)) c (omega arith))
      ∙ ap (λ (l : List ℕ). take k l) torn.before ∙ take-take k at d past in
      let begins : take k c ≡ before ++ loose.is.gate ∷ [] = kept ∙ ap (λ (l : List ℕ). take k l) loose.is.split
      ∙ front_of before loose.rest loose.is.gate in
      record {
        rest = drop k c;
        is = record {
          gate = loose.is.gate;
          closed = loose.is.closed;
          split = sym (take-append-drop k c) ∙ ap (λ (l : List ℕ). l ++ drop k c) begins
              ∙ append_assoc before (loose.is.gate ∷ []) (drop k c);
        };
      }

  -- a write of the gate leaves any gate
  pub torn_gate : (at : ℕ) (behind d c : List ℕ) → at ≡ length before → Gated before behind d → Torn at 1 d c
      → Gated before behind c
  torn_gate at behind d c is gated torn =
      let long : length d ≡ length before + (1 + length behind) = length-gated behind d gated in
      let same : min at (length d) ≡ at = omega arith in
      let first : take at c ≡ before = sym (ap (λ (k : ℕ). take k c) same) ∙ torn.before
      ∙ ap (λ (l : List ℕ). take at l) gated.split ∙ take_at before (gated.gate ∷ behind) at (sym is) in
      let next : at + 1 ≡ length before + 1 = omega arith in
      let rest : drop (at + 1) c ≡ behind = torn.after ∙ ap (λ (l : List ℕ). drop (at + 1) l) gated.split
      ∙ ap (λ (k : ℕ). drop k (before ++ gated.gate ∷ behind)) next ∙ behind_of before behind gated.gate in
      let last : drop at c ≡ get_or c at 0 ∷ behind = drop_more c at 0 (omega (arith, torn.no_shorter))
      ∙ ap (λ (l : List ℕ). get_or c at 0 ∷ l) rest in
      record {
        gate = get_or c at 0;
        split = sym (take-append-drop at c) ∙ ap (λ (l : List ℕ). l ++ drop at c) first
            ∙ ap (λ (l : List ℕ). before ++ l) last;
      }

  pub holds_gate : (at byte : ℕ) (behind d c : List ℕ) → at ≡ length before → Gated before behind d
      → Holds at (byte ∷ []) d c → c ≡ before ++ byte ∷ behind
  holds_gate at byte behind d c is gated holds =
      let next : at + 1 ≡ length before + 1 = omega arith in
      let first : take at d ≡ before = ap (λ (l : List ℕ). take at l) gated.split
      ∙ take_at before (gated.gate ∷ behind) at (sym is) in
      let rest : drop (at + 1) d ≡ behind = ap (λ (l : List ℕ). drop (at + 1) l) gated.split
      ∙ ap (λ (k : ℕ). drop k (before ++ gated.gate ∷ behind)) next ∙ behind_of before behind gated.gate in
      holds ∙ ap (λ (l : List ℕ). l ++ byte ∷ [] ++ drop (at + 1) d) first
      ∙ ap (λ (l : List ℕ). before ++ byte ∷ [] ++ l) rest ∙ append_assoc before (byte ∷ []) behind

  -- a write at the end
  pub holds_end : (at : ℕ) (behind piece d c : List ℕ) → at ≡ length before + (1 + length behind)
      → Closed before behind d → Holds at piece d c → Closed before (behind ++ piece) c
  holds_end at behind piece d c is closed holds =
      let long : length d ≡ at = length-closed behind d closed ∙ sym is in
      let whole : c ≡ d ++ piece =
      holds ∙ ap (λ (l : List ℕ). l ++ piece ++ drop (at + length piece) d) (take_all at d (omega arith))
      ∙ ap (λ (l : List ℕ). d ++ piece ++ l) (drop_all (at + length piece) d (omega arith))
      ∙ append-nil (d ++ piece) in
      record {
        gate = closed.gate;
        closed = closed.closed;
        split = whole ∙ ap (λ (l : List ℕ). l ++ piece) closed.split ∙ append_assoc before (closed.gate ∷ behind) piece;
      }

  -- a cut behind the gate
  pub cut_closed : (end : ℕ) (d c : List ℕ) → end ≡ length before + 1 → Loose before d → IsCut end d c → AtRest before c
  cut_closed end d c is loose cut = record {
    gate = loose.is.gate;
    closed = loose.is.closed;
    split = cut ∙ ap (λ (k : ℕ). take k d) is ∙ ap (λ (l : List ℕ). take (length before + 1) l) loose.is.split
        ∙ front_of before loose.rest loose.is.gate;
  }

  pub rest_loose : (c : List ℕ) → AtRest before c → Loose before c
  rest_loose c rest = record { rest = []; is = rest }

  pub cut_loose : (end : ℕ) (d c : List ℕ) → end ≡ length before + 1 → Loose before d → CutOrNot end d c
      → Loose before c
  cut_loose end d c is loose cut = ⊎_elim (λ done. rest_loose c (cut_closed end d c is loose done))
      (λ not. subst (Loose before) (sym not) loose) cut

-- a write at a file's end
pub held_end : (at : ℕ) (piece d c : List ℕ) → at ≡ length d → Holds at piece d c → c ≡ d ++ piece
held_end at piece d c is holds =
    holds ∙ ap (λ (l : List ℕ). l ++ piece ++ drop (at + length piece) d) (take_all at d (omega arith))
    ∙ ap (λ (l : List ℕ). d ++ piece ++ l) (drop_all (at + length piece) d (omega arith))
    ∙ append-nil (d ++ piece)

-- a write over a file's last byte, and past the end
held_last : (at : ℕ) (before piece d c : List ℕ) → at ≡ length before → d ≡ before ++ 0 ∷ [] → 1 ≤ length piece
    → Holds at piece d c → c ≡ before ++ piece
held_last at before piece d c is whole some holds =
    let long : length d ≡ length before + 1 = ap length whole ∙ length-append before (0 ∷ []) in
    let first : take at d ≡ before = ap (λ (l : List ℕ). take at l) whole ∙ take_at before (0 ∷ []) at (sym is) in
    holds ∙ ap (λ (l : List ℕ). l ++ piece ++ drop (at + length piece) d) first
    ∙ ap (λ (l : List ℕ). before ++ piece ++ l) (drop_all (at + length piece) d (omega (arith, long, some)))
    ∙ append-nil (before ++ piece)

-- a record in the place of the last byte, written in three pieces
pub record_held : (at : ℕ) (before opening body a b c d : List ℕ) → at ≡ length before
    → opening ≡ 1 ∷ to_be_bytes w32 (length body) → a ≡ before ++ 0 ∷ [] → Holds at opening a b
    → Holds (at + 5) body b c → Holds (at + 5 + length body) (0 ∷ []) c d → d ≡ before ++ record_of body ++ 0 ∷ []
record_held at before opening body a b c d is opens whole one two three =
    let five : length opening ≡ 5 = ap length opens in
    let first : b ≡ before ++ opening = held_last at before opening a b is whole (omega (arith, five)) one in
    let second : c ≡ b ++ body = held_end (at + 5) body b c
    (omega (arith, is, ap length first, length-append before opening, five)) two in
    let third : d ≡ c ++ 0 ∷ [] = held_end (at + 5 + length body) (0 ∷ []) c d
    (omega (arith, is, ap length first, length-append before opening, five, ap length second, length-append b body))
    three in
    third ∙ ap (λ (l : List ℕ). l ++ 0 ∷ []) (second ∙ ap (λ (l : List ℕ). l ++ body) first
    ∙ append_assoc before opening body ∙ ap (λ (l : List ℕ). before ++ (l ++ body)) opens)

-- a file of at most nine bytes stays one
pub short_cut : (end : ℕ) (d c : List ℕ) → Short d → CutOrNot end d c → Short c
short_cut end d c short cut = ⊎_elim (λ done. omega (arith, ap length done, length-take end d))
    (λ not. omega (arith, ap length not)) cut

pub short_torn : (n : ℕ) (d c : List ℕ) → n ≤ 9 → Short d → Torn 0 n d c → Short c
short_torn n d c few short torn = omega (arith, torn.no_longer)

pub made : (piece d c : List ℕ) → d ≡ [] → Holds 0 piece d c → c ≡ piece
made piece d c empty holds = holds ∙ ap (λ (l : List ℕ). piece ++ drop (0 + length piece) l) empty
    ∙ ap (λ (l : List ℕ). piece ++ l) (drop_all (0 + length piece) [] (omega arith)) ∙ append-nil piece
