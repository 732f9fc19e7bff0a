-- What is pending of a file, on lists: joined, done twice, and begun again.
use Rattle.std.proofs.Common.{◌≡◌, ⊎_elim, ℕ, ◌+◌, ◌-◌, ◌<◌, ◌≤◌, min, max, List, ◌++◌, length, take, drop, sym, ◌∙◌, ap, subst, arith, append_assoc, length-append, length-take, length-drop}
use Rattle.std.proofs.Math.Seq.{take-append-add, drop-append-add}
use Rattle.std.proofs.lemmas.List.{take_at, drop_at, take_all, drop_all, take_min, take-take, drop-drop, take-append-le, drop-append-le, append-nil}
use Rattle.std.proofs.lemmas.Bool.{cases_lt}
use Rattle.sm_disk.specs.Steps.{Torn}
use Rattle.sm_disk.specs.Laws.{torn_not}
use Rattle.sm_write_buffer.specs.Pieces.{laid}

-- a write of one range that was begun twice
pub torn_again : (at n : ℕ) (x y z : List ℕ) → Torn at n x y → Torn at n y z → Torn at n x z
torn_again at n x y z first second = record {
  before = sym (take-take (min at (length x)) (min at (length y)) z (omega (arith, first.no_shorter)))
      ∙ ap (λ (l : List ℕ). take (min at (length x)) l) second.before
      ∙ take-take (min at (length x)) at y (omega arith) ∙ first.before;
  after = second.after ∙ first.after;
  no_shorter = omega (arith, first.no_shorter, second.no_shorter);
  no_longer = omega (arith, first.no_longer, second.no_longer);
}

-- a write that is done over what was left of it
pub holds_after_torn : (at : ℕ) (piece x y : List ℕ) → at ≤ length x → Torn at (length piece) x y
    → take at y ++ piece ++ drop (at + length piece) y ≡ take at x ++ piece ++ drop (at + length piece) x
holds_after_torn at piece x y fits torn =
    let same : min at (length x) ≡ at = omega arith in
    ap (λ (l : List ℕ). l ++ piece ++ drop (at + length piece) y)
    (subst (λ (k : ℕ). take k y ≡ take at x) same torn.before)
    ∙ ap (λ (l : List ℕ). take at x ++ piece ++ l) torn.after

-- a write of two ranges, one behind the other, is one of the first and then one of the second
module _ (at n m : ℕ) (x z : List ℕ) (torn : Torn at (n + m) x z) where
  abbrev pub half : List ℕ
  half = take (at + n) z ++ drop (at + n) x

  length-half : length half ≡ min (at + n) (length z) + (length x - (at + n))
  length-half = omega (
    arith,
    length-append (take (at + n) z) (drop (at + n) x),
    length-take (at + n) z,
    length-drop (at + n) x,
  )

  -- where the file ends within the first range, nothing is left of the second
  short : length z < at + n → half ≡ z
  short lt = ap (λ (l : List ℕ). take (at + n) z ++ l) (drop_all (at + n) x (omega (arith, torn.no_shorter)))
      ∙ append-nil (take (at + n) z) ∙ take_all (at + n) z (omega arith)

  length-front_of_half : at + n ≤ length z → length (take (at + n) z) ≡ at + n
  length-front_of_half le = omega (arith, length-take (at + n) z)

  first_before : take (min at (length x)) half ≡ take at x
  first_before = take-append-le (min at (length x)) (take (at + n) z) (drop (at + n) x)
      (omega (arith, length-take (at + n) z, torn.no_shorter))
      ∙ take-take (min at (length x)) (at + n) z (omega arith) ∙ torn.before

  first_after : drop (at + n) half ≡ drop (at + n) x
  first_after = ⊎_elim
      (λ lt. drop_all (at + n) half (omega (arith, length-half, torn.no_shorter))
      ∙ sym (drop_all (at + n) x (omega (arith, torn.no_shorter))))
      (λ le. drop_at (take (at + n) z) (drop (at + n) x) (at + n) (length-front_of_half le))
      (cases_lt (length z) (at + n))

  pub torn_first : Torn at n x half
  torn_first = record {
    before = first_before;
    after = first_after;
    no_shorter = omega (arith, length-half, torn.no_shorter);
    no_longer = omega (arith, length-half, torn.no_shorter);
  }

  second_before : take (min (at + n) (length half)) z ≡ take (at + n) half
  second_before = ⊎_elim
      (λ lt. ap (λ (l : List ℕ). take (min (at + n) (length l)) z) (short lt)
      ∙ take_min (at + n) z ∙ ap (λ (l : List ℕ). take (at + n) l) (sym (short lt)))
      (λ le. let long : min (at + n) (length half) ≡ at + n = omega (arith, length-half) in
      ap (λ (k : ℕ). take k z) long
      ∙ sym (take_at (take (at + n) z) (drop (at + n) x) (at + n) (length-front_of_half le)))
      (cases_lt (length z) (at + n))

  second_after : drop (at + n + m) z ≡ drop (at + n + m) half
  second_after =
      let sum : at + n + m ≡ at + (n + m) = omega arith in
      ap (λ (k : ℕ). drop k z) sum ∙ torn.after ∙ ap (λ (k : ℕ). drop k x) (sym sum)
      ∙ sym (drop-drop m (at + n) x) ∙ ap (λ (l : List ℕ). drop m l) (sym first_after) ∙ drop-drop m (at + n) half

  pub torn_second : Torn (at + n) m half z
  torn_second = record {
    before = second_before;
    after = second_after;
    no_shorter = omega (arith, length-half, torn.no_shorter);
    no_longer = omega (arith, length-half, torn.no_shorter, torn.no_longer);
  }

-- a write of a wider range with the same end
torn_wider : (at n wide m : ℕ) (x y : List ℕ) → wide ≤ at → wide + m ≡ at + n → Torn at n x y → Torn wide m x y
torn_wider at n wide m x y le same torn = record {
  before = sym (take-take (min wide (length x)) (min at (length x)) y (omega (arith, le)))
      ∙ ap (λ (l : List ℕ). take (min wide (length x)) l) torn.before
      ∙ take-take (min wide (length x)) at x (omega (arith, le)) ∙ take_min wide x;
  after = ap (λ (k : ℕ). drop k y) same ∙ torn.after ∙ ap (λ (k : ℕ). drop k x) (sym same);
  no_shorter = torn.no_shorter;
  no_longer = omega (arith, torn.no_longer, same);
}

-- a piece that is laid over a run from a place within it on, and past its end
module _ (place : ℕ) (piece run : List ℕ) (within : place ≤ length run) where
  abbrev pub laid_run : List ℕ
  laid_run = laid place piece run

  length-front : length (take place run ++ piece) ≡ place + length piece
  length-front = omega (arith, length-append (take place run) piece, length-take place run)

  pub length-laid : length laid_run ≡ max (place + length piece) (length run)
  length-laid = omega (
    arith,
    length-front,
    length-append (take place run ++ piece) (drop (place + length piece) run),
    length-drop (place + length piece) run,
  )

  module _ (start : ℕ) (x : List ℕ) (fits : start ≤ length x) where
    abbrev first : List ℕ
    first = take start x ++ run ++ drop (start + length run) x

    length-start : length (take start x) ≡ start
    length-start = omega (arith, length-take start x)

    -- the run that was written first, in two parts
    parts : first ≡ take start x ++ (run ++ drop (start + length run) x)
    parts = append_assoc (take start x) run (drop (start + length run) x)

    take_first : take (start + place) first ≡ take start x ++ take place run
    take_first =
        let at : start + place ≡ length (take start x) + place = omega (arith, length-start) in
        ap (λ (l : List ℕ). take (start + place) l) parts
        ∙ ap (λ (k : ℕ). take k (take start x ++ (run ++ drop (start + length run) x))) at
        ∙ take-append-add (take start x) (run ++ drop (start + length run) x) place
        ∙ ap (λ (l : List ℕ). take start x ++ l) (take-append-le place run (drop (start + length run) x) within)

    drop_first : drop (start + place + length piece) first
        ≡ drop (place + length piece) (run ++ drop (start + length run) x)
    drop_first =
        let at : start + place + length piece ≡ length (take start x) + (place + length piece) =
        omega (arith, length-start) in
        ap (λ (l : List ℕ). drop (start + place + length piece) l) parts
        ∙ ap (λ (k : ℕ). drop k (take start x ++ (run ++ drop (start + length run) x))) at
        ∙ drop-append-add (take start x) (run ++ drop (start + length run) x) (place + length piece)

    -- what stands behind the piece: the rest of the run, and the file behind both
    behind : drop (place + length piece) (run ++ drop (start + length run) x)
        ≡ drop (place + length piece) run ++ drop (start + length laid_run) x
    behind = ⊎_elim
        (λ lt. let more : place + length piece ≡ length run + (place + length piece - length run) = omega (arith, lt) in
        let end : start + length run + (place + length piece - length run) ≡ start + length laid_run =
        omega (arith, lt, length-laid) in
        ap (λ (k : ℕ). drop k (run ++ drop (start + length run) x)) more
        ∙ drop-append-add run (drop (start + length run) x) (place + length piece - length run)
        ∙ drop-drop (place + length piece - length run) (start + length run) x ∙ ap (λ (k : ℕ). drop k x) end
        ∙ ap (λ (l : List ℕ). l ++ drop (start + length laid_run) x)
        (sym (drop_all (place + length piece) run (omega (arith, lt)))))
        (λ le. let end : start + length run ≡ start + length laid_run = omega (arith, le, length-laid) in
        drop-append-le (place + length piece) run (drop (start + length run) x) le
        ∙ ap (λ (k : ℕ). drop (place + length piece) run ++ drop k x) end)
        (cases_lt (length run) (place + length piece))

    -- a piece that is written over a run is the run with the piece laid over it
    pub holds_laid : take start x ++ laid_run ++ drop (start + length laid_run) x
        ≡ take (start + place) first ++ piece ++ drop (start + place + length piece) first
    holds_laid =
        ap (λ (l : List ℕ). l ++ drop (start + length laid_run) x) (sym (append_assoc (take start x)
        (take place run ++ piece) (drop (place + length piece) run)))
        ∙ append_assoc (take start x ++ (take place run ++ piece)) (drop (place + length piece) run)
        (drop (start + length laid_run) x)
        ∙ ap (λ (l : List ℕ). take start x ++ (take place run ++ piece) ++ l) (sym (drop_first ∙ behind))
        ∙ ap (λ (l : List ℕ). l ++ drop (start + place + length piece) first)
        (sym (append_assoc (take start x) (take place run) piece)
        ∙ ap (λ (l : List ℕ). l ++ piece) (sym take_first))

  -- and a crash may leave of it what it may leave of the run, and then of the piece
  module _ (start : ℕ) (x z : List ℕ) (torn : Torn start (length laid_run) x z) where
    within_run : place + length piece ≤ length run
        → (y : List ℕ) × Torn start (length run) x y × Torn (start + place) (length piece) y z
    within_run le =
        let same : length laid_run ≡ length run = omega (arith, le, length-laid) in
        (z, subst (λ (n : ℕ). Torn start n x z) same torn, torn_not (start + place) (length piece) z)

    past_run : length run < place + length piece
        → (y : List ℕ) × Torn start (length run) x y × Torn (start + place) (length piece) y z
    past_run lt =
        let rest : ℕ = place + length piece - length run in
        let both : length laid_run ≡ length run + rest = omega (arith, lt, length-laid) in
        let whole : Torn start (length run + rest) x z = subst (λ (n : ℕ). Torn start n x z) both torn in
        let same : start + place + length piece ≡ start + length run + rest = omega (arith, lt) in (
          half start (length run) rest x z whole,
          torn_first start (length run) rest x z whole,
          torn_wider (start + length run) rest (start + place) (length piece)
              (half start (length run) rest x z whole) z (omega (arith, within)) same
              (torn_second start (length run) rest x z whole),
        )

    pub torn_laid : (y : List ℕ) × Torn start (length run) x y × Torn (start + place) (length piece) y z
    torn_laid = ⊎_elim past_run within_run (cases_lt (length run) (place + length piece))

-- a file that is cut before the place of a write
pub cut_before : (end at : ℕ) (piece x : List ℕ) → end ≤ at → at ≤ length x
    → take end (take at x ++ piece ++ drop (at + length piece) x) ≡ take end x
cut_before end at piece x le fits =
    ap (λ (l : List ℕ). take end l) (append_assoc (take at x) piece (drop (at + length piece) x))
    ∙ take-append-le end (take at x) (piece ++ drop (at + length piece) x) (omega (arith, length-take at x))
    ∙ take-take end at x le
