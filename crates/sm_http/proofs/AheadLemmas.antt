-- Bytes that stand between two places of a buffer.
use Rattle.std.proofs.Common.{◌≡◌, ℕ, ◌+◌, ◌-◌, ◌≤◌, List, [], ◌++◌, length, take, drop, Option, Some, None, refl, ap, sym, ◌∙◌, arith, append_assoc, append-nil}
use Rattle.std.proofs.lemmas.List.{drop-take, drop-drop, drop-append-le, length-take, length-drop, take-append-le, take_all}
use Rattle.std.proofs.Math.Seq.{take-add}
use Rattle.std.specs.Io.KnownBytes.{prepend_known}
use Rattle.sm_io.proofs.Known.{prepend_known-append}
use Rattle.std.specs.List.{copy_within}
use Rattle.sm_http.specs.Ahead.{Moves}

-- the part between two places
pub part_is : (xs : List ℕ) (i j : ℕ) → i ≤ j → take (j - i) (drop i xs) ≡ drop i (take j xs)
part_is xs i j h =
    let whole : i + (j - i) ≡ j = omega (arith, h) in
    sym (drop-take i (j - i) xs) ∙ ap (λ n. drop i (take n xs)) whole

pub part_skip : (xs : List ℕ) (i j n : ℕ) → drop (i + n) (take j xs) ≡ drop n (drop i (take j xs))
part_skip xs i j n = sym (drop-drop n i (take j xs))

-- the part, and what stands behind it
pub part_more : (xs : List ℕ) (i j n : ℕ) → i ≤ j → j ≤ length xs
    → drop i (take (j + n) xs) ≡ drop i (take j xs) ++ take n (drop j xs)
part_more xs i j n h room =
    ap (drop i) (take-add j n xs)
    ∙ drop-append-le i (take j xs) (take n (drop j xs)) (omega (arith, h, room, length-take j xs))

-- the part, copied to the front
pub part_copied : (xs : List ℕ) (i j : ℕ) → i ≤ j → j ≤ length xs
    → take (j - i) (copy_within xs i j 0) ≡ drop i (take j xs)
part_copied xs i j h room =
    let part = take (j - i) (drop i xs) in
    let size : length part ≡ j - i = omega (arith, length-take (j - i) (drop i xs), length-drop i xs) in
    take-append-le (j - i) part _ (omega (arith, size)) ∙ take_all (j - i) part (omega (arith, size)) ∙ part_is xs i j h

-- nothing was taken
pub moves_none : (xs ys : List ℕ) (left : Option (List ℕ)) → ys ≡ xs → Moves xs ys left left
moves_none xs ys None e = record { taken = []; grows = e ∙ sym (append-nil xs); left = refl }
moves_none xs ys (Some known) e = record { taken = []; grows = e ∙ sym (append-nil xs); left = refl }

-- what was taken, and then more
pub moves_more : (xs ys zs : List ℕ) (first then last : Option (List ℕ)) → Moves xs ys first then
    → Moves ys zs then last → Moves xs zs first last
moves_more xs ys zs first then last a b = record {
  taken = a.taken ++ b.taken;
  grows = b.grows ∙ ap (λ bytes. bytes ++ b.taken) a.grows ∙ append_assoc xs a.taken b.taken;
  left = a.left ∙ ap (prepend_known a.taken) b.left ∙ prepend_known-append a.taken b.taken last;
}

-- bytes came behind a place, where those before it stood in a buffer that made room
pub moves_behind : (bytes first room new : List ℕ) (i j n : ℕ) (before after : Option (List ℕ)) → i ≤ j → j ≤ length new
    → drop i (take j first) ≡ bytes → take j room ≡ take j first → take j new ≡ take j room
    → before ≡ prepend_known (take n (drop j new)) after → Moves bytes (drop i (take (j + n) new)) before after
moves_behind bytes first room new i j n before after h inside is made kept left = record {
  taken = take n (drop j new);
  grows = part_more new i j n h inside ∙ ap (λ xs. drop i xs ++ take n (drop j new)) (kept ∙ made)
      ∙ ap (λ xs. xs ++ take n (drop j new)) is;
  left = left;
}
