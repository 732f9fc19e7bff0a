-- What a wait for the parts of a frame knows at each step.
use Rattle.std.proofs.Common.{◌≡◌, ℕ, suc, ◌+◌, ◌-◌, ◌<◌, ◌≤◌, List, ◌++◌, length, drop, get_or, Option, Ok, sym, ap, subst, ◌∙◌, arith, length-append, drop-drop}
use Rattle.sm_http.specs.Ahead.{Moves}
use Rattle.sm_record.specs.Fields.{count, long}
use Rattle.sm_replication.specs.declared.extent.Extent.TheVariants.{Whole, Over, Open}
use Rattle.sm_replication.specs.declared.input.TheConstants.{LIST_LIMIT}
use Rattle.sm_replication.specs.Extents.{further, octets_extent, items_extent, list_extent, placed, body_extent, behind_tag, extent}
use Rattle.sm_replication.proofs.ExtentLemmas.{octets_stay, items_stay, placed_stays}
use Rattle.sm_replication.proofs.WalkLemmas.{size_over, size_whole, size_open, size_there, read_later, drop_more, told_later, not_open, behind_stays, Walked, walked_later, walked_all, walked_more, walked_over, walked_open, placed_list, body_now, further_told, count_items}

-- as many bytes as before, at the least
pub grown : (n : ℕ) (old new : List ℕ) (before after : Option (List ℕ)) → n ≤ length old → Moves old new before after
    → n ≤ length new
grown n old new before after le m = omega (arith, ap length m.grows, length-append old m.taken, le)

-- ---- bytes behind their length, which was seen in a slice

module _ (room at size : ℕ) (seen old : List ℕ) (same : seen ≡ old) (inside : at + 4 ≤ length old)
    (read : count.read (drop at seen) ≡ Ok (size, drop (at + 4) seen)) where
  here : count.read (drop at old) ≡ Ok (size, drop (at + 4) old)
  here = subst (λ (xs : List ℕ). count.read (drop at xs) ≡ Ok (size, drop (at + 4) xs)) same read

  pub behind_over : room < 4 + size → octets_extent room (drop at old) ≡ Over
  behind_over lt = size_over room at size old inside here lt

  pub behind_whole : (new : List ℕ) (before after : Option (List ℕ)) → 4 + size ≤ room → Moves old new before after
      → at + 4 + size ≤ length new → octets_extent room (drop at new) ≡ Whole (4 + size)
  behind_whole new before after le m there =
      size_whole room at size new (grown (at + 4) old new before after inside m)
      (read_later at size old new before after inside m here) le there

  pub behind_open : (new : List ℕ) (before after : Option (List ℕ)) → 4 + size ≤ room → Moves old new before after
      → length new < at + 4 + size → octets_extent room (drop at new) ≡ Open
  behind_open new before after le m short =
      size_open room at size new (grown (at + 4) old new before after inside m)
      (read_later at size old new before after inside m here) le short

  pub behind_there : 4 + size ≤ room → (octets_extent room (drop at old) ≡ Open → ⊥) → at + 4 + size ≤ length old
  behind_there le told = size_there room at size old inside here le told

-- where it was told how far bytes reach, it is told when more came
pub octets_told : (room at : ℕ) (old new : List ℕ) (before after : Option (List ℕ)) → at ≤ length old
    → Moves old new before after → (octets_extent room (drop at old) ≡ Open → ⊥)
    → octets_extent room (drop at new) ≡ Open → ⊥
octets_told room at old new before after le m told =
    told_later (octets_extent room) (octets_stay room) at old new before after le m told

-- ---- items

module _ (all room start passed i : ℕ) (old new : List ℕ) (before after : Option (List ℕ)) (begins : start ≤ length old)
    (w : Walked all room (drop start old) passed (all - i)) (lt : i < all) (m : Moves old new before after) where
  item_bytes : drop passed (drop start new) ≡ drop (start + passed) new
  item_bytes = drop-drop passed start new

  items_there : Walked all room (drop start new) passed (suc (all - (i + 1)))
  items_there =
      let left : all - i ≡ suc (all - (i + 1)) = omega (arith, lt) in
      subst (λ (n : ℕ). Walked all room (drop start new) passed n) left
      (subst (λ (xs : List ℕ). Walked all room xs passed (all - i))
      (sym (drop_more start old new before after begins m))
      (walked_later all room (drop start old) passed (all - i) w m.taken))

  pub item_whole : (used : ℕ) → octets_extent room (drop (start + passed) new) ≡ Whole used
      → Walked all (room - used) (drop start new) (passed + used) (all - (i + 1))
  item_whole used e =
      (walked_more all room (drop start new) passed (all - (i + 1)) items_there used
      (ap (octets_extent room) item_bytes ∙ e)).0

  pub item_over : octets_extent room (drop (start + passed) new) ≡ Over
      → items_extent all LIST_LIMIT (drop start new) ≡ Over
  item_over e =
      walked_over all room (drop start new) passed (all - (i + 1)) items_there (ap (octets_extent room) item_bytes ∙ e)

  pub item_open : octets_extent room (drop (start + passed) new) ≡ Open
      → items_extent all LIST_LIMIT (drop start new) ≡ Open
  item_open e =
      walked_open all room (drop start new) passed (all - (i + 1)) items_there (ap (octets_extent room) item_bytes ∙ e)

-- an item is told where all items were at first
pub item_told : (all room start passed i : ℕ) (first now : List ℕ) (before after : Option (List ℕ))
    → start ≤ length first → Moves first now before after → Walked all room (drop start now) passed (all - i) → i < all
    → (items_extent all LIST_LIMIT (drop start first) ≡ Open → ⊥)
    → octets_extent room (drop (start + passed) now) ≡ Open → ⊥
item_told all room start passed i first now before after begins m w lt told open' =
    let left : all - i ≡ suc (all - (i + 1)) = omega (arith, lt) in
    told_later (items_extent all LIST_LIMIT) (items_stay all LIST_LIMIT) start first now before after begins m told
    (walked_open all room (drop start now) passed (all - (i + 1))
    (subst (λ (n : ℕ). Walked all room (drop start now) passed n) left w)
    (ap (octets_extent room) (drop-drop passed start now) ∙ open'))

-- no item is left
pub items_are : (all room start passed i : ℕ) (now : List ℕ) → Walked all room (drop start now) passed (all - i)
    → all ≤ i → items_extent all LIST_LIMIT (drop start now) ≡ Whole passed
items_are all room start passed i now w le = walked_all all room (drop start now) passed (all - i) w (omega (arith, le))

-- ---- lists and what stands before them

pub list_items : (most at n : ℕ) (seen old new : List ℕ) (before after : Option (List ℕ)) → seen ≡ old
    → at + 4 ≤ length old → count.read (drop at seen) ≡ Ok (n, drop (at + 4) seen) → n ≤ most
    → Moves old new before after
    → list_extent most (drop at new) ≡ further 4 (items_extent n LIST_LIMIT (drop (at + 4) new))
list_items most at n seen old new before after same inside read le m =
    count_items most at n new (read_later at n old new before after inside m
    (subst (λ (xs : List ℕ). count.read (drop at xs) ≡ Ok (n, drop (at + 4) xs)) same read)) le

-- where a list was told, its items are
pub items_told : (most at n : ℕ) (seen old : List ℕ) → seen ≡ old
    → count.read (drop at seen) ≡ Ok (n, drop (at + 4) seen) → n ≤ most
    → (list_extent most (drop at old) ≡ Open → ⊥) → items_extent n LIST_LIMIT (drop (at + 4) old) ≡ Open → ⊥
items_told most at n seen old same read le told =
    let here : count.read (drop at old) ≡ Ok (n, drop (at + 4) old)
    = subst (λ (xs : List ℕ). count.read (drop at xs) ≡ Ok (n, drop (at + 4) xs)) same read in
    further_told 4 (items_extent n LIST_LIMIT (drop (at + 4) old))
    (λ open'. told (count_items most at n old here le ∙ open'))

-- where a placed list was told, its list is when more came
pub list_told : (most : ℕ) (old new : List ℕ) (before after : Option (List ℕ)) → 1 ≤ length old
    → Moves old new before after → 13 ≤ length new → (placed most (long.read (drop 1 old)) ≡ Open → ⊥)
    → list_extent most (drop 9 new) ≡ Open → ⊥
list_told most old new before after le m there told =
    further_told 8 (list_extent most (drop 9 new))
    (λ open'. told_later (λ xs. placed most (long.read xs)) (placed_stays most) 1 old new before after le m told
    (placed_list most new (omega (arith, there)) ∙ open'))

-- a placed list reaches as far as its list, when more came too
pub placed_later : (most : ℕ) (old new : List ℕ) (before after : Option (List ℕ)) → 13 ≤ length old
    → Moves old new before after → placed most (long.read (drop 1 new)) ≡ further 8 (list_extent most (drop 9 new))
placed_later most old new before after le m =
    placed_list most new (omega (arith, grown 13 old new before after le m))

-- where a frame was told, what stands behind its first byte is when more came
pub body_told : (old new : List ℕ) (before after : Option (List ℕ)) → Moves old new before after
    → (extent old ≡ Open → ⊥) → behind_tag new ≡ Open → ⊥
body_told old new before after m told open' =
    not_open (behind_tag old) (behind_tag (old ++ m.taken)) (length old) (behind_stays old m.taken)
    (further_told 1 (behind_tag old) told) (ap behind_tag (sym m.grows) ∙ open')

-- the first byte that was seen says how far the others reach
pub body_is : (tag : ℕ) (seen old new : List ℕ) (before after : Option (List ℕ)) → seen ≡ old → 1 ≤ length old
    → get_or seen 0 0 ≡ tag → Moves old new before after → behind_tag new ≡ body_extent tag (drop 1 new)
body_is tag seen old new before after same le is m =
    body_now old new before after le m
    ∙ ap (λ (t : ℕ). body_extent t (drop 1 new)) (ap (λ (xs : List ℕ). get_or xs 0 0) (sym same) ∙ is)
