-- What is known of a frame while its bytes come.
use Rattle.std.proofs.Common.{◌≡◌, ℕ, suc, ◌+◌, ◌-◌, ◌<◌, ◌≤◌, Bool, true, false, cond, ltb, List, [], ◌∷◌, ◌++◌, length, take, drop, get_or, Option, Result, Ok, Err, refl, sym, ap, subst, ◌∙◌, inl, inr, append-nil, append_assoc, arith, length-append, length-drop, drop-drop}
use Rattle.std.specs.Int.{w64, from_be_bytes}
use Rattle.std.proofs.lemmas.Bool.{ltb-false, lt-ltb, le-ltb, cases_lt}
use Rattle.std.proofs.lemmas.List.{take_all, drop-append-le}
use Rattle.sm_http.specs.Ahead.{Moves}
use Rattle.sm_record.specs.Fields.{count, long}
use Rattle.sm_replication.specs.declared.extent.Extent.{Extent}
use Rattle.sm_replication.specs.declared.extent.Extent.TheVariants.{Whole, Over, Open}
use Rattle.sm_replication.specs.declared.input.TheConstants.{LIST_LIMIT}
use Rattle.sm_replication.specs.Extents.{further, then_extent, reach, octets_extent, items_extent, counted, list_extent, placed, body_extent, behind_tag, extent}
use Rattle.sm_replication.specs.Laws.{Stays}
use Rattle.sm_replication.proofs.ExtentLemmas.{count_reads, octets_stay, body_stays}

-- ---- numbers at places

-- a slice from a place on
pub cut_at : (bytes : List ℕ) (at : ℕ) → take (length bytes - at) (drop at bytes) ≡ drop at bytes
cut_at bytes at = take_all (length bytes - at) (drop at bytes) (omega (arith, length-drop at bytes))

-- the number at a place is at the front of the slice from there on
pub read_at : (bytes : List ℕ) (at n : ℕ)
    → count.read (take (length bytes - at) (drop at bytes)) ≡ Ok (n, drop 4 (take (length bytes - at) (drop at bytes)))
    → count.read (drop at bytes) ≡ Ok (n, drop (at + 4) bytes)
read_at bytes at n e =
    subst (λ (xs : List ℕ). count.read xs ≡ Ok (n, drop 4 xs)) (cut_at bytes at) e
    ∙ ap (λ (xs : List ℕ). Ok (n, xs)) (drop-drop 4 at bytes)

count_short : (bytes : List ℕ) → length bytes < 4 → count.read bytes ≡ Err (length bytes)
unfolding count
count_short bytes lt = rw (lt-ltb (length bytes) 4 lt) refl

long_short : (bytes : List ℕ) → length bytes < 8 → long.read bytes ≡ Err (length bytes)
unfolding long
long_short bytes lt = rw (lt-ltb (length bytes) 8 lt) refl

-- enough bytes for a position
long_there : (bytes : List ℕ) → 8 ≤ length bytes → (n : ℕ) × (long.read bytes ≡ Ok (n, drop 8 bytes))
unfolding long
long_there bytes le = (from_be_bytes w64 (take 8 bytes), rw (le-ltb (length bytes) 8 le) refl)

-- ---- bytes that come

-- from a place on more bytes stand behind
pub drop_more : (at : ℕ) (old new : List ℕ) (before after : Option (List ℕ)) → at ≤ length old
    → (m : Moves old new before after) → drop at new ≡ drop at old ++ m.taken
drop_more at old new before after le m = ap (drop at) m.grows ∙ drop-append-le at old m.taken le

pub not_open : (e later : Extent) (size : ℕ) → Stays e later size → (e ≡ Open → ⊥) → later ≡ Open → ⊥
not_open (Whole n) later size s none open' = absurd (whole_open n (sym s.0 ∙ open'))
  where
    whole_open : (k : ℕ) → Whole k ≡ Open → ⊥
    whole_open k e = cc
not_open Over later size s none open' = absurd (over_open (sym s ∙ open'))
  where
    over_open : Over ≡ Open → ⊥
    over_open e = cc
not_open Open later size s none open' = absurd (none refl)

-- how far bytes reach from a place on, where it is told, stays told with more bytes
pub told_later : (f : List ℕ → Extent) → ((xs more : List ℕ) → Stays (f xs) (f (xs ++ more)) (length xs))
    → (at : ℕ) (old new : List ℕ) (before after : Option (List ℕ)) → at ≤ length old → Moves old new before after
    → (f (drop at old) ≡ Open → ⊥) → f (drop at new) ≡ Open → ⊥
told_later f stays at old new before after le m none open' =
    not_open (f (drop at old)) (f (drop at old ++ m.taken)) (length (drop at old)) (stays (drop at old) m.taken) none
    (ap f (sym (drop_more at old new before after le m)) ∙ open')

-- ---- bytes behind their length

module _ (room at size : ℕ) (bytes : List ℕ) (inside : at + 4 ≤ length bytes)
    (read : count.read (drop at bytes) ≡ Ok (size, drop (at + 4) bytes)) where
  pub size_over : room < 4 + size → octets_extent room (drop at bytes) ≡ Over
  size_over lt = ap (reach room) read ∙ ap (λ (b : Bool). cond b Over (cond (ltb (length (drop (at + 4) bytes)) size)
      Open (Whole (4 + size)))) (lt-ltb room (4 + size) lt)

  pub size_whole : 4 + size ≤ room → at + 4 + size ≤ length bytes
      → octets_extent room (drop at bytes) ≡ Whole (4 + size)
  size_whole le there =
      ap (reach room) read
      ∙ rw (
        le-ltb room (4 + size) le,
        le-ltb (length (drop (at + 4) bytes)) size (omega (arith, length-drop (at + 4) bytes, there)),
      ) refl

  pub size_open : 4 + size ≤ room → length bytes < at + 4 + size → octets_extent room (drop at bytes) ≡ Open
  size_open le short =
      ap (reach room) read
      ∙ rw (
        le-ltb room (4 + size) le,
        lt-ltb (length (drop (at + 4) bytes)) size (omega (arith, length-drop (at + 4) bytes, short, inside)),
      ) refl

  -- where it is told how far they reach, they are there or over the limit
  pub size_there : 4 + size ≤ room → (octets_extent room (drop at bytes) ≡ Open → ⊥) → at + 4 + size ≤ length bytes
  size_there le none =
      elim (cases_lt (length bytes) (at + 4 + size)) [
        | inl short ↦ absurd (none (size_open le short))
        | inr there ↦ there
      ]

-- the number at a place stays with more bytes
pub read_later : (at n : ℕ) (old new : List ℕ) (before after : Option (List ℕ)) → at + 4 ≤ length old
    → Moves old new before after → count.read (drop at old) ≡ Ok (n, drop (at + 4) old)
    → count.read (drop at new) ≡ Ok (n, drop (at + 4) new)
read_later at n old new before after le m read =
    let reads = count_reads (drop at old) (n, drop (at + 4) old) read in
    ap count.read (drop_more at old new before after (omega (arith, le)) m) ∙ reads.later m.taken
    ∙ ap (λ (xs : List ℕ). Ok (n, xs)) (sym (drop_more (at + 4) old new before after le m))

-- a length that is not there yet
pub octets_missing : (room at : ℕ) (bytes : List ℕ) → length bytes < at + 4
    → octets_extent room (drop at bytes) ≡ Open
octets_missing room at bytes lt =
    ap (reach room) (count_short (drop at bytes) (omega (arith, length-drop at bytes, lt)))

pub octets_length_there : (room at : ℕ) (bytes : List ℕ) → (octets_extent room (drop at bytes) ≡ Open → ⊥)
    → at + 4 ≤ length bytes
octets_length_there room at bytes none =
    elim (cases_lt (length bytes) (at + 4)) [
      | inl short ↦ absurd (none (octets_missing room at bytes short))
      | inr there ↦ there
    ]

-- ---- items one after the other

-- Of the bytes so many are items, and the others reach as far as the items that are left; so it stays with more bytes.
pub record Walked (all room : ℕ) (bytes : List ℕ) (done left : ℕ) : Type 0 where
  pub goes : (more : List ℕ) → items_extent all LIST_LIMIT (bytes ++ more)
      ≡ further done (items_extent left room (drop done (bytes ++ more)))
  pub within : done ≤ length bytes
  pub room_is : done + room ≡ LIST_LIMIT

further_nothing : (e : Extent) → further 0 e ≡ e
further_nothing (Whole n) = ap Whole (omega arith)
further_nothing Over = refl
further_nothing Open = refl

further_more : (m n : ℕ) (e : Extent) → further m (further n e) ≡ further (m + n) e
further_more m n (Whole k) = ap Whole (omega arith)
further_more m n Over = refl
further_more m n Open = refl

pub none_walked : (all : ℕ) (bytes : List ℕ) → Walked all LIST_LIMIT bytes 0 all
none_walked all bytes = record {
  goes = λ more. sym (further_nothing (items_extent all LIST_LIMIT (bytes ++ more)));
  within = omega arith;
  room_is = omega arith;
}

module _ (all room : ℕ) (bytes : List ℕ) (done left : ℕ) (w : Walked all room bytes done left) where
  pub walked_later : (taken : List ℕ) → Walked all room (bytes ++ taken) done left
  walked_later taken = record {
    goes = λ more. subst (λ (xs : List ℕ). items_extent all LIST_LIMIT xs
        ≡ further done (items_extent left room (drop done xs))) (sym (append_assoc bytes taken more))
        (w.goes (taken ++ more));
    within = omega (arith, w.within, length-append bytes taken);
    room_is = w.room_is;
  }

  here : items_extent all LIST_LIMIT bytes ≡ further done (items_extent left room (drop done bytes))
  here = subst (λ (xs : List ℕ). items_extent all LIST_LIMIT xs
      ≡ further done (items_extent left room (drop done xs))) (append-nil bytes) (w.goes [])

  -- no items are left
  pub walked_all : left ≡ 0 → items_extent all LIST_LIMIT bytes ≡ Whole done
  unfolding items_extent
  walked_all none =
      here ∙ ap (λ (n : ℕ). further done (items_extent n room (drop done bytes))) none ∙ ap Whole (omega arith)

module _ (all room : ℕ) (bytes : List ℕ) (done left : ℕ) (w : Walked all room bytes done (suc left)) where
  -- one more item is there
  pub walked_more : (used : ℕ) → octets_extent room (drop done bytes) ≡ Whole used
      → Walked all (room - used) bytes (done + used) left × (used ≤ room)
  unfolding items_extent
  walked_more used e = (
    record {
      goes = λ more. w.goes more ∙ ap (further done)
          (ap (λ (xs : List ℕ). then_extent (octets_extent room xs)
          (λ n. items_extent left (room - n) (drop n xs))) (drop-append-le done bytes more w.within)
          ∙ ap (λ (x : Extent). then_extent x (λ n. items_extent left (room - n) (drop n (drop done bytes ++ more))))
          (later more).0
          ∙ ap (λ (xs : List ℕ). further used (items_extent left (room - used) (drop used xs)))
          (sym (drop-append-le done bytes more w.within))
          ∙ ap (λ (xs : List ℕ). further used (items_extent left (room - used) xs))
          (drop-drop used done (bytes ++ more)))
          ∙ further_more done used (items_extent left (room - used) (drop (done + used) (bytes ++ more)));
      within = omega (arith, (later []).1, length-drop done bytes, w.within);
      room_is = omega (arith, w.room_is, fits);
    },
    fits,
  )
    where
      later : (more : List ℕ) → (octets_extent room (drop done bytes ++ more) ≡ Whole used)
          × (used ≤ length (drop done bytes))
      later more =
          subst (λ (x : Extent). Stays x (octets_extent room (drop done bytes ++ more)) (length (drop done bytes))) e
          (octets_stay room (drop done bytes) more)

      fits : used ≤ room
      fits = by (count.read (drop done bytes)) refl
        where
          over_whole : Over ≡ Whole used → ⊥
          over_whole h = cc

          whole_is : (k : ℕ) → Whole k ≡ Whole used → k ≡ used
          whole_is k h = cc

          open_whole : Open ≡ Whole used → ⊥
          open_whole h = cc

          told : (a b : Bool) (n : ℕ) → ltb room (4 + n) ≡ a
              → cond a Over (cond b Open (Whole (4 + n))) ≡ Whole used → used ≤ room
          told true b n is h = absurd (over_whole h)
          told false true n is h = absurd (open_whole h)
          told false false n is h = omega (arith, whole_is (4 + n) h, ltb-false room (4 + n) is)

          by : (r : Result (ℕ × List ℕ) ℕ) → count.read (drop done bytes) ≡ r → used ≤ room
          by (Err n) h = absurd (open_whole (ap (reach room) (sym h) ∙ e))
          by (Ok x) h =
              told (ltb room (4 + x.0)) (ltb (length x.1) x.0) x.0 refl (ap (reach room) (sym h) ∙ e)

  stopped : (x : Extent) → octets_extent room (drop done bytes) ≡ x
      → items_extent all LIST_LIMIT bytes
      ≡ further done (then_extent x (λ n. items_extent left (room - n) (drop n (drop done bytes))))
  unfolding items_extent
  stopped x e =
      here all room bytes done (suc left) w
      ∙ ap (λ (y : Extent). further done
      (then_extent y (λ n. items_extent left (room - n) (drop n (drop done bytes))))) e

  pub walked_over : octets_extent room (drop done bytes) ≡ Over → items_extent all LIST_LIMIT bytes ≡ Over
  walked_over e = stopped Over e

  pub walked_open : octets_extent room (drop done bytes) ≡ Open → items_extent all LIST_LIMIT bytes ≡ Open
  walked_open e = stopped Open e

-- ---- lists, positions and first bytes

pub count_over : (most at n : ℕ) (bytes : List ℕ) → count.read (drop at bytes) ≡ Ok (n, drop (at + 4) bytes) → most < n
    → list_extent most (drop at bytes) ≡ Over
count_over most at n bytes read lt = ap (counted most) read ∙ rw (lt-ltb most n lt) refl

pub count_items : (most at n : ℕ) (bytes : List ℕ) → count.read (drop at bytes) ≡ Ok (n, drop (at + 4) bytes) → n ≤ most
    → list_extent most (drop at bytes) ≡ further 4 (items_extent n LIST_LIMIT (drop (at + 4) bytes))
count_items most at n bytes read le = ap (counted most) read ∙ rw (le-ltb most n le) refl

pub list_missing : (most at : ℕ) (bytes : List ℕ) → length bytes < at + 4 → list_extent most (drop at bytes) ≡ Open
list_missing most at bytes lt =
    ap (counted most) (count_short (drop at bytes) (omega (arith, length-drop at bytes, lt)))

pub placed_list : (most : ℕ) (bytes : List ℕ) → 9 ≤ length bytes
    → placed most (long.read (drop 1 bytes)) ≡ further 8 (list_extent most (drop 9 bytes))
placed_list most bytes le =
    let there = long_there (drop 1 bytes) (omega (arith, length-drop 1 bytes, le)) in
    ap (placed most) there.1 ∙ ap (λ (xs : List ℕ). further 8 (list_extent most xs)) (drop-drop 8 1 bytes)

pub placed_missing : (most : ℕ) (bytes : List ℕ) → length bytes < 13 → placed most (long.read (drop 1 bytes)) ≡ Open
placed_missing most bytes lt =
    elim (cases_lt (length bytes) 9) [
      | inl short ↦ ap (placed most) (long_short (drop 1 bytes) (omega (arith, length-drop 1 bytes, short)))
      | inr enough ↦ placed_list most bytes enough ∙ ap (further 8) (list_missing most 9 bytes (omega (arith, lt)))
    ]

pub placed_there : (most : ℕ) (bytes : List ℕ) → (placed most (long.read (drop 1 bytes)) ≡ Open → ⊥)
    → 13 ≤ length bytes
placed_there most bytes none =
    elim (cases_lt (length bytes) 13) [
      | inl short ↦ absurd (none (placed_missing most bytes short))
      | inr there ↦ there
    ]

-- what is further open is open
pub further_told : (n : ℕ) (e : Extent) → (further n e ≡ Open → ⊥) → e ≡ Open → ⊥
further_told n e none open' = none (ap (further n) open')

tag_of : (bytes : List ℕ) → 1 ≤ length bytes → behind_tag bytes ≡ body_extent (get_or bytes 0 0) (drop 1 bytes)
tag_of [] le = absurd (omega (arith, le))
tag_of (tag ∷ bytes) le = refl

-- the first byte stays
module _ (old new : List ℕ) (before after : Option (List ℕ)) (le : 1 ≤ length old) (m : Moves old new before after)
  where
    pub body_now : behind_tag new ≡ body_extent (get_or old 0 0) (drop 1 new)
    body_now = by old le m.grows
      where
        by : (xs : List ℕ) → 1 ≤ length xs → new ≡ xs ++ m.taken
            → behind_tag new ≡ body_extent (get_or xs 0 0) (drop 1 new)
        by [] few grows = absurd (omega (arith, few))
        by (x ∷ xs) few grows = rw grows refl

pub behind_stays : (bytes more : List ℕ) → Stays (behind_tag bytes) (behind_tag (bytes ++ more)) (length bytes)
behind_stays [] more = tt
behind_stays (tag ∷ bytes) more =
    longer (body_extent tag bytes) (body_extent tag (bytes ++ more)) (body_stays tag bytes more)
  where
    longer : (e later : Extent) → Stays e later (length bytes) → Stays e later (suc (length bytes))
    longer (Whole n) later s = (s.0, omega (arith, s.1))
    longer Over later s = s
    longer Open later s = s

pub nothing_open : (bytes : List ℕ) → length bytes < 1 → extent bytes ≡ Open
nothing_open [] lt = refl
nothing_open (tag ∷ bytes) lt = absurd (omega (arith, lt))

pub something : (bytes : List ℕ) → (extent bytes ≡ Open → ⊥) → 1 ≤ length bytes
something [] none = absurd (none refl)
something (tag ∷ bytes) none = omega arith
