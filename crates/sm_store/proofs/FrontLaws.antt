-- What bodies begin with, and how far it is the same.
use Rattle.std.proofs.Common.{◌≡◌, ℕ, zero, suc, ◌+◌, ◌≤◌, List, [], ◌∷◌, ◌++◌, map, length, take, drop, Option, None, Some, refl, sym, ap, ◌∙◌, length-append, append-nil, append_assoc, take-append-drop, arith}
use Rattle.std.proofs.lemmas.List.{drop_at, length-take, length-map, take_all}
use Rattle.std.proofs.lemmas.List.Sums.{prefix_len-le-length}
use Rattle.sm_journal.specs.Records.{size, place_behind}
use Rattle.sm_model.specs.declared.entry.Entry.{Entry}
use Rattle.sm_record.proofs.SpellingLaws.{spells_one}
use Rattle.sm_record.specs.Spelling.{spelling}
use Rattle.sm_record.specs.declared.base.Base.{Base}
use Rattle.sm_record.specs.declared.edition.Edition.{Edition}
use Rattle.sm_store.proofs.EntryLists.{first_is, rest_is}
use Rattle.sm_store.proofs.HeldLaws.{marked_in, behind_in, same_base, some_marked}
use Rattle.sm_store.specs.Held.{Held, base_bodies, bodies_in, IsSnapshot, AreEntries, IsSpelledIn}
use Rattle.sm_store.specs.Loading.{is_marked, marked_count, marked, behind_marked, BeginsWith, IsNoBase, IsNoEntry}

-- all that bodies hold is what they begin with
pub begins_whole : (edition : Edition) (h : Held) → IsSpelledIn edition h → BeginsWith edition h (bodies_in edition h)
begins_whole edition h spelled = record {
  spelled = spelled;
  base = marked_in edition h spelled;
  rest = [];
  split = sym (append-nil (bodies_in edition h));
}

-- and so is what is before a body that is no entry's spelling
pub begins_before : (edition : Edition) (h : Held) (bodies : List (List ℕ)) (at entry : ℕ)
    → IsNoEntry edition h bodies at entry → BeginsWith edition h bodies
begins_before edition h bodies at entry none = record {
  spelled = record { base = none.spelled; entries = none.behind.spelled };
  base = none.front;
  rest = none.behind.body ∷ none.behind.after;
  split = sym (take-append-drop (marked_count bodies) bodies)
      ∙ ap (λ (l : List (List ℕ)). l ++ behind_marked bodies) none.front
      ∙ ap (λ (l : List (List ℕ)). base_bodies edition h.base ++ l) none.behind.split
      ∙ sym (append_assoc (base_bodies edition h.base) (map (spelling edition) h.entries)
      (none.behind.body ∷ none.behind.after));
}

-- behind its base are its entries
behind_is : (edition : Edition) (h : Held) (bodies : List (List ℕ)) (begins : BeginsWith edition h bodies)
    → behind_marked bodies ≡ map (spelling edition) h.entries ++ begins.rest
behind_is edition h bodies begins =
    ap (drop (marked_count bodies)) (begins.split
    ∙ append_assoc (base_bodies edition h.base) (map (spelling edition) h.entries) begins.rest)
    ∙ drop_at (base_bodies edition h.base) (map (spelling edition) h.entries ++ begins.rest) (marked_count bodies)
    counted
  where
    counted : length (base_bodies edition h.base) ≡ marked_count bodies
    counted = omega (
      arith,
      ap length begins.base,
      length-take (marked_count bodies) bodies,
      prefix_len-le-length is_marked bodies,
    )

-- bodies begin with no two bases
module _ (edition : Edition) (bodies : List (List ℕ)) (a b : Held) (left : BeginsWith edition a bodies)
    (right : BeginsWith edition b bodies) where
  pub one_base : a.base ≡ b.base
  one_base = same_base edition a.base b.base left.spelled.base right.spelled.base (sym left.base ∙ right.base)

  -- nor with entries of which one is another than the one that is as far behind it
  pub one_front : (k : ℕ) → k ≤ length a.entries → k ≤ length b.entries → take k a.entries ≡ take k b.entries
  one_front k = fronts a.entries b.entries left.rest right.rest left.spelled.entries right.spelled.entries
      (sym (behind_is edition a bodies left) ∙ behind_is edition b bodies right) k
    where
      fronts : (a b : List Entry) (x y : List (List ℕ)) → AreEntries edition a → AreEntries edition b
          → map (spelling edition) a ++ x ≡ map (spelling edition) b ++ y
          → (k : ℕ) → k ≤ length a → k ≤ length b → take k a ≡ take k b
      fronts a b x y left right same zero within other = refl
      fronts [] b x y left right same (suc k) within other = absurd (omega (arith, within))
      fronts (d ∷ a) [] x y left right same (suc k) within other = absurd (omega (arith, other))
      fronts (d ∷ a) (e ∷ b) x y left right same (suc k) within other =
          let one : d ≡ e = spells_one edition d e left.0 right.0
          (first_is (spelling edition d) (spelling edition e) (map (spelling edition) a ++ x)
          (map (spelling edition) b ++ y) same) in
          let more : take k a ≡ take k b = fronts a b x y left.1 right.1
          (rest_is (spelling edition d) (spelling edition e) (map (spelling edition) a ++ x)
          (map (spelling edition) b ++ y) same) k (omega (arith, within)) (omega (arith, other)) in
          λ i. one i ∷ more i

-- they begin with no base where the first are of rows and no base's
pub no_base_begins : (edition : Edition) (h : Held) (bodies : List (List ℕ)) (at entry : ℕ)
    → IsNoBase edition bodies at entry → BeginsWith edition h bodies → ⊥
no_base_begins edition h bodies at entry none begins = by h.base begins.spelled.base begins.base
  where
    by : (base : Option Base) → IsSnapshot edition base → marked bodies ≡ base_bodies edition base → ⊥
    by None fits same = some_marked bodies none.0 same
    by (Some base) fits same = none.1.none base fits (sym same)

-- there are no more entries than are held
pub no_more : (edition : Edition) (g h : Held) → IsSpelledIn edition h → BeginsWith edition g (bodies_in edition h)
    → length g.entries ≤ length h.entries
no_more edition g h spelled begins = omega (
  arith,
  ap length (sym (behind_is edition g (bodies_in edition h) begins) ∙ behind_in edition h spelled),
  length-append (map (spelling edition) g.entries) begins.rest,
  length-map g.entries (spelling edition),
  length-map h.entries (spelling edition),
)

-- entries end before a body that is no entry's spelling
pub no_longer : (edition : Edition) (a b : Held) (bodies : List (List ℕ)) (at entry : ℕ)
    → BeginsWith edition a bodies → IsNoEntry edition b bodies at entry → length a.entries ≤ length b.entries
no_longer edition a b bodies at entry begins ends =
    shorter a.entries b.entries begins.rest begins.spelled.entries
    (sym (behind_is edition a bodies begins) ∙ ends.behind.split)
  where
    shorter : (a b : List Entry) (x : List (List ℕ)) → AreEntries edition a
        → map (spelling edition) a ++ x ≡ map (spelling edition) b ++ ends.behind.body ∷ ends.behind.after
        → length a ≤ length b
    shorter [] b x all same = omega arith
    shorter (d ∷ a) [] x all same = absurd (ends.behind.none d all.0
        (first_is (spelling edition d) ends.behind.body (map (spelling edition) a ++ x) ends.behind.after same))
    shorter (d ∷ a) (e ∷ b) x all same = omega (
      arith,
      shorter a b x all.1
          (rest_is (spelling edition d) (spelling edition e) (map (spelling edition) a ++ x)
          (map (spelling edition) b ++ ends.behind.body ∷ ends.behind.after) same),
    )

-- and where that body is, is told once
pub one_end : (edition : Edition) (a b : Held) (bodies : List (List ℕ)) (at entry other number : ℕ)
    → IsNoEntry edition a bodies at entry → IsNoEntry edition b bodies other number → (at ≡ other) × (entry ≡ number)
one_end edition a b bodies at entry other number left right = (
  left.behind.place ∙ ap (λ (list : List Entry). place_behind (marked bodies) + size (map (spelling edition) list)) same
      ∙ sym right.behind.place,
  left.behind.number ∙ ap (λ (list : List Entry). length (marked bodies) + length list) same ∙ sym right.behind.number,
)
  where
    first : BeginsWith edition a bodies
    first = begins_before edition a bodies at entry left

    second : BeginsWith edition b bodies
    second = begins_before edition b bodies other number right

    more : length a.entries ≤ length b.entries
    more = no_longer edition a b bodies other number first right

    less : length b.entries ≤ length a.entries
    less = no_longer edition b a bodies at entry second left

    same : a.entries ≡ b.entries
    same = sym (take_all (length a.entries) a.entries (omega arith))
        ∙ one_front edition bodies a b first second (length a.entries) (omega arith) more
        ∙ take_all (length a.entries) b.entries less
