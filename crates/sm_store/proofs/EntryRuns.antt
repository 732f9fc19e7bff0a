-- Entries that are read one after the other, in a format and behind other bodies.
use Rattle.std.proofs.Common.{◌≡◌, ℕ, ◌+◌, ◌^◌, ◌<◌, List, [], ◌∷◌, ◌++◌, map, length, take, drop, get_or, suc, refl, sym, ◌∙◌, ap, arith}
use Rattle.std.proofs.lemmas.List.{map_push, take_more, length-take}
use Rattle.sm_journal.specs.Records.{size}
use Rattle.sm_journal.proofs.Front.{size-push}
use Rattle.sm_model.specs.declared.entry.Entry.{Entry}
use Rattle.sm_record.specs.declared.edition.Edition.{Edition}
use Rattle.sm_record.specs.Spelling.{spelling, HasSpelling}
use Rattle.sm_store.proofs.ReadingRuns.{size_take, parted}
use Rattle.sm_store.specs.Held.{AreEntries}
use Rattle.sm_store.specs.Loading.{IsNoEntryIn}

pub entries_push : (edition : Edition) (list : List Entry) (e : Entry) → AreEntries edition list
    → HasSpelling edition e → AreEntries edition (list ++ e ∷ [])
entries_push edition [] e all fits = (fits, tt)
entries_push edition (d ∷ list) e all fits = (all.0, entries_push edition list e all.1 fits)

length-map : (edition : Edition) (list : List Entry) → length (map (spelling edition) list) ≡ length list
length-map edition [] = refl
length-map edition (e ∷ list) = omega (arith, length-map edition list)

module _ (edition : Edition) (bodies : List (List ℕ)) (gate before : ℕ) (list : List Entry) (i at : ℕ) (body : List ℕ)
    (lt : i < length bodies) (is : body ≡ get_or bodies i body) (all : AreEntries edition list)
    (so_far : map (spelling edition) list ≡ take i bodies)
    (here : at ≡ gate + size (map (spelling edition) list)) where
  next_size : size (take (i + 1) bodies) ≡ size (take i bodies) + (5 + length body)
  next_size = ap size (take_more bodies i body lt) ∙ size-push (take i bodies) (get_or bodies i body)
      ∙ ap (λ (b : List ℕ). size (take i bodies) + (5 + length b)) (sym is)

  pub at_fits : gate + size bodies < 2 ^ 64 → at + (5 + length body) < 2 ^ 64
  at_fits fits = omega (arith, here, ap size so_far, next_size, size_take (i + 1) bodies)

  -- so many entries as bodies
  pub listed : length list ≡ i
  listed = omega (
    arith,
    length-map edition list,
    ap length so_far,
    length-take i bodies,
    lt,
  )

  pub number_fits : before + length bodies < 2 ^ 64 → before + length list < 2 ^ 64
  number_fits fits = omega (arith, listed, lt)

  pub next_list : (e : Entry) → HasSpelling edition e → spelling edition e ≡ body
      → map (spelling edition) (list ++ e ∷ []) ≡ take (i + 1) bodies
  next_list e fits same = map_push (spelling edition) list e
      ∙ ap (λ (l : List (List ℕ)). l ++ spelling edition e ∷ []) so_far
      ∙ ap (λ (b : List ℕ). take i bodies ++ b ∷ []) (same ∙ is) ∙ sym (take_more bodies i body lt)

  pub next_at : (e : Entry) → spelling edition e ≡ body
      → at + (5 + length body) ≡ gate + size (map (spelling edition) (list ++ e ∷ []))
  next_at e same = omega (
    arith,
    here,
    ap size (map_push (spelling edition) list e),
    size-push (map (spelling edition) list) (spelling edition e),
    ap length same,
  )

  pub no_entry_here : ((e : Entry) → HasSpelling edition e → ¬ (spelling edition e ≡ body))
      → IsNoEntryIn edition list bodies gate before at (before + length list)
  no_entry_here none = record {
    body = body;
    after = drop (suc i) bodies;
    spelled = all;
    split = parted i bodies body lt ∙ ap (λ (l : List (List ℕ)). l ++ get_or bodies i body ∷ drop (suc i) bodies)
        (sym so_far) ∙ ap (λ (b : List ℕ). map (spelling edition) list ++ b ∷ drop (suc i) bodies) (sym is);
    none = none;
    place = here;
    number = refl;
  }
