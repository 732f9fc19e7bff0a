-- What a list of bodies holds, from what its parts hold.
use Rattle.std.proofs.Common.{◌≡◌, ℕ, ◌+◌, ◌<◌, ◌≤◌, ◌^◌, true, false, List, [], ◌∷◌, ◌++◌, map, length, take, drop, get_or, Option, None, Some, Result, Err, sym, ap, subst, ◌∙◌, arith, take-append-drop}
use Rattle.std.proofs.lemmas.List.{length-take, take_more, get_or-drop, get_or_default}
use Rattle.std.proofs.lemmas.List.Sums.{prefix_len-drop_yes, prefix_len-drop_no, prefix_len-drop_all, prefix_len-le-length}
use Rattle.std.specs.List.{prefix_len}
use Rattle.sm_journal.proofs.Front.{size-push}
use Rattle.sm_journal.specs.Records.{size, place_behind}
use Rattle.sm_journal.specs.declared.parse.Damage.{Damage}
use Rattle.sm_record.specs.declared.edition.Edition.{Edition}
use Rattle.sm_record.specs.Spelling.{spelling}
use Rattle.sm_store.specs.Openings.{Loads, LoadsUpTo}
use Rattle.sm_store.specs.Held.{AreEntries, IsSnapshot, base_bodies}
use Rattle.sm_store.specs.Loading.{is_marked, marked_count, IsNoSnapshot, IsNoEntryIn, ReadsUpTo, IsNoBase}
use Rattle.sm_store.specs.declared.entries.EntriesRefused.{EntriesRefused}
use Rattle.sm_store.specs.declared.loading.Loaded.{Loaded}
use Rattle.sm_store.proofs.FillRuns.{size-append}
use Rattle.sm_store.proofs.ReadingRuns.{size_take}

-- a body that stands in a list stands there whatever is told where the list ends
pub here_body : (bodies : List (List ℕ)) (i : ℕ) (body : List ℕ) → i < length bodies → body ≡ get_or bodies i []
    → body ≡ get_or bodies i body
here_body bodies i body lt is = is ∙ get_or_default bodies i [] body lt

-- and so does one among those behind the first
pub body_behind : (bodies : List (List ℕ)) (count i : ℕ) (body : List ℕ) → count + i < length bodies
    → body ≡ get_or bodies (count + i) [] → body ≡ get_or (drop count bodies) i body
body_behind bodies count i body lt is = here_body bodies (count + i) body lt is ∙ sym (get_or-drop count bodies i body)

-- one of the first bodies more
pub one_more : (bodies front more : List (List ℕ)) (i : ℕ) (body : List ℕ) → i < length bodies
    → body ≡ get_or bodies i [] → front ≡ take i bodies → more ≡ front ++ body ∷ [] → more ≡ take (i + 1) bodies
one_more bodies front more i body lt is so_far pushed = pushed ∙ ap (λ (l : List (List ℕ)). l ++ body ∷ []) so_far
    ∙ ap (λ (b : List ℕ). take i bodies ++ b ∷ []) is ∙ sym (take_more bodies i [] lt)

-- the count of the first bodies that are of rows goes on, or ends
module _ (bodies : List (List ℕ)) (i : ℕ)
    (so_far : marked_count bodies ≡ i + prefix_len is_marked (drop i bodies)) where
  pub marked_more : (body : List ℕ) → i < length bodies → body ≡ get_or bodies i [] → true ≡ is_marked body
      → marked_count bodies ≡ (i + 1) + prefix_len is_marked (drop (i + 1) bodies)
  marked_more body lt is marked =
      omega (arith, so_far, prefix_len-drop_yes is_marked bodies i [] lt (ap is_marked (sym is) ∙ sym marked))

  pub marked_until : (body : List ℕ) → i < length bodies → body ≡ get_or bodies i [] → false ≡ is_marked body
      → i ≡ marked_count bodies
  marked_until body lt is other =
      omega (arith, so_far, prefix_len-drop_no is_marked bodies i [] lt (ap is_marked (sym is) ∙ sym other))

  pub all_marked : length bodies ≤ i → length bodies ≡ marked_count bodies
  all_marked le = omega (
    arith,
    so_far,
    prefix_len-drop_all is_marked bodies i le,
    prefix_len-le-length is_marked bodies,
  )

-- the place behind one body more
module _ (bodies : List (List ℕ)) (i place : ℕ) (body : List ℕ) (lt : i < length bodies)
    (is : body ≡ get_or bodies i body) (here : place ≡ place_behind (take i bodies)) where
  pub next_place : place + (5 + length body) ≡ place_behind (take (i + 1) bodies)
  next_place = omega (
    arith,
    here,
    ap size (take_more bodies i body lt),
    size-push (take i bodies) (get_or bodies i body),
    ap length is,
  )

  pub place_fits : place_behind bodies < 2 ^ 64 → place + (5 + length body) < 2 ^ 64
  place_fits fits = omega (arith, next_place, size_take (i + 1) bodies)

-- a base, or none, and the entries behind it
pub loads_both : (edition : Edition) (file : ℕ) (bodies : List (List ℕ)) (count : ℕ) (loaded : Loaded)
    → IsSnapshot edition loaded.base → take count bodies ≡ base_bodies edition loaded.base
    → AreEntries edition loaded.entries → drop count bodies ≡ map (spelling edition) loaded.entries
    → loaded.file ≡ file → loaded.gate ≡ place_behind (take count bodies) → Loads edition file bodies loaded
loads_both edition file bodies count loaded base front_is entries rest_is file_is gate_is = record {
  spelled = record { base = base; entries = entries };
  bodies_are = sym (take-append-drop count bodies) ∙ ap (λ (l : List (List ℕ)). l ++ drop count bodies) front_is
      ∙ ap (λ (l : List (List ℕ)). base_bodies edition loaded.base ++ l) rest_is;
  file_is = file_is;
  gate = gate_is ∙ ap place_behind front_is;
}

-- what stands behind the first bodies has no more bytes than all
pub size_behind : (count : ℕ) (bodies : List (List ℕ))
    → size (take count bodies) + size (drop count bodies) ≡ size bodies
size_behind count bodies = sym (size-append (take count bodies) (drop count bodies))
    ∙ ap size (take-append-drop count bodies)

-- the same, or what stands before a body that is no entry's spelling
pub loads_up_to : (edition : Edition) (file : ℕ) (bodies : List (List ℕ)) (count : ℕ) (loaded : Loaded)
    (damage : Option Damage) → count ≡ marked_count bodies → IsSnapshot edition loaded.base
    → take count bodies ≡ base_bodies edition loaded.base → loaded.file ≡ file
    → loaded.gate ≡ place_behind (take count bodies)
    → ReadsUpTo edition (drop count bodies) loaded.gate count loaded.entries damage
    → LoadsUpTo edition file bodies loaded damage
loads_up_to edition file bodies count loaded None marked base front file_is gate read =
    loads_both edition file bodies count loaded base front read.0 read.1 file_is gate
loads_up_to edition file bodies count loaded (Some damage) marked base front file_is gate read = (
  record {
    spelled = base;
    front = sym (ap (λ (n : ℕ). take n bodies) marked) ∙ front;
    behind = subst (λ (n : ℕ). IsNoEntryIn edition loaded.entries (drop n bodies) (place_behind (take n bodies))
        (length (take n bodies)) damage.at damage.entry) marked
        (subst (λ (n : ℕ). IsNoEntryIn edition loaded.entries (drop count bodies) (place_behind (take count bodies)) n
        damage.at damage.entry) counted
        (subst (λ (n : ℕ). IsNoEntryIn edition loaded.entries (drop count bodies) n count damage.at damage.entry) gate
        read));
  },
  gate ∙ ap place_behind front,
)
  where
    counted : count ≡ length (take count bodies)
    counted = omega (arith, length-take count bodies, marked, prefix_len-le-length is_marked bodies)

-- the first bodies are of rows and no base
pub no_base : (edition : Edition) (bodies : List (List ℕ)) (count at entry : ℕ) → count ≡ marked_count bodies
    → 0 < length (take count bodies) → IsNoSnapshot edition (take count bodies) at entry
    → IsNoBase edition bodies at entry
no_base edition bodies count at entry marked some none = (
  omega (arith, some, marked, length-take count bodies),
  subst (λ (n : ℕ). IsNoSnapshot edition (take n bodies) at entry) marked none,
)

-- one refusal, whatever was wanted
pub same_refusal : {A B : Type 0} (x y : EntriesRefused) → ◌≡◌ {A = Result A EntriesRefused} (Err x) (Err y)
    → ◌≡◌ {A = Result B EntriesRefused} (Err x) (Err y)
same_refusal {A} {B} x y same = ap (λ (e : EntriesRefused). refusal e) (refusals_are same)
  where
    refusal : EntriesRefused → Result B EntriesRefused
    refusal e = Err e

    refusals_are : ◌≡◌ {A = Result A EntriesRefused} (Err x) (Err y) → x ≡ y
    refusals_are same = cc
