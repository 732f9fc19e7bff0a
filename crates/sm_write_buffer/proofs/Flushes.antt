-- What is pending of a file is done below, or it is tried and stays pending.
use Rattle.std.proofs.Common.{◌≡◌, ◌≢◌, ℕ, ◌<◌, ◌≤◌, List, length, refl, sym, ◌∙◌, ap, subst, arith}
use Rattle.sm_disk.specs.Sight.{Image, Sight}
use Rattle.sm_disk.specs.Steps.{OnFile, Same, Follows, ReadsFollow, GoesOnTelling, Goes, Keeps}
use Rattle.sm_write_buffer.specs.Gathering.{done, IsDone, MayDo, place, pending_of, with_pending, Placed, over}
use Rattle.sm_write_buffer.specs.declared.pending.Pending.{Pending}
use Rattle.sm_write_buffer.specs.declared.pending.Pending.TheVariants.{Nothing}
use Rattle.sm_write_buffer.specs.declared.waiting.Waiting.{Waiting}
use Rattle.sm_write_buffer.proofs.Dones.{may_again, done_again, place_stays}
use Rattle.sm_write_buffer.proofs.Slots.{changed, others_stay}
use Rattle.sm_write_buffer.proofs.Overs.{by_file, settled_images, settled_reads}

-- each thing that is pending begins within its file, since it did where the same or nothing is pending
pub placed_by_file : (file : ℕ) (below after : Sight) (w v : Waiting) (step : List ℕ → List ℕ → Type 0)
    → Follows (OnFile file step) below.reads after.reads
    → ((other : ℕ) → other ≢ file → pending_of v other ≡ pending_of w other) → Placed below w
    → ((x y : Image) → below.reads x → step (x file) (y file) → place (pending_of v file) ≤ length (y file))
    → Placed after v
placed_by_file file below after w v step reads others placed here s now =
    let from = reads s now in
    by_file (λ (f : ℕ). place (pending_of v f) ≤ length (s f)) file
    (here from.0 s from.1 from.2.changed)
    (λ other ne. let was : place (pending_of w other) ≤ length (from.0 other) = placed from.0 from.1 other in
    let same : place (pending_of v other) ≡ place (pending_of w other) = ap place (others other ne) in
    let stays : length (s other) ≡ length (from.0 other) = ap length (from.2.others other ne) in
    omega (arith, was, same, stays))

-- nothing happens below
pub stays_below : (file : ℕ) (reads : Image → Type 0) → Follows (OnFile file (λ x y. y ≡ x)) reads reads
stays_below file reads s read = (s, read, record { changed = refl; others = λ other ne. refl })

pub placed_changed : (file : ℕ) → file < 3 → (below : Sight) (w v : Waiting) (p : Pending)
    → v ≡ with_pending w file p → Placed below w
    → ((x : Image) → below.reads x → place p ≤ length (x file)) → Placed below v
placed_changed file lt below w v p is placed here = placed_by_file file below below w v (λ x y. y ≡ x)
    (stays_below file below.reads)
    (λ other ne. ap (λ (u : Waiting). pending_of u other) is ∙ others_stay w file p lt other ne) placed
    (λ x y was same. let begins : place p ≤ length (x file) = here x was in
    let now : place (pending_of v file) ≡ place p =
    ap place (ap (λ (u : Waiting). pending_of u file) is ∙ changed w file p lt) in
    let stays : length (y file) ≡ length (x file) = ap length same in omega (arith, begins, now, stays))

module _ (file : ℕ) (lt : file < 3) (below after : Sight) (w taken : Waiting) (p : Pending)
    (was : p ≡ pending_of w file) (rest : taken ≡ with_pending w file Nothing) (placed : Placed below w) where
  pub fits : (x : Image) → below.reads x → place p ≤ length (x file)
  fits x read = subst (λ (r : Pending). place r ≤ length (x file)) (sym was) (placed x read file)

  rest_others : (other : ℕ) → other ≢ file → pending_of taken other ≡ pending_of w other
  rest_others other ne = ap (λ (u : Waiting). pending_of u other) rest ∙ others_stay w file Nothing lt other ne

  pub rest_nothing : pending_of taken file ≡ Nothing
  rest_nothing = ap (λ (u : Waiting). pending_of u file) rest ∙ changed w file Nothing lt

  pub placed_taken : Placed below taken
  placed_taken = placed_changed file lt below w taken Nothing rest placed (λ x read. omega arith)

  pub placed_settled : ReadsFollow (OnFile file (MayDo p)) below after → Placed after taken
  placed_settled tried = placed_by_file file below after w taken (MayDo p) tried rest_others placed
      (λ x y read may. let none : place (pending_of taken file) ≡ 0 = ap place rest_nothing in omega (arith, none))

  module _ (crash : Goes (OnFile file (MayDo p)) below after) where
    crash_of : Follows (OnFile file (MayDo (pending_of w file))) below.images after.images
    crash_of = subst (λ (r : Pending). Follows (OnFile file (MayDo r)) below.images after.images) was crash.crash

    pub flushed_images : Follows Same (over below w).images (over after taken).images
    flushed_images = settled_images file below after w taken rest_others crash_of
        (λ x y z first second. subst (MayDo (pending_of w file) x)
        (sym (subst (λ (r : Pending). MayDo r y z) rest_nothing second)) first)

  module _ (tells : GoesOnTelling below after)
      (one : (r s : Image) → below.reads r → below.reads s → (f : ℕ) → r f ≡ s f) where
    pub flushed_reads : ReadsFollow (OnFile file (IsDone p)) below after → Keeps (over below w) (over after taken)
    flushed_reads done_below = settled_reads file below after w taken rest_others (IsDone p) done_below placed
        (λ x y begins is. ap (λ (r : Pending). done r y) rest_nothing ∙ is ∙ ap (λ (r : Pending). done r x) was)
        tells one

  -- where it is pending again
  module _ (again : Waiting) (back : again ≡ with_pending taken file p) where
    back_others : (other : ℕ) → other ≢ file → pending_of again other ≡ pending_of w other
    back_others other ne = ap (λ (u : Waiting). pending_of u other) back ∙ others_stay taken file p lt other ne
        ∙ rest_others other ne

    back_same : pending_of again file ≡ p
    back_same = ap (λ (u : Waiting). pending_of u file) back ∙ changed taken file p lt

    pub placed_again : ReadsFollow (OnFile file (MayDo p)) below after → Placed after again
    placed_again tried = placed_by_file file below after w again (MayDo p) tried back_others placed
        (λ x y read may. let stays : place p ≤ length (y file) =
        place_stays p (x file) (y file) (fits x read) may in
        let same : place (pending_of again file) ≡ place p = ap place back_same in omega (arith, stays, same))

    pub kept_images : Goes (OnFile file (MayDo p)) below after
        → Follows Same (over below w).images (over after again).images
    kept_images crash = settled_images file below after w again back_others (crash_of crash)
        (λ x y z first second. may_again (pending_of w file) x y z first
        (subst (λ (r : Pending). MayDo r y z) (back_same ∙ was) second))

    pub kept_reads : ReadsFollow (OnFile file (MayDo p)) below after → GoesOnTelling below after
        → ((r s : Image) → below.reads r → below.reads s → (f : ℕ) → r f ≡ s f)
        → Keeps (over below w) (over after again)
    kept_reads tried tells one = settled_reads file below after w again back_others (MayDo p) tried placed
        (λ x y begins may. ap (λ (r : Pending). done r y) back_same
        ∙ done_again p x y (subst (λ (r : Pending). place r ≤ length x) (sym was) begins) may
        ∙ ap (λ (r : Pending). done r x) was) tells one

-- a step below on a file of which nothing is pending
pub placed_below : (file : ℕ) (below after : Sight) (w : Waiting) (step : List ℕ → List ℕ → Type 0)
    → Follows (OnFile file step) below.reads after.reads → pending_of w file ≡ Nothing → Placed below w
    → Placed after w
placed_below file below after w step reads none placed = placed_by_file file below after w w step reads
    (λ other ne. refl) placed (λ x y read on. let zero : place (pending_of w file) ≡ 0 = ap place none in
    omega (arith, zero))
