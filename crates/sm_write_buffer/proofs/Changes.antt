-- What is pending of a file changes: a piece is put behind it, begun or cut away.
use Rattle.std.proofs.Common.{◌≡◌, ◌≢◌, ⊎_elim, Bool, false, IsTrue, ℕ, ◌<◌, ◌≤◌, List, length, refl, sym, ◌∙◌, ap, subst, arith}
use Rattle.std.proofs.lemmas.Bool.{cases_Bool}
use Rattle.sm_disk.specs.Sight.{Image, Sight}
use Rattle.sm_disk.specs.Steps.{Holds, Torn, IsCut, CutOrNot, OnFile, Same, Follows, ReadsFollow, Keeps}
use Rattle.sm_write_buffer.specs.Gathering.{done, MayDo, place, IsBehind, JoinsTo, pending_of, with_pending, Placed, over}
use Rattle.sm_write_buffer.specs.Laws.{may_not}
use Rattle.sm_write_buffer.specs.declared.pending.Pending.{Pending}
use Rattle.sm_write_buffer.specs.declared.pending.Pending.TheVariants.{Nothing, Write, Cut}
use Rattle.sm_write_buffer.specs.declared.waiting.Waiting.{Waiting}
use Rattle.sm_write_buffer.proofs.Dones.{done_joined, may_joined, place_joined, done_cut}
use Rattle.sm_write_buffer.proofs.Slots.{changed, others_stay, put_back}
use Rattle.sm_write_buffer.proofs.Overs.{by_file, pending_reads, pending_images}
use Rattle.sm_write_buffer.proofs.Flushes.{placed_changed}

-- the same is pending of each file
pub same_reads : (below : Sight) (w v : Waiting) → ((f : ℕ) → pending_of v f ≡ pending_of w f)
    → Keeps (over below w) (over below v)
same_reads below w v same = record {
  still = λ s (x, was, is). (x, was, λ f. is f ∙ ap (λ (r : Pending). done r (x f)) (sym (same f)));
  nothing_new = λ s (x, was, is). (x, was, λ f. is f ∙ ap (λ (r : Pending). done r (x f)) (same f));
}

pub same_images : (below : Sight) (w v : Waiting) → ((f : ℕ) → pending_of v f ≡ pending_of w f)
    → Follows Same (over below w).images (over below v).images
same_images below w v same c (x, image, may) =
    (c, (x, image, λ f. subst (λ (r : Pending). MayDo r (x f) (c f)) (same f) (may f)), λ f. refl)

-- one thing is pending of the file in the place of another
module _ (file : ℕ) (lt : file < 3) (below : Sight) (w v : Waiting) (p : Pending)
    (is : v ≡ with_pending w file p) where
  others : (other : ℕ) → other ≢ file → pending_of v other ≡ pending_of w other
  others other ne = ap (λ (u : Waiting). pending_of u other) is ∙ others_stay w file p lt other ne

  now : pending_of v file ≡ p
  now = ap (λ (u : Waiting). pending_of u file) is ∙ changed w file p lt

  changed_reads : (step : List ℕ → List ℕ → Type 0) → Placed below w
      → ((x : List ℕ) → place (pending_of w file) ≤ length x → step (done (pending_of w file) x) (done p x))
      → ReadsFollow (OnFile file step) (over below w) (over below v)
  changed_reads step placed makes = pending_reads file below w v others step placed
      (λ x begins. subst (λ (r : Pending). step (done (pending_of w file) x) (done r x)) (sym now) (makes x begins))

  changed_images : (step : List ℕ → List ℕ → Type 0)
      → ((x z : List ℕ) → MayDo p x z → (y : List ℕ) × MayDo (pending_of w file) x y × step y z)
      → Follows (OnFile file step) (over below w).images (over below v).images
  changed_images step makes = pending_images file below w v others step
      (λ x z may. makes x z (subst (λ (r : Pending). MayDo r x z) now may))

  -- a cut that takes away what was pending
  pub cut_reads : (end : ℕ) → p ≡ Cut end → IsBehind end (pending_of w file) → Placed below w
      → ReadsFollow (OnFile file (IsCut end)) (over below w) (over below v)
  cut_reads end cut behind placed = changed_reads (IsCut end) placed
      (λ x begins. ap (λ (r : Pending). done r x) cut ∙ sym (done_cut end (pending_of w file) x behind begins))

  pub cut_images : (end : ℕ) → p ≡ Cut end
      → Follows (OnFile file (CutOrNot end)) (over below w).images (over below v).images
  cut_images end cut = changed_images (CutOrNot end)
      (λ x z may. (x, may_not (pending_of w file) x, subst (λ (r : Pending). MayDo r x z) cut may))

  -- a write of a file of which nothing was pending
  pub begun_reads : (at : ℕ) (piece : List ℕ) → p ≡ Write at piece → pending_of w file ≡ Nothing → Placed below w
      → ReadsFollow (OnFile file (Holds at piece)) (over below w) (over below v)
  begun_reads at piece write none placed = changed_reads (Holds at piece) placed
      (λ x begins. subst (λ (l : List ℕ). Holds at piece l (done p x)) (sym (ap (λ (r : Pending). done r x) none))
      (ap (λ (r : Pending). done r x) write))

  pub begun_images : (at : ℕ) (piece : List ℕ) → p ≡ Write at piece
      → Follows (OnFile file (Torn at (length piece))) (over below w).images (over below v).images
  begun_images at piece write = changed_images (Torn at (length piece))
      (λ x z may. (x, may_not (pending_of w file) x, subst (λ (r : Pending). MayDo r x z) write may))

-- what begins within what is read over the disk begins within the disk's own file, where nothing is pending of it, or
-- what is pending is cut away
pub begins_below : (end : ℕ) (p : Pending) (x : List ℕ) → IsBehind end p → place p ≤ length x
    → end ≤ length (done p x) → end ≤ length x
begins_below end Nothing x behind begins le = le
begins_below end (Write at piece) x behind begins le = omega (arith, behind, begins)
begins_below end (Cut other) x behind begins le = omega (arith, behind, begins)

pub place_below : (file end : ℕ) (below : Sight) (w : Waiting) → IsBehind end (pending_of w file) → Placed below w
    → ((s : Image) → (over below w).reads s → end ≤ length (s file))
    → (x : Image) → below.reads x → end ≤ length (x file)
place_below file end below w behind placed all x was = begins_below end (pending_of w file) (x file) behind
    (placed x was file) (all (λ f. done (pending_of w f) (x f)) (x, was, λ f. refl))

-- a cut takes away nothing where nothing is pending
pub nothing_behind : (end : ℕ) (p : Pending) → p ≡ Nothing → IsBehind end p
nothing_behind end p none = subst (IsBehind end) (sym none) tt

-- what was pending of the file was taken out, and this was put back
module _ (file : ℕ) (lt : file < 3) (below : Sight) (w taken again : Waiting) (q p : Pending)
    (was : q ≡ pending_of w file) (rest : taken ≡ with_pending w file Nothing)
    (back : again ≡ with_pending taken file p) where
  put : again ≡ with_pending w file p
  put = put_back file lt w taken again Nothing p rest back

  -- the same as before
  pub same_again : p ≡ q → (f : ℕ) → pending_of again f ≡ pending_of w f
  same_again same = by_file (λ (f : ℕ). pending_of again f ≡ pending_of w f) file
      (now file lt below w again p put ∙ same ∙ was) (others file lt below w again p put)

  module _ (at : ℕ) (piece : List ℕ) where
    -- a piece over what was pending
    pub joined_reads : JoinsTo at piece q p → Placed below w
        → ReadsFollow (OnFile file (Holds at piece)) (over below w) (over below again)
    joined_reads joins placed = changed_reads file lt below w again p put (Holds at piece) placed
        (done_joined at piece (pending_of w file) p (subst (λ (r : Pending). JoinsTo at piece r p) was joins))

    pub joined_images : JoinsTo at piece q p
        → Follows (OnFile file (Torn at (length piece))) (over below w).images (over below again).images
    joined_images joins = changed_images file lt below w again p put (Torn at (length piece))
        (may_joined at piece (pending_of w file) p (subst (λ (r : Pending). JoinsTo at piece r p) was joins))

    -- or the same as before
    pub placed_again : (joined : Bool) → (IsTrue joined → JoinsTo at piece q p) → (joined ≡ false → p ≡ q)
        → Placed below w → Placed below again
    placed_again joined joins left placed = placed_changed file lt below w again p put placed
        (λ x read. let begins : place (pending_of w file) ≤ length (x file) = placed x read file in
        let same : place p ≡ place q = ⊎_elim (λ yes. place_joined at piece q p (joins yes))
        (λ not. ap place (left not)) (cases_Bool joined) in
        let old : place q ≡ place (pending_of w file) = ap place was in omega (arith, begins, same, old))
