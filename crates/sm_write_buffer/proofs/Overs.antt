-- What is told over a disk, call by call: of what is pending, and of the disk below.
use Rattle.std.proofs.Common.{◌≡◌, ◌≢◌, ⊎_elim, ℕ, ◌≤◌, List, length, refl, sym, ◌∙◌, ap, subst}
use Rattle.std.proofs.lemmas.Bool.{cases_eq}
use Rattle.sm_disk.specs.Sight.{Image, Sight}
use Rattle.sm_disk.specs.Steps.{OnFile, Same, Follows, ReadsFollow, GoesOnTelling, Keeps, Synced}
use Rattle.sm_disk.proofs.Replays.{with_file, with_file_same, with_file_other}
use Rattle.sm_write_buffer.specs.Gathering.{done, MayDo, place, pending_of, Placed, ReadsOver, ImagesOver, over}
use Rattle.sm_write_buffer.specs.declared.pending.Pending.{Pending}
use Rattle.sm_write_buffer.specs.declared.pending.Pending.TheVariants.{Nothing}
use Rattle.sm_write_buffer.specs.declared.waiting.Waiting.{Waiting}
use Rattle.sm_write_buffer.specs.Laws.{may_not}

-- by cases, whether a file is this one
pub by_file : (P : ℕ → Type 0) (file : ℕ) → P file → ((other : ℕ) → other ≢ file → P other) → (f : ℕ) → P f
by_file P file here there f = ⊎_elim (λ is. subst P (sym is) here) (there f) (cases_eq f file)

-- a step behind one that changes nothing
pub after_same : (file : ℕ) (step : List ℕ → List ℕ → Type 0) (old mid new : Image → Type 0)
    → Follows Same old mid → Follows (OnFile file step) mid new → Follows (OnFile file step) old new
after_same file step old mid new first second c image =
    let from = second c image in
    let was = first from.0 from.1 in (
      was.0,
      was.1,
      record {
        changed = subst (λ (x : List ℕ). step x (c file)) (was.2 file) from.2.changed;
        others =
            λ other ne. from.2.others other ne ∙ was.2 other;
      },
    )

pub same_after_same : (old mid new : Image → Type 0) → Follows Same old mid → Follows Same mid new
    → Follows Same old new
same_after_same old mid new first second c image =
    let from = second c image in
    let was = first from.0 from.1 in (was.0, was.1, λ file. from.2 file ∙ was.2 file)

pub same_behind : (file : ℕ) (step : List ℕ → List ℕ → Type 0) (old mid new : Image → Type 0)
    → Follows (OnFile file step) old mid → Follows Same mid new → Follows (OnFile file step) old new
same_behind file step old mid new first second c image =
    let from = second c image in
    let was = first from.0 from.1 in (
      was.0,
      was.1,
      record {
        changed = subst (step (was.0 file)) (sym (from.2 file)) was.2.changed;
        others =
            λ other ne. from.2 other ∙ was.2.others other ne;
      },
    )

pub keeps_after : (old mid new : Sight) → Keeps old mid → Keeps mid new → Keeps old new
keeps_after old mid new first second = record {
  still = λ s reads. second.still s (first.still s reads);
  nothing_new = λ s reads. first.nothing_new s (second.nothing_new s reads);
}

-- what is pending is done below, or tried: of what is pending afterwards it is known what it makes of the file
module _ (file : ℕ) (below after : Sight) (w v : Waiting)
    (others : (other : ℕ) → other ≢ file → pending_of v other ≡ pending_of w other) where
  abbrev p : Pending
  p = pending_of w file

  abbrev q : Pending
  q = pending_of v file

  pub settled_images : Follows (OnFile file (MayDo p)) below.images after.images
      → ((x y z : List ℕ) → MayDo p x y → MayDo q y z → MayDo p x z)
      → Follows Same (ImagesOver below w) (ImagesOver after v)
  settled_images crash again c (y, image, may) =
      let from = crash y image in (
        c,
        (
          from.0,
          from.1,
          by_file (λ (f : ℕ). MayDo (pending_of w f) (from.0 f) (c f)) file
              (again (from.0 file) (y file) (c file) from.2.changed (may file))
              (λ other ne. subst (λ (x : List ℕ). MayDo (pending_of w other) x (c other)) (from.2.others other ne)
              (subst (λ (r : Pending). MayDo r (y other) (c other)) (others other ne) (may other))),
        ),
        λ f. refl,
      )

  module _ (step : List ℕ → List ℕ → Type 0) (reads : Follows (OnFile file step) below.reads after.reads)
      (placed : Placed below w)
      (makes : (x y : List ℕ) → place p ≤ length x → step x y → done q y ≡ done p x) where
    -- what each file reads as then is what it read as
    same_done : (x y : Image) → below.reads x → OnFile file step x y
        → (f : ℕ) → done (pending_of v f) (y f) ≡ done (pending_of w f) (x f)
    same_done x y was on = by_file (λ (f : ℕ). done (pending_of v f) (y f) ≡ done (pending_of w f) (x f)) file
        (makes (x file) (y file) (placed x was file) on.changed)
        (λ other ne. ap (λ (r : Pending). done r (y other)) (others other ne)
        ∙ ap (λ (l : List ℕ). done (pending_of w other) l) (on.others other ne))

    pub settled_reads : GoesOnTelling below after
        → ((r s : Image) → below.reads r → below.reads s → (f : ℕ) → r f ≡ s f)
        → Keeps (over below w) (over after v)
    settled_reads tells one = record {
      still = λ s (x, was, is).
          let told = tells x was in let from = reads told.0 told.1 in (
            told.0,
            told.1,
            λ f. is f ∙ ap (λ (l : List ℕ). done (pending_of w f) l) (one x from.0 was from.1 f)
                ∙ sym (same_done from.0 told.0 from.1 from.2 f),
          );
      nothing_new = λ s (y, now, is).
          let from = reads y now in (from.0, from.1, λ f. is f ∙ same_done from.0 y from.1 from.2 f);
    }

-- what is pending of a file changes, and the disk below doesn't
module _ (file : ℕ) (below : Sight) (w v : Waiting)
    (others : (other : ℕ) → other ≢ file → pending_of v other ≡ pending_of w other)
    (step : List ℕ → List ℕ → Type 0) where
  pub pending_reads : Placed below w
      → ((x : List ℕ) → place (pending_of w file) ≤ length x
      → step (done (pending_of w file) x) (done (pending_of v file) x))
      → ReadsFollow (OnFile file step) (over below w) (over below v)
  pending_reads placed makes s (x, was, is) = (
    λ f. done (pending_of w f) (x f),
    (x, was, λ f. refl),
    record {
      changed = subst (step (done (pending_of w file) (x file))) (sym (is file))
          (makes (x file) (placed x was file));
      others = λ other ne. is other ∙ ap (λ (r : Pending). done r (x other)) (others other ne);
    },
  )

  pub pending_images : ((x z : List ℕ) → MayDo (pending_of v file) x z
      → (y : List ℕ) × MayDo (pending_of w file) x y × step y z)
      → Follows (OnFile file step) (ImagesOver below w) (ImagesOver below v)
  pending_images makes c (x, image, may) =
      let half = makes (x file) (c file) (may file) in (
        with_file c file half.0,
        (
          x,
          image,
          by_file (λ (f : ℕ). MayDo (pending_of w f) (x f) (with_file c file half.0 f)) file
              (subst (MayDo (pending_of w file) (x file)) (sym (with_file_same c file half.0)) half.1)
              (λ other ne. subst (MayDo (pending_of w other) (x other)) (sym (with_file_other c file half.0 other ne))
              (subst (λ (r : Pending). MayDo r (x other) (c other)) (others other ne) (may other))),
        ),
        record {
          changed = subst (λ (l : List ℕ). step l (c file)) (sym (with_file_same c file half.0)) half.2;
          others = λ other ne. sym (with_file_other c file half.0 other ne);
        },
      )

-- it goes on telling, whatever is pending then
pub pending_tells : (below : Sight) (w v : Waiting) → GoesOnTelling (over below w) (over below v)
pending_tells below w v s (x, was, is) = ((λ f. done (pending_of v f) (x f)), (x, was, λ f. refl))

-- a call of the disk below
module _ (below after : Sight) (w : Waiting) where
  pub below_tells : GoesOnTelling below after → GoesOnTelling (over below w) (over after w)
  below_tells tells s (x, was, is) = let told = tells x was in
      ((λ f. done (pending_of w f) (told.0 f)), (told.0, told.1, λ f. refl))

  pub below_keeps : Keeps below after → Keeps (over below w) (over after w)
  below_keeps keeps = record {
    still = λ s (x, was, is). (x, keeps.still x was, is);
    nothing_new = λ s (x, was, is). (x, keeps.nothing_new x was, is);
  }

  pub below_same : Follows Same below.images after.images → Follows Same (ImagesOver below w) (ImagesOver after w)
  below_same crash c (y, image, may) =
      let from = crash y image in (
        c,
        (from.0, from.1, λ f. subst (λ (x : List ℕ). MayDo (pending_of w f) x (c f)) (from.2 f) (may f)),
        λ f. refl,
      )

  -- one that makes a step on a file of which nothing is pending
  module _ (file : ℕ) (none : pending_of w file ≡ Nothing) (step : List ℕ → List ℕ → Type 0) where
    as_done : (x : List ℕ) → done (pending_of w file) x ≡ x
    as_done x = ap (λ (r : Pending). done r x) none

    pub below_reads : Follows (OnFile file step) below.reads after.reads
        → ReadsFollow (OnFile file step) (over below w) (over after w)
    below_reads reads s (y, now, is) =
        let from = reads y now in (
          λ f. done (pending_of w f) (from.0 f),
          (from.0, from.1, λ f. refl),
          record {
            changed = subst (λ (l : List ℕ). step l (s file)) (sym (as_done (from.0 file)))
                (subst (step (from.0 file)) (sym (is file ∙ as_done (y file))) from.2.changed);
            others = λ other ne. is other ∙ ap (λ (l : List ℕ). done (pending_of w other) l) (from.2.others other ne);
          },
        )

    pub below_images : Follows (OnFile file step) below.images after.images
        → Follows (OnFile file step) (ImagesOver below w) (ImagesOver after w)
    below_images crash c (y, image, may) =
        let from = crash y image in
        let same : c file ≡ y file = subst (λ (r : Pending). MayDo r (y file) (c file)) none (may file) in (
          with_file c file (from.0 file),
          (
            from.0,
            from.1,
            by_file (λ (f : ℕ). MayDo (pending_of w f) (from.0 f) (with_file c file (from.0 file) f)) file
                (subst (MayDo (pending_of w file) (from.0 file)) (sym (with_file_same c file (from.0 file)))
                (may_not (pending_of w file) (from.0 file)))
                (λ other ne. subst (MayDo (pending_of w other) (from.0 other))
                (sym (with_file_other c file (from.0 file) other ne))
                (subst (λ (x : List ℕ). MayDo (pending_of w other) x (c other)) (from.2.others other ne) (may other))),
          ),
          record {
            changed = subst (λ (l : List ℕ). step l (c file)) (sym (with_file_same c file (from.0 file)))
                (subst (step (from.0 file)) (sym same) from.2.changed);
            others = λ other ne. sym (with_file_other c file (from.0 file) other ne);
          },
        )

-- what a read gives of a file of which nothing is pending, the disk below gives
module _ (below : Sight) (w : Waiting) (file : ℕ) (none : pending_of w file ≡ Nothing) where
  pub read_below : (s : Image) → ReadsOver below w s → (x : Image) × below.reads x × (s file ≡ x file)
  read_below s (x, was, is) = (x, was, is file ∙ ap (λ (r : Pending). done r (x file)) none)

  pub synced_over : Synced file below → Synced file (over below w)
  synced_over durable c (x, image, may) =
      let all = durable x image in (
        λ f. done (pending_of w f) (all.0 f),
        (all.0, all.1, λ f. refl),
        λ d (y, other, made).
            subst (λ (r : Pending). MayDo r (y file) (d file)) none (made file) ∙ all.2 y other
            ∙ sym (ap (λ (r : Pending). done r (all.0 file)) none),
      )
