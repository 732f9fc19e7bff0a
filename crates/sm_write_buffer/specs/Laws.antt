-- What always holds of what is told.
use Rattle.std.specs.Prelude.{◌≡◌, ℕ, ◌<◌, ◌≤◌, List, [], ◌∷◌, length, refl}
use Rattle.std.proofs.Common.{inl, inr, ⊎_elim, sym, ◌∙◌, ap, subst, arith}
use Rattle.sm_disk.specs.Sight.{Image, Sight}
use Rattle.sm_disk.specs.Laws.{torn_whole, torn_not}
use Rattle.sm_write_buffer.specs.Gathering.{done, MayDo, pending_of, ReadsOver, ImagesOver, LeftSince, gathered_sight}
use Rattle.sm_write_buffer.specs.declared.pending.Pending.{Pending}
use Rattle.sm_write_buffer.specs.declared.pending.Pending.TheVariants.{Nothing, Write, Cut}
use Rattle.sm_write_buffer.specs.declared.waiting.Waiting.{Waiting}

-- it may be that nothing comes of it
pub may_not : (p : Pending) (x : List ℕ) → MayDo p x x
may_not Nothing x = refl
may_not (Write at piece) x = torn_not at (length piece) x
may_not (Cut end) x = inr refl

-- it may be that all of it is done
pub may_all : (p : Pending) (x : List ℕ) → MayDo p x (done p x)
may_all Nothing x = refl
may_all (Write at piece) x = torn_whole at piece x
may_all (Cut end) x = inl refl

-- where a read of the disk below gives one answer, a read over it does
pub one_over : (below : Sight) → ((r s : Image) → below.reads r → below.reads s → (file : ℕ) → r file ≡ s file)
    → (w : Waiting) (r s : Image) → ReadsOver below w r → ReadsOver below w s → (file : ℕ) → r file ≡ s file
one_over below one w r s (x, first, is) (y, second, also) file =
    is file ∙ ap (λ (l : List ℕ). done (pending_of w file) l) (one x y first second file) ∙ sym (also file)

module _ {D : Type 0} (sight : D → Sight) where
  -- there is no moment behind the last
  none_behind : (past : List (D × Waiting)) (t : ℕ) (c : Image) → LeftSince sight past t c → t < length past
  none_behind [] t c left = absurd left
  none_behind (now ∷ past) t c left = ⊎_elim (λ here. let le : t ≤ length past = here.0 in omega (arith, le))
      (λ before. let lt : t < length past = none_behind past t c before in omega (arith, lt)) left

  pub reads_image : ((disk : D) (s : Image) → (sight disk).reads s → (sight disk).images s)
      → (disk : D) (w : Waiting) (past : List (D × Waiting)) (s : Image)
      → (gathered_sight sight disk w past).reads s → (gathered_sight sight disk w past).images s
  reads_image below disk w past s (x, was, is) = (
    x,
    below disk x was,
    λ file. subst (MayDo (pending_of w file) (x file)) (sym (is file)) (may_all (pending_of w file) (x file)),
  )

  module _ (disk : D) (w : Waiting) (past : List (D × Waiting)) where
    pub counts_now : (t : ℕ) (c : Image) → t ≤ length past → ImagesOver (sight disk) w c
        → (gathered_sight sight disk w past).left_since t c
    counts_now t c le image = inl (le, image)

    pub only_now : (c : Image) → (gathered_sight sight disk w past).left_since (length past) c
        → ImagesOver (sight disk) w c
    only_now c left = ⊎_elim (λ here. here.1)
        (λ before. let lt : length past < length past = none_behind past (length past) c before in
        absurd (omega (arith, lt))) left
