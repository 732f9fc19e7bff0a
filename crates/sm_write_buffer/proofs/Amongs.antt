-- What a crash within a call might have left of the disk below is among what is told.
use Rattle.std.proofs.Common.{◌≡◌, inl, inr, ⊎_elim, ℕ, ◌<◌, ◌≤◌, List, [], ◌∷◌, length, sym, subst, arith}
use Rattle.std.proofs.Math.Logic.{∥∥₁_map}
use Rattle.sm_disk.specs.Sight.{Image, Sight}
use Rattle.sm_disk.specs.Steps.{Same, Follows, Goes}
use Rattle.sm_write_buffer.specs.Gathering.{MayDo, pending_of, ImagesOver, over, LeftSince, BelowAt, AmongTold, WasTold, TellsBelow}
use Rattle.sm_write_buffer.specs.Laws.{may_not}
use Rattle.sm_write_buffer.specs.declared.waiting.Waiting.{Waiting}

-- what a crash may leave of the disk below, it may leave over it
pub image_over : (below : Sight) (w : Waiting) (c : Image) → below.images c → ImagesOver below w c
image_over below w c image = (c, image, λ f. may_not (pending_of w f) (c f))

-- what changes nothing leaves of the disk below what was told before
pub image_before : (below after : Sight) (w v : Waiting) → Follows Same (over below w).images (over after v).images
    → (c : Image) → after.images c → ImagesOver below w c
image_before below after w v follows c image =
    let from = follows c (image_over after v c image) in
    (from.1.0, from.1.1, λ f. subst (MayDo (pending_of w f) (from.1.0 f)) (sym (from.2 f)) (from.1.2 f))

module _ {D : Type 0} (sight : D → Sight) where
  -- a told moment is one of them
  within : (past : List (D × Waiting)) (t m : ℕ) → BelowAt sight past t m → t < length past
  within [] t m at = absurd at
  within (now ∷ past) t m at = ⊎_elim (λ here. let is : t ≡ length past = here.0 in omega (arith, is))
      (λ before. let lt : t < length past = within past t m before in omega (arith, lt)) at

  -- what was told at the last moment is told from each of them on
  told_since : (disk : D) (past : List (D × Waiting)) → WasTold sight disk past → (t m : ℕ) → BelowAt sight past t m
      → (c : Image) → (sight disk).images c → LeftSince sight past t c
  told_since disk [] told t m at c image = absurd told
  told_since disk (last ∷ past) told t m at c image =
      let lt : t < length (last ∷ past) = within (last ∷ past) t m at in inl (omega (arith, lt), told c image)

  -- nothing was before
  pub among_nothing : (disk : D) (past : List (D × Waiting)) → past ≡ [] → ∥ AmongTold sight disk past ∥₁
  among_nothing disk past is = ∣ subst (λ (l : List (D × Waiting)). AmongTold sight disk l) (sym is) (record {
    later = λ t m at. absurd at;
    left = λ t m at. absurd at;
  }) ∣₁

  module _ (disk : D) (w : Waiting) (past now : List (D × Waiting)) (is : now ≡ (disk, w) ∷ past) where
    -- a call begins
    noted : ((c : Image) → (sight disk).left_since (sight disk).moment c → (sight disk).images c)
        → AmongTold sight disk past → AmongTold sight disk now
    noted only among = subst (λ (l : List (D × Waiting)). AmongTold sight disk l) (sym is) (record {
      later = λ t m at. ⊎_elim (λ here. let same : m ≡ (sight disk).moment = here.1 in omega (arith, same))
          (λ before. among.later t m before) at;
      left = λ t m at c left. ⊎_elim
          (λ here. inl (only c (subst (λ (n : ℕ). (sight disk).left_since n c) here.1 left)))
          (λ before. ⊎_elim (λ image. inl image) (λ told. inr (inr told)) (among.left t m before c left)) at;
    })

    pub among_noted : ((c : Image) → (sight disk).left_since (sight disk).moment c → (sight disk).images c)
        → ∥ AmongTold sight disk past ∥₁ → ∥ AmongTold sight disk now ∥₁
    among_noted only told = ∥∥₁_map told (noted only)

    pub told_noted : WasTold sight disk now
    told_noted = subst (λ (l : List (D × Waiting)). WasTold sight disk l) (sym is)
        (λ c image. image_over (sight disk) w c image)

    -- and so far it changed nothing
    pub told_same : (disk' : D) (v : Waiting) → Follows Same (over (sight disk) w).images (over (sight disk') v).images
        → WasTold sight disk' now
    told_same disk' v follows = subst (λ (l : List (D × Waiting)). WasTold sight disk' l) (sym is)
        (λ c image. image_before (sight disk) (sight disk') w v follows c image)

    -- or nothing of the disk below that wasn't told
    pub told_images : (disk' : D) → ((c : Image) → (sight disk').images c → ImagesOver (sight disk) w c)
        → WasTold sight disk' now
    told_images disk' images = subst (λ (l : List (D × Waiting)). WasTold sight disk' l) (sym is) images

  -- a call of the disk below
  pub among_stepped : (step : Image → Image → Type 0) (disk disk' : D) (past : List (D × Waiting))
      → Goes step (sight disk) (sight disk') → WasTold sight disk past → ∥ AmongTold sight disk past ∥₁
      → ∥ AmongTold sight disk' past ∥₁
  among_stepped step disk disk' past goes told before = ∥∥₁_map before (λ among. record {
    later = λ t m at. let le : m ≤ (sight disk).moment = among.later t m at in omega (arith, le, goes.later);
    left = λ t m at c left. ⊎_elim
        (λ was. inr (⊎_elim (λ image. told_since disk past told t m at c image) (λ before. before)
        (among.left t m at c was)))
        (λ image. inl image) (goes.nothing_else m c (among.later t m at) left);
  })

  -- so what is told has all that the disk below might have left
  tells : (disk : D) (w : Waiting) (past : List (D × Waiting))
      → ((c : Image) → (sight disk).left_since (sight disk).moment c → (sight disk).images c)
      → AmongTold sight disk past → TellsBelow sight disk w past
  tells disk w past only among t m at c left = ⊎_elim
      (λ here. let is : t ≡ length past = here.0 in inl (
        omega (arith, is),
        image_over (sight disk) w c
            (only c (subst (λ (n : ℕ). (sight disk).left_since n c) here.1 left)),
      ))
      (λ before. let lt : t < length past = within past t m before in
      ⊎_elim (λ image. inl (omega (arith, lt), image_over (sight disk) w c image)) (λ told. inr told)
      (among.left t m before c left)) at

  pub tells_below : (disk : D) (w : Waiting) (past : List (D × Waiting))
      → ((c : Image) → (sight disk).left_since (sight disk).moment c → (sight disk).images c)
      → ∥ AmongTold sight disk past ∥₁ → ∥ TellsBelow sight disk w past ∥₁
  tells_below disk w past only among = ∥∥₁_map among (tells disk w past only)
