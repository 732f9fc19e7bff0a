-- What is told once a moment more has gone by.
use Rattle.std.proofs.Common.{◌≡◌, inl, inr, ⊎_elim, List, ◌∷◌, sym, subst, arith}
use Rattle.sm_disk.specs.Sight.{Image, Sight}
use Rattle.sm_disk.specs.Steps.{Follows, Goes, Keeps}
use Rattle.sm_write_buffer.specs.Gathering.{over, gathered_sight}
use Rattle.sm_write_buffer.specs.declared.waiting.Waiting.{Waiting}

module _ {D : Type 0} (sight : D → Sight) where
  -- a crash leaves what it might have left before, after a step
  went_on : (step : Image → Image → Type 0) (disk disk' : D) (w v : Waiting) (past : List (D × Waiting))
      → Follows step (over (sight disk) w).images (over (sight disk') v).images
      → Goes step (gathered_sight sight disk w past) (gathered_sight sight disk' v ((disk, w) ∷ past))
  went_on step disk disk' w v past crash = record {
    crash = crash;
    later = omega arith;
    nothing_else = λ t c le left. ⊎_elim (λ here. inr here.1) (λ before. inl before) left;
    keeps = λ t c le left. inr left;
  }

  pub went : (step : Image → Image → Type 0) (disk disk' : D) (w v : Waiting) (past now : List (D × Waiting))
      → now ≡ (disk, w) ∷ past → Follows step (over (sight disk) w).images (over (sight disk') v).images
      → Goes step (gathered_sight sight disk w past) (gathered_sight sight disk' v now)
  went step disk disk' w v past now is crash =
      subst (λ (l : List (D × Waiting)). Goes step (gathered_sight sight disk w past) (gathered_sight sight disk' v l))
      (sym is) (went_on step disk disk' w v past crash)

  -- what a read gives stays, whatever was before
  pub kept : (disk disk' : D) (w v : Waiting) (past now : List (D × Waiting))
      → Keeps (over (sight disk) w) (over (sight disk') v)
      → Keeps (gathered_sight sight disk w past) (gathered_sight sight disk' v now)
  kept disk disk' w v past now keeps = record { still = keeps.still; nothing_new = keeps.nothing_new }
