-- An account of which only the count of open doors changes.
use Rattle.std.proofs.Common.{◌≡◌, ℕ}
use Rattle.std.proofs.Math.Logic.{∥∥₁_prop}
use mathlib.Core.HLevel.{is_prop→PathP}
use Rattle.sm_disk.specs.declared.disk.Disk.{Ghosts}
use Rattle.sm_rotator.specs.declared.rotator.Rotator.{Ghosts as RotatorGhosts}
use Rattle.sm_account.specs.declared.account.Account.{Account}
use Rattle.sm_account.specs.Allowed.{EntriesAllowed}
use Rattle.sm_account.specs.AccountState.{Kept}
use Rattle.sm_account.specs.KeptOnce.{Kept-prop}

pub doors_alone : {D R : Type 0} {G : Ghosts D} {V : RotatorGhosts R} (old new : Account D R G V) (doors : ℕ)
    → new.inner ≡ old.inner → new.rotator ≡ old.rotator → new.doors ≡ doors
    → new.doors_at_opening ≡ old.doors_at_opening → new ≡ record old { doors = doors }
doors_alone {G = G} {V = V} old new doors inner rotator is opening = λ i. record {
  inner = inner i;
  doors = is i;
  doors_at_opening = opening i;
  rotator = rotator i;
  kept = is_prop→PathP (λ i. Kept G (inner i)) (λ i. Kept-prop (inner i)) new.kept old.kept i;
  allowed = is_prop→PathP (λ i. ∥ EntriesAllowed V.replies (inner i) ∥₁) (λ i. ∥∥₁_prop) new.allowed old.allowed i;
}
