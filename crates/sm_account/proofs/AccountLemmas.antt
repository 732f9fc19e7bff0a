-- What an account keeps of what it began with.
use Rattle.std.proofs.Common.{◌≡◌, ap, ◌∙◌}
use Rattle.sm_disk.specs.declared.disk.Disk.{Ghosts}
use Rattle.sm_rotator.specs.declared.rotator.Rotator.{Ghosts as RotatorGhosts}
use Rattle.sm_account.specs.declared.account.Account.{Account}
use Rattle.sm_account.specs.Accounts as accounts
use Rattle.sm_account.specs.AccountState.{SameOrigin}
use Rattle.sm_account.specs.States.{base_of}

pub same_origin : {D R : Type 0} {G : Ghosts D} {V : RotatorGhosts R} (old new : Account D R G V)
    → SameOrigin old.inner new.inner → new.doors ≡ old.doors → new.doors_at_opening ≡ old.doors_at_opening
    → accounts.SameOrigin old new
same_origin old new origin doors opening = record {
  taken_stays = origin.taken;
  began_stays = origin.began;
  base_stays =
      ap (λ t. base_of t new.inner.limit) origin.taken ∙ ap (base_of old.inner.taken.value) origin.limit;
  doors_stay = doors;
  opening_stays = opening;
}
