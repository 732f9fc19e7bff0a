-- How many entries an account has, and what they are counted from.
use Rattle.std.proofs.Common.{◌≡◌, ◌+◌, ◌≤◌, length, length-append, sym, ap, subst, arith}
use Rattle.std.proofs.Math.Logic.{∥∥₁_elim}
use Rattle.std.proofs.Props.{props}
use native.Mathlib.Bridge.{le_prop}
use Rattle.sm_disk.specs.declared.disk.Disk.{Ghosts}
use Rattle.sm_recovery.specs.Lawful.{base_under}
use Rattle.sm_record.specs.declared.base.Base.{Base}
use Rattle.sm_recovery.specs.Following.{entries_limit}
use Rattle.sm_recovery.proofs.FollowLemmas.{after_count}
use Rattle.sm_base_check.specs.Bases.{IsSound}
use Rattle.sm_table.proofs.PropLemmas.{Sound-prop}
use Rattle.sm_account.specs.declared.account_state.AccountState.{AccountState}
use Rattle.sm_account.specs.AccountState.{Kept, history_in, state_in}
use Rattle.sm_account.specs.History.{entries_in}
use Rattle.sm_account.specs.States.{State}

-- that a base is sound has one proof at most
sound_prop : (base : Base) → IsProp (IsSound base)
sound_prop base = Prim.hlevel (Sound-prop, props)

module _ {D : Type 0} {G : Ghosts D} (inner : AccountState D G) (kept : Kept G inner) where
  -- the entries behind the base, and those before it
  pub counted_in : inner.base.entries + length inner.entries.items ≡ (state_in inner).before + inner.made
  counted_in =
      omega (
        arith,
        ap (λ (b : Base). b.entries) kept.based,
        ap length kept.whole,
        length-append inner.taken.value.entries (entries_in (history_in inner)),
        after_count (base_under inner.taken.value.base) inner.taken.value.entries,
        ap (λ (s : State). s.made) kept.state,
      )

  -- they can be counted
  pub count_fits : inner.base.entries + length inner.entries.items ≤ entries_limit
  count_fits = ∥∥₁_elim kept.lawful le_prop
      (λ lawful. omega (
        arith,
        ap (λ (b : Base). b.entries) kept.based,
        ap length kept.whole,
        lawful.come.counted,
      ))

  pub kept_base : IsSound inner.base
  kept_base = subst IsSound (sym kept.based)
      (∥∥₁_elim kept.lawful (sound_prop (base_under inner.taken.value.base)) (λ lawful. lawful.sound))
