-- Calls one after the other: how they join, where Restarts stand, and that the disk's count of faults never falls.
use Rattle.std.proofs.Common.{◌≡◌, ℕ, zero, suc, ◌≤◌, List, [], ◌∷◌, ◌++◌, length, slice_get, Option, Some, None, refl, ap, subst, ◌∙◌, arith}
use Rattle.sm_disk.specs.Sight.{Sight}
use Rattle.sm_disk.specs.declared.disk.Disk.{Ghosts as DiskGhosts}
use Rattle.sm_drive.specs.Disks.{Disks, GoesOver, Touches}
use Rattle.sm_drive.specs.Openings.{Tells, TellsAtRestarts}
use Rattle.sm_drive.specs.Turns.{InTurn}
use Rattle.sm_drive.specs.declared.call.Call.{Call}
use Rattle.sm_drive.specs.declared.call.Call.TheVariants.{Restart}
use Rattle.sm_drive.specs.declared.outcome.Outcome.{Outcome}

-- ---- they join

module _ {A : Type 0} (goes : Call → Outcome → A → A → Type 0) where
  pub turns_join : (calls others : List Call) (outs next : List Outcome) (first mid last : A)
      → InTurn goes calls outs first mid → InTurn goes others next mid last
      → InTurn goes (calls ++ others) (outs ++ next) first last
  turns_join [] others [] next first mid last turns more =
      subst (λ (a : A). InTurn goes others next a last) turns more
  turns_join [] others (out ∷ outs) next first mid last turns more = absurd turns
  turns_join (call ∷ calls) others [] next first mid last turns more = absurd turns
  turns_join (call ∷ calls) others (out ∷ outs) next first mid last (step, goes_to, rest) more =
      (step, goes_to, turns_join calls others outs next step mid last rest more)

  -- one call more
  pub turns_more : (calls : List Call) (outs : List Outcome) (call : Call) (out : Outcome) (first mid last : A)
      → InTurn goes calls outs first mid → goes call out mid last
      → InTurn goes (calls ++ call ∷ []) (outs ++ out ∷ []) first last
  turns_more calls outs call out first mid last turns goes_to =
      turns_join calls (call ∷ []) outs (out ∷ []) first mid last turns (last, goes_to, refl)

-- ---- places

pub none_some : {A : Type 0} (a : A) → ◌≡◌ {A = Option A} None (Some a) → ⊥
none_some a same = cc

get_front : (calls others : List Call) (place : ℕ) (call : Call) → slice_get calls place ≡ Some call
    → slice_get (calls ++ others) place ≡ Some call
get_front [] others place call at = absurd (none_some call at)
get_front (c ∷ calls) others zero call at = at
get_front (c ∷ calls) others (suc place) call at = get_front calls others place call at

pub get_past : {A : Type 0} (front : List A) (a : A) (rest : List A)
    → slice_get (front ++ a ∷ rest) (length front) ≡ Some a
get_past [] a rest = refl
get_past (b ∷ front) a rest = get_past front a rest

-- ---- Restarts

pub tells_front : (calls others : List Call) (now : Sight) → TellsAtRestarts (calls ++ others) now
    → TellsAtRestarts calls now
tells_front calls others now tells = λ place at. tells place (get_front calls others place Restart at)

pub tells_last : (calls : List Call) (call : Call) (now : Sight) → TellsAtRestarts (calls ++ call ∷ []) now
    → call ≡ Restart → Tells now
tells_last calls call now tells is = tells (length calls) (get_past calls call [] ∙ ap Some is)

-- ---- the disk's count of faults

module _ {D : Type 0} (G : DiskGhosts D) where
  touched_later : (calls : List Call) (outs : List Outcome) (first last : Disks D)
      → InTurn (Touches G) calls outs first last → G.faults first.now ≤ G.faults last.now
  touched_later [] [] first last same = omega (arith, ap (λ (d : Disks D). G.faults d.now) same)
  touched_later [] (out ∷ outs) first last turns = absurd turns
  touched_later (call ∷ calls) [] first last turns = absurd turns
  touched_later (call ∷ calls) (out ∷ outs) first last (next, touches, rest) =
      omega (arith, touches.later, touched_later calls outs next last rest)

  pub over_later : (given : D) (calls : List Call) (outs : List Outcome) (last : Disks D)
      → GoesOver G given calls outs last → G.faults given ≤ G.faults last.now
  over_later given calls outs last over =
      omega (
        arith,
        over.no_other,
        touched_later calls outs (record { began = given; now = over.opened }) last over.touched,
      )

  pub over_more : (given : D) (calls : List Call) (outs : List Outcome) (call : Call) (out : Outcome)
      (mid last : Disks D) → GoesOver G given calls outs mid → Touches G call out mid last
      → GoesOver G given (calls ++ call ∷ []) (outs ++ out ∷ []) last
  over_more given calls outs call out mid last over touches = record {
    opened = over.opened;
    no_other = over.no_other;
    touched = turns_more (Touches G) calls outs call out (record { began = given; now = over.opened }) mid last
        over.touched touches;
  }
