-- What always holds of files in memory.
use Rattle.std.specs.Prelude.{◌≡◌, ℕ, ◌+◌, ◌-◌, ◌<◌, ◌≤◌, ◌==◌, ◌&&◌, Bool, true, false, MatchBool, if◌then◌else◌, min, List, [], ◌∷◌, ◌++◌, length, take, drop, refl}
use Rattle.std.proofs.Common.{sym, ◌∙◌, ap, subst, inl, inr, ⊎_elim, arith, length-append, length-take, length-drop, append_assoc}
use Rattle.std.proofs.lemmas.List.{take_at, drop_at, take_all, drop_all, take_min}
use Rattle.std.proofs.lemmas.Bool.{cases_lt}
use Rattle.sm_disk.specs.Sight.{Image}
use Rattle.sm_disk.specs.Steps.{Torn}
use Rattle.sm_disk.specs.Calls.{acted, read_after, replayed, LeftByAct, LeftByCall, LeftByCalls, IsImage, sight_of}
use Rattle.sm_disk.specs.declared.call.Act.{Act}
use Rattle.sm_disk.specs.declared.call.Act.TheVariants.{Write, Cut, Sync}
use Rattle.sm_disk.specs.declared.call.Call.{Call}

module _ (at : ℕ) (piece old : List ℕ) where
  whole : List ℕ
  whole = take at old ++ piece ++ drop (at + length piece) old

  length-whole : length whole ≡ min at (length old) + length piece + (length old - (at + length piece))
  unfolding whole
  length-whole = omega (
    arith,
    length-append (take at old ++ piece) (drop (at + length piece) old),
    length-append
        (take at old) piece,
    length-take at old,
    length-drop (at + length piece) old,
  )

  front : take (min at (length old)) whole ≡ take at old
  unfolding whole
  front = ap (λ (l : List ℕ). take (min at (length old)) l)
      (append_assoc (take at old) piece (drop (at + length piece) old))
      ∙ take_at (take at old) (piece ++ drop (at + length piece) old) (min at (length old)) (length-take at old)

  back : drop (at + length piece) whole ≡ drop (at + length piece) old
  unfolding whole
  back = ⊎_elim far near (cases_lt (length old) at)
    where
      far : length old < at → drop (at + length piece) (take at old ++ piece ++ drop (at + length piece) old)
          ≡ drop (at + length piece) old
      far lt = drop_all (at + length piece) (take at old ++ piece ++ drop (at + length piece) old)
          (omega (arith, length-whole)) ∙ sym (drop_all (at + length piece) old (omega arith))

      near : at ≤ length old → drop (at + length piece) (take at old ++ piece ++ drop (at + length piece) old)
          ≡ drop (at + length piece) old
      near le = drop_at (take at old ++ piece) (drop (at + length piece) old) (at + length piece)
          (omega (arith, length-append (take at old) piece, length-take at old))

  -- a write that is done is one of those that a crash cuts short
  pub torn_whole : Torn at (length piece) old (take at old ++ piece ++ drop (at + length piece) old)
  unfolding whole
  torn_whole = record {
    before = front;
    after = back;
    no_shorter = omega (arith, length-whole);
    no_longer =
        omega (arith, length-whole);
  }

pub torn_not : (at n : ℕ) (old : List ℕ) → Torn at n old old
torn_not at n old = record { before = take_min at old; after = refl; no_shorter = omega arith; no_longer = omega arith }

-- what an act leaves to be read is one of the contents that a crash may leave
act_left : (here done : Bool) (act : Act) (bytes : List ℕ) (may : List ℕ → Type 0) → may bytes
    → MatchBool here (LeftByAct act done bytes may (if here && done then acted act bytes else bytes))
    (may (if here && done then acted act bytes else bytes))
act_left false done act bytes may now = now
act_left true true (Write at piece) bytes may now = (bytes, now, torn_whole at piece bytes)
act_left true true (Cut end) bytes may now = (bytes, now, inl refl)
act_left true true Sync bytes may now = refl
act_left true false (Write at piece) bytes may now = (bytes, now, torn_not at (length piece) bytes)
act_left true false (Cut end) bytes may now = (bytes, now, inr refl)
act_left true false Sync bytes may now = now

-- what a read gives is one of the contents that a crash may leave
pub replayed_left : (file : ℕ) (calls : List Call) (bytes : List ℕ) (may : List ℕ → Type 0) → may bytes
    → LeftByCalls file calls bytes may (replayed file calls bytes)
replayed_left file [] bytes may now = now
replayed_left file (call ∷ calls) bytes may now =
    replayed_left file calls (read_after file call bytes) (LeftByCall file call bytes may)
    (act_left (call.file == file) call.done call.act bytes may now)

module _ (start : Image) (calls : List Call) where
  pub reads_image : (s : Image) → (sight_of start calls).reads s → (sight_of start calls).images s
  reads_image s reads file = subst (LeftByCalls file calls (start file) (λ d. d ≡ start file)) (sym (reads file))
      (replayed_left file calls (start file) (λ d. d ≡ start file) refl)

  at_end : (c : Image) → IsImage start (take (length calls) calls) c → IsImage start calls c
  at_end c image = subst (λ (l : List Call). IsImage start l c) (take_all (length calls) calls (omega arith)) image

  pub counts_now : (t : ℕ) (c : Image) → t ≤ length calls → IsImage start calls c
      → (sight_of start calls).left_since t c
  counts_now t c le image = (
    length calls,
    le,
    omega arith,
    subst (λ (l : List Call). IsImage start l c)
        (sym (take_all (length calls) calls (omega arith))) image,
  )

  pub only_now : (c : Image) → (sight_of start calls).left_since (length calls) c → IsImage start calls c
  only_now c (k, from, to, image) = let same : k ≡ length calls = omega arith in
      at_end c (subst (λ (n : ℕ). IsImage start (take n calls) c) same image)
