-- What a call that a disk in memory keeps, or doesn't keep, makes of what the disk tells.
use Rattle.std.proofs.Common.{◌≡◌, ◌⊎◌, ⊎_elim, inl, inr, ℕ, Bool, true, false, Result, Ok, Err, List, [], ◌∷◌, ◌++◌, length, refl, sym, ◌∙◌, ap, subst}
use Rattle.std.specs.Prelude.{OnOk, OnErr}
use Rattle.std.proofs.lemmas.Result.{on_ok_weaker, on_err_weaker}
use Rattle.sm_disk.specs.Sight.{Image, Sight}
use Rattle.sm_disk.specs.Steps.{OnFile, Same, Follows, GoesOnTelling, Goes, Keeps, Synced}
use Rattle.sm_disk.specs.Calls.{acted, replayed, LeftByAct, MayAct, sight_of}
use Rattle.sm_disk.specs.Laws.{torn_not}
use Rattle.sm_disk.specs.Memory.{start_of, memory_sight, Counts, IsKept}
use Rattle.sm_disk.specs.declared.call.Act.{Act}
use Rattle.sm_disk.specs.declared.call.Act.TheVariants.{Write, Cut, Sync}
use Rattle.sm_disk.specs.declared.call.Call.{Call}
use Rattle.sm_disk.specs.declared.memory.MemoryDisk.{MemoryDisk}
use Rattle.sm_disk.proofs.Runs.{goes_nowhere, goes_weaker, all_same}
use Rattle.sm_disk.proofs.Replays.{goes_on, keeps_reads, synced_after, reads_on, read_done, read_failed, unsure, May, reading}

-- an act may leave the file
pub may_not : (act : Act) (bytes : List ℕ) → MayAct act bytes bytes
may_not (Write at piece) bytes = torn_not at (length piece) bytes
may_not (Cut end) bytes = inr refl
may_not Sync bytes = refl

-- a disk in memory always tells what a read gives
pub memory_tells : (old new : MemoryDisk) → GoesOnTelling (memory_sight old) (memory_sight new)
memory_tells old new s reads = ((λ file. replayed file new.calls.items (start_of new file)), λ file. refl)

-- nothing changed
pub reads_stay : (step : Image → Image → Type 0) (old new : Sight) → new ≡ old → ((c : Image) → step c c)
    → Follows step old.reads new.reads
reads_stay step old new is stays = subst (λ (s : Sight). Follows step old.reads s.reads) (sym is)
    (λ s reads. (s, reads, stays s))

pub goes_stay : (step : Image → Image → Type 0) (old new : Sight) → new ≡ old → ((c : Image) → step c c)
    → Goes step old new
goes_stay step old new is stays = subst (λ (s : Sight). Goes step old s) (sym is) (goes_nowhere step old stays)

pub keeps_stay : (old new : Sight) → new ≡ old → Keeps old new
keeps_stay old new is = subst (λ (s : Sight). Keeps old s) (sym is)
    (record { still = λ s reads. reads; nothing_new = λ s reads. reads })

pub on_file : (file : ℕ) (step : List ℕ → List ℕ → Type 0) → ((bytes : List ℕ) → step bytes bytes) → (c : Image)
    → OnFile file step c c
on_file file step stays c = record { changed = stays (c file); others = λ other ne. refl }

module _ (old new : MemoryDisk) (made faults : ℕ)
    (rest : new ≡ record old { calls = new.calls; made = made; faults = faults }) where
  sight_is : memory_sight new ≡ sight_of (start_of old) new.calls.items
  sight_is = ap memory_sight rest

  -- a call that isn't kept
  pub sight_same : new.calls.items ≡ old.calls.items → memory_sight new ≡ memory_sight old
  sight_same same = sight_is ∙ ap (sight_of (start_of old)) same

  module _ (call : Call) (kept : new.calls.items ≡ old.calls.items ++ call ∷ []) where
    pub sight_more : memory_sight new ≡ sight_of (start_of old) (old.calls.items ++ call ∷ [])
    sight_more = sight_is ∙ ap (sight_of (start_of old)) kept

    may : (act : Act) → call.act ≡ act → (c : List ℕ)
        → LeftByAct act call.done (reading (start_of old) old.calls.items call)
        (May (start_of old) old.calls.items call) c
        → (d : List ℕ) × May (start_of old) old.calls.items call d × MayAct act d c
    may (Write at piece) is c left = left
    may (Cut end) is c left = left
    may Sync is c left = unsure (start_of old) old.calls.items call is Sync call.done c refl left

    pub goes_more : Goes (OnFile call.file (MayAct call.act)) (memory_sight old) (memory_sight new)
    goes_more = subst (λ (s : Sight). Goes (OnFile call.file (MayAct call.act)) (memory_sight old) s) (sym sight_more)
        (goes_on (start_of old) old.calls.items call (MayAct call.act) (may call.act refl))

    pub reads_done : call.done ≡ true → Follows (OnFile call.file (λ old new. new ≡ acted call.act old))
        (memory_sight old).reads (memory_sight new).reads
    reads_done done =
        subst (λ (s : Sight). Follows (OnFile call.file (λ old new. new ≡ acted call.act old))
        (memory_sight old).reads s.reads) (sym sight_more)
        (reads_on (start_of old) old.calls.items call (λ old new. new ≡ acted call.act old)
        (read_done (start_of old) old.calls.items call (reading (start_of old) old.calls.items call) done))

    pub reads_failed : call.done ≡ false → Follows (OnFile call.file (MayAct call.act)) (memory_sight old).reads
        (memory_sight new).reads
    reads_failed failed =
        subst (λ (s : Sight). Follows (OnFile call.file (MayAct call.act)) (memory_sight old).reads s.reads)
        (sym sight_more) (reads_on (start_of old) old.calls.items call (MayAct call.act)
        (subst (MayAct call.act (reading (start_of old) old.calls.items call))
        (sym (read_failed (start_of old) old.calls.items call (reading (start_of old) old.calls.items call) failed))
        (may_not call.act (reading (start_of old) old.calls.items call))))

either : {T E A B : Type 0} (r : Result T E) → OnOk r A → OnErr r B → A ⊎ B
either (Ok x) ok err = inl ok
either (Err e) ok err = inr err

module _ {T E : Type 0} (file : ℕ) (act : Act) (old new : MemoryDisk) (result : Result T E)
    (counts : Counts old new result) (kept : IsKept file act old new result) where
  call_of : Bool → Call
  call_of done = record { file = file; done = done; act = act }

  abbrev pub Crash : Type 0
  Crash = Goes (OnFile file (MayAct act)) (memory_sight old) (memory_sight new)

  not_kept : new.calls.items ≡ old.calls.items → memory_sight new ≡ memory_sight old
  not_kept = sight_same old new _ _ counts.rest

  pub act_crash : Goes (OnFile file (MayAct act)) (memory_sight old) (memory_sight new)
  unfolding call_of
  act_crash = ⊎_elim
      (goes_more old new _ _ counts.rest (call_of true))
      (⊎_elim (λ failed. goes_more old new _ _ counts.rest (call_of false) failed.0)
      (λ same. goes_stay _ _ _ (not_kept same) (on_file file (MayAct act) (may_not act))))
      (either result kept.done kept.failed)

  pub act_done : OnOk result (Follows (OnFile file (λ old new. new ≡ acted act old)) (memory_sight old).reads
      (memory_sight new).reads)
  unfolding call_of
  act_done = on_ok_weaker result (λ kept. reads_done old new _ _ counts.rest (call_of true) kept refl) kept.done

  pub act_tried : OnErr result (Follows (OnFile file (MayAct act)) (memory_sight old).reads (memory_sight new).reads)
  unfolding call_of
  act_tried = on_err_weaker result
      (⊎_elim (λ failed. reads_failed old new _ _ counts.rest (call_of false) failed.0 refl)
      (λ same. reads_stay _ _ _ (not_kept same) (on_file file (MayAct act) (may_not act)))) kept.failed

module _ {T E : Type 0} (file : ℕ) (old new : MemoryDisk) (result : Result T E) (counts : Counts old new result)
    (kept : IsKept file Sync old new result) where
  pub sync_done : OnOk result (Synced file (memory_sight new))
  sync_done = on_ok_weaker result done kept.done
    where
      done : new.calls.items ≡ old.calls.items ++ record { file = file; done = true; act = Sync } ∷ []
          → Synced file (memory_sight new)
      done kept = subst (Synced file)
          (sym (sight_more old new _ _ counts.rest (record { file = file; done = true; act = Sync }) kept))
          (synced_after (start_of old) old.calls.items (record { file = file; done = true; act = Sync }) refl refl)

  pub sync_reads : Keeps (memory_sight old) (memory_sight new)
  sync_reads = ⊎_elim (more true) (⊎_elim (λ failed. more false failed.0)
      (λ same. keeps_stay _ _ (sight_same old new _ _ counts.rest same))) (either result kept.done kept.failed)
    where
      more : (done : Bool) → new.calls.items ≡ old.calls.items ++ record { file = file; done = done; act = Sync } ∷ []
          → Keeps (memory_sight old) (memory_sight new)
      more done kept = subst (Keeps (memory_sight old))
          (sym (sight_more old new _ _ counts.rest (record { file = file; done = done; act = Sync }) kept))
          (keeps_reads (start_of old) old.calls.items (record { file = file; done = done; act = Sync }) refl)

  pub sync_crash : Goes Same (memory_sight old) (memory_sight new)
  sync_crash = goes_weaker (OnFile file (λ old new. new ≡ old)) Same _ _ (all_same file)
      (act_crash file Sync old new result counts kept)
