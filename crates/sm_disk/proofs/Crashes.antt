-- What `crash` gives is one of the contents that a crash may leave.
use Rattle.std.proofs.Common.{◌≡◌, inl, inr, ⊎_elim, ℕ, zero, suc, ◌+◌, ◌<◌, ◌≤◌, ◌&&◌, Bool, true, false, MatchBool, cond, ◌==◌, ltb, List, [], ◌∷◌, ◌++◌, length, take, drop, map, replicate, refl, sym, ◌∙◌, ap, subst, arith, take-append-drop}
use Rattle.std.proofs.lemmas.List.{length-replicate}
use Rattle.std.proofs.lemmas.Bool.{cases_Bool, cases_lt, lt-ltb, le-ltb, true≢false, cond-true, cond-false, cond_both}
use Rattle.sm_disk.specs.Sight.{Image}
use Rattle.sm_disk.specs.Steps.{Torn}
use Rattle.sm_disk.specs.Laws.{torn_whole, torn_not, replayed_left}
use Rattle.sm_disk.specs.Calls.{acted, read_after, replayed, LeftByAct, LeftByCall, LeftByCalls, IsImage, syncs, count_to_last, synced_calls, is_sync, filled_act, filled, crashed}
use Rattle.sm_disk.specs.declared.call.Act.{Act}
use Rattle.sm_disk.specs.declared.call.Act.TheVariants.{Write, Cut, Sync}
use Rattle.sm_disk.specs.declared.call.Call.{Call}
use Rattle.sm_disk.specs.declared.memory.MemoryDisk.{MemoryDisk}
use Rattle.sm_disk.specs.Memory.{start_of, IsMade}
use Rattle.sm_base.specs.declared.fails.Fails.{Fails}

module _ (test : Call → Bool) (call : Call) (calls : List Call) where
  abbrev rest : ℕ
  rest = count_to_last test calls

  all : List Call
  all = call ∷ calls

  further : 0 < rest → count_to_last test (call ∷ calls) ≡ suc rest
  further lt = let more : rest + 1 ≡ suc rest = omega arith in
      cond-true (ltb 0 rest) (rest + 1) (cond (test call) 1 0) (lt-ltb 0 rest lt) ∙ more

  here : rest ≤ 0 → test call ≡ true → count_to_last test (call ∷ calls) ≡ 1
  here le passes = cond-false (ltb 0 rest) (rest + 1) (cond (test call) 1 0) (le-ltb 0 rest le)
      ∙ cond-true (test call) 1 0 passes

  nowhere : rest ≤ 0 → test call ≡ false → count_to_last test (call ∷ calls) ≡ 0
  nowhere le fails = cond-false (ltb 0 rest) (rest + 1) (cond (test call) 1 0) (le-ltb 0 rest le)
      ∙ cond-false (test call) 1 0 fails

  -- no first item passes, nor do the others
  first_fails : count_to_last test (call ∷ calls) ≡ 0 → (test call ≡ false) × (rest ≡ 0)
  first_fails none = ⊎_elim (λ lt. absurd (omega (arith, further lt, none)))
      (λ le. ⊎_elim (λ passes. absurd (omega (arith, here le passes, none))) (λ fails. (fails, omega (arith, le)))
      (cases_Bool (test call))) (cases_lt 0 rest)

-- nothing behind the last item that passes does
none_passes : (test : Call → Bool) (calls : List Call) → count_to_last test (drop (count_to_last test calls) calls) ≡ 0
none_passes test [] = refl
none_passes test (call ∷ calls) = ⊎_elim (after (none_passes test calls))
    (λ le. ⊎_elim (at_first le) (nowhere_at_all le) (cases_Bool (test call))) (cases_lt 0 (count_to_last test calls))
  where
    from : (n : ℕ) → count_to_last test (call ∷ calls) ≡ n → count_to_last test (drop n (call ∷ calls)) ≡ 0
        → count_to_last test (drop (count_to_last test (call ∷ calls)) (call ∷ calls)) ≡ 0
    from n is none = ap (λ (k : ℕ). count_to_last test (drop k (call ∷ calls))) is ∙ none

    after : count_to_last test (drop (count_to_last test calls) calls) ≡ 0 → 0 < count_to_last test calls
        → count_to_last test (drop (count_to_last test (call ∷ calls)) (call ∷ calls)) ≡ 0
    after none lt = from (suc (count_to_last test calls)) (further test call calls lt) none

    at_first : count_to_last test calls ≤ 0 → test call ≡ true
        → count_to_last test (drop (count_to_last test (call ∷ calls)) (call ∷ calls)) ≡ 0
    at_first le passes = from 1 (here test call calls le passes) (omega (arith, le))

    nowhere_at_all : count_to_last test calls ≤ 0 → test call ≡ false
        → count_to_last test (drop (count_to_last test (call ∷ calls)) (call ∷ calls)) ≡ 0
    nowhere_at_all le fails = from 0 (nowhere test call calls le fails) (nowhere test call calls le fails)

pub replayed-append : (file : ℕ) (first later : List Call) (bytes : List ℕ)
    → replayed file (first ++ later) bytes ≡ replayed file later (replayed file first bytes)
replayed-append file [] later bytes = refl
replayed-append file (call ∷ first) later bytes = replayed-append file first later (read_after file call bytes)

left_append : (file : ℕ) (first later : List Call) (bytes : List ℕ) (may : List ℕ → Type 0) (c : List ℕ)
    → LeftByCalls file later (replayed file first bytes) (LeftByCalls file first bytes may) c
    → LeftByCalls file (first ++ later) bytes may c
left_append file [] later bytes may c left = left
left_append file (call ∷ first) later bytes may c left =
    left_append file first later (read_after file call bytes) (LeftByCall file call bytes may) c left

-- what a call that syncs nothing may leave: what might have been left before it
act_stays : (here done : Bool) (act : Act) (bytes : List ℕ) (may : List ℕ → Type 0) (d : List ℕ)
    → (here && done && is_sync act) ≡ false → may d
    → MatchBool here (LeftByAct act done bytes may d) (may d)
act_stays false done act bytes may d fails was = was
act_stays true done (Write at piece) bytes may d fails was = (d, was, torn_not at (length piece) d)
act_stays true done (Cut end) bytes may d fails was = (d, was, inr refl)
act_stays true true Sync bytes may d fails was = absurd (true≢false fails)
act_stays true false Sync bytes may d fails was = was

-- or that, with what it writes replaced
act_fills : (fill : ℕ) (here done : Bool) (act : Act) (bytes : List ℕ) (may : List ℕ → Type 0) (d : List ℕ)
    → (here && done && is_sync act) ≡ false → may d
    → MatchBool here (LeftByAct act done bytes may (cond (here && done) (acted (filled_act fill act) d) d))
    (may (cond (here && done) (acted (filled_act fill act) d) d))
act_fills fill false done act bytes may d fails was = was
act_fills fill true true (Write at piece) bytes may d fails was = (
  d,
  was,
  subst (λ (n : ℕ). Torn at n d (acted (Write at (replicate (length piece) fill)) d))
      (length-replicate (length piece) fill) (torn_whole at (replicate (length piece) fill) d),
)
act_fills fill true true (Cut end) bytes may d fails was = (d, was, inl refl)
act_fills fill true true Sync bytes may d fails was = absurd (true≢false fails)
act_fills fill true false (Write at piece) bytes may d fails was = (d, was, torn_not at (length piece) d)
act_fills fill true false (Cut end) bytes may d fails was = (d, was, inr refl)
act_fills fill true false Sync bytes may d fails was = was

stays : (file : ℕ) (calls : List Call) (bytes : List ℕ) (may : List ℕ → Type 0) (d : List ℕ)
    → synced_calls file calls ≡ 0 → may d → LeftByCalls file calls bytes may d
stays file [] bytes may d none was = was
stays file (call ∷ calls) bytes may d none was =
    let fails = first_fails (syncs file) call calls none in
    stays file calls (read_after file call bytes) (LeftByCall file call bytes may) d fails.1
    (act_stays (call.file == file) call.done call.act bytes may d fails.0 was)

fills : (fill file : ℕ) (calls : List Call) (bytes : List ℕ) (may : List ℕ → Type 0) (d : List ℕ)
    → synced_calls file calls ≡ 0 → may d
    → LeftByCalls file calls bytes may (replayed file (map (filled fill) calls) d)
fills fill file [] bytes may d none was = was
fills fill file (call ∷ calls) bytes may d none was =
    let fails = first_fails (syncs file) call calls none in
    fills fill file calls (read_after file call bytes) (LeftByCall file call bytes may)
    (read_after file (filled fill call) d) fails.1
    (act_fills fill (call.file == file) call.done call.act bytes may d fails.0 was)

module _ (fill file : ℕ) (calls : List Call) (bytes : List ℕ) where
  abbrev first : List Call
  first = take (synced_calls file calls) calls

  abbrev later : List Call
  later = drop (synced_calls file calls) calls

  abbrev Start : List ℕ → Type 0
  Start d = d ≡ bytes

  joined : first ++ later ≡ calls
  joined = take-append-drop (synced_calls file calls) calls

  whole : (c : List ℕ) → LeftByCalls file later (replayed file first bytes) (LeftByCalls file first bytes Start) c
      → LeftByCalls file calls bytes Start c
  whole c left = subst (λ (l : List Call). LeftByCalls file l bytes Start c) joined
      (left_append file first later bytes Start c left)

  synced : LeftByCalls file first bytes Start (replayed file first bytes)
  synced = replayed_left file first bytes Start refl

  -- what the file reads as, from its last sync on
  replayed_later : replayed file later (replayed file first bytes) ≡ replayed file calls bytes
  replayed_later = sym (replayed-append file first later bytes) ∙ ap (λ (l : List Call). replayed file l bytes) joined

  pub crashed_left : LeftByCalls file calls bytes Start (crashed fill file calls bytes)
  crashed_left = cond_both (fill == 0) _ _ (LeftByCalls file calls bytes Start)
      (λ _. whole _ (stays file later _ _ _ (none_passes (syncs file) calls) synced))
      (λ _. cond_both (fill == 1) _ _ (LeftByCalls file calls bytes Start)
      (λ _. subst (LeftByCalls file calls bytes Start) (sym replayed_later) (replayed_left file calls bytes Start refl))
      (λ _. whole _ (fills fill file later _ _ _ (none_passes (syncs file) calls) synced)))

made_files : (X : Image) (first second third : List ℕ) (told : Fails) (disk : MemoryDisk)
    → IsMade first second third told disk → first ≡ X 0 → second ≡ X 1 → third ≡ X 2
    → (file : ℕ) → file < 3 → start_of disk file ≡ X file
made_files X first second third told disk made a b c zero lt = made.journal_0 ∙ a
made_files X first second third told disk made a b c (suc zero) lt = made.journal_1 ∙ b
made_files X first second third told disk made a b c (suc (suc zero)) lt = made.root ∙ c
made_files X first second third told disk made a b c (suc (suc (suc n))) lt = absurd (omega arith)

-- a disk that is made of what a crash with this fill leaves has the files of one image
pub crashed_image : (fill : ℕ) (old : MemoryDisk) (first second third : List ℕ) (told : Fails) (disk : MemoryDisk)
    → IsMade first second third told disk
    → first ≡ crashed fill 0 old.calls.items (start_of old 0) → second ≡ crashed fill 1 old.calls.items (start_of old 1)
    → third ≡ crashed fill 2 old.calls.items (start_of old 2)
    → (c : Image) × IsImage (start_of old) old.calls.items c × ((file : ℕ) → file < 3 → start_of disk file ≡ c file)
crashed_image fill old first second third told disk made a b c = (
  λ file. crashed fill file old.calls.items (start_of old file),
  λ file. crashed_left fill file old.calls.items (start_of old file),
  made_files (λ file. crashed fill file old.calls.items (start_of old file)) first second third told disk made a b c,
)
