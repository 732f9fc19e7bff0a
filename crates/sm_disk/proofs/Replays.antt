-- What one call more makes of files in memory.
use Rattle.std.proofs.Common.{◌≡◌, ◌≢◌, inl, inr, ⊎_elim, ℕ, ◌+◌, ◌<◌, ◌≤◌, ◌&&◌, Bool, true, false, MatchBool, if◌then◌else◌, ◌==◌, eqb, List, [], ◌∷◌, ◌++◌, length, take, refl, sym, ◌∙◌, ap, subst, arith, length-append}
use Rattle.std.proofs.lemmas.Bool.{cases_eq, cases_lt, cases_Bool, eq-eqb, ne_eqb, cond-true, cond-false, and_from, and_left, and_right, MatchBool-at_true, MatchBool-at_false}
use Rattle.std.proofs.lemmas.List.{take-append-le, take_all}
use Rattle.sm_disk.specs.Sight.{Image}
use Rattle.sm_disk.proofs.Runs.{goes_weaker, all_same}
use Rattle.sm_disk.specs.Steps.{OnFile, Same, Follows, Goes, Keeps, Synced}
use Rattle.sm_disk.specs.Calls.{acted, read_after, replayed, LeftByAct, LeftByCall, LeftByCalls, IsImage, sight_of}
use Rattle.sm_disk.specs.Laws.{replayed_left}
use Rattle.sm_disk.specs.declared.call.Act.{Act}
use Rattle.sm_disk.specs.declared.call.Act.TheVariants.{Sync}
use Rattle.sm_disk.specs.declared.call.Call.{Call}

-- the image with this in the place of one file
abbrev pub with_file : Image → ℕ → List ℕ → Image
with_file c file bytes other = if other == file then bytes else c other

module _ (c : Image) (file : ℕ) (bytes : List ℕ) where
  pub with_file_same : with_file c file bytes file ≡ bytes
  with_file_same = cond-true (eqb file file) bytes (c file) (eq-eqb file file refl)

  pub with_file_other : (other : ℕ) → other ≢ file → with_file c file bytes other ≡ c other
  with_file_other other ne = cond-false (eqb other file) bytes (c other) (ne_eqb other file ne)

pub replayed_push : (file : ℕ) (calls : List Call) (call : Call) (bytes : List ℕ)
    → replayed file (calls ++ call ∷ []) bytes ≡ read_after file call (replayed file calls bytes)
replayed_push file [] call bytes = refl
replayed_push file (first ∷ calls) call bytes = replayed_push file calls call (read_after file first bytes)

-- what a crash may leave of a file after one call more
pub left_push : (file : ℕ) (calls : List Call) (call : Call) (bytes : List ℕ) (may : List ℕ → Type 0) (c : List ℕ)
    → LeftByCalls file (calls ++ call ∷ []) bytes may c
    → LeftByCall file call (replayed file calls bytes) (LeftByCalls file calls bytes may) c
left_push file [] call bytes may c left = left
left_push file (first ∷ calls) call bytes may c left =
    left_push file calls call (read_after file first bytes) (LeftByCall file first bytes may) c left

module _ (start : Image) (calls : List Call) (call : Call) where
  abbrev pub more : List Call
  more = calls ++ call ∷ []

  -- what the file of the call reads as before it, and what a crash may leave of it then
  abbrev pub reading : List ℕ
  reading = replayed call.file calls (start call.file)

  abbrev pub May : List ℕ → Type 0
  May = LeftByCalls call.file calls (start call.file) (λ d. d ≡ start call.file)

  at_file : (c : Image) → IsImage start more c → LeftByAct call.act call.done reading May (c call.file)
  at_file c image = MatchBool-at_true _ _ (eq-eqb call.file call.file refl)
      (left_push call.file calls call (start call.file) (λ d. d ≡ start call.file) (c call.file) (image call.file))

  at_other : (c : Image) → IsImage start more c → (other : ℕ) → other ≢ call.file
      → LeftByCalls other calls (start other) (λ d. d ≡ start other) (c other)
  at_other c image other ne = MatchBool-at_false _ _ (ne_eqb call.file other (λ is. ne (sym is)))
      (left_push other calls call (start other) (λ d. d ≡ start other) (c other) (image other))

  -- an image of now with what a crash might have left of the file before
  image_before : (c : Image) (d : List ℕ) → IsImage start more c → May d → IsImage start calls (with_file c call.file d)
  image_before c d image was other = ⊎_elim here there (cases_eq other call.file)
    where
      Left : ℕ → Type 0
      Left f = LeftByCalls f calls (start f) (λ b. b ≡ start f) (with_file c call.file d f)

      here : other ≡ call.file → Left other
      here is = subst Left (sym is) (subst May (sym (with_file_same c call.file d)) was)

      there : other ≢ call.file → Left other
      there ne = subst (LeftByCalls other calls (start other) (λ b. b ≡ start other))
          (sym (with_file_other c call.file d other ne)) (at_other c image other ne)

  crash_on : (step : List ℕ → List ℕ → Type 0)
      → ((c : List ℕ) → LeftByAct call.act call.done reading May c → (d : List ℕ) × May d × step d c)
      → Follows (OnFile call.file step) (IsImage start calls) (IsImage start more)
  crash_on step by c image =
      let from = by (c call.file) (at_file c image) in (
        with_file c call.file from.0,
        image_before c from.0 image from.1,
        record {
          changed = subst (λ (b : List ℕ). step b (c call.file)) (sym (with_file_same c call.file from.0)) from.2;
          others = λ other ne. sym (with_file_other c call.file from.0 other ne);
        },
      )

  earlier : (k : ℕ) → k ≤ length calls → take k more ≡ take k calls
  earlier k le = take-append-le k calls (call ∷ []) le

  length-more : length more ≡ length calls + 1
  length-more = length-append calls (call ∷ [])

  -- one call more goes on by a step on its file
  pub goes_on : (step : List ℕ → List ℕ → Type 0)
      → ((c : List ℕ) → LeftByAct call.act call.done reading May c → (d : List ℕ) × May d × step d c)
      → Goes (OnFile call.file step) (sight_of start calls) (sight_of start more)
  goes_on step by = record {
    crash = crash_on step by;
    later = omega (arith, length-more);
    nothing_else = λ t c le (k, from, to, image). ⊎_elim (λ lt. inr (now k c lt to image))
        (λ le. inl (k, from, le, subst (λ (l : List Call). IsImage start l c) (earlier k le) image))
        (cases_lt (length calls) k);
    keeps = λ t c le (k, from, to, image).
        (k, from, omega (arith, length-more), subst (λ (l : List Call). IsImage start l c) (sym (earlier k to)) image);
  }
    where
      now : (k : ℕ) (c : Image) → length calls < k → k ≤ length more → IsImage start (take k more) c
          → IsImage start more c
      now k c lt to image = subst (λ (l : List Call). IsImage start l c)
          (take_all k more (omega (arith, length-more))) image

  pub read_done : (bytes : List ℕ) → call.done ≡ true → read_after call.file call bytes ≡ acted call.act bytes
  read_done bytes done =
      cond-true _ _ _ (and_from (eqb call.file call.file) call.done (eq-eqb call.file call.file refl) done)

  pub read_failed : (bytes : List ℕ) → call.done ≡ false → read_after call.file call bytes ≡ bytes
  read_failed bytes failed = cond-false _ _ _ (and_right (eqb call.file call.file) call.done failed)

  read_other : (other : ℕ) (bytes : List ℕ) → other ≢ call.file → read_after other call bytes ≡ bytes
  read_other other bytes ne =
      cond-false _ _ _ (and_left (eqb call.file other) call.done (ne_eqb call.file other (λ is. ne (sym is))))

  -- what a read gives goes on by a step on its file
  pub reads_on : (step : List ℕ → List ℕ → Type 0) → step reading (read_after call.file call reading)
      → Follows (OnFile call.file step) (sight_of start calls).reads (sight_of start more).reads
  reads_on step by s reads = (
    λ f. replayed f calls (start f),
    λ f. refl,
    record {
      changed = subst (step reading) (sym (reads call.file ∙ replayed_push call.file calls call (start call.file))) by;
      others = λ other ne. reads other ∙ replayed_push other calls call (start other)
          ∙ read_other other (replayed other calls (start other)) ne;
    },
  )

  -- a sync changes nothing that is read
  module _ (is_sync : call.act ≡ Sync) where
    acted_same : (act : Act) (bytes : List ℕ) → act ≡ Sync → acted act bytes ≡ bytes
    acted_same act bytes is = ap (λ (a : Act). acted a bytes) is

    pub read_same : (other : ℕ) (bytes : List ℕ) → read_after other call bytes ≡ bytes
    read_same other bytes = ⊎_elim (λ here. cond-true _ _ _ here ∙ acted_same call.act bytes is_sync)
        (λ not. cond-false _ _ _ not) (cases_Bool (eqb call.file other && call.done))

    all_read : (other : ℕ) → replayed other more (start other) ≡ replayed other calls (start other)
    all_read other = replayed_push other calls call (start other) ∙ read_same other (replayed other calls (start other))

    pub keeps_reads : Keeps (sight_of start calls) (sight_of start more)
    keeps_reads = record {
      still = λ s reads other. reads other ∙ sym (all_read other);
      nothing_new = λ s reads other. reads other ∙ all_read other;
    }

    -- what a crash may leave after it is among what it might have left before
    pub unsure : (act : Act) (done : Bool) (c : List ℕ) → act ≡ Sync → LeftByAct act done reading May c → (d : List ℕ)
        × May d × (c ≡ d)
    unsure act done c is left = after done (subst (λ (a : Act). LeftByAct a done reading May c) is left)
      where
        after : (done : Bool) → MatchBool done (c ≡ reading) (May c) → (d : List ℕ) × May d × (c ≡ d)
        after true now = (reading, replayed_left call.file calls (start call.file) (λ d. d ≡ start call.file) refl, now)
        after false now = (c, now, refl)

    pub sync_goes : Goes Same (sight_of start calls) (sight_of start more)
    sync_goes = goes_weaker (OnFile call.file (λ old new. new ≡ old)) Same _ _ (all_same call.file)
        (goes_on (λ old new. new ≡ old) (λ c left. unsure call.act call.done c is_sync left))

    pub synced_after : call.done ≡ true → Synced call.file (sight_of start more)
    synced_after done c image = (
      λ f. replayed f more (start f),
      λ f. refl,
      λ c image. only c image
          ∙ sym (all_read call.file),
    )
      where
        only : (c : Image) → IsImage start more c → c call.file ≡ reading
        only c image = MatchBool-at_true _ _ done
            (subst (λ (a : Act). LeftByAct a call.done reading May (c call.file)) is_sync (at_file c image))
