-- What a reader of frames finds.
use Rattle.std.proofs.Common.{◌≡◌, ℕ, ◌-◌, ◌≤◌, MatchOption, List, [], ◌++◌, length, take, drop, Option, Some, None, refl, sym, ap, subst, ◌∙◌, inl, inr, arith, length-drop, length-take, take-append-drop}
use Rattle.std.specs.Io.KnownBytes.{prepend_known}
use Rattle.sm_http.specs.Ahead.{Moves}
use Rattle.sm_replication.specs.declared.extent.Extent.{Extent}
use Rattle.sm_replication.specs.declared.extent.Extent.TheVariants.{Whole, Over}
use Rattle.sm_replication.specs.declared.input.Input.{Input}
use Rattle.sm_replication.specs.declared.reader.Found.{Found}
use Rattle.sm_replication.specs.declared.reader.Found.TheVariants as found
use Rattle.sm_replication.specs.declared.reader.Stop.{Stop}
use Rattle.sm_replication.specs.declared.reader.Stop.TheVariants as stop
use Rattle.sm_replication.specs.declared.reader.NextFrame.TheVariants as next
use Rattle.sm_replication.specs.Extents.{extent}
use Rattle.sm_replication.specs.Frames.{IsFrame, frame_bytes}
use Rattle.sm_replication.specs.Laws.{Stays}
use Rattle.sm_replication.specs.Reading.{FrameReaderState, passed, stopped, StopsAt, Stops, Finds, FindsMore, Answers, Reads, StaysUnlessReadFault, IfStopped, OnStopEnd, OnStopFault, StaysUnlessStopFault, StaysUnlessFoundFault}
use Rattle.sm_replication.proofs.ExtentLemmas.{stays_reached}

-- bytes that reach so far are there
pub whole_there : (bytes : List ℕ) (n : ℕ) → extent bytes ≡ Whole n → n ≤ length bytes
whole_there bytes n is =
    (subst (λ (e : Extent). Stays e (extent (bytes ++ [])) (length bytes)) is (stays_reached bytes [])).1

pub cut_whole : (bytes seen : List ℕ) (n : ℕ) → seen ≡ bytes → extent bytes ≡ Whole n → n ≡ length (take n seen)
cut_whole bytes seen n same is = omega (arith, length-take n seen, ap length same, whole_there bytes n is)

-- a frame was decoded of the bytes at the front
pub found_input : (bytes front left : List ℕ) (at n : ℕ) (i : Input) → n ≤ length bytes → front ≡ take n bytes
    → IsFrame i → frame_bytes i ≡ front → left ≡ drop n bytes → Finds bytes at (found.Input i n) left
found_input bytes front left at n i le cut is same rest = (
  is,
  sym (take-append-drop n bytes) ∙ ap (λ (xs : List ℕ). xs ++ drop n bytes) (sym (same ∙ cut))
      ∙ ap (λ (xs : List ℕ). frame_bytes i ++ xs) (sym rest),
  omega (arith, ap length rest, length-drop n bytes, le),
)

-- what is found in all bytes that came
pub found_later : (bytes new : List ℕ) (at : ℕ) (answer : Found) (left : List ℕ) (before after : Option (List ℕ))
    → Moves bytes new before after → Finds new at answer left → FindsMore bytes at answer left before after
found_later bytes new at answer left before after m f =
    (m.taken, m.left, subst (λ xs. Finds xs at answer left) m.grows f)

pub found_stop : (bytes new : List ℕ) (at : ℕ) (why : Stop) (before after : Option (List ℕ))
    → Moves bytes new before after → StopsAt new at why → FindsMore bytes at (found.Stop why) new before after
found_stop bytes new at why before after m s =
    found_later bytes new at (found.Stop why) new before after m (s, refl)

-- bytes that are whole by their lengths, and no frame's
pub whole_bad : (bytes front : List ℕ) (at n : ℕ) → extent bytes ≡ Whole n → front ≡ take n bytes
    → ((i : Input) → IsFrame i → frame_bytes i ≡ front → ⊥) → StopsAt bytes at (stop.Bad at)
whole_bad bytes front at n whole cut none = (refl, inr (n, whole, λ i is same. none i is (same ∙ sym cut)))

pub over_bad : (bytes : List ℕ) (at : ℕ) → extent bytes ≡ Over → StopsAt bytes at (stop.Bad at)
over_bad bytes at over = (refl, inl over)

-- what a reader answers at a stop
answers_stop : (old : FrameReaderState) (bytes : List ℕ) (why : Stop) (new : FrameReaderState)
    → Stops old bytes why new → Answers old bytes (stopped why) new
answers_stop old bytes (stop.Bad at) new s = s
answers_stop old bytes stop.End new s = s
answers_stop old bytes (stop.Cut count) new s = s
answers_stop old bytes stop.ReadFault new s = s
answers_stop old bytes stop.Memory new s = s

pub reads_stop : (old : FrameReaderState) (left : List ℕ) (why : Stop) (before after : Option (List ℕ))
    → old.ended ≡ None → FindsMore old.ahead old.at (found.Stop why) left before after
    → Reads old (stopped why) (record { ahead = left; at = old.at; ended = Some why }) before after
reads_stop old left why before after none f =
    let kept : FrameReaderState = record { ahead = left; at = old.at; ended = Some why } in
    let stops : Stops old (old.ahead ++ f.0) why kept
    = (f.2.0, ap (λ (xs : List ℕ). record { ahead = xs; at = old.at; ended = Some why }) f.2.1) in
    subst (λ o. MatchOption o ((taken : List ℕ) × (before ≡ prepend_known taken after)
    × Answers old (old.ahead ++ taken) (stopped why) kept) (λ w. (stopped why ≡ stopped w) × (kept ≡ old))) (sym none)
    (f.0, f.1, answers_stop old (old.ahead ++ f.0) why kept stops)

-- what a reader answers where it found a frame
pub reads_input : (old : FrameReaderState) (left : List ℕ) (i : Input) (used at : ℕ) (before after : Option (List ℕ))
    → old.ended ≡ None → FindsMore old.ahead old.at (found.Input i used) left before after → at ≡ passed old.at used
    → Reads old (next.Input i) (record { ahead = left; at = at; ended = None }) before after
reads_input old left i used at before after none f at_is =
    let kept : FrameReaderState = record { ahead = left; at = at; ended = None } in
    let place : at ≡ passed old.at (length (old.ahead ++ f.0) - length left)
    = at_is ∙ ap (passed old.at) f.2.2 in
    subst (λ o. MatchOption o ((taken : List ℕ) × (before ≡ prepend_known taken after)
    × Answers old (old.ahead ++ taken) (next.Input i) kept) (λ w. (next.Input i ≡ stopped w) × (kept ≡ old))) (sym none)
    (f.0, f.1, (left, f.2.0, f.2.1, ap (λ (n : ℕ). record { ahead = left; at = n; ended = None }) place))

-- what was found stops no stream, and no failure stopped it
pub never_ends : (answer : Found) (P : Type 0) → IfStopped answer (λ why. OnStopEnd why ⊥)
    → IfStopped answer (λ why. OnStopEnd why P)
never_ends (found.Input i used) P h = tt
never_ends (found.Stop (stop.Bad at)) P h = tt
never_ends (found.Stop stop.End) P h = absurd h
never_ends (found.Stop (stop.Cut count)) P h = absurd h
never_ends (found.Stop stop.ReadFault) P h = tt
never_ends (found.Stop stop.Memory) P h = tt

pub never_fails : (answer : Found) (P : Type 0) → IfStopped answer (λ why. OnStopFault why ⊥)
    → IfStopped answer (λ why. OnStopFault why P)
never_fails (found.Input i used) P h = tt
never_fails (found.Stop (stop.Bad at)) P h = tt
never_fails (found.Stop stop.End) P h = tt
never_fails (found.Stop (stop.Cut count)) P h = tt
never_fails (found.Stop stop.ReadFault) P h = absurd h
never_fails (found.Stop stop.Memory) P h = tt

-- the count stays whatever was found, where it is the same
pub found_stays : (answer : Found) (old new : ℕ) → new ≡ old → StaysUnlessFoundFault answer old new
found_stays (found.Input i used) old new same = same
found_stays (found.Stop (stop.Bad at)) old new same = same
found_stays (found.Stop stop.End) old new same = same
found_stays (found.Stop (stop.Cut count)) old new same = same
found_stays (found.Stop stop.ReadFault) old new same = tt
found_stays (found.Stop stop.Memory) old new same = same

-- as the reader answers it
pub stop_answered : (why : Stop) (old new : ℕ) → StaysUnlessStopFault why old new
    → StaysUnlessReadFault (stopped why) old new
stop_answered (stop.Bad at) old new told = told
stop_answered stop.End old new told = told
stop_answered (stop.Cut count) old new told = told
stop_answered stop.ReadFault old new told = tt
stop_answered stop.Memory old new told = told

-- as the reader answers it again
pub stop_repeated : (why : Stop) (old new : ℕ) → new ≡ old → StaysUnlessReadFault (stopped why) old new
stop_repeated (stop.Bad at) old new same = same
stop_repeated stop.End old new same = same
stop_repeated (stop.Cut count) old new same = same
stop_repeated stop.ReadFault old new same = tt
stop_repeated stop.Memory old new same = same
