-- Frames that are written one after the other.
use Rattle.std.proofs.Common.{◌≡◌, ℕ, zero, suc, ◌+◌, ◌<◌, ◌≤◌, min, List, [], ◌∷◌, ◌++◌, length, take, drop, get_or, Option, Some, None, inr, refl, sym, ap, subst, ◌∙◌, arith, append-nil, append_assoc, length-append, length-take, length-drop}
use Rattle.std.proofs.lemmas.Grind.{flat_map-append}
use Rattle.std.proofs.lemmas.List.{take_all}
use Rattle.std.specs.Io.KnownBytes.{append_known}
use Rattle.sm_base.specs.Faults.{Rose}
use Rattle.sm_replication.specs.declared.frame.Frame.{Frame}
use Rattle.sm_replication.specs.declared.input.Input.TheVariants as inputs
use Rattle.sm_replication.specs.Frames.{frame_bytes}
use Rattle.sm_session.specs.Endings.{count_limit}
use Rattle.sm_io.proofs.Known.{append_known-nil, told_more}
use Rattle.sm_server.specs.declared.status.Status.{Status}
use Rattle.sm_server.specs.declared.status.Status.TheVariants.{Done, Words, Damaged, OpenFault, Memory, People, SinkFault, SourceFault, EdgeFault, Cut, BadMessage, Enough}
use Rattle.sm_replica.specs.Shipped.{AreShippable, IsShippable}
use Rattle.sm_store.specs.Held.{Held}
use Rattle.sm_server.specs.Ships.{AreShipped, PutsFrames, ShipsBy, shipped_bytes}
use Rattle.sm_server.specs.Shipping.{PutsBytes, PutsFrame}

abbrev pub bytes_of : Frame → List ℕ
bytes_of frame = frame_bytes (inputs.Frame frame)

-- frames up to a place, the one there, and those behind it
parted : (n : ℕ) (frames : List Frame) (frame : Frame) → n < length frames → frame ≡ get_or frames n frame
    → frames ≡ take n frames ++ frame ∷ drop (suc n) frames
parted n [] frame lt is = absurd (omega (arith, lt))
parted zero (f ∷ frames) frame lt is = ap (λ (x : Frame). x ∷ frames) (sym is)
parted (suc n) (f ∷ frames) frame lt is =
    ap (λ (xs : List Frame). f ∷ xs) (parted n frames frame (omega (arith, lt)) is)

one_longer : (n : ℕ) (frames : List Frame) (frame : Frame) → n < length frames → frame ≡ get_or frames n frame
    → take (suc n) frames ≡ take n frames ++ frame ∷ []
one_longer n [] frame lt is = absurd (omega (arith, lt))
one_longer zero (f ∷ frames) frame lt is = ap (λ (x : Frame). x ∷ []) (sym is)
one_longer (suc n) (f ∷ frames) frame lt is =
    ap (λ (xs : List Frame). f ∷ xs) (one_longer n frames frame (omega (arith, lt)) is)

one_more : (n : ℕ) (frames : List Frame) (frame : Frame) → n < length frames → frame ≡ get_or frames n frame
    → take (n + 1) frames ≡ take n frames ++ frame ∷ []
one_more n frames frame lt is =
    ap (λ (k : ℕ). take k frames) (let h : n + 1 ≡ suc n = omega arith in h) ∙ one_longer n frames frame lt is

bytes_more : (frames : List Frame) (frame : Frame)
    → shipped_bytes (frames ++ frame ∷ []) ≡ shipped_bytes frames ++ bytes_of frame
bytes_more frames frame =
    flat_map-append bytes_of frames (frame ∷ []) ∙ ap (λ xs. shipped_bytes frames ++ xs) (append-nil (bytes_of frame))

-- so many frames were written, and their bytes counted
pub record Put (frames : List Frame) (n count : ℕ) (old now : Option (List ℕ)) : Type 0 where
  pub taken : now ≡ append_known old (shipped_bytes (take n frames))
  pub counted : count ≡ min (length (shipped_bytes (take n frames))) count_limit

pub put_first : (frames : List Frame) (old : Option (List ℕ)) → Put frames 0 0 old old
put_first frames old = record { taken = sym (append_known-nil old); counted = omega arith }

module _ (frames : List Frame) (n count : ℕ) (old now : Option (List ℕ)) (p : Put frames n count old now)
    (frame : Frame) (lt : n < length frames) (is : frame ≡ get_or frames n frame) where
  next_bytes : shipped_bytes (take (n + 1) frames) ≡ shipped_bytes (take n frames) ++ bytes_of frame
  next_bytes = ap shipped_bytes (one_more n frames frame lt is) ∙ bytes_more (take n frames) frame

  -- one frame more
  pub put_more : (count' : ℕ) (new : Option (List ℕ)) (before after : ℕ)
      → PutsFrame None frame count count' now new before after → Put frames (n + 1) count' old new
  put_more count' new before after (taken, counted) = record {
    taken = told_more old now new (shipped_bytes (take n frames)) (bytes_of frame) p.taken taken
        ∙ ap (append_known old) (sym next_bytes);
    counted = omega (
      arith,
      counted,
      p.counted,
      ap length next_bytes,
      length-append (shipped_bytes (take n frames)) (bytes_of frame),
    );
  }

  all_bytes : shipped_bytes frames
      ≡ shipped_bytes (take n frames) ++ bytes_of frame ++ shipped_bytes (drop (suc n) frames)
  all_bytes =
      ap shipped_bytes (parted n frames frame lt is)
      ∙ flat_map-append bytes_of (take n frames) (frame ∷ drop (suc n) frames)
      ∙ sym (append_assoc (shipped_bytes (take n frames)) (bytes_of frame) (shipped_bytes (drop (suc n) frames)))

  taken_back : (size : ℕ) → bytes_of frame ≡ take size (bytes_of frame) ++ drop size (bytes_of frame)
  taken_back size = sym (take_drop size (bytes_of frame))
    where
      take_drop : (k : ℕ) (xs : List ℕ) → take k xs ++ drop k xs ≡ xs
      take_drop zero xs = refl
      take_drop (suc k) [] = refl
      take_drop (suc k) (x ∷ xs) = ap (λ ys. x ∷ ys) (take_drop k xs)

  -- the last frame was not written whole
  pub put_stops : (status : Status) (count' : ℕ) (new : Option (List ℕ)) (earlier before after : ℕ)
      → PutsFrame (Some status) frame count count' now new before after → earlier ≤ before
      → (written : List ℕ) × (new ≡ append_known old written)
      × PutsFrames (Rose earlier after) status (shipped_bytes frames) written
  put_stops Memory count' new earlier before after same later = (
    shipped_bytes (take n frames),
    same ∙ p.taken,
    (
      bytes_of frame ++ shipped_bytes (drop (suc n) frames),
      all_bytes ∙ append_assoc (shipped_bytes (take n frames)) (bytes_of frame) (shipped_bytes (drop (suc n) frames)),
    ),
  )
  put_stops (SinkFault sent) count' new earlier before after (size, short, taken, counted, rose) later =
      let front : List ℕ = shipped_bytes (take n frames) in
      let part : List ℕ = take size (bytes_of frame) in
      let rest : List ℕ = drop size (bytes_of frame) ++ shipped_bytes (drop (suc n) frames) in (
        front ++ part,
        told_more old now new front part p.taken taken,
        (
          rest,
          all_bytes ∙ ap (λ xs. front ++ xs ++ shipped_bytes (drop (suc n) frames)) (taken_back size)
              ∙ regroup front part (drop size (bytes_of frame)) (shipped_bytes (drop (suc n) frames)),
          omega (
            arith,
            length-append (drop size (bytes_of frame)) (shipped_bytes (drop (suc n) frames)),
            length-drop size (bytes_of frame),
            short,
          ),
          omega (arith, counted, p.counted, length-append front part, length-take size (bytes_of frame), short),
          omega (arith, rose, later),
        ),
      )
    where
      regroup : (a b c d : List ℕ) → a ++ (b ++ c) ++ d ≡ (a ++ b) ++ (c ++ d)
      regroup a b c d =
          append_assoc a (b ++ c) d ∙ ap (λ xs. a ++ xs) (append_assoc b c d) ∙ sym (append_assoc a b (c ++ d))
  put_stops Done count' new earlier before after puts later = absurd puts
  put_stops Words count' new earlier before after puts later = absurd puts
  put_stops (Damaged at entry) count' new earlier before after puts later = absurd puts
  put_stops OpenFault count' new earlier before after puts later = absurd puts
  put_stops (People line) count' new earlier before after puts later = absurd puts
  put_stops SourceFault count' new earlier before after puts later = absurd puts
  put_stops EdgeFault count' new earlier before after puts later = absurd puts
  put_stops (Cut bytes) count' new earlier before after puts later = absurd puts
  put_stops (BadMessage place) count' new earlier before after puts later = absurd puts
  put_stops Enough count' new earlier before after puts later = absurd puts

-- all were written
pub put_all_frames : (frames : List Frame) (n count : ℕ) (old now : Option (List ℕ)) → Put frames n count old now
    → length frames ≤ n → now ≡ append_known old (shipped_bytes frames)
put_all_frames frames n count old now p all =
    p.taken ∙ ap (λ fs. append_known old (shipped_bytes fs)) (take_all n frames all)

-- the frame at a place may be shipped
pub shippable_at : (frames : List Frame) (n : ℕ) (frame : Frame) → AreShippable frames → n < length frames
    → frame ≡ get_or frames n frame → IsShippable frame
shippable_at [] n frame may lt is = absurd (omega (arith, lt))
shippable_at (f ∷ frames) zero frame may lt is = subst (λ (x : Frame). IsShippable x) (sym is) may.0
shippable_at (f ∷ frames) (suc n) frame may lt is = shippable_at frames n frame may.1 (omega (arith, lt)) is

-- ---- one frame

-- the bytes of a frame were written, or the sink failed within them
module _ (frame : Frame) (count count' : ℕ) (old new : Option (List ℕ)) (before now : ℕ) where
  abbrev Bytes : Option Status → Type 0
  Bytes end = PutsBytes end (bytes_of frame) count count' old new before now

  pub frame_put : (end : Option Status) → Bytes end → PutsFrame end frame count count' old new before now
  frame_put None puts = puts
  frame_put (Some (SinkFault sent)) puts = puts
  frame_put (Some Memory) puts = absurd puts
  frame_put (Some Done) puts = puts
  frame_put (Some Words) puts = puts
  frame_put (Some (Damaged at entry)) puts = puts
  frame_put (Some OpenFault) puts = puts
  frame_put (Some (People line)) puts = puts
  frame_put (Some SourceFault) puts = puts
  frame_put (Some EdgeFault) puts = puts
  frame_put (Some (Cut bytes)) puts = puts
  frame_put (Some (BadMessage place)) puts = puts
  frame_put (Some Enough) puts = puts

-- ---- all of an account's

pub ships_by : (Cause : Type 0) (held : Held) (position : ℕ) (status : Status) (written : List ℕ) (frames : List Frame)
    → AreShipped held position frames → PutsFrames Cause status (shipped_bytes frames) written
    → ShipsBy Cause held position status written
ships_by Cause held position Memory written frames are puts = inr (record { frames = frames; are = are; puts = puts })
ships_by Cause held position Done written frames are puts = record { frames = frames; are = are; puts = puts }
ships_by Cause held position (SinkFault counted) written frames are puts =
    record { frames = frames; are = are; puts = puts }
ships_by Cause held position Words written frames are puts = absurd puts
ships_by Cause held position (Damaged at entry) written frames are puts = absurd puts
ships_by Cause held position OpenFault written frames are puts = absurd puts
ships_by Cause held position (People line) written frames are puts = absurd puts
ships_by Cause held position SourceFault written frames are puts = absurd puts
ships_by Cause held position EdgeFault written frames are puts = absurd puts
ships_by Cause held position (Cut bytes) written frames are puts = absurd puts
ships_by Cause held position (BadMessage place) written frames are puts = absurd puts
ships_by Cause held position Enough written frames are puts = absurd puts
