-- Rotation turns one after the other.
use Rattle.std.proofs.Common.{◌≡◌, ℕ, ◌+◌, ◌<◌, true, false, List, [], ◌∷◌, ◌++◌, length, Some, None, refl, sym, ap, ◌∙◌, subst, arith, append-nil, append_assoc, length-append}
use Rattle.std.specs.Prelude.{Option}
use Rattle.std.specs.Io.KnownBytes.{append_known}
use Rattle.sm_base.specs.Faults.{Rose}
use Rattle.sm_model.specs.declared.entry.Mark.{Mark}
use Rattle.sm_rotation.specs.Vouched.{Replies}
use Rattle.sm_rotator.specs.declared.told.Told.{Told}
use Rattle.sm_rotator.specs.Told.{append_told}
use Rattle.sm_account.specs.History.{by_seat}
use Rattle.sm_account.specs.States.{Base}
use Rattle.sm_account.specs.SeatTraces.{History, SeatTrace, marks_in, NoGap}
use Rattle.sm_pool.specs.declared.done.Done.{Done}
use Rattle.sm_pool.specs.declared.done.Done.TheVariants as ends
use Rattle.sm_pool.specs.Alone.{IsStale, OnDisk}
use Rattle.sm_pool.specs.Holds.{Hold, hold_shape}
use Rattle.sm_pool.specs.Rounds.{ComesToRest, Counts, EndsRound, NoneFell, Point, Rotated, Round, Turned, TurnedOn, asks_in, courses_in, drawn_in, goes_on, holds_in, last_in, marks_of, readings_in, turn_limit}
use Rattle.sm_pool.specs.Turns.{Course, HasRisen, Passing, RotatorFailed, TurnDone, RandomSourceFailed, asks_of, done_of, drawn_of, holds_of, readings_of}
use Rattle.sm_pool.proofs.AskingLemmas.{append_told-nil, asked_more}
use Rattle.sm_io.proofs.Known.{append_known-nil, told_more}

readings_more : (on : List Course) (course : Course)
    → readings_in (on ++ course ∷ []) ≡ readings_in on ++ readings_of (holds_of course)
readings_more [] course = append-nil (readings_of (holds_of course))
readings_more (c ∷ on) course =
    ap (λ (r : List ℕ). readings_of (holds_of c) ++ r) (readings_more on course)
    ∙ sym (append_assoc (readings_of (holds_of c)) (readings_in on) (readings_of (holds_of course)))

drawn_more : (on : List Course) (course : Course) → drawn_in (on ++ course ∷ []) ≡ drawn_in on ++ drawn_of course
drawn_more [] course = append-nil (drawn_of course)
drawn_more (c ∷ on) course =
    ap (λ (d : List ℕ). drawn_of c ++ d) (drawn_more on course)
    ∙ sym (append_assoc (drawn_of c) (drawn_in on) (drawn_of course))

asks_more : (on : List Course) (course : Course) → asks_in (on ++ course ∷ []) ≡ asks_in on ++ asks_of course
asks_more [] course = append-nil (asks_of course)
asks_more (c ∷ on) course =
    ap (λ (a : List Told). asks_of c ++ a) (asks_more on course)
    ∙ sym (append_assoc (asks_of c) (asks_in on) (asks_of course))

-- a turn that made no entry, and was not too late, came to rest
rests : (done : Done) → goes_on done ≡ false → (IsStale done → ⊥) → ComesToRest done
rests (ends.Did arn at) stops not_stale = absurd (cc)
rests (ends.Started arn) stops not_stale = absurd (cc)
rests ends.Idle stops not_stale = tt
rests (ends.Stale at) stops not_stale = absurd (not_stale tt)
rests (ends.Trouble trouble) stops not_stale = tt

-- what the clock, the random source and the rotator have told
pub record Heard : Type 0 where
  pub clock : Option (List ℕ)
  pub words : Option (List ℕ)
  pub rotator : Option (List Told)

module _ (replies : Replies) (base : Base) (seat : ℕ) where
  -- one turn more
  turned_more : (from at to : Point) (on : List Course) (course : Course) → TurnedOn replies base seat from on at
      → Turned replies base seat at course to → goes_on (done_of course) ≡ true
      → TurnedOn replies base seat from (on ++ course ∷ []) to
  turned_more from at to [] course is once goes =
      (to, subst (λ p. Turned replies base seat p course to) is once, goes, refl)
  turned_more from at to (c ∷ on) course (next, first, on_first, more) once goes =
      (next, first, on_first, turned_more next at to on course more once goes)

  -- a turn between two points
  pub turned_by : (from to : Point) (passing : Passing) (done : Done)
      → (turn : TurnDone replies base NoGap seat passing from.history to.history done)
      → OnDisk done (Rose from.counts.disk to.counts.disk)
      → passing.words_count ≡ record { before = from.counts.words; after = to.counts.words }
      → passing.rotator_count ≡ record { before = from.counts.rotator; after = to.counts.rotator }
      → NoneFell from.counts to.counts → Turned replies base seat from turn.course to
  turned_by from to passing done turn failed words rotator later = record {
    is = turn.takes.is;
    seat_trace = turn.seat_trace;
    disk = subst (λ d. OnDisk d (Rose from.counts.disk to.counts.disk)) turn.takes.done_is failed;
    words = subst (λ count. RandomSourceFailed turn.course (HasRisen count)) words turn.takes.words;
    rotator = subst (λ count. RotatorFailed turn.course (HasRisen count)) rotator turn.takes.rotator;
    later = later;
  }

  -- so many turns that each made an entry, and what was told for them
  pub record Progress (from : Point) (before : Heard) (number : ℕ) (at : Point) (now : Heard) : Type 0 where
    pub on : List Course
    pub size : length on ≡ number
    pub readings : now.clock ≡ append_known before.clock (readings_in on)
    pub drawn : now.words ≡ append_known before.words (drawn_in on)
    pub asks : now.rotator ≡ append_told before.rotator (asks_in on)
    pub turned : TurnedOn replies base seat from on at

  pub progress_first : (from : Point) (before : Heard) → Progress from before 0 from before
  progress_first from before = record {
    on = [];
    size = refl;
    readings = sym (append_known-nil before.clock);
    drawn = sym (append_known-nil before.words);
    asks = sym (append_told-nil before.rotator);
    turned = refl;
  }

  module _ (from : Point) (before : Heard) (number : ℕ) (at : Point) (now : Heard)
      (progress : Progress from before number at now) where
    -- a round, with what was told for it
    abbrev pub RoundFrom : Point → Heard → Type 0
    RoundFrom to after = (round : Round)
        × (after.clock ≡ append_known before.clock (readings_in (courses_in round)))
        × (after.words ≡ append_known before.words (drawn_in (courses_in round)))
        × Rotated replies base seat from round to
        × (after.rotator ≡ append_told before.rotator (asks_in (courses_in round)))

    -- as many turns were taken as are taken at most
    pub round_full : number ≡ turn_limit → RoundFrom at now
    round_full full =
        let round : Round = record { on = progress.on; last = None } in
        let whole : progress.on ≡ courses_in round = sym (append-nil progress.on) in (
          round,
          subst (λ courses. now.clock ≡ append_known before.clock (readings_in courses)) whole progress.readings,
          subst (λ courses. now.words ≡ append_known before.words (drawn_in courses)) whole progress.drawn,
          record { at = at; turned = progress.turned; ends = (progress.size ∙ full, refl) },
          subst (λ courses. now.rotator ≡ append_told before.rotator (asks_in courses)) whole progress.asks,
        )

    module _ (to : Point) (after : Heard) (course : Course) (turned : Turned replies base seat at course to)
        (readings : after.clock ≡ append_known now.clock (readings_of (holds_of course)))
        (drawn : after.words ≡ append_known now.words (drawn_of course))
        (asks : after.rotator ≡ append_told now.rotator (asks_of course)) where
      clock_more : after.clock ≡ append_known before.clock (readings_in (progress.on ++ course ∷ []))
      clock_more =
          told_more before.clock now.clock after.clock (readings_in progress.on) (readings_of (holds_of course))
          progress.readings readings
          ∙ ap (append_known before.clock) (sym (readings_more progress.on course))

      words_more : after.words ≡ append_known before.words (drawn_in (progress.on ++ course ∷ []))
      words_more =
          told_more before.words now.words after.words (drawn_in progress.on) (drawn_of course) progress.drawn drawn
          ∙ ap (append_known before.words) (sym (drawn_more progress.on course))

      rotator_more : after.rotator ≡ append_told before.rotator (asks_in (progress.on ++ course ∷ []))
      rotator_more =
          asked_more before.rotator now.rotator after.rotator (asks_in progress.on) (asks_of course) progress.asks asks
          ∙ ap (append_told before.rotator) (sym (asks_more progress.on course))

      pub progress_more : goes_on (done_of course) ≡ true → Progress from before (number + 1) to after
      progress_more goes = record {
        on = progress.on ++ course ∷ [];
        size = omega (arith, length-append progress.on (course ∷ []), progress.size);
        readings = clock_more;
        drawn = words_more;
        asks = rotator_more;
        turned = turned_more from at to progress.on course progress.turned turned goes;
      }

      -- the turn came to rest
      pub round_rests : number < turn_limit → goes_on (done_of course) ≡ false → (IsStale (done_of course) → ⊥)
          → RoundFrom to after
      round_rests few stops not_stale = (
        record { on = progress.on; last = Some course },
        clock_more,
        words_more,
        record {
          at = at;
          turned = progress.turned;
          ends = (omega (arith, progress.size, few), turned, rests (done_of course) stops not_stale);
        },
        rotator_more,
      )

-- what a round leaves of the history

by_seat-append : (seat : ℕ) (a b : List Mark) → by_seat seat (a ++ b) ≡ by_seat seat a ++ by_seat seat b
by_seat-append seat [] b = refl
by_seat-append seat (mark ∷ a) b = ap (λ (h : History). (seat, mark) ∷ h) (by_seat-append seat a b)

marks-append : (a b : List Hold) → marks_in hold_shape (a ++ b) ≡ marks_in hold_shape a ++ marks_in hold_shape b
marks-append [] b = refl
marks-append (hold ∷ a) b =
    ap (λ (marks : List Mark). hold.marks ++ marks) (marks-append a b)
    ∙ sym (append_assoc hold.marks (marks_in hold_shape a) (marks_in hold_shape b))

-- the history with some marks of the seat, and after with more
pub marked_more : (seat : ℕ) (history : History) (a b : List Mark)
    → (history ++ by_seat seat a) ++ by_seat seat b ≡ history ++ by_seat seat (a ++ b)
marked_more seat history a b =
    append_assoc history (by_seat seat a) (by_seat seat b)
    ∙ ap (λ (h : History). history ++ h) (sym (by_seat-append seat a b))

module _ (seat : ℕ) (right : Hold → Type 0) where
  trace_marks : (from to : History) (holds : List Hold) → SeatTrace hold_shape NoGap seat right from holds to
      → to ≡ from ++ by_seat seat (marks_in hold_shape holds)
  trace_marks from to [] seat_trace = seat_trace ∙ sym (append-nil from)
  trace_marks from to (hold ∷ holds) seat_trace =
      trace_marks (hold.before ++ by_seat seat hold.marks) to holds seat_trace.2
      ∙ ap (λ (h : History). (h ++ by_seat seat hold.marks) ++ by_seat seat (marks_in hold_shape holds)) seat_trace.0
      ∙ marked_more seat from hold.marks (marks_in hold_shape holds)

module _ (replies : Replies) (base : Base) (seat : ℕ) where
  turned_marks : (from : Point) (course : Course) (to : Point) → Turned replies base seat from course to
      → to.history ≡ from.history ++ by_seat seat (marks_in hold_shape (holds_of course))
  turned_marks from course to turned =
      trace_marks seat (λ hold. Unit {0}) from.history to.history (holds_of course) turned.seat_trace

  turns_marks : (from : Point) (on : List Course) (at : Point) → TurnedOn replies base seat from on at
      → at.history ≡ from.history ++ by_seat seat (marks_in hold_shape (holds_in on))
  turns_marks from [] at is = ap (λ (p : Point). p.history) is ∙ sym (append-nil from.history)
  turns_marks from (course ∷ on) at (next, first, goes, more) =
      turns_marks next on at more
      ∙ ap (λ (h : History). h ++ by_seat seat (marks_in hold_shape (holds_in on)))
      (turned_marks from course next first)
      ∙ marked_more seat from.history (marks_in hold_shape (holds_of course)) (marks_in hold_shape (holds_in on))
      ∙ ap (λ (marks : List Mark). from.history ++ by_seat seat marks)
      (sym (marks-append (holds_of course) (holds_in on)))

  holds_in-append : (a b : List Course) → holds_in (a ++ b) ≡ holds_in a ++ holds_in b
  holds_in-append [] b = refl
  holds_in-append (course ∷ a) b =
      ap (λ (holds : List Hold). holds_of course ++ holds) (holds_in-append a b)
      ∙ sym (append_assoc (holds_of course) (holds_in a) (holds_in b))

  end_marks : (turned : ℕ) (at : Point) (last : Option Course) (to : Point)
      → EndsRound replies base seat turned at last to
      → to.history ≡ at.history ++ by_seat seat (marks_in hold_shape (holds_in (last_in last)))
  end_marks turned at None to ends = ap (λ (p : Point). p.history) ends.1 ∙ sym (append-nil at.history)
  end_marks turned at (Some last) to ends =
      turned_marks at last to ends.1
      ∙ ap (λ holds. at.history ++ by_seat seat (marks_in hold_shape holds)) (sym (append-nil (holds_of last)))

  pub rotated_marks : (from : Point) (round : Round) (to : Point) → Rotated replies base seat from round to
      → to.history ≡ from.history ++ by_seat seat (marks_of round)
  rotated_marks from round to rotated =
      let on = marks_in hold_shape (holds_in round.on) in
      let last = marks_in hold_shape (holds_in (last_in round.last)) in
      end_marks (length round.on) rotated.at round.last to rotated.ends
      ∙ ap (λ (h : History). h ++ by_seat seat last) (turns_marks from round.on rotated.at rotated.turned)
      ∙ marked_more seat from.history on last
      ∙ ap (λ (marks : List Mark). from.history ++ by_seat seat marks)
      (sym (marks-append (holds_in round.on) (holds_in (last_in round.last))))
      ∙ ap (λ holds. from.history ++ by_seat seat (marks_in hold_shape holds))
      (sym (holds_in-append round.on (last_in round.last)))

  -- no count fell in a round
  fell_more : (a b c : Counts) → NoneFell a b → NoneFell b c → NoneFell a c
  fell_more a b c first after = record {
    disk = omega (arith, first.disk, after.disk);
    words = omega (arith, first.words, after.words);
    rotator = omega (arith, first.rotator, after.rotator);
  }

  fell_still : (a : Counts) → NoneFell a a
  fell_still a = record { disk = omega arith; words = omega arith; rotator = omega arith }

  turns_fell : (from : Point) (on : List Course) (at : Point) → TurnedOn replies base seat from on at
      → NoneFell from.counts at.counts
  turns_fell from [] at is = subst (λ (p : Point). NoneFell from.counts p.counts) (sym is) (fell_still from.counts)
  turns_fell from (course ∷ on) at (next, first, goes, more) =
      fell_more from.counts next.counts at.counts first.later (turns_fell next on at more)

  end_fell : (turned : ℕ) (at : Point) (last : Option Course) (to : Point)
      → EndsRound replies base seat turned at last to → NoneFell at.counts to.counts
  end_fell turned at None to ends = subst (λ (p : Point). NoneFell at.counts p.counts) (sym ends.1)
      (fell_still at.counts)
  end_fell turned at (Some last) to ends = ends.1.later

  pub rotated_fell : (from : Point) (round : Round) (to : Point) → Rotated replies base seat from round to
      → NoneFell from.counts to.counts
  rotated_fell from round to rotated =
      fell_more from.counts rotated.at.counts to.counts (turns_fell from round.on rotated.at rotated.turned)
      (end_fell (length round.on) rotated.at round.last to rotated.ends)
