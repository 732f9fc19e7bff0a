-- Runs whose account was not opened.
use Rattle.std.proofs.Common.{◌≡◌, ◌≤◌, ℕ, List, [], Option, None, Some, Result, Ok, Err, unwrap_or, refl, sym, ap, ◌∙◌, subst, inl, inr, arith}
use Rattle.std.specs.Bool.{⊤}
use Rattle.sm_base.specs.Faults.{Rose}
use Rattle.sm_disk.specs.declared.disk.Disk.{Ghosts}
use Rattle.sm_journal.specs.declared.answers.OpenRefused.{OpenRefused}
use Rattle.sm_journal.specs.declared.answers.OpenRefused.TheVariants.{Damaged, Failed, Memory}
use Rattle.sm_recovery.specs.Openings.{IsRefused}
use Rattle.sm_rotation.specs.Vouched.{Replies}
use Rattle.sm_command_line.specs.declared.settings.Mode.{Mode}
use Rattle.sm_command_line.specs.declared.settings.Mode.TheVariants.{Exec, Serve, Check, Drill, Agent, Ship as ShipMode, Follow}
use Rattle.sm_command_line.specs.declared.settings.Settings.{Settings}
use Rattle.sm_server.specs.declared.status.Status.{Status}
use Rattle.sm_server.specs.declared.status.Status.TheVariants as statuses
use Rattle.sm_base.specs.Outcomes.{OrMemory}
use Rattle.sm_principal.specs.declared.people.People.{People as Persons}
use Rattle.sm_principal.specs.declared.people.PeopleRefused.{PeopleRefused}
use Rattle.sm_principal.specs.declared.people.PeopleRefused.TheVariants as refusals
use Rattle.sm_principal.specs.Callers.{told}
use Rattle.sm_session.specs.Told.{nothing_told}
use Rattle.sm_io.proofs.Known.{append_known-nil, prepend_known-nil}
use Rattle.sm_server.specs.declared.asked.RunTask.{RunTask}
use Rattle.sm_server.specs.declared.asked.Role.{Role}
use Rattle.sm_server.specs.declared.asked.Role.TheVariants.{Primary, Replica}
use Rattle.sm_server.specs.declared.asked.RunTask.TheVariants.{Answer, Practise, Ship, Summarize}
use Rattle.sm_server.specs.Asked.{end_of_people, role_of_mode, role_of_words, FollowsPeople, FollowsWords, WordsDecide, PeopleDecide}
use Rattle.sm_server.specs.Outside.{Outside, Trace}
use Rattle.sm_server.specs.Ran.{Course, Story, course_of, AreAnswered, EndedAt, Ended, Runs}
use Rattle.sm_server.specs.Status.{WasFollowed, WasUnderstood}
use Rattle.sm_server.specs.Stored.{status_unopened, disk_unopened, Leaves, StaysVouched, WantsBy}
use Rattle.sm_server.specs.MessageRounds.{brought_nothing}
use Rattle.sm_server.proofs.StoredLemmas.{none_vouched, nothing_held}
use Rattle.sm_server.proofs.RunLemmas.{counts_in, trace_of, passed_by}

-- nothing was opened, and nothing happened
abbrev pub no_story : RunTask → Persons → Story
no_story task people = record { task = task; people = people; taken = nothing_held; history = []; failed = None }

-- between these nothing was read, written, read from the clock or drawn, and only the disk's count may have risen
pub record Still (before after : Outside) : Type 0 where
  pub left : after.left ≡ before.left
  pub taken : after.taken ≡ before.taken
  pub readings : after.readings ≡ before.readings
  pub drawn : after.drawn ≡ before.drawn
  pub disk : before.counts.disk ≤ after.counts.disk
  pub random : after.counts.random ≡ before.counts.random
  pub rotator : after.counts.rotator ≡ before.counts.rotator

module _ (replies : Replies) (task : RunTask) (people : Persons) (before after : Outside) (still : Still before after)
  where
    abbrev none : RunTask → Course
    none task = course_of replies (no_story task people)

    abbrev nothing : Trace
    nothing = trace_of before after [] nothing_told

    abbrev none_answered : (t : RunTask) → AreAnswered (none t) [] nothing
    none_answered t = record {
      brought = brought_nothing (counts_in before);
      turns = refl;
      history = refl;
      told = refl;
      disk = (omega arith, omega (arith, still.disk));
      random = ap (λ n. record { before = before.counts.random; after = n }) still.random;
      rotator = ap (λ n. record { before = before.counts.rotator; after = n }) still.rotator;
    }

    ended_at : (t : RunTask) → EndedAt t (none t) statuses.Memory [] after.left nothing
    ended_at Answer =
        record { messages = []; answered = none_answered Answer; ends = (omega arith, refl, inl ([], refl)) }
    ended_at Summarize = record { unread = refl; unmarked = refl; undrawn = refl; checks = refl }
    ended_at (Practise number) = record {
      unread = refl;
      count = 0;
      few = omega arith;
      told = nothing_told;
      answered = none_answered (Practise number);
      ends = record { unwritten = refl; reading = inl refl };
    }
    ended_at (Ship position) = record { unread = refl; unmarked = refl; untold = refl; ships = inl refl }

    memory_ended : Ended (none task) statuses.Memory [] after.left nothing
    memory_ended = ended_at task

    runs_still : (status : Status) → Ended (none task) status [] after.left nothing
        → Runs (none task) status before after
    runs_still status ended = record {
      input = [];
      trace = trace_of before after [] nothing_told;
      reads = sym still.left ∙ sym (prepend_known-nil after.left);
      passed = passed_by before after [] nothing_told (still.taken ∙ sym (append_known-nil before.taken))
          (still.readings ∙ sym (append_known-nil before.readings))
          (still.drawn ∙ sym (append_known-nil before.drawn));
      ended = ended;
    }

module _ {D : Type 0} (G : Ghosts D) (replies : Replies) (task : RunTask) (people : Persons) (old : D) where
  -- the disk's count did not fall
  pub later_unopened : (refused : OpenRefused D) → IsRefused G old refused
      → G.faults old ≤ G.faults (disk_unopened refused)
  later_unopened (Damaged now damage) r = r.later
  later_unopened (Failed now) r = r.later
  later_unopened (Memory now) r = r.later

  -- The run whose account was not opened, and what it leaves.
  abbrev pub Unopened : Status → Outside → Outside → D → Type 0
  Unopened status before after now =
      (runs : Runs (course_of replies (no_story task people)) status before after)
      × Leaves G status (no_story task people) old now
      × (status ≡ statuses.Memory → WantsBy G ⊤ (no_story task people) runs.input runs.trace old now)
      × ∥ StaysVouched replies nothing_held [] None ∥₁

  pub unopened : (refused : OpenRefused D) (now : D) (before after : Outside) → IsRefused G old refused
      → disk_unopened refused ≡ now → before.counts.disk ≡ G.faults old → after.counts.disk ≡ G.faults now
      → Still before after → Unopened (status_unopened refused) before after now
  unfolding runs_still
  unopened (Damaged d damage) now before after r same first last still = (
    runs_still replies task people before after still (statuses.Damaged damage.at damage.entry)
        (refl, (refl, refl, refl)),
    subst (λ x. Leaves G (statuses.Damaged damage.at damage.entry) (no_story task people) old x) same r,
    λ wants. absurd (cc),
    none_vouched replies,
  )
  unopened (Failed d) now before after r same first last still =
      let d_last : after.counts.disk ≡ G.faults d = last ∙ ap G.faults (sym same) in
      let rose : Rose before.counts.disk after.counts.disk = omega (arith, r.cause, first, d_last) in (
        runs_still replies task people before after still statuses.OpenFault (refl, (refl, refl, refl), rose),
        subst (λ x. Leaves G statuses.OpenFault (no_story task people) old x) same r,
        λ wants. absurd (cc),
        none_vouched replies,
      )
  unopened (Memory d) now before after r same first last still =
      let refused : IsRefused G old (Memory now) = subst (λ x. IsRefused G old (Memory x)) same r in (
        runs_still replies task people before after still statuses.Memory
            (memory_ended replies task people before after still),
        inr (inl refused),
        λ wants. inl (refl, (refl, refl, refl), inr (tt, refused)),
        none_vouched replies,
      )

  pub unopened_followed : (refused : OpenRefused D) → WasFollowed (status_unopened refused)
  unopened_followed (Damaged now damage) = tt
  unopened_followed (Failed now) = tt
  unopened_followed (Memory now) = tt

-- runs that do not follow their words

at_mode : (mode : Mode) (number : Option ℕ) (region : List ℕ) (status : Status)
    → Err status ≡ role_of_mode mode number region → status ≡ statuses.Words
at_mode Exec number region status is = absurd (let h : Err status ≡ Ok (Primary Answer) = is in cc)
at_mode Serve number region status is = let h : Err status ≡ Err statuses.Words = is in cc
at_mode Check number region status is = absurd (let h : Err status ≡ Ok (Primary Summarize) = is in cc)
at_mode Drill number region status is =
    absurd (let h : Err status ≡ Ok (Primary (Practise (unwrap_or number 0))) = is in cc)
at_mode Agent number region status is = let h : Err status ≡ Err statuses.Words = is in cc
at_mode ShipMode number region status is =
    absurd (let h : Err status ≡ Ok (Primary (Ship (unwrap_or number 0))) = is in cc)
at_mode Follow number region status is = absurd (let h : Err status ≡ Ok (Replica region) = is in cc)

at_words : (asked : Option Settings) (status : Status) → Err status ≡ role_of_words asked → status ≡ statuses.Words
at_words None status is = let h : Err status ≡ Err statuses.Words = is in cc
at_words (Some settings) status is = at_mode settings.mode settings.number settings.region status is

-- by how such a run ends
by_end : (P : Status → Type 0) (status : Status) (asked : Option Settings) → FollowsWords (Err status) asked
    → P statuses.Memory → (Err statuses.Words ≡ role_of_words asked → P statuses.Words) → P status
by_end P status asked (inl is) memory words =
    let same : status ≡ statuses.Memory = cc in subst P (sym same) memory
by_end P status asked (inr is) memory words =
    let Is : Status → Type 0 = λ s. Err s ≡ role_of_words asked in
    let ends : status ≡ statuses.Words = at_words asked status is in
    subst P (sym ends) (words (subst Is ends is))

-- a run whose text of the people was not read
pub still_outside : (outside : Outside) → Still outside outside
still_outside outside = record {
  left = refl;
  taken = refl;
  readings = refl;
  drawn = refl;
  disk = omega arith;
  random = refl;
  rotator = refl;
}

module _ (replies : Replies) (task : RunTask) (people : Persons) where
  runs_no_people : (line : ℕ) (outside : Outside)
      → Runs (course_of replies (no_story task people)) (statuses.People line) outside outside
  runs_no_people line outside =
      runs_still replies task people outside outside (still_outside outside) (statuses.People line)
      (refl, (refl, refl, refl))

  runs_no_memory : (outside : Outside)
      → Runs (course_of replies (no_story task people)) statuses.Memory outside outside
  runs_no_memory outside =
      let still = still_outside outside in
      runs_still replies task people outside outside still statuses.Memory
      (memory_ended replies task people outside outside still)

  -- A run that did nothing, and what it leaves.
  abbrev pub Unfollowed : {D : Type 0} → Ghosts D → Type 0 → D → Outside → Status → Type 0
  Unfollowed G Followed disk outside status =
      (runs : Runs (course_of replies (no_story task people)) status outside outside)
      × Leaves G status (no_story task people) disk disk
      × (status ≡ statuses.Memory → WantsBy G Followed (no_story task people) runs.input runs.trace disk disk)
      × ∥ StaysVouched replies nothing_held [] None ∥₁

  none_wanted : {D : Type 0} (G : Ghosts D) (Followed : Type 0) (disk : D) (outside : Outside)
      → Unfollowed G Followed disk outside statuses.Memory
  unfolding runs_no_memory runs_still
  none_wanted G Followed disk outside =
      (runs_no_memory outside, inl refl, λ wants. inl (refl, (refl, refl, refl), inl refl), none_vouched replies)

  -- a run whose text of the people was refused
  module _ (read : Result Persons ℕ) where
    -- by how it ends
    by_people : (P : Status → Type 0) (status : Status) → FollowsPeople (Err status) read → P statuses.Memory
        → ((line : ℕ) → read ≡ Err line → P (statuses.People line)) → P status
    by_people P status (inl is) memory bad = subst P (sym is) memory
    by_people P status (inr (line, is, ends)) memory bad = subst P (sym ends) (bad line is)

    module _ (status : Status) (follows : FollowsPeople (Err status) read) where
      pub people_refused : PeopleDecide status read people
      people_refused = by_people (λ s. PeopleDecide s read people) status follows tt (λ line is. is)

      -- the run, and what it leaves
      pub refused : {D : Type 0} (G : Ghosts D) (Followed : Type 0) (disk : D) (outside : Outside)
          → Unfollowed G Followed disk outside status
      refused G Followed disk outside =
          by_people (Unfollowed G Followed disk outside) status follows (none_wanted G Followed disk outside)
          (λ line is. (runs_no_people line outside, refl, λ wants. absurd (cc), none_vouched replies))

      pub understood_refused : WasUnderstood status
      understood_refused = by_people WasUnderstood status follows tt (λ line is. tt)

  module _ (status : Status) (asked : Option Settings) (ends : FollowsWords (Err status) asked) where
    pub words_decide : WordsDecide status asked task
    words_decide = by_end (λ s. WordsDecide s asked task) status asked ends tt (λ is. sym is)

    pub people_undecided : (read : Result Persons ℕ) → PeopleDecide status read people
    people_undecided read = by_end (λ s. PeopleDecide s read people) status asked ends tt (λ is. tt)

    -- the run, and what it leaves
    pub unfollowed : {D : Type 0} (G : Ghosts D) (Followed : Type 0) (disk : D) (outside : Outside)
        → Unfollowed G Followed disk outside status
    unfollowed G Followed disk outside =
        let still = still_outside outside in
        by_end (Unfollowed G Followed disk outside) status asked ends (none_wanted G Followed disk outside)
        (λ is. (
          runs_still replies task people outside outside still statuses.Words (refl, (refl, refl, refl)),
          refl,
          λ wants. absurd (cc),
          none_vouched replies,
        ))

-- what was followed further
pub wants_more : {D : Type 0} (G : Ghosts D) {Less More : Type 0} (story : Story) (input : List ℕ) (trace : Trace)
    (old new : D) → (Less → More) → WantsBy G Less story input trace old new
    → WantsBy G More story input trace old new
wants_more G story input trace old new further (inl (unread, undone, inl same)) = inl (unread, undone, inl same)
wants_more G story input trace old new further (inl (unread, undone, inr (followed, refused))) =
    inl (unread, undone, inr (further followed, refused))
wants_more G story input trace old new further (inr (followed, records)) = inr (further followed, records)

-- words that are followed
pub followed : (asked : Option Settings) (role : Role) → FollowsWords (Ok role) asked → role_of_words asked ≡ Ok role
followed asked role (inl is) = absurd (let h : Ok role ≡ Err statuses.Memory = is in cc)
followed asked role (inr is) = sym is

-- the text of the people, as it was read
pub followed_people : (people : Persons) (read : Result Persons ℕ) → OrMemory (told (Ok people)) read
    → FollowsPeople (Ok people) read
followed_people people read is = sym is

refused_as : (refused : PeopleRefused) (read : Result Persons ℕ) → OrMemory (told (Err refused)) read
    → FollowsPeople (Err (end_of_people refused)) read
refused_as (refusals.BadLine line) read is = inr (line, sym is, refl)
refused_as refusals.Memory read is = inl refl

pub refused_people : (refused : PeopleRefused) (read : Result Persons ℕ) (status : Status)
    → OrMemory (told (Err refused)) read → status ≡ end_of_people refused → FollowsPeople (Err status) read
refused_people refused read status is ends =
    subst (λ s. FollowsPeople (Err s) read) (sym ends) (refused_as refused read is)
