-- Each call of a run, from what the account says of its own call.
use Rattle.std.proofs.Common.{◌≡◌, ℕ, ◌-◌, false, nat_lt, List, [], map, slice_get, Option, Some, None, option_map, refl, sym, ap, subst, ◌∙◌, inl, arith}
use Rattle.std.proofs.lemmas.Option.{slice_get-map}
use Rattle.sm_base.specs.Faults.{Rose}
use Rattle.sm_base.specs.declared.limits.TheConstants.{JOURNAL_LIMIT}
use Rattle.sm_base.specs.declared.moment.Moment.{Moment}
use Rattle.sm_claims.specs.Works.{IsWorkOf}
use Rattle.sm_core.specs.Histories.{later}
use Rattle.sm_disk.specs.Sight.{Image}
use Rattle.sm_disk.specs.declared.disk.Disk.{Ghosts as DiskGhosts}
use Rattle.sm_journal.specs.declared.answers.OpenRefused.{OpenRefused}
use Rattle.sm_model.specs.declared.entry.At.{At}
use Rattle.sm_model.specs.declared.entry.Entry.{Entry}
use Rattle.sm_model.specs.declared.person.Person.{Person}
use Rattle.sm_model.specs.declared.request.Request.{Request}
use Rattle.sm_model.specs.declared.rows.SecretRow.{SecretRow}
use Rattle.sm_rotator.specs.declared.rotator.Rotator.{Ghosts as RotatorGhosts}
use Rattle.sm_rotator.specs.declared.told.Told.{Told}
use Rattle.sm_rotator.specs.declared.verdict.Verdict.{Verdict}
use Rattle.sm_rotator.specs.declared.work.Work.{Work}
use Rattle.sm_account.specs.Accounts as accounts
use Rattle.sm_account.specs.Claims.{ready_at}
use Rattle.sm_account.specs.Crashes.{HoldsOnDisk}
use Rattle.sm_account.specs.CallOutcomes.{CallOutcome, Leaves}
use Rattle.sm_account.specs.CallOutcomes as call_outcomes
use Rattle.sm_account.specs.Efforts.{Effort}
use Rattle.sm_account.specs.Handled.{HandledAs}
use Rattle.sm_account.specs.Handling.{handled_by}
use Rattle.sm_account.specs.NextWork.{NextAs}
use Rattle.sm_account.specs.Openings.{IsOpenedOver, TakenFrom}
use Rattle.sm_account.specs.Outcome.{Outcome as ends, Question, outcome}
use Rattle.sm_account.specs.Report.{ReportsAs, report_at, reported_by}
use Rattle.sm_account.specs.StartDue.{StartsAs, start_at, started_by}
use Rattle.sm_account.specs.States.{Base, state_at}
use Rattle.sm_account.specs.declared.account.Account.{Account}
use Rattle.sm_account.specs.declared.handled.Handled.{Handled}
use Rattle.sm_account.specs.declared.next_work.NextWork.TheVariants as works
use Rattle.sm_account.specs.declared.report.Reported.{Reported as reports}
use Rattle.sm_account.specs.declared.start_due.StartedDue.{StartedDue}
use Rattle.sm_drive.specs.Aims.{Aim, Claims, aim_asked, aim_ready, aim_told, aim_within}
use Rattle.sm_recovery.specs.Openings.{IsRefused}
use Rattle.sm_drive.specs.Disks.{OnDiskFault, UnlessDiskFault, found_by}
use Rattle.sm_drive.specs.Openings.{Tells}
use Rattle.sm_drive.specs.Outcomes.{handled_as, reported_as, started_as}
use Rattle.sm_drive.specs.Refused.{is_damaged}
use Rattle.sm_drive.specs.Stands.{Stand, base_at, seat, opened, stand_of, told_of}
use Rattle.sm_drive.specs.Stepping.{Calls, Counts, IsUnder, disks_in, stand_in}
use Rattle.sm_drive.specs.Steps.{Goes, GoesTo, Reopening, entries_with}
use Rattle.sm_drive.specs.Working.{Asks, Keeps}
use Rattle.sm_drive.specs.declared.call.Call.{Call}
use Rattle.sm_drive.specs.declared.call.Call.TheVariants as calls
use Rattle.sm_drive.specs.declared.outcome.Outcome.{Outcome}
use Rattle.sm_drive.specs.declared.outcome.Outcome.TheVariants.{Entered, Quiet, Refused, Stale, Limit, DiskFault, Asked, Nothing, Memory, Reopened}
use Rattle.sm_drive.specs.declared.run.Run.{Run}
use Rattle.sm_drive.proofs.RestartLemmas.{found_state, not_damaged}
use Rattle.sm_drive.proofs.StepLemmas.{asked_goes, base_here, claim_goes, handled_fault, handled_goes, handled_stays, leaves_tells, reported_fault, reported_goes, reported_stays, same_stand, started_fault, started_goes, started_stays, total}

-- the same run with another account and other verdicts
abbrev pub run_with : {D R : Type 0} {G : DiskGhosts D} {V : RotatorGhosts R} → Run D R G V → Account D R G V
    → List (Verdict R V) → Run D R G V
run_with run account verdicts = record run { account = account; verdicts = verdicts }

abbrev pub asked : Person → Moment → List ℕ → Request → Question
asked person now drawn request = record { person = person; now = now; drawn = drawn; request = request }

-- no disk fails where a rotator is asked
asks_fault : (P : Type 0) {R : Type 0} {V : RotatorGhosts R} (work : Work) (old new : List (Verdict R V))
    (out : Outcome) → Asks V work old out new → OnDiskFault out P
asks_fault P work old new Asked asks = tt
asks_fault P work old new Memory asks = tt
asks_fault P work old new (Entered place) asks = tt
asks_fault P work old new Quiet asks = tt
asks_fault P work old new Refused asks = tt
asks_fault P work old new Stale asks = tt
asks_fault P work old new Limit asks = tt
asks_fault P work old new DiskFault asks = absurd asks
asks_fault P work old new Nothing asks = tt
asks_fault P work old new Reopened asks = tt

asks_stays : (P : Type 0) {R : Type 0} {V : RotatorGhosts R} (work : Work) (old new : List (Verdict R V))
    (out : Outcome) → Asks V work old out new → P → UnlessDiskFault out P
asks_stays P work old new Asked asks stays = stays
asks_stays P work old new Memory asks stays = stays
asks_stays P work old new (Entered place) asks stays = stays
asks_stays P work old new Quiet asks stays = stays
asks_stays P work old new Refused asks stays = stays
asks_stays P work old new Stale asks stays = stays
asks_stays P work old new Limit asks stays = stays
asks_stays P work old new DiskFault asks stays = tt
asks_stays P work old new Nothing asks stays = stays
asks_stays P work old new Reopened asks stays = stays

module _ {D R : Type 0} (G : DiskGhosts D) (V : RotatorGhosts R) (old : Run D R G V) (account : Account D R G V)
    (origin : accounts.SameOrigin old.account account) where
  -- the disk's count of faults rose
  abbrev HasRisen : Type 0
  HasRisen = Rose (G.faults (accounts.disk old.account)) (G.faults (accounts.disk account))

  -- it is as before
  abbrev HasStayed : Type 0
  HasStayed = G.faults (accounts.disk account) ≡ G.faults (accounts.disk old.account)

  -- what holds of every call of the account, where the step is right
  calls_by : (verdicts : List (Verdict R V)) (call : Call) (out : Outcome) (call_outcome : CallOutcome)
      → Leaves G old.account.inner account.inner seat call_outcome
      → found_by call (disks_in old) ≡ accounts.began old.account → OnDiskFault out HasRisen
      → UnlessDiskFault out HasStayed
      → (IsUnder old → (entries : List Entry) → Counts old.first (stand_in old entries)
      → (more : List Entry) × Goes V.replies call out (stand_in old entries) (stand_of account verdicts more))
      → Calls G V old call out (run_with old account verdicts)
  calls_by verdicts call out call_outcome leaves found fault stays goes = record {
    first = refl;
    under = λ under. ap (λ (b : Base). b.limit) origin.base_stays ∙ under;
    tells = leaves_tells old.account account call_outcome leaves;
    touches = record {
      began = origin.began_stays ∙ sym found;
      later = leaves.later;
      fault = fault;
      no_other = stays;
    };
    goes = λ under tells entries counts. goes under entries counts;
  }

  -- what a call comes to at the account is what it comes to where the run stands
  at_base : (to : Base → Aim) (out : Outcome) (entries : List Entry) (new : Stand) → IsUnder old
      → GoesTo V.replies (to (accounts.base old.account)) out (stand_in old entries) new
      → GoesTo V.replies (to (base_at (stand_in old entries))) out (stand_in old entries) new
  at_base to out entries new under goes =
      subst (λ (b : Base). GoesTo V.replies (to b) out (stand_in old entries) new)
      (sym (base_here old.account old.verdicts entries under)) goes

  -- the account's counts of entries before a call and behind it, and the place that its entry has
  at_place : (before made place : ℕ) → before ≡ made → place ≡ before - old.first → place ≡ made - old.first
  at_place before made place same is = is ∙ ap (λ (n : ℕ). n - old.first) same

  handle_by : (person : Person) (now : Moment) (drawn : List ℕ) (request : Request) (result : Handled) (place : ℕ)
      → place ≡ total old.account - old.first
      → HandledAs result (outcome (accounts.state old.account) (asked person now drawn request))
      → Leaves G old.account.inner account.inner seat
      (handled_by result (outcome (accounts.state old.account) (asked person now drawn request)))
      → Calls G V old (calls.Handle person now drawn request)
      (handled_as (nat_lt (total old.account) (total account)) place result) (run_with old account old.verdicts)
  handle_by person now drawn request result place is_place answers leaves =
      let wanted : ends = outcome (accounts.state old.account) (asked person now drawn request) in
      let out : Outcome = handled_as (nat_lt (total old.account) (total account)) place result in
      calls_by old.verdicts (calls.Handle person now drawn request) out (handled_by result wanted) leaves refl
      (handled_fault HasRisen wanted result (nat_lt (total old.account) (total account)) place answers leaves.fault)
      (handled_stays HasStayed wanted result (nat_lt (total old.account) (total account)) place leaves.no_other)
      (λ under entries counts.
      let goes = handled_goes old.account account old.verdicts entries old.first place counts is_place wanted result
      answers leaves in (
        goes.0,
        at_base (λ (b : Base). aim_asked (outcome (state_at b (accounts.history old.account))
            (asked person now drawn request))) out entries (stand_of account old.verdicts goes.0) under goes.1,
      ))

  -- a request, by the counts of entries before it and behind it
  pub handle_calls : (person : Person) (now : Moment) (drawn : List ℕ) (request : Request) (result : Handled)
      (before after place : ℕ) (out : Outcome) → before ≡ total old.account → after ≡ total account
      → place ≡ before - old.first → out ≡ handled_as (nat_lt before after) place result
      → HandledAs result (outcome (accounts.state old.account) (asked person now drawn request))
      → Leaves G old.account.inner account.inner seat
      (handled_by result (outcome (accounts.state old.account) (asked person now drawn request)))
      → Calls G V old (calls.Handle person now drawn request) out (run_with old account old.verdicts)
  handle_calls person now drawn request result before after place out was is is_place out_is answers leaves =
      let same : out ≡ handled_as (nat_lt (total old.account) (total account)) place result =
      out_is ∙ ap (λ (n : ℕ). handled_as (nat_lt n after) place result) was
      ∙ ap (λ (n : ℕ). handled_as (nat_lt (total old.account) n) place result) is in
      subst (λ (o : Outcome). Calls G V old (calls.Handle person now drawn request) o
      (run_with old account old.verdicts)) (sym same)
      (handle_by person now drawn request result place (at_place before (total old.account) place was is_place) answers
      leaves)

  due_by : (now : Moment) (drawn : List ℕ) (result : StartedDue) (place : ℕ) → place ≡ total old.account - old.first
      → StartsAs result (start_at (accounts.state old.account) now drawn)
      → Leaves G old.account.inner account.inner seat
      (started_by result (start_at (accounts.state old.account) now drawn))
      → Calls G V old (calls.Due now drawn) (started_as place result) (run_with old account old.verdicts)
  due_by now drawn result place is_place answers leaves =
      let wanted : Effort (Unit {0}) = start_at (accounts.state old.account) now drawn in
      calls_by old.verdicts (calls.Due now drawn) (started_as place result) (started_by result wanted) leaves refl
      (started_fault HasRisen wanted result place answers leaves.fault)
      (started_stays HasStayed wanted result place leaves.no_other)
      (λ under entries counts.
      let goes = started_goes old.account account old.verdicts entries old.first place counts is_place wanted result
      answers leaves in (
        goes.0,
        at_base (λ (b : Base). aim_within Nothing (start_at (state_at b (accounts.history old.account)) now drawn))
            (started_as place result) entries (stand_of account old.verdicts goes.0) under goes.1,
      ))

  -- the start of a rotation
  pub due_calls : (now : Moment) (drawn : List ℕ) (result : StartedDue) (before place : ℕ) (out : Outcome)
      → before ≡ total old.account → place ≡ before - old.first → out ≡ started_as place result
      → StartsAs result (start_at (accounts.state old.account) now drawn)
      → Leaves G old.account.inner account.inner seat
      (started_by result (start_at (accounts.state old.account) now drawn))
      → Calls G V old (calls.Due now drawn) out (run_with old account old.verdicts)
  due_calls now drawn result before place out was is_place out_is answers leaves =
      subst (λ (o : Outcome). Calls G V old (calls.Due now drawn) o (run_with old account old.verdicts)) (sym out_is)
      (due_by now drawn result place (at_place before (total old.account) place was is_place) answers leaves)

  report_by : (number : ℕ) (now : Moment) (verdict : Verdict R V) (result : reports) (place : ℕ)
      → slice_get (map told_of old.verdicts) number ≡ Some (told_of verdict)
      → place ≡ total old.account - old.first
      → ReportsAs result (report_at (accounts.state old.account) now verdict.work verdict.answer)
      → Leaves G old.account.inner account.inner seat
      (reported_by result (report_at (accounts.state old.account) now verdict.work verdict.answer))
      → Calls G V old (calls.Report number now) (reported_as place result) (run_with old account old.verdicts)
  report_by number now verdict result place named is_place answers leaves =
      let wanted : Effort (Option At) = report_at (accounts.state old.account) now verdict.work verdict.answer in
      calls_by old.verdicts (calls.Report number now) (reported_as place result) (reported_by result wanted) leaves refl
      (reported_fault HasRisen wanted result place answers leaves.fault)
      (reported_stays HasStayed wanted result place leaves.no_other)
      (λ under entries counts.
      let goes = reported_goes old.account account old.verdicts entries old.first place counts is_place wanted result
      answers leaves in
      let here = at_base (λ (b : Base). aim_told (state_at b (accounts.history old.account)) now
      (Some (told_of verdict))) (reported_as place result) entries (stand_of account old.verdicts goes.0) under goes.1
      in (
        goes.0,
        subst (λ (told : Option Told). GoesTo V.replies
            (aim_told (state_at (base_at (stand_in old entries)) (accounts.history old.account)) now told)
            (reported_as place result) (stand_in old entries) (stand_of account old.verdicts goes.0)) (sym named)
            here,
      ))

  -- a report of the verdict of a number
  pub report_calls : (number : ℕ) (now : Moment) (verdict : Verdict R V) (result : reports) (before place : ℕ)
      (out : Outcome) → Some verdict ≡ slice_get old.verdicts number → before ≡ total old.account
      → place ≡ before - old.first → out ≡ reported_as place result
      → ReportsAs result (report_at (accounts.state old.account) now verdict.work verdict.answer)
      → Leaves G old.account.inner account.inner seat
      (reported_by result (report_at (accounts.state old.account) now verdict.work verdict.answer))
      → Calls G V old (calls.Report number now) out (run_with old account old.verdicts)
  report_calls number now verdict result before place out named was is_place out_is answers leaves =
      subst (λ (o : Outcome). Calls G V old (calls.Report number now) o (run_with old account old.verdicts))
      (sym out_is)
      (report_by number now verdict result place
      (slice_get-map told_of old.verdicts number ∙ ap (option_map told_of) (sym named))
      (at_place before (total old.account) place was is_place) answers leaves)

  -- ---- works

  -- what becomes of the secret that is ready
  ready_goes : (now : Moment) (verdicts : List (Verdict R V)) (out : Outcome) (call_outcome : CallOutcome)
      → Leaves G old.account.inner account.inner seat call_outcome → OnDiskFault out HasRisen
      → UnlessDiskFault out HasStayed
      → ((entries : List Entry) → GoesTo V.replies (aim_ready (ready_at (accounts.base old.account)
      (accounts.history old.account) (later (accounts.state old.account).last now))
      (later (accounts.state old.account).last now)) out (stand_in old entries) (stand_of account verdicts entries))
      → Calls G V old (calls.Work now) out (run_with old account verdicts)
  ready_goes now verdicts out call_outcome leaves fault stays goes =
      calls_by verdicts (calls.Work now) out call_outcome leaves refl fault stays (λ under entries counts. (
        entries,
        at_base (λ (b : Base). aim_ready (ready_at b (accounts.history old.account)
            (later (state_at b (accounts.history old.account)).last now))
            (later (state_at b (accounts.history old.account)).last now)) out entries
            (stand_of account verdicts entries) under (goes entries),
      ))

  -- a work that was claimed, and the verdict that was kept or not
  pub work_calls : (now : Moment) (work : Work) (verdicts : List (Verdict R V)) (out : Outcome)
      → NextAs (works.Work work) (ready_at (accounts.base old.account) (accounts.history old.account)
      (later (accounts.state old.account).last now))
      → Leaves G old.account.inner account.inner seat
      (call_outcomes.Claimed work.arn work.at (later (accounts.state old.account).last now))
      → Asks V work old.verdicts out verdicts
      → Calls G V old (calls.Work now) out (run_with old account verdicts)
  work_calls now work verdicts out next leaves asks =
      ready_goes now verdicts out (call_outcomes.Claimed work.arn work.at
      (later (accounts.state old.account).last now)) leaves (asks_fault HasRisen work old.verdicts verdicts out asks)
      (asks_stays HasStayed work old.verdicts verdicts out asks leaves.no_other)
      (λ entries. to (ready_at (accounts.base old.account) (accounts.history old.account)
      (later (accounts.state old.account).last now)) next entries)
    where
      by : (row : SecretRow) → IsWorkOf row work → (o : Outcome) → Asks V work old.verdicts o verdicts
          → (entries : List Entry)
          → GoesTo V.replies (Claims row (later (accounts.state old.account).last now)) o (stand_in old entries)
          (stand_of account verdicts entries)
      by row of Asked (verdict, same, is) entries =
          subst (λ (l : List (Verdict R V)). GoesTo V.replies (Claims row (later (accounts.state old.account).last now))
          Asked (stand_in old entries) (stand_of account l entries)) (sym is)
          (asked_goes old.account account old.verdicts entries (later (accounts.state old.account).last now) row work
          verdict of same leaves)
      by row of Memory is entries =
          subst (λ (l : List (Verdict R V)). GoesTo V.replies (Claims row (later (accounts.state old.account).last now))
          Memory (stand_in old entries) (stand_of account l entries)) (sym is)
          (claim_goes old.account account old.verdicts entries (later (accounts.state old.account).last now) row work of
          leaves)
      by row of (Entered place) asks entries = absurd asks
      by row of Quiet asks entries = absurd asks
      by row of Refused asks entries = absurd asks
      by row of Stale asks entries = absurd asks
      by row of Limit asks entries = absurd asks
      by row of DiskFault asks entries = absurd asks
      by row of Nothing asks entries = absurd asks
      by row of Reopened asks entries = absurd asks

      to : (found : Option SecretRow) → NextAs (works.Work work) found → (entries : List Entry)
          → GoesTo V.replies (aim_ready found (later (accounts.state old.account).last now)) out (stand_in old entries)
          (stand_of account verdicts entries)
      to None next entries = absurd next
      to (Some row) next entries = by row next out asks entries

  -- no step is ready
  pub no_work_calls : (now : Moment)
      → NextAs works.None (ready_at (accounts.base old.account) (accounts.history old.account)
      (later (accounts.state old.account).last now))
      → Leaves G old.account.inner account.inner seat call_outcomes.Nothing
      → Calls G V old (calls.Work now) Nothing (run_with old account old.verdicts)
  no_work_calls now next leaves =
      ready_goes now old.verdicts Nothing call_outcomes.Nothing leaves tt leaves.no_other
      (λ entries. to (ready_at (accounts.base old.account) (accounts.history old.account)
      (later (accounts.state old.account).last now)) next entries)
    where
      to : (found : Option SecretRow) → NextAs works.None found → (entries : List Entry)
          → GoesTo V.replies (aim_ready found (later (accounts.state old.account).last now)) Nothing
          (stand_in old entries) (stand_of account old.verdicts entries)
      to None next entries =
          record { ends = refl; new_is = same_stand old.account account old.verdicts entries leaves }
      to (Some row) next entries = absurd next

  -- memory is wanted before a claim
  pub wanting_calls : (now : Moment) → Leaves G old.account.inner account.inner seat call_outcomes.Nothing
      → Calls G V old (calls.Work now) Memory (run_with old account old.verdicts)
  wanting_calls now leaves =
      ready_goes now old.verdicts Memory call_outcomes.Nothing leaves tt leaves.no_other
      (λ entries. to (ready_at (accounts.base old.account) (accounts.history old.account)
      (later (accounts.state old.account).last now)) entries)
    where
      to : (found : Option SecretRow) → (entries : List Entry)
          → GoesTo V.replies (aim_ready found (later (accounts.state old.account).last now)) Memory
          (stand_in old entries) (stand_of account old.verdicts entries)
      to None entries = record { ends = tt; new_is = same_stand old.account account old.verdicts entries leaves }
      to (Some row) entries = inl (same_stand old.account account old.verdicts entries leaves)

-- a verdict that was kept is one on its work
pub asks_kept : {R : Type 0} {V : RotatorGhosts R} (work : Work) (verdict : Verdict R V)
    (old new : List (Verdict R V)) (out : Outcome) → Keeps verdict old out new → verdict.work ≡ work
    → Asks V work old out new
asks_kept work verdict old new Asked is same = (verdict, same, is)
asks_kept work verdict old new Memory is same = is
asks_kept work verdict old new (Entered place) is same = absurd is
asks_kept work verdict old new Quiet is same = absurd is
asks_kept work verdict old new Refused is same = absurd is
asks_kept work verdict old new Stale is same = absurd is
asks_kept work verdict old new Limit is same = absurd is
asks_kept work verdict old new DiskFault is same = absurd is
asks_kept work verdict old new Nothing is same = absurd is
asks_kept work verdict old new Reopened is same = absurd is

-- a call by the parts of what a step gives
pub called : {D R : Type 0} {G : DiskGhosts D} {V : RotatorGhosts R} (run new : Run D R G V) (call is : Call)
    (out : Outcome) (to : Run D R G V × Outcome) → call ≡ is → to ≡ (new, out) → Calls G V run is out new
    → Calls G V run call to.1 to.0
called {D} {R} {G} {V} run new call is out to same left goes =
    subst (λ (k : Call). Calls G V run k to.1 to.0) (sym same)
    (subst (λ (t : Run D R G V × Outcome). Calls G V run is t.1 t.0) (sym left) goes)

-- ---- no verdict has the number

module _ {D R : Type 0} (G : DiskGhosts D) (V : RotatorGhosts R) (old : Run D R G V) where
  pub unnamed_calls : (number : ℕ) (now : Moment) → None ≡ slice_get old.verdicts number
      → Calls G V old (calls.Report number now) Nothing old
  unnamed_calls number now none = record {
    first = refl;
    under = λ under. under;
    tells = λ s reads. (s, reads);
    touches = record { began = refl; later = omega arith; fault = tt; no_other = refl };
    goes = λ under tells entries counts. (
      entries,
      subst (λ (told : Option Told). GoesTo V.replies
          (aim_told (state_at (base_at (stand_in old entries)) (accounts.history old.account)) now told) Nothing
          (stand_in old entries) (stand_in old entries)) (sym named) (record { ends = refl; new_is = refl }),
    );
  }
    where
      named : slice_get (map told_of old.verdicts) number ≡ None
      named = slice_get-map told_of old.verdicts number ∙ ap (option_map told_of) (sym none)

-- ---- a restart

module _ {D R : Type 0} (G : DiskGhosts D) (V : RotatorGhosts R) (old : Run D R G V)
    (reads_image : (disk : D) (s : Image) → (G.sight disk).reads s → (G.sight disk).images s)
    (holds : HoldsOnDisk (accounts.all_of old.account) (accounts.failed old.account)
    (G.sight (accounts.disk old.account))) (closed : D) (closed_is : closed ≡ accounts.disk old.account)
  where
    -- an opening of what was closed opens the account again
    pub restart_calls : (account : Account D R G V) → IsOpenedOver closed 1 JOURNAL_LIMIT account
        → TakenFrom G closed JOURNAL_LIMIT (accounts.taken account) (accounts.disk account)
        → Calls G V old calls.Restart Reopened (run_with old account old.verdicts)
    restart_calls account over taken_from = record {
      first = refl;
      under = λ under. ap (λ (b : Base). b.limit) over.base_is;
      tells = from.stays.tells;
      touches = record {
        began = over.began_is ∙ closed_is;
        later = from.later;
        fault = tt;
        no_other = from.no_other;
      };
      goes = λ under tells entries counts. reopens (tells refl) entries;
    }
      where
        from : TakenFrom G (accounts.disk old.account) JOURNAL_LIMIT (accounts.taken account) (accounts.disk account)
        from = subst (λ (d : D). TakenFrom G d JOURNAL_LIMIT (accounts.taken account) (accounts.disk account)) closed_is
            taken_from

        opened_stand : (entries : List Entry) → stand_of account old.verdicts entries
            ≡ opened (accounts.taken account) (stand_in old entries).kept entries
        opened_stand entries =
            let history : accounts.history account ≡ [] = over.history_is in
            let failed : accounts.failed account ≡ None = over.sure in
            cc

        reopens : Tells (G.sight (accounts.disk old.account)) → (entries : List Entry)
            → (more : List Entry) × Reopening Reopened (stand_in old entries) (stand_of account old.verdicts more)
        reopens (s, reads) entries =
            let found = found_state G (accounts.disk old.account) (accounts.all_of old.account)
            (accounts.failed old.account) holds s (reads_image (accounts.disk old.account) s reads) reads
            (accounts.taken account) (accounts.disk account) from in (
              entries_with entries found.0,
              record {
                out_is = refl;
                found = found.0;
                found_is = found.1;
                state = found.2;
                new_is = opened_stand (entries_with entries found.0);
              },
            )

    -- a refusal is by the opening's rule, and over a disk that tells it is not damaged
    pub refused_here : (refused : OpenRefused D) → IsRefused G closed refused
        → IsRefused G (accounts.disk old.account) refused
    refused_here refused why = subst (λ (d : D). IsRefused G d refused) closed_is why

    pub refused_whole : (refused : OpenRefused D) → IsRefused G closed refused
        → Tells (G.sight (accounts.disk old.account)) → is_damaged refused ≡ false
    refused_whole refused why (s, reads) =
        not_damaged G (accounts.disk old.account) (accounts.all_of old.account) (accounts.failed old.account) holds s
        (reads_image (accounts.disk old.account) s reads) reads refused (refused_here refused why)
