-- What the account says of a call is a step of the run.
use Rattle.std.proofs.Common.{◌≡◌, ℕ, ◌+◌, ◌-◌, Bool, true, false, cond, nat_lt, List, [], ◌∷◌, ◌++◌, map, length, length-append, Option, Some, None, refl, sym, ap, subst, ◌∙◌, append-nil, inl, inr, arith}
use Rattle.std.proofs.lemmas.Bool.{le-ltb, lt-ltb}
use mathlib.Core.List.{map-append}
use Rattle.sm_base.specs.declared.limits.TheConstants.{JOURNAL_LIMIT}
use Rattle.sm_base.specs.declared.moment.Moment.{Moment}
use Rattle.sm_claims.specs.Works.{IsWorkOf}
use Rattle.sm_disk.specs.Steps.{GoesOnTelling}
use Rattle.sm_disk.specs.declared.disk.Disk.{Ghosts as DiskGhosts}
use Rattle.sm_model.specs.declared.entry.At.{At}
use Rattle.sm_model.specs.declared.entry.Entry.{Entry}
use Rattle.sm_model.specs.declared.entry.Mark.{Mark}
use Rattle.sm_model.specs.declared.entry.Mark.TheVariants as marks
use Rattle.sm_model.specs.declared.rows.SecretRow.{SecretRow}
use Rattle.sm_model.specs.declared.why.Why.{Why}
use Rattle.sm_rotator.specs.declared.rotator.Rotator.{Ghosts as RotatorGhosts}
use Rattle.sm_rotator.specs.declared.verdict.Verdict.{Verdict}
use Rattle.sm_rotator.specs.declared.work.Work.{Work}
use Rattle.sm_store.specs.Stores as stores
use Rattle.sm_store.specs.Held.{Held}
use Rattle.sm_recovery.specs.Lawful.{made_of}
use Rattle.sm_account.specs.Accounts as accounts
use Rattle.sm_account.specs.CallOutcomes.{CallOutcome, IfFailed, Leaves, LeavesTried, tried_by, UnlessFailed}
use Rattle.sm_account.specs.CallOutcomes as call_outcomes
use Rattle.sm_account.specs.Efforts.{Effort, Undue, Over, Due}
use Rattle.sm_account.specs.Handled.{HandledAs}
use Rattle.sm_account.specs.Handling.{handled_by}
use Rattle.sm_account.specs.History.{entries_in}
use Rattle.sm_account.specs.Outcome.{Outcome as ends, Refuses, Replies as replied}
use Rattle.sm_account.specs.Report.{ReportsAs, reported_by}
use Rattle.sm_account.specs.StartDue.{StartsAs, started_by}
use Rattle.sm_account.specs.declared.account.Account.{Account}
use Rattle.sm_account.specs.declared.handled.Handled.{Handled}
use Rattle.sm_account.specs.declared.handled.Handled.TheVariants as handled
use Rattle.sm_account.specs.declared.report.Reported.{Reported as reports}
use Rattle.sm_account.specs.declared.report.Reported.TheVariants as reported
use Rattle.sm_account.specs.declared.start_due.StartedDue.{StartedDue}
use Rattle.sm_account.specs.declared.start_due.StartedDue.TheVariants as started
use Rattle.sm_account.proofs.HeldLemmas.{made_count}
use Rattle.sm_account.proofs.StateLaws.{entries_more}
use Rattle.sm_drive.specs.Aims.{Aim, Enters, Claims, Stops, aim_asked, aim_within, is_limit, refused_as}
use Rattle.sm_drive.specs.Disks.{OnDiskFault, UnlessDiskFault}
use Rattle.sm_drive.specs.Outcomes.{answered_as, handled_as, reported_as, started_as}
use Rattle.sm_drive.specs.Stands.{Stand, base_at, seat, entered, faulted, claimed, keeping, stand_of, told_of}
use Rattle.sm_drive.specs.Stepping.{Counts}
use Rattle.sm_drive.specs.Steps.{EndsAs, GoesTo}
use Rattle.sm_drive.specs.declared.outcome.Outcome.{Outcome}
use Rattle.sm_drive.specs.declared.outcome.Outcome.TheVariants.{Entered, Quiet, Refused, Stale, Limit, DiskFault, Asked, Nothing, Memory}

-- ---- a disk goes on telling

module _ {D R : Type 0} {G : DiskGhosts D} {V : RotatorGhosts R} (old new : Account D R G V) where
  tells_by : (tried : Option Entry) → LeavesTried G tried old.inner new.inner
      → GoesOnTelling (G.sight (accounts.disk old)) (G.sight (accounts.disk new))
  tells_by None same =
      subst (λ (d : D). GoesOnTelling (G.sight (accounts.disk old)) (G.sight d)) (sym (ap stores.disk_of same))
      (λ s reads. (s, reads))
  tells_by (Some own) (inl all) = all.tells
  tells_by (Some own) (inr (mid, first, second)) =
      λ s reads. let told = first.tells s reads in second.tells told.0 told.1

  pub leaves_tells : (call_outcome : CallOutcome) → Leaves G old.inner new.inner seat call_outcome
      → GoesOnTelling (G.sight (accounts.disk old)) (G.sight (accounts.disk new))
  leaves_tells call_outcome leaves = tells_by (tried_by call_outcome) leaves.any_moment

-- ---- a fact where the disk failed, of the account and of the run

module _ (P : Type 0) where
  answered_fault : (entered : Bool) (place : ℕ) → OnDiskFault (answered_as entered place) P
  answered_fault true place = tt
  answered_fault false place = tt

  refused_fault : (why : Why) → OnDiskFault (refused_as why) P
  refused_fault why = by (is_limit why)
    where
      by : (b : Bool) → OnDiskFault (cond b Limit Refused) P
      by true = tt
      by false = tt

  pub handled_fault : (wanted : ends) (result : Handled) (entered : Bool) (place : ℕ) → HandledAs result wanted
      → IfFailed (handled_by result wanted) P → OnDiskFault (handled_as entered place result) P
  handled_fault wanted (handled.Answered reply) entered place is failed = answered_fault entered place
  handled_fault wanted (handled.Refused why) entered place is failed = refused_fault why
  handled_fault (replied reply (Some entry)) handled.DiskFault entered place is failed = failed
  handled_fault (replied reply None) handled.DiskFault entered place is failed = absurd is
  handled_fault (Refuses why) handled.DiskFault entered place is failed = absurd is
  handled_fault wanted handled.Memory entered place is failed = tt

  pub reported_fault : (wanted : Effort (Option At)) (result : reports) (place : ℕ) → ReportsAs result wanted
      → IfFailed (reported_by result wanted) P → OnDiskFault (reported_as place result) P
  reported_fault wanted reported.Moved place is failed = tt
  reported_fault wanted (reported.Stale at) place is failed = tt
  reported_fault wanted (reported.Limit most) place is failed = tt
  reported_fault (Due entry) reported.DiskFault place is failed = failed
  reported_fault (Undue at) reported.DiskFault place is failed = absurd is
  reported_fault (Over passed) reported.DiskFault place is failed = absurd is
  reported_fault wanted reported.Memory place is failed = tt

  pub started_fault : (wanted : Effort (Unit {0})) (result : StartedDue) (place : ℕ) → StartsAs result wanted
      → IfFailed (started_by result wanted) P → OnDiskFault (started_as place result) P
  started_fault wanted (started.Started arn) place is failed = tt
  started_fault wanted started.None place is failed = tt
  started_fault wanted (started.Limit most) place is failed = tt
  started_fault (Due entry) started.DiskFault place is failed = failed
  started_fault (Undue none) started.DiskFault place is failed = absurd is
  started_fault (Over passed) started.DiskFault place is failed = absurd is
  started_fault wanted started.Memory place is failed = tt

-- ---- a fact where it did not fail

module _ (P : Type 0) where
  answered_stays : (entered : Bool) (place : ℕ) → P → UnlessDiskFault (answered_as entered place) P
  answered_stays true place stays = stays
  answered_stays false place stays = stays

  refused_stays : (why : Why) → P → UnlessDiskFault (refused_as why) P
  refused_stays why stays = by (is_limit why)
    where
      by : (b : Bool) → UnlessDiskFault (cond b Limit Refused) P
      by true = stays
      by false = stays

  pub handled_stays : (wanted : ends) (result : Handled) (entered : Bool) (place : ℕ)
      → UnlessFailed (handled_by result wanted) P → UnlessDiskFault (handled_as entered place result) P
  handled_stays (replied said (Some entry)) (handled.Answered reply) entered place stays =
      answered_stays entered place stays
  handled_stays (replied said None) (handled.Answered reply) entered place stays = answered_stays entered place stays
  handled_stays (Refuses why) (handled.Answered reply) entered place stays = answered_stays entered place stays
  handled_stays wanted (handled.Refused why) entered place stays = refused_stays why stays
  handled_stays wanted handled.DiskFault entered place stays = tt
  handled_stays wanted handled.Memory entered place stays = stays

  pub reported_stays : (wanted : Effort (Option At)) (result : reports) (place : ℕ)
      → UnlessFailed (reported_by result wanted) P → UnlessDiskFault (reported_as place result) P
  reported_stays (Due entry) reported.Moved place stays = stays
  reported_stays (Undue at) reported.Moved place stays = stays
  reported_stays (Over passed) reported.Moved place stays = stays
  reported_stays wanted (reported.Stale at) place stays = stays
  reported_stays wanted (reported.Limit most) place stays = stays
  reported_stays wanted reported.DiskFault place stays = tt
  reported_stays wanted reported.Memory place stays = stays

  pub started_stays : (wanted : Effort (Unit {0})) (result : StartedDue) (place : ℕ)
      → UnlessFailed (started_by result wanted) P → UnlessDiskFault (started_as place result) P
  started_stays (Due entry) (started.Started arn) place stays = stays
  started_stays (Undue none) (started.Started arn) place stays = stays
  started_stays (Over passed) (started.Started arn) place stays = stays
  started_stays wanted started.None place stays = stays
  started_stays wanted (started.Limit most) place stays = stays
  started_stays wanted started.DiskFault place stays = tt
  started_stays wanted started.Memory place stays = stays

-- ---- where the run stands after a call

module _ {D R : Type 0} {G : DiskGhosts D} {V : RotatorGhosts R} (old new : Account D R G V)
    (verdicts : List (Verdict R V)) (made : List Entry) where
  pub made_stand : (entry : Entry) → Leaves G old.inner new.inner seat (call_outcomes.Made entry)
      → stand_of new verdicts (made ++ entry ∷ []) ≡ entered (stand_of old verdicts made) entry
  made_stand entry leaves =
      let taken : accounts.taken new ≡ accounts.taken old = leaves.origin.taken in
      let history : accounts.history new ≡ accounts.history old ++ (seat, marks.Entry entry) ∷ [] = leaves.history in
      let failed : accounts.failed new ≡ None = leaves.failed in
      cc

  pub failed_stand : (entry : Entry) → Leaves G old.inner new.inner seat (call_outcomes.Failed entry)
      → stand_of new verdicts made ≡ faulted (stand_of old verdicts made) (accounts.failed new)
  failed_stand entry leaves =
      let taken : accounts.taken new ≡ accounts.taken old = leaves.origin.taken in
      let history : accounts.history new ≡ accounts.history old ++ (seat, marks.Fault) ∷ [] = leaves.history in
      cc

  pub same_stand : Leaves G old.inner new.inner seat call_outcomes.Nothing
      → stand_of new verdicts made ≡ stand_of old verdicts made
  same_stand leaves =
      let taken : accounts.taken new ≡ accounts.taken old = leaves.origin.taken in
      let history : accounts.history new ≡ accounts.history old =
      leaves.history ∙ append-nil (accounts.history old) in
      let failed : accounts.failed new ≡ accounts.failed old = leaves.failed in
      cc

  pub claimed_stand : (work : Work) (moment : Moment)
      → Leaves G old.inner new.inner seat (call_outcomes.Claimed work.arn work.at moment)
      → stand_of new verdicts made ≡ claimed (stand_of old verdicts made) work moment
  claimed_stand work moment leaves =
      let taken : accounts.taken new ≡ accounts.taken old = leaves.origin.taken in
      let history : accounts.history new
      ≡ accounts.history old ++ (seat, marks.Claim work.arn work.at moment) ∷ [] = leaves.history in
      let failed : accounts.failed new ≡ accounts.failed old = leaves.failed in
      cc

  pub keeping_stand : (verdict : Verdict R V) → stand_of new (verdicts ++ verdict ∷ []) made
      ≡ keeping (stand_of new verdicts made) (told_of verdict)
  keeping_stand verdict =
      let kept : map told_of (verdicts ++ verdict ∷ []) ≡ map told_of verdicts ++ told_of verdict ∷ [] =
      map-append told_of verdicts (verdict ∷ []) in
      cc

-- an account whose limit is that of all journals has the base of where it stands
pub base_here : {D R : Type 0} {G : DiskGhosts D} {V : RotatorGhosts R} (account : Account D R G V)
    (verdicts : List (Verdict R V)) (made : List Entry) → (accounts.base account).limit ≡ JOURNAL_LIMIT
    → base_at (stand_of account verdicts made) ≡ accounts.base account
base_here account verdicts made limit =
    ap (λ (n : ℕ). record (accounts.base account) { limit = n }) (sym limit)

-- ---- counts

-- how many entries were made in all
abbrev pub total : {D R : Type 0} {G : DiskGhosts D} {V : RotatorGhosts R} → Account D R G V → ℕ
total account = (made_of (accounts.all_of account)).entries

module _ {D R : Type 0} {G : DiskGhosts D} {V : RotatorGhosts R} (old new : Account D R G V) where
  total_made : (entry : Entry) → Leaves G old.inner new.inner seat (call_outcomes.Made entry)
      → total new ≡ total old + 1
  total_made entry leaves =
      let own : entries_in (accounts.history new) ≡ entries_in (accounts.history old) ++ entry ∷ [] =
      ap entries_in leaves.history ∙ entries_more (accounts.history old) seat (marks.Entry entry) in
      omega (
        arith,
        made_count (accounts.taken new) (entries_in (accounts.history new)),
        made_count (accounts.taken old) (entries_in (accounts.history old)),
        ap (λ (t : Held). (made_of t).entries) leaves.origin.taken,
        ap length own,
        length-append (entries_in (accounts.history old)) (entry ∷ []),
      )

  total_same : Leaves G old.inner new.inner seat call_outcomes.Nothing → total new ≡ total old
  total_same leaves =
      omega (
        arith,
        made_count (accounts.taken new) (entries_in (accounts.history new)),
        made_count (accounts.taken old) (entries_in (accounts.history old)),
        ap (λ (t : Held). (made_of t).entries) leaves.origin.taken,
        ap (λ (h : List (ℕ × Mark)). length (entries_in h)) (leaves.history ∙ append-nil (accounts.history old)),
      )

not_less : (n : ℕ) → nat_lt n n ≡ false
not_less n = le-ltb n n (omega arith)

-- ---- the calls

module _ {D R : Type 0} {G : DiskGhosts D} {V : RotatorGhosts R} (old new : Account D R G V)
    (verdicts : List (Verdict R V)) (made : List Entry) (first place : ℕ)
    (counts : Counts first (stand_of old verdicts made)) (is_place : place ≡ total old - first) where
  -- where the run stood
  abbrev before : Stand
  before = stand_of old verdicts made

  place_is : place ≡ length made
  place_is = let counted : total old ≡ first + length made = counts in omega (arith, counted, is_place)

  -- how the run goes on, with some list of entries
  abbrev Going : (to : Aim) → Outcome → Type 0
  Going to out = (more : List Entry) × GoesTo V.replies to out before (stand_of new verdicts more)

  enters : (entry : Entry) → Leaves G old.inner new.inner seat (call_outcomes.Made entry)
      → Going (Enters entry) (Entered place)
  enters entry leaves = (made ++ entry ∷ [], (place_is, made_stand old new verdicts made entry leaves))

  fails : (entry : Entry) → Leaves G old.inner new.inner seat (call_outcomes.Failed entry)
      → Going (Enters entry) DiskFault
  fails entry leaves = (made, (accounts.failed new, leaves.failed, failed_stand old new verdicts made entry leaves))

  stops : (wanted out : Outcome) → Leaves G old.inner new.inner seat call_outcomes.Nothing → EndsAs wanted out
      → Going (Stops wanted) out
  stops wanted out leaves is = (made, record { ends = is; new_is = same_stand old new verdicts made leaves })

  wants : (entry : Entry) → Leaves G old.inner new.inner seat call_outcomes.Nothing → Going (Enters entry) Memory
  wants entry leaves = (made, same_stand old new verdicts made leaves)

  -- ---- requests

  refused_ends : (why : Why) → EndsAs (refused_as why) (refused_as why)
  refused_ends why = by (is_limit why)
    where
      by : (b : Bool) → EndsAs (cond b Limit Refused) (cond b Limit Refused)
      by true = refl
      by false = refl

  pub handled_goes : (wanted : ends) (result : Handled) → HandledAs result wanted
      → Leaves G old.inner new.inner seat (handled_by result wanted)
      → Going (aim_asked wanted) (handled_as (nat_lt (total old) (total new)) place result)
  handled_goes (replied reply (Some entry)) (handled.Answered given) is leaves =
      subst (λ (b : Bool). Going (Enters entry) (answered_as b place))
      (sym (lt-ltb (total old) (total new) (omega (arith, total_made old new entry leaves)))) (enters entry leaves)
  handled_goes (replied reply (Some entry)) (handled.Refused why) is leaves = absurd is
  handled_goes (replied reply (Some entry)) handled.DiskFault is leaves = fails entry leaves
  handled_goes (replied reply (Some entry)) handled.Memory is leaves = wants entry leaves
  handled_goes (replied reply None) (handled.Answered given) is leaves =
      subst (λ (b : Bool). Going (Stops Quiet) (answered_as b place))
      (sym (ap (nat_lt (total old)) (total_same old new leaves) ∙ not_less (total old))) (stops Quiet Quiet leaves refl)
  handled_goes (replied reply None) (handled.Refused why) is leaves = absurd is
  handled_goes (replied reply None) handled.DiskFault is leaves = absurd is
  handled_goes (replied reply None) handled.Memory is leaves = stops Quiet Memory leaves tt
  handled_goes (Refuses why) (handled.Answered given) is leaves = absurd is
  handled_goes (Refuses why) (handled.Refused given) is leaves =
      subst (λ (w : Why). Going (Stops (refused_as why)) (refused_as w)) (sym is)
      (stops (refused_as why) (refused_as why) leaves (refused_ends why))
  handled_goes (Refuses why) handled.DiskFault is leaves = absurd is
  handled_goes (Refuses why) handled.Memory is leaves = stops (refused_as why) Memory leaves tt

  -- ---- reports

  pub reported_goes : (wanted : Effort (Option At)) (result : reports) → ReportsAs result wanted
      → Leaves G old.inner new.inner seat (reported_by result wanted)
      → Going (aim_within Stale wanted) (reported_as place result)
  reported_goes (Undue at) reported.Moved is leaves = absurd is
  reported_goes (Undue at) (reported.Stale given) is leaves = stops Stale Stale leaves refl
  reported_goes (Undue at) (reported.Limit most) is leaves = absurd is
  reported_goes (Undue at) reported.DiskFault is leaves = absurd is
  reported_goes (Undue at) reported.Memory is leaves = stops Stale Memory leaves tt
  reported_goes (Over passed) reported.Moved is leaves = absurd is
  reported_goes (Over passed) (reported.Stale given) is leaves = absurd is
  reported_goes (Over passed) (reported.Limit most) is leaves = stops Limit Limit leaves refl
  reported_goes (Over passed) reported.DiskFault is leaves = absurd is
  reported_goes (Over passed) reported.Memory is leaves = stops Limit Memory leaves tt
  reported_goes (Due entry) reported.Moved is leaves = enters entry leaves
  reported_goes (Due entry) (reported.Stale given) is leaves = absurd is
  reported_goes (Due entry) (reported.Limit most) is leaves = absurd is
  reported_goes (Due entry) reported.DiskFault is leaves = fails entry leaves
  reported_goes (Due entry) reported.Memory is leaves = wants entry leaves

  -- ---- due rotations

  pub started_goes : (wanted : Effort (Unit {0})) (result : StartedDue) → StartsAs result wanted
      → Leaves G old.inner new.inner seat (started_by result wanted)
      → Going (aim_within Nothing wanted) (started_as place result)
  started_goes (Undue none) (started.Started arn) is leaves = absurd is
  started_goes (Undue none) started.None is leaves = stops Nothing Nothing leaves refl
  started_goes (Undue none) (started.Limit most) is leaves = absurd is
  started_goes (Undue none) started.DiskFault is leaves = absurd is
  started_goes (Undue none) started.Memory is leaves = stops Nothing Memory leaves tt
  started_goes (Over passed) (started.Started arn) is leaves = absurd is
  started_goes (Over passed) started.None is leaves = absurd is
  started_goes (Over passed) (started.Limit most) is leaves = stops Limit Limit leaves refl
  started_goes (Over passed) started.DiskFault is leaves = absurd is
  started_goes (Over passed) started.Memory is leaves = stops Limit Memory leaves tt
  started_goes (Due entry) (started.Started arn) is leaves = enters entry leaves
  started_goes (Due entry) started.None is leaves = absurd is
  started_goes (Due entry) (started.Limit most) is leaves = absurd is
  started_goes (Due entry) started.DiskFault is leaves = fails entry leaves
  started_goes (Due entry) started.Memory is leaves = wants entry leaves

-- ---- works

module _ {D R : Type 0} {G : DiskGhosts D} {V : RotatorGhosts R} (old new : Account D R G V)
    (verdicts : List (Verdict R V)) (made : List Entry) (moment : Moment) where
  pub asked_goes : (row : SecretRow) (work : Work) (verdict : Verdict R V) → IsWorkOf row work → verdict.work ≡ work
      → Leaves G old.inner new.inner seat (call_outcomes.Claimed work.arn work.at moment)
      → GoesTo V.replies (Claims row moment) Asked (stand_of old verdicts made)
      (stand_of new (verdicts ++ verdict ∷ []) made)
  asked_goes row work verdict of same leaves = (
    told_of verdict,
    subst (IsWorkOf row) (sym same) of,
    verdict.allowed,
    keeping_stand old new verdicts made verdict
        ∙ ap (λ (s : Stand). keeping s (told_of verdict)) (claimed_stand old new verdicts made work moment leaves
        ∙ ap (λ (w : Work). claimed (stand_of old verdicts made) w moment) (sym same)),
  )

  pub claim_goes : (row : SecretRow) (work : Work) → IsWorkOf row work
      → Leaves G old.inner new.inner seat (call_outcomes.Claimed work.arn work.at moment)
      → GoesTo V.replies (Claims row moment) Memory (stand_of old verdicts made) (stand_of new verdicts made)
  claim_goes row work of leaves = inr (work, of, claimed_stand old new verdicts made work moment leaves)
