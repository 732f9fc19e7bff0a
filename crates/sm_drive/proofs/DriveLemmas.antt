-- How a run comes on call by call, and what it is at its end.
use Rattle.std.proofs.Common.{◌≡◌, ℕ, ◌+◌, ◌<◌, ◌≤◌, List, [], ◌∷◌, ◌++◌, take, drop, take-append-drop, length, length-append, get_or, slice_get, Some, None, IfSome, refl, sym, ap, subst, ◌∙◌, inl, inr, arith}
use Rattle.std.proofs.Math.Logic.{∥∥₁_elim, ∥∥₁_map, ∥∥₁_map₂}
use Rattle.std.proofs.lemmas.List.{take_all, take_more}
use Rattle.std.proofs.lemmas.Option.{slice_get_read}
use native.Mathlib.Nat.{ℕ_set}
use Rattle.sm_disk.specs.declared.disk.Disk.{Ghosts as DiskGhosts}
use Rattle.sm_disk.specs.Sight.{Image, Sight}
use Rattle.sm_base.specs.declared.limits.TheConstants.{JOURNAL_LIMIT}
use Rattle.sm_journal.specs.declared.answers.OpenRefused.{OpenRefused}
use Rattle.sm_journal.specs.declared.answers.OpenRefused.TheVariants.{Memory}
use Rattle.sm_model.specs.declared.entry.Entry.{Entry}
use Rattle.sm_model.specs.declared.entry.Mark.{Mark}
use Rattle.sm_model.specs.declared.rows.Rows.{Rows}
use Rattle.sm_record.specs.declared.base.Base.{Base}
use Rattle.sm_rotation.specs.Vouched.{Replies}
use Rattle.sm_rotator.specs.declared.rotator.Rotator.{Ghosts as RotatorGhosts}
use Rattle.sm_rotator.specs.declared.verdict.Verdict.{Verdict}
use Rattle.sm_core.specs.Histories.{InTime}
use Rattle.sm_core.specs.Vouching.{EachAllowed, LegalKeepsVouched}
use Rattle.sm_core.proofs.VouchedLemmas.{legal_vouched}
use Rattle.sm_recovery.specs.Following.{entries_limit, MayCome}
use Rattle.sm_recovery.specs.ReplayLaws.{KeepsSound}
use Rattle.sm_recovery.proofs.FollowLemmas.{after_count, come_front, none_come}
use Rattle.sm_recovery.proofs.SoundLaws.{come_sound}
use Rattle.sm_base_check.specs.Bases.{IsSound}
use Rattle.sm_store.specs.Stores as stores
use Rattle.sm_store.specs.Held.{Held}
use Rattle.sm_recovery.specs.Lawful.{IsLawful, MayFollowIf, StaysLawful, base_under, made_of}
use Rattle.sm_recovery.proofs.KeepingLaws.{stays_itself}
use Rattle.sm_recovery.proofs.LawfulLaws.{stays_lawful}
use Rattle.sm_account.specs.Accounts as accounts
use Rattle.sm_account.specs.Allowed.{IsAllowedAt}
use Rattle.sm_account.specs.AccountState.{with_entries}
use Rattle.sm_account.specs.History.{entries_in}
use Rattle.sm_account.specs.Openings.{IsOpenedOver, TakenFrom}
use Rattle.sm_account.specs.States.{Base as bases}
use Rattle.sm_account.specs.declared.account.Account.{Account}
use Rattle.sm_account.proofs.HeldLemmas.{timely_front}
use Rattle.sm_drive.specs.Disks.{GoesOver, disks_of}
use Rattle.sm_drive.specs.Drives.{Drives, Follows, StandsAt, Went}
use Rattle.sm_drive.specs.Going.{Came, HasCome, IsFresh}
use Rattle.sm_drive.specs.Openings.{Begins, TellsAtRestarts, beginning}
use Rattle.sm_drive.specs.Refused.{IsRefusedAt, IsStopped, StopsBehind}
use Rattle.sm_drive.specs.RunInvariant.{Stands}
use Rattle.sm_drive.specs.Stands.{Stand, all_at, stand_of}
use Rattle.sm_drive.specs.Stepping.{Calls, Counts, disks_in, stand_in}
use Rattle.sm_drive.specs.Steps.{Goes}
use Rattle.sm_drive.specs.declared.call.Call.{Call}
use Rattle.sm_drive.specs.declared.driven.Driven.{Driven}
use Rattle.sm_drive.specs.declared.outcome.Outcome.{Outcome}
use Rattle.sm_drive.specs.declared.run.Run.{Run}
use Rattle.sm_drive.proofs.FollowsLaws.{Keeps, all_opened, counted_on, each_front, follows_on}
use Rattle.sm_drive.proofs.TurnLemmas.{over_later, over_more, tells_front, tells_last, turns_more}

-- ---- what always holds of a run's account, where it stands

keeps_at : {D R : Type 0} (G : DiskGhosts D) (V : RotatorGhosts R) (run : Run D R G V) (entries : List Entry)
    → Stands G V run → ∥ Keeps V.replies (stand_in run entries) ∥₁
keeps_at G V run entries stands =
    let both : ∥ IsLawful (accounts.all_of run.account)
    × MayFollowIf (accounts.all_of run.account) (accounts.failed run.account) ∥₁ =
    ∥∥₁_map₂ stands.on_disk.lawful stands.on_disk.next (λ lawful next. (lawful, next)) in
    ∥∥₁_map₂ both stands.allowed (λ b allowed. record {
      lawful = b.0;
      next = b.1;
      made = allowed.made;
      tried = subst (λ (r : Rows). IfSome (accounts.failed run.account) (IsAllowedAt V.replies r)) stands.rows
          allowed.next;
    })

-- ---- the calls of a run

module _ {D R : Type 0} (G : DiskGhosts D) (V : RotatorGhosts R) (stays : StaysLawful) (start : Run D R G V)
    (fresh : IsFresh start) where
  -- the base that the entries of the run are counted from
  abbrev begun : Base
  begun = made_of (accounts.taken start.account)

  -- before the first call
  fresh_follows : Stands G V start → ∥ Follows V.replies begun (stand_in start []) ∥₁
  fresh_follows stands =
      ∥∥₁_map stands.on_disk.lawful (λ lawful.
      let all : all_at (stand_in start []) ≡ accounts.taken start.account =
      ap all_at fresh.stands ∙ all_opened (accounts.taken start.account) [] [] in
      let sound = (stays (all_at (stand_in start [])) lawful).sound in
      record {
        sound = subst (λ (h : Held). IsSound (made_of h)) all sound;
        come = none_come begun (counted all lawful);
        timely = tt;
        allowed = tt;
        made = ap made_of all;
      })
    where
      counted : all_at (stand_in start []) ≡ accounts.taken start.account → IsLawful (all_at (stand_in start []))
          → begun.entries ≤ entries_limit
      counted all lawful =
          let h = all_at (stand_in start []) in
          subst (λ (g : Held). (made_of g).entries ≤ entries_limit) all
          (omega (arith, after_count (base_under h.base) h.entries, lawful.come.counted))

  pub come_none : Stands G V start → HasCome start [] [] start
  come_none stands = record {
    under = fresh.under;
    first = refl;
    over = record { opened = accounts.disk start.account; no_other = fresh.no_other; touched = refl };
    tells = λ told. fresh.tells told.0 told.1;
    came = λ tells. (
      [],
      record {
        runs = fresh.stands;
        counted = ap (λ (s : Stand). (made_of (all_at s)).entries) fresh.stands
            ∙ ap (λ (h : Held). (made_of h).entries) (all_opened (accounts.taken start.account) [] [])
            ∙ plus_none begun.entries;
        follows = fresh_follows stands;
      },
    );
  }
    where
      plus_none : (n : ℕ) → n ≡ n + 0
      plus_none n = omega arith

  -- one call more
  pub come_on : (calls : List Call) (outs : List Outcome) (now next : Run D R G V) (call : Call) (out : Outcome)
      → Stands G V now → Stands G V next → Calls G V now call out next → HasCome start calls outs now
      → HasCome start (calls ++ call ∷ []) (outs ++ out ∷ []) next
  come_on calls outs now next call out before behind goes come = record {
    under = goes.under come.under;
    first = goes.first ∙ come.first;
    over = over_more G (accounts.began start.account) calls outs call out (disks_in now) (disks_in next) come.over
        goes.touches;
    tells = λ tells. let told = come.tells tells in goes.tells told.0 told.1;
    came = λ tells.
        let was = come.came (tells_front calls (call ∷ []) (G.sight (accounts.began start.account)) tells) in
        let step = goes.goes come.under
        (λ restarts. come.tells (tells_last calls call (G.sight (accounts.began start.account)) tells restarts)) was.0
        (counts_here was.0 was.1) in
        let all = follows_on stays V.replies begun call out (stand_in now was.0) (stand_in next step.0)
        (keeps_at G V now was.0 before) (keeps_at G V next step.0 behind) step.1 was.1.follows in (
          step.0,
          record {
            runs = turns_more (Goes V.replies) calls outs call out (beginning (accounts.taken start.account))
                (stand_in now was.0) (stand_in next step.0) was.1.runs step.1;
            counted = counted_here (stand_in next step.0) all;
            follows = all;
          },
        );
  }
    where
      counts_here : (entries : List Entry)
          → Came V.replies (accounts.taken start.account) calls outs (stand_in now entries)
          → Counts now.first (stand_in now entries)
      counts_here entries came =
          subst (λ (n : ℕ). Counts n (stand_in now entries)) (sym (come.first ∙ fresh.first)) came.counted

      counted_here : (last : Stand) → ∥ Follows V.replies begun last ∥₁ → Counts begun.entries last
      counted_here last follows = ∥∥₁_elim follows (ℕ_set _ _) (λ f. counted_on V.replies begun last f)

  -- a Restart that is refused
  pub stops : (all : List Call) (count : ℕ) (outs : List Outcome) (now : Run D R G V) (call : Call)
      (refused : OpenRefused D) → slice_get all count ≡ Some call → Stands G V now
      → HasCome start (take count all) outs now → IsRefusedAt G V now call refused
      → StopsBehind G V.replies (accounts.began start.account) all refused
  stops all count outs now call refused at stands come why = record {
    count = count;
    restarts = at ∙ ap Some why.restarts;
    outcomes = outs;
    disks = disks_in now;
    over = come.over;
    left = λ tells.
        let was = come.came tells in
        record {
          taken = accounts.taken start.account;
          begins = fresh.begins;
          last = stand_in now was.0;
          runs = was.1.runs;
          holds = stands.on_disk;
        };
    refused_is = why.refused_is;
    whole = λ tells. why.whole (come.tells tells);
  }

-- ---- the loop

-- So many of the calls were made, with an outcome each, what always holds of the account holds now, and there is room
-- for the other outcomes.
pub record GoneOn {D R : Type 0} (G : DiskGhosts D) (V : RotatorGhosts R) (start : Run D R G V) (calls : List Call)
    (count : ℕ) (outs : List Outcome) (room : ℕ) (now : Run D R G V) : Type 0 where
  pub come : HasCome start (take count calls) outs now
  pub stands : Stands G V now
  pub counted : length outs ≡ count
  pub has_room : length calls ≤ room

module _ {D R : Type 0} (G : DiskGhosts D) (V : RotatorGhosts R) (start : Run D R G V) (fresh : IsFresh start)
    (calls : List Call) where
  pub gone_first : (outs : List Outcome) (room : ℕ) → outs ≡ [] → length calls ≤ room → Stands G V start
      → GoneOn G V start calls 0 outs room start
  gone_first outs room none has_room stands = record {
    come = subst (λ (l : List Outcome). HasCome start [] l start) (sym none)
        (come_none G V stays_lawful start fresh stands);
    stands = stands;
    counted = ap length none;
    has_room = has_room;
  }

  pub gone_more : (k : ℕ) (call : Call) → k < length calls → call ≡ get_or calls k call → (outs more : List Outcome)
      (room left : ℕ) (now next : Run D R G V) (out : Outcome) → GoneOn G V start calls k outs room now
      → Calls G V now call out next → Stands G V next → more ≡ outs ++ out ∷ [] → left ≡ room
      → GoneOn G V start calls (k + 1) more left next
  gone_more k call lt is outs more room left now next out gone goes stands grown same =
      let taken : take (k + 1) calls ≡ take k calls ++ call ∷ [] =
      take_more calls k call lt ∙ ap (λ (c : Call). take k calls ++ c ∷ []) (sym is) in
      let come : HasCome start (take k calls ++ call ∷ []) (outs ++ out ∷ []) next =
      come_on G V stays_lawful start fresh (take k calls) outs now next call out gone.stands stands goes gone.come in
      let front : HasCome start (take (k + 1) calls) (outs ++ out ∷ []) next =
      subst (λ (l : List Call). HasCome start l (outs ++ out ∷ []) next) (sym taken) come in
      record {
        come = subst (λ (l : List Outcome). HasCome start (take (k + 1) calls) l next) (sym grown) front;
        stands = stands;
        counted = omega (arith, ap length grown, length-append outs (out ∷ []), gone.counted);
        has_room = omega (arith, gone.has_room, same);
      }

  pub gone_all : (k : ℕ) (outs : List Outcome) (room : ℕ) (now : Run D R G V) → length calls ≤ k
      → GoneOn G V start calls k outs room now → HasCome start calls outs now
  gone_all k outs room now all gone =
      subst (λ (l : List Call). HasCome start l outs now) (take_all k calls all) gone.come

  pub gone_stops : (k : ℕ) (call : Call) → k < length calls → call ≡ get_or calls k call → (outs : List Outcome)
      (room : ℕ) (now : Run D R G V) (refused : OpenRefused D) → GoneOn G V start calls k outs room now
      → IsRefusedAt G V now call refused → StopsBehind G V.replies (accounts.began start.account) calls refused
  gone_stops k call lt is outs room now refused gone why =
      stops G V stays_lawful start fresh calls k outs now call refused
      (slice_get_read calls (length calls) k call refl lt is) gone.stands gone.come why

-- ---- the beginning

-- a run of an account with these verdicts, before which so many entries were made
abbrev pub run_of : {D R : Type 0} {G : DiskGhosts D} {V : RotatorGhosts R} → Account D R G V → List (Verdict R V) → ℕ
    → Run D R G V
run_of account verdicts first = record { account = account; verdicts = verdicts; first = first }

begins_from : {D : Type 0} (G : DiskGhosts D) (disk now : D) (taken : Held)
    → TakenFrom G disk JOURNAL_LIMIT taken now → Begins (G.sight disk) taken
begins_from G disk now taken from = record {
  format = from.format;
  held = from.held;
  found = from.found;
  takes = from.takes;
}

module _ {D R : Type 0} {G : DiskGhosts D} {V : RotatorGhosts R} (disk : D) (account : Account D R G V)
    (over : IsOpenedOver disk 1 JOURNAL_LIMIT account) where
  all_taken : accounts.all_of account ≡ accounts.taken account
  all_taken =
      ap (λ (l : List (ℕ × Mark)). with_entries (accounts.taken account) (entries_in l)) over.history_is
      ∙ all_opened (accounts.taken account) [] []

  stood : stand_of account [] [] ≡ beginning (accounts.taken account)
  stood =
      let history : accounts.history account ≡ [] = over.history_is in
      let failed : accounts.failed account ≡ None = over.sure in
      cc

  -- a run of an account that was just opened is fresh
  pub fresh_over : (verdicts : List (Verdict R V)) → verdicts ≡ [] → (first : ℕ)
      → first ≡ (made_of (accounts.all_of account)).entries
      → TakenFrom G disk JOURNAL_LIMIT (accounts.taken account) (accounts.disk account)
      → IsFresh (run_of account verdicts first)
  fresh_over verdicts none first is taken_from =
      subst (λ (l : List (Verdict R V)). IsFresh (run_of account l first)) (sym none) (record {
        under = ap (λ (b : bases). b.limit) over.base_is;
        first = is ∙ ap (λ (h : Held). (made_of h).entries) all_taken;
        stands = stood;
        begins = begins_from G (accounts.began account) (accounts.disk account) (accounts.taken account) from;
        tells = from.stays.tells;
        no_other = from.no_other;
      })
    where
      from : TakenFrom G (accounts.began account) JOURNAL_LIMIT (accounts.taken account) (accounts.disk account)
      from =
          subst (λ (d : D). TakenFrom G d JOURNAL_LIMIT (accounts.taken account) (accounts.disk account))
          (sym over.began_is) taken_from

-- ---- the end of a run

-- what holds of all entries holds of those up to any place
stands_at : (sound : KeepsSound) (vouches : LegalKeepsVouched) (replies : Replies) (start : Base) (last : Stand)
    (count : ℕ) → Follows replies start last → StandsAt replies start (take count last.entries)
stands_at sound vouches replies start last count follows =
    let front = take count last.entries in
    let back = drop count last.entries in
    let parts = sym (take-append-drop count last.entries) in
    let come : MayCome start front =
    come_front start front back (subst (MayCome start) parts follows.come) in
    let timely : InTime front = timely_front front back (subst InTime parts follows.timely) in
    record {
      sound = sound start front follows.sound come timely;
      vouched = λ vouched. vouches replies start.rows start.last front follows.sound.rows come.legal timely
          (each_front replies start.rows front back (subst (EachAllowed replies start.rows) parts follows.allowed))
          vouched;
    }

pub went : (sound : KeepsSound) (vouches : LegalKeepsVouched) (replies : Replies) (disk : Sight) (calls : List Call)
    (outs : List Outcome) (taken : Held) (last : Stand) → Begins disk taken → Came replies taken calls outs last
    → Went replies disk calls outs last
went sound vouches replies disk calls outs taken last begins came = record {
  taken = taken;
  begins = begins;
  runs = came.runs;
  follows = came.follows;
  each = λ count. ∥∥₁_map came.follows (λ f. stands_at sound vouches replies (made_of taken) last count f);
}

-- what a run leaves, by its parts
abbrev pub driven_of : {D R : Type 0} {G : DiskGhosts D} {V : RotatorGhosts R} → Account D R G V → List Outcome
    → List (Verdict R V) → Driven D R G V
driven_of account outs verdicts = record { account = account; outcomes = outs; verdicts = verdicts }

module _ {D R : Type 0} (G : DiskGhosts D) (V : RotatorGhosts R) (disk : D) (calls : List Call)
    (start now : Run D R G V) (fresh : IsFresh start) (began : accounts.began start.account ≡ disk)
    (outs : List Outcome) (come : HasCome start calls outs now) (driven : Driven D R G V)
    (is : driven ≡ driven_of now.account outs now.verdicts) where
  drives : TellsAtRestarts calls (G.sight (accounts.began start.account))
      → Drives G V (G.sight (accounts.began start.account)) calls (driven_of now.account outs now.verdicts)
  drives tells =
      let was = come.came tells in
      record {
        entries = was.0;
        went = went come_sound legal_vouched V.replies (G.sight (accounts.began start.account)) calls outs
            (accounts.taken start.account) (stand_in now was.0) fresh.begins was.1;
      }

  -- it went so over the disk that it was given
  pub drives_to : TellsAtRestarts calls (G.sight disk) → Drives G V (G.sight disk) calls driven
  drives_to =
      subst (λ (d : Driven D R G V). TellsAtRestarts calls (G.sight disk) → Drives G V (G.sight disk) calls d) (sym is)
      (subst (λ (given : D). TellsAtRestarts calls (G.sight given)
      → Drives G V (G.sight given) calls (driven_of now.account outs now.verdicts)) began drives)

  pub over_to : GoesOver G disk calls driven.outcomes (disks_of driven.account)
  over_to =
      subst (λ (d : Driven D R G V). GoesOver G disk calls d.outcomes (disks_of d.account)) (sym is)
      (subst (λ (given : D). GoesOver G given calls outs (disks_of now.account)) began come.over)

  pub later_to : G.faults disk ≤ G.faults (accounts.disk driven.account)
  later_to = over_later G disk calls driven.outcomes (disks_of driven.account) over_to

module _ {D R : Type 0} (G : DiskGhosts D) (V : RotatorGhosts R) (disk : D) (calls : List Call)
    (start : Run D R G V) (began : accounts.began start.account ≡ disk) (refused : OpenRefused D)
    (stops : StopsBehind G V.replies (accounts.began start.account) calls refused) where
  behind : StopsBehind G V.replies disk calls refused
  behind = subst (λ (given : D). StopsBehind G V.replies given calls refused) began stops

  -- it was refused at a Restart
  pub stopped : IsStopped G V.replies disk calls refused
  stopped = inr behind

  pub fallen_to : G.faults disk ≤ G.faults (stores.disk_in refused)
  fallen_to =
      omega (
        arith,
        over_later G disk (take behind.count calls) behind.outcomes behind.disks behind.over,
        behind.refused_is.later,
      )

-- memory was wanted before the disk was touched
pub wanting : {D : Type 0} (G : DiskGhosts D) (replies : Replies) (disk : D) (calls : List Call)
    → ((c : Image) → (G.sight disk).left_since (G.sight disk).moment c → (G.sight disk).images c)
    → IsStopped G replies disk calls (Memory disk)
wanting G replies disk calls only_now =
    inl (record { cause = tt; stays = stays_itself G disk only_now; later = omega arith; no_other = refl })
