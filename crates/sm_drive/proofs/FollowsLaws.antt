-- What holds of all entries of a run goes on with each call.
use Rattle.std.proofs.Common.{◌≡◌, ◌⊎◌, ◌+◌, ◌≤◌, List, [], ◌∷◌, ◌++◌, length, Option, Some, None, IfSome, refl, sym, ap, subst, ◌∙◌, append-nil, append_assoc, inl, inr}
use Rattle.std.proofs.Math.Logic.{∥∥₁_map₂}
use Rattle.sm_base.specs.declared.moment.Moment.{Moment}
use Rattle.sm_base.specs.declared.moment.TheConstants.{LAST_READING}
use Rattle.sm_model.specs.declared.entry.Entry.{Entry}
use Rattle.sm_model.specs.declared.entry.Mark.{Mark}
use Rattle.sm_model.specs.declared.entry.Mark.TheVariants as marks
use Rattle.sm_model.specs.declared.rows.Rows.{Rows}
use Rattle.sm_model.specs.declared.rows.SecretRow.{SecretRow}
use Rattle.sm_record.specs.declared.base.Base.{Base}
use Rattle.sm_rotation.specs.Vouched.{Replies}
use Rattle.sm_rotator.specs.declared.told.Told.{Told}
use Rattle.sm_rotator.specs.declared.work.Work.{Work}
use Rattle.sm_core.specs.Effects.{effect}
use Rattle.sm_core.specs.Histories.{InTime, replay}
use Rattle.sm_core.specs.Vouching.{EachAllowed}
use Rattle.sm_recovery.specs.Following.{after_all, after_entry, MayCome}
use Rattle.sm_recovery.proofs.FollowLemmas.{after_count, after_more, after_rows, come_last, come_more}
use Rattle.sm_base_check.specs.Bases.{IsSound}
use Rattle.sm_store.specs.Held.{Held, with_entry}
use Rattle.sm_recovery.specs.Lawful.{IsLawful, MayFollow, MayFollowIf, StaysLawful, base_under, made_of}
use Rattle.sm_account.specs.Allowed.{IsAllowedAt}
use Rattle.sm_account.specs.AccountState.{with_entries}
use Rattle.sm_account.specs.History.{entries_in, entry_then}
use Rattle.sm_account.proofs.HeldLemmas.{made_rows, timely_more}
use Rattle.sm_account.proofs.StateLaws.{entries_more}
use Rattle.sm_drive.specs.Aims.{Aim, Enters, Claims, Reopens, Stops, aim}
use Rattle.sm_drive.specs.Drives.{Follows}
use Rattle.sm_drive.specs.Stands.{Stand, all_at, base_at, seat, opened, marked, entered, faulted, claimed}
use Rattle.sm_drive.specs.Steps.{Goes, GoesTo, Entering, Claiming, held_with, entries_with}
use Rattle.sm_drive.specs.declared.call.Call.{Call}
use Rattle.sm_drive.specs.declared.outcome.Outcome.{Outcome}
use Rattle.sm_drive.specs.declared.outcome.Outcome.TheVariants.{Entered, Quiet, Refused, Stale, Limit, DiskFault, Asked, Nothing, Memory, Reopened}

-- What an account's type keeps, as pure data: what it has is lawful, the entry whose write failed last may be the next
-- one, and both are allowed.
pub record Keeps (replies : Replies) (stand : Stand) : Type 0 where
  pub lawful : IsLawful (all_at stand)
  pub next : MayFollowIf (all_at stand) stand.failed
  pub made : EachAllowed replies (base_at stand).rows (entries_in stand.history)
  pub tried : IfSome stand.failed (IsAllowedAt replies (replay (base_at stand).rows (entries_in stand.history)))

-- ---- what a stand has with one mark more

pub all_marked : (stand : Stand) (mark : Mark) → entry_then mark [] ≡ [] → all_at (marked stand mark) ≡ all_at stand
all_marked stand mark none =
    ap (with_entries stand.taken) (entries_more stand.history seat mark
    ∙ ap (λ (l : List Entry). entries_in stand.history ++ l) none ∙ append-nil (entries_in stand.history))

pub all_entered : (stand : Stand) (entry : Entry) → all_at (entered stand entry) ≡ with_entry (all_at stand) entry
all_entered stand entry =
    ap (with_entries stand.taken) (entries_more stand.history seat (marks.Entry entry))
    ∙ ap (λ (l : List Entry). record { base = stand.taken.base; entries = l })
    (sym (append_assoc stand.taken.entries (entries_in stand.history) (entry ∷ [])))

pub all_opened : (taken : Held) (kept : List Told) (entries : List Entry) → all_at (opened taken kept entries) ≡ taken
all_opened taken kept entries =
    ap (λ (l : List Entry). record { base = taken.base; entries = l }) (append-nil taken.entries)

makes_with_entry : (h : Held) (entry : Entry) → made_of (with_entry h entry) ≡ after_entry (made_of h) entry
makes_with_entry h entry = after_more (base_under h.base) h.entries entry

-- ---- entries that are allowed

each_more : (replies : Replies) (rows : Rows) (made : List Entry) (entry : Entry) → EachAllowed replies rows made
    → IsAllowedAt replies (replay rows made) entry → EachAllowed replies rows (made ++ entry ∷ [])
each_more replies rows [] entry each allowed = (allowed, tt)
each_more replies rows (e ∷ made) entry each allowed =
    (each.0, each_more replies (effect rows e) made entry each.1 allowed)

each_last : (replies : Replies) (rows : Rows) (made : List Entry) (entry : Entry)
    → EachAllowed replies rows (made ++ entry ∷ []) → IsAllowedAt replies (replay rows made) entry
each_last replies rows [] entry each = each.0
each_last replies rows (e ∷ made) entry each = each_last replies (effect rows e) made entry each.1

pub each_front : (replies : Replies) (rows : Rows) (made others : List Entry)
    → EachAllowed replies rows (made ++ others) → EachAllowed replies rows made
each_front replies rows [] others each = tt
each_front replies rows (e ∷ made) others each = (each.0, each_front replies (effect rows e) made others each.1)

-- the rows of all are those that the history makes
pub rows_at : (stand : Stand) → (made_of (all_at stand)).rows ≡ replay (base_at stand).rows (entries_in stand.history)
rows_at stand = made_rows stand.taken (entries_in stand.history)

-- ---- entries more

module _ (stays : StaysLawful) (replies : Replies) (start : Base) (old new : Stand)
    (follows : Follows replies start old) where
  -- no entry more
  pub follows_same : new.entries ≡ old.entries → made_of (all_at new) ≡ made_of (all_at old)
      → Follows replies start new
  follows_same same made = record {
    sound = follows.sound;
    come = subst (MayCome start) (sym same) follows.come;
    timely = subst InTime (sym same) follows.timely;
    allowed = subst (EachAllowed replies start.rows) (sym same) follows.allowed;
    made = made ∙ follows.made ∙ ap (after_all start) (sym same);
  }

  -- what a lawful stand makes is sound, so that a clock can give the moment of its last entry
  early : (entry : Entry) → IsLawful (all_at new) → made_of (all_at new) ≡ after_entry (made_of (all_at old)) entry
      → entry.moment.0 ≤ LAST_READING
  early entry lawful made =
      let sound : IsSound (made_of (all_at new)) = (stays (all_at new) lawful).sound in
      subst (λ (b : Base). b.last.0 ≤ LAST_READING) made sound.last

  -- one entry more
  pub follows_more : (entry : Entry) → new.entries ≡ old.entries ++ entry ∷ [] → IsLawful (all_at new)
      → made_of (all_at new) ≡ after_entry (made_of (all_at old)) entry → MayFollow (all_at old) entry
      → IsAllowedAt replies (made_of (all_at old)).rows entry → Follows replies start new
  follows_more entry grown lawful made may allowed =
      let rows : (made_of (all_at old)).rows ≡ replay start.rows old.entries =
      ap (λ (b : Base). b.rows) follows.made ∙ after_rows start old.entries in
      record {
        sound = follows.sound;
        come = subst (MayCome start) (sym grown)
            (come_more start old.entries entry follows.come
            (subst (λ (b : Base). MayCome b (entry ∷ [])) follows.made may));
        timely = subst InTime (sym grown)
            (timely_more old.entries entry follows.timely (early entry lawful made));
        allowed = subst (EachAllowed replies start.rows) (sym grown)
            (each_more replies start.rows old.entries entry follows.allowed
            (subst (λ (r : Rows). IsAllowedAt replies r entry) rows allowed));
        made = made ∙ ap (λ (b : Base). after_entry b entry) follows.made
            ∙ sym (after_more start old.entries entry) ∙ ap (after_all start) (sym grown);
      }

-- ---- each call

module _ (stays : StaysLawful) (replies : Replies) (start : Base) (old new : Stand) (before : Keeps replies old)
    (behind : Keeps replies new) (follows : Follows replies start old) where
  -- an entry that was acknowledged: it is legal and allowed since what the account has now is so
  entered_follows : (entry : Entry) → new ≡ entered old entry → Follows replies start new
  entered_follows entry is =
      let all : all_at new ≡ with_entry (all_at old) entry = ap all_at is ∙ all_entered old entry in
      let here : (entries_in new.history) ≡ entries_in old.history ++ entry ∷ [] =
      ap (λ (s : Stand). entries_in s.history) is ∙ entries_more old.history seat (marks.Entry entry) in
      let same_base : base_at new ≡ base_at old = ap base_at is in
      let come : MayCome (base_under old.taken.base) ((all_at old).entries ++ entry ∷ []) =
      subst (λ (h : Held). MayCome (base_under h.base) h.entries) all behind.lawful.come in
      let each : EachAllowed replies (base_at old).rows (entries_in old.history ++ entry ∷ []) =
      subst (EachAllowed replies (base_at old).rows) here
      (subst (λ (s : Stand). EachAllowed replies (base_at s).rows (entries_in new.history)) is behind.made) in
      follows_more stays replies start old new follows entry (ap (λ (s : Stand). s.entries) is) behind.lawful
      (ap made_of all ∙ makes_with_entry (all_at old) entry)
      (come_last (base_under old.taken.base) (all_at old).entries entry come)
      (subst (λ (r : Rows). IsAllowedAt replies r entry) (sym (rows_at old))
      (each_last replies (base_at old).rows (entries_in old.history) entry each))

  faulted_follows : (failed : Option Entry) → new ≡ faulted old failed → Follows replies start new
  faulted_follows failed is =
      follows_same stays replies start old new follows (ap (λ (s : Stand). s.entries) is)
      (ap made_of (ap all_at is ∙ all_marked old marks.Fault refl))

  claimed_follows : (work : Work) (moment : Moment) (kept : List Told)
      → new ≡ record (claimed old work moment) { kept = kept } → Follows replies start new
  claimed_follows work moment kept is =
      follows_same stays replies start old new follows (ap (λ (s : Stand). s.entries) is)
      (ap made_of (ap all_at is ∙ all_marked old (marks.Claim work.arn work.at moment) refl))

  same_follows : new ≡ old → Follows replies start new
  same_follows is =
      follows_same stays replies start old new follows (ap (λ (s : Stand). s.entries) is)
      (ap (λ (s : Stand). made_of (all_at s)) is)

  entering_follows : (entry : Entry) (out : Outcome) → Entering entry out old new → Follows replies start new
  entering_follows entry (Entered place) goes = entered_follows entry goes.1
  entering_follows entry DiskFault (failed, fails, is) = faulted_follows failed is
  entering_follows entry Memory goes = same_follows goes
  entering_follows entry Quiet goes = absurd goes
  entering_follows entry Refused goes = absurd goes
  entering_follows entry Stale goes = absurd goes
  entering_follows entry Limit goes = absurd goes
  entering_follows entry Asked goes = absurd goes
  entering_follows entry Nothing goes = absurd goes
  entering_follows entry Reopened goes = absurd goes

  claiming_follows : (row : SecretRow) (moment : Moment) (out : Outcome) → Claiming replies row moment out old new
      → Follows replies start new
  claiming_follows row moment Asked (told, of, may, is) =
      claimed_follows told.work moment (old.kept ++ told ∷ []) is
  claiming_follows row moment Memory (inl is) = same_follows is
  claiming_follows row moment Memory (inr (work, of, is)) = claimed_follows work moment old.kept is
  claiming_follows row moment (Entered place) goes = absurd goes
  claiming_follows row moment Quiet goes = absurd goes
  claiming_follows row moment Refused goes = absurd goes
  claiming_follows row moment Stale goes = absurd goes
  claiming_follows row moment Limit goes = absurd goes
  claiming_follows row moment DiskFault goes = absurd goes
  claiming_follows row moment Nothing goes = absurd goes
  claiming_follows row moment Reopened goes = absurd goes

  -- an entry that a restart found: the one whose write failed last, which was legal and allowed then
  found_follows : (found : Option Entry) → (found ≡ None) ⊎ (found ≡ old.failed)
      → made_of new.taken ≡ made_of (held_with (all_at old) found)
      → new ≡ opened new.taken old.kept (entries_with old.entries found) → Follows replies start new
  found_follows None either state is =
      follows_same stays replies start old new follows (ap (λ (s : Stand). s.entries) is)
      (ap made_of (ap all_at is ∙ all_opened new.taken old.kept old.entries) ∙ state)
  found_follows (Some entry) (inl none) state is = absurd (clash none)
    where
      clash : ◌≡◌ {A = Option Entry} (Some entry) None → ⊥
      clash same = cc
  found_follows (Some entry) (inr failed) state is =
      follows_more stays replies start old new follows entry (ap (λ (s : Stand). s.entries) is) behind.lawful
      (ap made_of (ap all_at is ∙ all_opened new.taken old.kept (old.entries ++ entry ∷ [])) ∙ state
      ∙ makes_with_entry (all_at old) entry)
      (subst (MayFollowIf (all_at old)) (sym failed) before.next)
      (subst (λ (r : Rows). IsAllowedAt replies r entry) (sym (rows_at old))
      (subst (λ (f : Option Entry). IfSome f (IsAllowedAt replies (replay (base_at old).rows (entries_in old.history))))
      (sym failed) before.tried))

  to_follows : (to : Aim) (out : Outcome) → GoesTo replies to out old new → Follows replies start new
  to_follows (Enters entry) out goes = entering_follows entry out goes
  to_follows (Claims row moment) out goes = claiming_follows row moment out goes
  to_follows Reopens out goes = found_follows goes.found goes.found_is goes.state goes.new_is
  to_follows (Stops wanted) out goes = same_follows goes.new_is

-- what holds of all entries goes on with a call
pub follows_on : (stays : StaysLawful) (replies : Replies) (start : Base) (call : Call) (out : Outcome)
    (old new : Stand) → ∥ Keeps replies old ∥₁ → ∥ Keeps replies new ∥₁ → Goes replies call out old new
    → ∥ Follows replies start old ∥₁ → ∥ Follows replies start new ∥₁
follows_on stays replies start call out old new before behind goes follows =
    let both : ∥ Keeps replies old × Keeps replies new ∥₁ = ∥∥₁_map₂ before behind (λ b a. (b, a)) in
    ∥∥₁_map₂ both follows (λ b f. to_follows stays replies start old new b.0 b.1 f (aim old call) out goes)

-- and so the count of all entries is right
pub counted_on : (replies : Replies) (start : Base) (last : Stand) → Follows replies start last
    → (made_of (all_at last)).entries ≡ start.entries + length last.entries
counted_on replies start last follows =
    ap (λ (b : Base). b.entries) follows.made ∙ after_count start last.entries
