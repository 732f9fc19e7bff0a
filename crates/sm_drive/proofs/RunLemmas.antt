-- Runs of calls: how they join, and that their entries stay.
use Rattle.std.proofs.Common.{◌≡◌, ℕ, zero, suc, List, [], ◌∷◌, ◌++◌, length, slice_get, Option, Some, None, refl, sym, ap, subst, ◌∙◌, append-nil, append_assoc, inl, inr}
use Rattle.sm_base.specs.declared.moment.Moment.{Moment}
use Rattle.sm_model.specs.declared.entry.Entry.{Entry}
use Rattle.sm_model.specs.declared.rows.SecretRow.{SecretRow}
use Rattle.sm_rotation.specs.Vouched.{Replies}
use Rattle.sm_drive.specs.Aims.{Aim, Enters, Claims, Reopens, Stops, aim}
use Rattle.sm_drive.specs.Laws.{EntriesStay, RunsJoin, EnteredIsThere}
use Rattle.sm_drive.specs.Stands.{Stand}
use Rattle.sm_drive.specs.Steps.{Goes, GoesTo, Entering, Claiming, Reopening, entries_with}
use Rattle.sm_drive.specs.declared.outcome.Outcome.{Outcome}
use Rattle.sm_drive.specs.declared.outcome.Outcome.TheVariants.{Entered, Quiet, Refused, Stale, Limit, DiskFault, Asked, Nothing, Memory, Reopened}
use Rattle.sm_drive.proofs.TurnLemmas.{get_past, none_some, turns_join}

-- ---- runs join

pub runs_join : RunsJoin
runs_join replies calls others outs next first mid last runs more =
    turns_join (Goes replies) calls others outs next first mid last runs more

-- ---- entries stay

abbrev GrowsTo : List Entry → List Entry → Type 0
GrowsTo old new = (more : List Entry) × (new ≡ old ++ more)

same_grows : (old new : Stand) → new.entries ≡ old.entries → GrowsTo old.entries new.entries
same_grows old new same = ([], same ∙ sym (append-nil old.entries))

entering_grows : (entry : Entry) (out : Outcome) (old new : Stand) → Entering entry out old new
    → GrowsTo old.entries new.entries
entering_grows entry (Entered place) old new goes = (entry ∷ [], ap (λ (s : Stand). s.entries) goes.1)
entering_grows entry DiskFault old new (failed, fails, is) = same_grows old new (ap (λ (s : Stand). s.entries) is)
entering_grows entry Memory old new goes = same_grows old new (ap (λ (s : Stand). s.entries) goes)
entering_grows entry Quiet old new goes = absurd goes
entering_grows entry Refused old new goes = absurd goes
entering_grows entry Stale old new goes = absurd goes
entering_grows entry Limit old new goes = absurd goes
entering_grows entry Asked old new goes = absurd goes
entering_grows entry Nothing old new goes = absurd goes
entering_grows entry Reopened old new goes = absurd goes

claiming_same : (replies : Replies) (row : SecretRow) (moment : Moment) (out : Outcome) (old new : Stand)
    → Claiming replies row moment out old new → new.entries ≡ old.entries
claiming_same replies row moment Asked old new (told, of, may, is) = ap (λ (s : Stand). s.entries) is
claiming_same replies row moment Memory old new (inl is) = ap (λ (s : Stand). s.entries) is
claiming_same replies row moment Memory old new (inr (work, of, is)) = ap (λ (s : Stand). s.entries) is
claiming_same replies row moment (Entered place) old new goes = absurd goes
claiming_same replies row moment Quiet old new goes = absurd goes
claiming_same replies row moment Refused old new goes = absurd goes
claiming_same replies row moment Stale old new goes = absurd goes
claiming_same replies row moment Limit old new goes = absurd goes
claiming_same replies row moment DiskFault old new goes = absurd goes
claiming_same replies row moment Nothing old new goes = absurd goes
claiming_same replies row moment Reopened old new goes = absurd goes

with_grows : (entries : List Entry) (found : Option Entry) → GrowsTo entries (entries_with entries found)
with_grows entries None = ([], sym (append-nil entries))
with_grows entries (Some entry) = (entry ∷ [], refl)

reopening_grows : (out : Outcome) (old new : Stand) → Reopening out old new → GrowsTo old.entries new.entries
reopening_grows out old new goes =
    let grown = with_grows old.entries goes.found in
    (grown.0, ap (λ (s : Stand). s.entries) goes.new_is ∙ grown.1)

to_grows : (replies : Replies) (to : Aim) (out : Outcome) (old new : Stand) → GoesTo replies to out old new
    → GrowsTo old.entries new.entries
to_grows replies (Enters entry) out old new goes = entering_grows entry out old new goes
to_grows replies (Claims row moment) out old new goes =
    same_grows old new (claiming_same replies row moment out old new goes)
to_grows replies Reopens out old new goes = reopening_grows out old new goes
to_grows replies (Stops wanted) out old new goes = same_grows old new (ap (λ (s : Stand). s.entries) goes.new_is)

pub entries_stay : EntriesStay
entries_stay replies [] [] first last runs = same_grows first last (ap (λ (s : Stand). s.entries) runs)
entries_stay replies [] (out ∷ outs) first last runs = absurd runs
entries_stay replies (call ∷ calls) [] first last runs = absurd runs
entries_stay replies (call ∷ calls) (out ∷ outs) first last (next, goes, rest) =
    let one = to_grows replies (aim first call) out first next goes in
    let more = entries_stay replies calls outs next last rest in (
      one.0 ++ more.0,
      more.1 ∙ ap (λ (l : List Entry). l ++ more.0) one.1 ∙ append_assoc first.entries one.0 more.0,
    )

-- ---- what is acknowledged is there

entered_now : (entry : Entry) (place : ℕ) (old new : Stand) (more : List Entry) (last : List Entry)
    → Entering entry (Entered place) old new → last ≡ new.entries ++ more
    → (e : Entry) × (slice_get last place ≡ Some e)
entered_now entry place old new more last goes grown = (
  entry,
  ap (slice_get last) goes.0
      ∙ ap (λ (l : List Entry). slice_get l (length old.entries))
      (grown ∙ ap (λ (s : Stand). s.entries ++ more) goes.1 ∙ append_assoc old.entries (entry ∷ []) more)
      ∙ get_past old.entries entry more,
)

-- only an entry that was due is acknowledged
entered_to : (replies : Replies) (to : Aim) (place : ℕ) (old new : Stand) (more last : List Entry)
    → GoesTo replies to (Entered place) old new → last ≡ new.entries ++ more
    → (e : Entry) × (slice_get last place ≡ Some e)
entered_to replies (Enters entry) place old new more last goes grown =
    entered_now entry place old new more last goes grown
entered_to replies (Claims row moment) place old new more last goes grown = absurd goes
entered_to replies Reopens place old new more last goes grown = absurd (clash goes.out_is)
  where
    clash : Entered place ≡ Reopened → ⊥
    clash same = cc
entered_to replies (Stops wanted) place old new more last goes grown = absurd goes.ends

some_is : (a b : Outcome) → Some a ≡ Some b → a ≡ b
some_is a b same = cc

pub entered_is_there : EnteredIsThere
entered_is_there replies calls [] first last i place runs at = absurd (none_some (Entered place) at)
entered_is_there replies [] (out ∷ outs) first last i place runs at = absurd runs
entered_is_there replies (call ∷ calls) (out ∷ outs) first last zero place (next, goes, rest) at =
    let grown = entries_stay replies calls outs next last rest in
    entered_to replies (aim first call) place first next grown.0 last.entries
    (subst (λ (o : Outcome). GoesTo replies (aim first call) o first next) (some_is out (Entered place) at) goes)
    grown.1
entered_is_there replies (call ∷ calls) (out ∷ outs) first last (suc i) place (next, goes, rest) at =
    entered_is_there replies calls outs next last i place rest at
