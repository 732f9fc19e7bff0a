-- What the rotator of a run was asked, from call to call.
use Rattle.std.proofs.Common.{◌≡◌, ℕ, ◌+◌, ◌<◌, ◌≤◌, List, [], ◌∷◌, ◌++◌, length, take, get_or, map, refl, sym, ap, subst, ◌∙◌, inl, inr}
use Rattle.std.proofs.lemmas.List.{map-append, take_all, take_more}
use Rattle.sm_model.specs.declared.entry.Answer.{Answer}
use Rattle.sm_rotator.specs.Told.{append_told}
use Rattle.sm_rotator.specs.declared.rotator.Rotator.{Ghosts as RotatorGhosts}
use Rattle.sm_rotator.specs.declared.told.Told.{Told}
use Rattle.sm_rotator.specs.declared.verdict.Verdict.{Verdict}
use Rattle.sm_rotator.specs.declared.work.Work.{Work}
use Rattle.sm_disk.specs.declared.disk.Disk.{Ghosts as DiskGhosts}
use Rattle.sm_account.specs.Accounts as accounts
use Rattle.sm_drive.specs.Askings.{Askings, AsksIn, WorksAs, askings}
use Rattle.sm_drive.specs.Going.{IsFresh}
use Rattle.sm_drive.specs.Stands.{Stand, told_of}
use Rattle.sm_drive.specs.Turns.{InTurn}
use Rattle.sm_drive.specs.Working.{Keeps}
use Rattle.sm_drive.specs.declared.call.Call.{Call}
use Rattle.sm_drive.specs.declared.driven.Driven.{Driven}
use Rattle.sm_drive.specs.declared.outcome.Outcome.{Outcome}
use Rattle.sm_drive.specs.declared.outcome.Outcome.TheVariants.{Entered, Quiet, Refused, Stale, Limit, DiskFault, Asked, Nothing, Memory, Reopened}
use Rattle.sm_drive.specs.declared.run.Run.{Run}
use Rattle.sm_drive.proofs.DriveLemmas.{driven_of}
use Rattle.sm_drive.proofs.TurnLemmas.{turns_more}

-- ---- a work

-- by what is told and what is kept
both : (now : Askings) (told : _) (kept : List Told) → now.told ≡ told → now.kept ≡ kept
    → now ≡ record { told = told; kept = kept }
both now told kept told_is kept_is = λ i. record { told = told_is i; kept = kept_is i }

-- a verdict on the work that was asked for is kept, or there is no memory to keep it
pub asked_kept : {R : Type 0} (V : RotatorGhosts R) (rotator asked : R) (old new : List (Verdict R V))
    (verdict : Verdict R V) (work : Work) (answer : Answer) (out : Outcome) → verdict.work ≡ work
    → verdict.answer ≡ answer
    → V.told asked ≡ append_told (V.told rotator) (record { work = work; answer = answer } ∷ [])
    → Keeps verdict old out new → WorksAs out (askings V rotator old) (askings V asked new)
asked_kept {R} V rotator asked old new verdict work answer out work_is answer_is told keeps = by out keeps
  where
    one : Told
    one = record { work = work; answer = answer }

    same : told_of verdict ≡ one
    same = cc

    kept : new ≡ old ++ verdict ∷ [] → map told_of new ≡ map told_of old ++ one ∷ []
    kept is =
        ap (λ (l : List (Verdict R V)). map told_of l) is ∙ map-append told_of old (verdict ∷ [])
        ∙ ap (λ (t : Told). map told_of old ++ t ∷ []) same

    by : (o : Outcome) → Keeps verdict old o new → WorksAs o (askings V rotator old) (askings V asked new)
    by Asked is = (one, both (askings V asked new) _ _ told (kept is))
    by Memory is =
        inr (one, both (askings V asked new) _ _ told (ap (λ (l : List (Verdict R V)). map told_of l) is))
    by (Entered place) is = absurd is
    by Quiet is = absurd is
    by Refused is = absurd is
    by Stale is = absurd is
    by Limit is = absurd is
    by DiskFault is = absurd is
    by Nothing is = absurd is
    by Reopened is = absurd is

-- there was no memory to ask
pub not_asked : {R : Type 0} (V : RotatorGhosts R) (rotator asked : R) (verdicts : List (Verdict R V))
    → V.told asked ≡ V.told rotator → WorksAs Memory (askings V rotator verdicts) (askings V asked verdicts)
not_asked V rotator asked verdicts told =
    inl (both (askings V asked verdicts) _ _ told refl)

-- the verdicts stay
pub kept_same : {R : Type 0} (V : RotatorGhosts R) (rotator : R) (old new : List (Verdict R V)) → new ≡ old
    → askings V rotator new ≡ askings V rotator old
kept_same V rotator old new same = ap (askings V rotator) same

-- ---- a call

module _ {D R : Type 0} {G : DiskGhosts D} {V : RotatorGhosts R} (run new : Run D R G V) (call is : Call)
    (out : Outcome) (to : Run D R G V × Outcome) (same : call ≡ is) (left : to ≡ (new, out)) where
  -- by the parts of what a step gives
  pub asks_to : (rotator asked : R)
      → AsksIn is out (askings V rotator run.verdicts) (askings V asked new.verdicts)
      → AsksIn call to.1 (askings V rotator run.verdicts) (askings V asked to.0.verdicts)
  asks_to rotator asked asks =
      subst (λ (k : Call). AsksIn k to.1 (askings V rotator run.verdicts) (askings V asked to.0.verdicts)) (sym same)
      (subst (λ (t : Run D R G V × Outcome).
      AsksIn is t.1 (askings V rotator run.verdicts) (askings V asked t.0.verdicts)) (sym left) asks)

  -- one open door stays one
  pub door_to : (accounts.doors run.account ≡ 1 → accounts.doors new.account ≡ 1)
      → accounts.doors run.account ≡ 1 → accounts.doors to.0.account ≡ 1
  door_to stays one =
      ap (λ (t : Run D R G V × Outcome). accounts.doors t.0.account) left ∙ stays one

-- ---- the loop

pub none_asked : (outs : List Outcome) (first : Askings) → outs ≡ [] → InTurn AsksIn [] outs first first
none_asked outs first none = subst (λ (l : List Outcome). InTurn AsksIn [] l first first) (sym none) refl

pub one_more_asked : (calls : List Call) (k : ℕ) (call : Call) → k < length calls → call ≡ get_or calls k call
    → (outs more : List Outcome) (out : Outcome) (first mid last : Askings)
    → InTurn AsksIn (take k calls) outs first mid → AsksIn call out mid last → more ≡ outs ++ out ∷ []
    → InTurn AsksIn (take (k + 1) calls) more first last
one_more_asked calls k call lt is outs more out first mid last asked asks grown =
    let taken : take (k + 1) calls ≡ take k calls ++ call ∷ [] =
    take_more calls k call lt ∙ ap (λ (c : Call). take k calls ++ c ∷ []) (sym is) in
    subst (λ (l : List Call). InTurn AsksIn l more first last) (sym taken)
    (subst (λ (l : List Outcome). InTurn AsksIn (take k calls ++ call ∷ []) l first last) (sym grown)
    (turns_more AsksIn (take k calls) outs call out first mid last asked asks))

pub all_asked : (calls : List Call) (k : ℕ) (outs : List Outcome) (first last : Askings) → length calls ≤ k
    → InTurn AsksIn (take k calls) outs first last → InTurn AsksIn calls outs first last
all_asked calls k outs first last all asked =
    subst (λ (l : List Call). InTurn AsksIn l outs first last) (take_all k calls all) asked

-- ---- the whole run

module _ {D R : Type 0} {G : DiskGhosts D} {V : RotatorGhosts R} (start now : Run D R G V) (fresh : IsFresh start)
    (outs : List Outcome) (driven : Driven D R G V) (is : driven ≡ driven_of now.account outs now.verdicts) where
  -- nothing is kept before the first call
  pub asked_to : (calls : List Call) (rotator asked : R)
      → InTurn AsksIn calls outs (askings V rotator start.verdicts) (askings V asked now.verdicts)
      → InTurn AsksIn calls driven.outcomes (askings V rotator []) (askings V asked driven.verdicts)
  asked_to calls rotator asked turns =
      let kept : map told_of start.verdicts ≡ [] = ap (λ (s : Stand). s.kept) fresh.stands in
      subst (λ (d : Driven D R G V). InTurn AsksIn calls d.outcomes (askings V rotator []) (askings V asked d.verdicts))
      (sym is)
      (subst (λ (l : List Told). InTurn AsksIn calls outs (record { told = V.told rotator; kept = l })
      (askings V asked now.verdicts)) kept turns)

  pub one_door : accounts.doors now.account ≡ 1 → accounts.doors driven.account ≡ 1
  one_door one = ap (λ (d : Driven D R G V). accounts.doors d.account) is ∙ one
