-- The steps of a rotation.
use Rattle.std.proofs.Common.{◌≡◌, ◌↔◌, ℕ, zero, suc, ◌+◌, ◌<◌, ◌≤◌, Bool, true, false, not, ◌&&◌, cond, List, [], ◌∷◌, length, get_or, set, slice_get, slice_set, Option, Some, None, IsTrue, Decides, nat_eq, refl, sym, ap, subst, ◌∙◌, arith}
use Rattle.std.specs.List.{position, position_or_len}
use Rattle.std.proofs.lemmas.Bool.{and_parts, and_from}
use Rattle.std.proofs.lemmas.Bool.Decides.{same_from_decides, nat_tests}
use Rattle.std.proofs.lemmas.List.Quantifiers.{position-Some}
use Rattle.std.proofs.lemmas.Option.{get_or_from_slice_get}
use Rattle.sm_model.specs.declared.entry.At.{At}
use Rattle.sm_model.specs.declared.rows.Job.{Job}
use Rattle.sm_model.specs.declared.rows.Stage.{Stage}
use Rattle.sm_model.specs.declared.rows.Stage.TheVariants.{Create, Set, Test, Finish}
use Rattle.sm_model.specs.declared.rows.VersionRow.{VersionRow}
use Rattle.sm_base.specs.Texts.{same_text}
use Rattle.sm_versions.proofs.TextLemmas.{same_text_decides}
use Rattle.sm_rotation.specs.Step.{same_stage, at_of, is_at, marked}

-- ---- the step that a job is at

same_stage_decides : (a b : Stage) → Decides (same_stage a b) (a ≡ b)
same_stage_decides Create Create = ((λ h. refl), (λ e. refl))
same_stage_decides Create Set = ((λ h. cc), (λ e. cc))
same_stage_decides Create Test = ((λ h. cc), (λ e. cc))
same_stage_decides Create Finish = ((λ h. cc), (λ e. cc))
same_stage_decides Set Create = ((λ h. cc), (λ e. cc))
same_stage_decides Set Set = ((λ h. refl), (λ e. refl))
same_stage_decides Set Test = ((λ h. cc), (λ e. cc))
same_stage_decides Set Finish = ((λ h. cc), (λ e. cc))
same_stage_decides Test Create = ((λ h. cc), (λ e. cc))
same_stage_decides Test Set = ((λ h. cc), (λ e. cc))
same_stage_decides Test Test = ((λ h. refl), (λ e. refl))
same_stage_decides Test Finish = ((λ h. cc), (λ e. cc))
same_stage_decides Finish Create = ((λ h. cc), (λ e. cc))
same_stage_decides Finish Set = ((λ h. cc), (λ e. cc))
same_stage_decides Finish Test = ((λ h. cc), (λ e. cc))
same_stage_decides Finish Finish = ((λ h. refl), (λ e. refl))

-- a test that says whether two stages are equal
pub same_stage_from_equals : (a b : Stage) (r : Bool) → (IsTrue r ↔ (a ≡ b)) → r ≡ same_stage a b
same_stage_from_equals a b r h = same_from_decides r (same_stage a b) h (same_stage_decides a b)

same_at : (a b : At) → a.token ≡ b.token → a.stage ≡ b.stage → a.attempt ≡ b.attempt → a ≡ b
same_at a b token stage attempt = rw (token, stage, attempt) refl

-- the job is at the step exactly where its own step is the same
is_at_same : (job : Job) (at : At) → IsTrue (is_at job at) ↔ (at_of job ≡ at)
is_at_same job at = (
  (λ h.
      let parts = and_parts (same_text job.token at.token && same_stage job.stage at.stage)
      (nat_eq job.attempt at.attempt) h in
      let front = and_parts (same_text job.token at.token) (same_stage job.stage at.stage) parts.0 in
      same_at (at_of job) at ((same_text_decides job.token at.token).0 front.0)
      ((same_stage_decides job.stage at.stage).0 front.1) (grind (arith, nat_tests))),
  (λ e.
      and_from _ _
      (and_from _ _ ((same_text_decides job.token at.token).1 (ap (λ (a : At). a.token) e))
      ((same_stage_decides job.stage at.stage).1 (ap (λ (a : At). a.stage) e)))
      (let same : job.attempt ≡ at.attempt = ap (λ (a : At). a.attempt) e in grind (arith, nat_tests))),
)

pub is_at_tells : (job : Job) (at : At) (r : Bool) → r ≡ is_at job at → IsTrue r ↔ (at_of job ≡ at)
is_at_tells job at r e = subst (λ (b : Bool). IsTrue b ↔ (at_of job ≡ at)) (sym e) (is_at_same job at)

-- ---- the version that remembers its attempt

marked_at : (vs : List VersionRow) (i : ℕ) (d : VersionRow) (id : List ℕ) (tested : Option ℕ) → i < length vs
    → ((k : ℕ) → k < i → same_text (get_or vs k d).id id ≡ false) → same_text (get_or vs i d).id id ≡ true
    → marked vs id tested ≡ set vs i (record (get_or vs i d) { rotated = tested })
marked_at [] i d id tested h before here = absurd (omega arith)
marked_at (v ∷ vs) zero d id tested h before here = rw here
marked_at (v ∷ vs) (suc i) d id tested h before here =
    rw (before 0 (omega arith))
    (ap (λ ws. v ∷ ws) (marked_at vs i d id tested (omega arith) (λ k g. before (suc k) (omega arith)) here))

marked_past : (vs : List VersionRow) (id : List ℕ) (tested : Option ℕ)
    → length vs ≤ position_or_len (λ v. same_text v.id id) vs → marked vs id tested ≡ vs
marked_past [] id tested h = refl
marked_past (v ∷ vs) id tested h = by (same_text v.id id) (marked_past vs id tested) h
  where
    by : (b : Bool) → (length vs ≤ position_or_len (λ w. same_text w.id id) vs → marked vs id tested ≡ vs)
        → length (v ∷ vs) ≤ cond (not b) (1 + position_or_len (λ w. same_text w.id id) vs) 0
        → cond b (record v { rotated = tested } ∷ vs) (v ∷ marked vs id tested) ≡ v ∷ vs
    by true rest g = absurd (omega arith)
    by false rest g = ap (λ ws. v ∷ ws) (rest (omega arith))

-- at the place that was found
pub marked_found : (vs : List VersionRow) (i : ℕ) (v : VersionRow) (id : List ℕ) (tested : Option ℕ)
    → position (λ w. same_text w.id id) vs ≡ Some i → v ≡ get_or vs i v
    → set vs i (record v { rotated = tested }) ≡ marked vs id tested
marked_found vs i v id tested found e =
    let p = position-Some (λ w. same_text w.id id) vs i v found in
    ap (λ w. set vs i (record w { rotated = tested })) e ∙ sym (marked_at vs i v id tested p.0 p.2 p.1)

pub marked_by : (vs all after : List VersionRow) (i : ℕ) (v made : VersionRow) (id : List ℕ) (tested : Option ℕ)
    → all ≡ vs → position (λ w. same_text w.id id) vs ≡ Some i → slice_get vs i ≡ Some v
    → made ≡ record v { rotated = tested } → after ≡ slice_set all i made → after ≡ marked vs id tested
marked_by vs all after i v made id tested same found there is e =
    e ∙ ap (λ ws. slice_set ws i made) same ∙ ap (λ w. slice_set vs i w) is
    ∙ marked_found vs i v id tested found (sym (get_or_from_slice_get vs i v v there))

-- where no place was found
pub marked_not_found : (vs : List VersionRow) (id : List ℕ) (tested : Option ℕ)
    → position (λ w. same_text w.id id) vs ≡ None → vs ≡ marked vs id tested
marked_not_found vs id tested none =
    let past : length vs ≤ position_or_len (λ w. same_text w.id id) vs = grind (arith, nat_tests) in
    sym (marked_past vs id tested past)
