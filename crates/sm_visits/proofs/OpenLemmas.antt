-- What `open` answers, by what stands at the front of what waits.
use Rattle.std.proofs.Common.{◌≡◌, ℕ, ◌+◌, ◌-◌, Bool, true, false, List, length, take, drop, sym, ap, ◌∙◌, subst, arith}
use Rattle.std.proofs.lemmas.List.{length-drop, take_all}
use Rattle.sm_base.specs.declared.bad_kind.BadKind.{BadKind}
use Rattle.sm_http.specs.Messages.{StartsBadly, IsPartial}
use Rattle.sm_visits.specs.declared.arrivals.Opened.{Opened}
use Rattle.sm_visits.specs.declared.arrivals.Opened.TheVariants as opened
use Rattle.sm_visits.specs.declared.standing.Standing.TheVariants as standing
use Rattle.sm_visits.specs.Standing.{Stands}
use Rattle.sm_visits.specs.Visits.{ArrivalsState, MayOpen, Opens, with_all, ByCount, ByFault, ByEnd, connection_limit}

-- what waits is what stands in the buffer behind a place
module _ (old : ArrivalsState) (items : List ℕ) (seen : List ℕ) (start : ℕ) (same : seen ≡ items)
    (is : drop start items ≡ old.waiting) where
  found : take (length seen - start) (drop start seen) ≡ old.waiting
  found =
      let size : length (drop start seen) ≡ length seen - start = omega (arith, length-drop start seen) in
      take_all (length seen - start) (drop start seen) (omega (arith, size)) ∙ ap (drop start) same ∙ is

  -- all that waits is opened
  module _ (new : ArrivalsState) (has_ended : Bool) (answer : Opened) (may : MayOpen old)
      (all : new ≡ with_all old) (last : answer ≡ opened.Last) where
    pub opens_fault : (kind : BadKind) → StartsBadly (take (length seen - start) (drop start seen)) kind
        → Opens old has_ended answer new
    opens_fault kind bad =
        subst (λ a. Opens old has_ended a new) (sym last)
        (may, ByFault kind, (subst (λ xs. StartsBadly xs kind) found bad, all))

    pub opens_end : IsPartial (take (length seen - start) (drop start seen)) → has_ended ≡ true
        → Opens old has_ended answer new
    opens_end partial ended =
        subst (λ a. Opens old has_ended a new) (sym last) (may, ByEnd, (subst IsPartial found partial, ended, all))

-- a message was opened that takes so many bytes
abbrev opened_by : ArrivalsState → ℕ → Bool → ArrivalsState
opened_by s used over = record s { opened = used; in_visit = s.in_visit + 1; given = s.given + 1; over = over }

-- the message at the front is the 1,000th
pub opens_limit : (seen old : ArrivalsState) (used : ℕ) (closing : Bool) → seen ≡ old → MayOpen old
    → Stands old.waiting (standing.Message used closing) → closing ≡ false → seen.given + 1 ≡ connection_limit
    → (has_ended : Bool) → Opens old has_ended opened.Last (opened_by seen used true)
opens_limit seen old used closing same may stands goes most has_ended =
    let count : ℕ = length old.waiting - length (drop used old.waiting) in
    let size : used ≡ count = omega (arith, length-drop used old.waiting, stands.3) in
    let given : seen.given ≡ old.given = ap (λ (s : ArrivalsState). s.given) same in (
      may,
      ByCount,
      (
        stands.0,
        drop used old.waiting,
        stands.1,
        stands.2 ∙ goes,
        omega (arith, given, most),
        ap (λ (s : ArrivalsState). opened_by s used true) same ∙ ap (λ (n : ℕ). opened_by old n true) size,
      ),
    )
