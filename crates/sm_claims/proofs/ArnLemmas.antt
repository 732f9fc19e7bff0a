-- A secret that is there is found by its whole ARN, and so is the first that is due.
use Rattle.std.proofs.Common.{◌≡◌, ℕ, Bool, true, false, not, ◌&&◌, ◌||◌, cond, List, [], ◌∷◌, Option, Some, None, is_none, is_some, IsTrue, refl, sym, ap, subst, ◌∙◌, inl, inr}
use Rattle.std.proofs.lemmas.Bool.{and_parts}
use Rattle.sm_base.specs.declared.moment.Moment.{Moment}
use Rattle.sm_model.specs.declared.rows.Rows.{Rows}
use Rattle.sm_model.specs.declared.rows.SecretRow.{SecretRow}
use Rattle.sm_versions.specs.Due.{is_due, is_due_for}
use Rattle.sm_model.specs.Due.{is_reached, is_free_or_held_by}
use Rattle.sm_model.specs.Labels.{holder, aws_current, aws_pending}
use Rattle.sm_model.specs.Versions.{is_full_when}
use Rattle.sm_versions.specs.Prune.{pruning}
use Rattle.sm_versions.specs.Sound.{RowSound}
use Rattle.sm_versions.specs.Texts.{is_among, once}
use Rattle.sm_base.specs.Texts.{same_text}
use Rattle.sm_model.specs.Versions.{has_version}
use Rattle.sm_versions.proofs.TextLemmas.{same_text_itself, same_text_tells}
use Rattle.sm_table.specs.Found.{found_arn, row_with_arn, short_arn}
use Rattle.sm_table.specs.Index.{name_in}
use Rattle.sm_table.specs.Kept.{row_names}
use Rattle.sm_table.specs.Sound.{EachSound, Sound}
use Rattle.sm_table.specs.Sweep.{is_gone, swept}
use Rattle.sm_table.proofs.FoundLaws.{IsIn}
use Rattle.sm_table.proofs.LookUpLaws.{name_of_arn}
use Rattle.sm_claims.specs.Due.{first_due}

pub sound_in : (rows : List SecretRow) (row : SecretRow) → EachSound rows → IsIn rows row → RowSound row
sound_in [] row each i = absurd i
sound_in (r ∷ rows) row each (inl same) = subst RowSound same each.0
sound_in (r ∷ rows) row each (inr i) = sound_in rows row each.1 i

named_in : (rows : List SecretRow) (row : SecretRow) → IsIn rows row → is_among (row_names rows) row.name ≡ true
named_in [] row i = absurd i
named_in (r ∷ rows) row (inl same) =
    ap (λ (n : List ℕ). same_text n row.name || is_among (row_names rows) row.name)
    (ap (λ (q : SecretRow). q.name) same)
    ∙ ap (λ b. b || is_among (row_names rows) row.name) (same_text_itself row.name)
named_in (r ∷ rows) row (inr i) = by (same_text r.name row.name) (named_in rows row i)
  where
    by : (b : Bool) → is_among (row_names rows) row.name ≡ true → (b || is_among (row_names rows) row.name) ≡ true
    by true h = refl
    by false h = h

-- an ARN has its name in it
name_from : (r row : SecretRow) → RowSound r → RowSound row → r.arn ≡ row.arn → r.name ≡ row.name
name_from r row first second same =
    sym (name_of_arn r.arn r.name first.fits.arn) ∙ ap (λ (t : List ℕ). name_in (short_arn t)) same
    ∙ name_of_arn row.arn row.name second.fits.arn

-- a secret in front of another has another ARN
apart : (r : SecretRow) (rows : List SecretRow) (row : SecretRow) → IsTrue (once (row_names (r ∷ rows)))
    → EachSound (r ∷ rows) → IsIn rows row → same_text r.arn row.arn ≡ false
apart r rows row names each i =
    elim (same_text_tells r.arn row.arn) [
      | inl same ↦
          let lacks = (and_parts (not (is_among (row_names rows) r.name)) (once (row_names rows)) names).0 in
          let name = name_from r row each.0 (sound_in rows row each.1 i) same.1 in
          let among : is_among (row_names rows) r.name ≡ true =
          ap (is_among (row_names rows)) name ∙ named_in rows row i in
          absurd (let never : false ≡ true = ap not (sym among) ∙ lacks in cc)
      | inr other ↦ other.0
    ]

pub found_in : (rows : List SecretRow) (moment : Moment) (row : SecretRow) → IsTrue (once (row_names rows))
    → EachSound rows → IsIn rows row → is_gone row moment ≡ false
    → row_with_arn (swept rows moment) row.arn ≡ Some row
found_in [] moment row names each i stays = absurd i
found_in (r ∷ rows) moment row names each (inl same) stays =
    let there : is_gone r moment ≡ false = ap (λ (q : SecretRow). is_gone q moment) same ∙ stays in
    let arn : same_text r.arn row.arn ≡ true = ap (λ (q : SecretRow). same_text q.arn row.arn) same
    ∙ same_text_itself row.arn in
    ap (λ b. row_with_arn (cond b (swept rows moment) (r ∷ swept rows moment)) row.arn) there
    ∙ ap (λ b. cond b (Some r) (row_with_arn (swept rows moment) row.arn)) arn ∙ ap Some same
found_in (r ∷ rows) moment row names each (inr i) stays =
    let others = (and_parts (not (is_among (row_names rows) r.name)) (once (row_names rows)) names).1 in
    by (is_gone r moment) (found_in rows moment row others each.1 i stays)
  where
    by : (b : Bool) → row_with_arn (swept rows moment) row.arn ≡ Some row
        → row_with_arn (cond b (swept rows moment) (r ∷ swept rows moment)) row.arn ≡ Some row
    by true later = later
    by false later =
        ap (λ b. cond b (Some r) (row_with_arn (swept rows moment) row.arn)) (apart r rows row names each i) ∙ later

-- the first that is due is due, and one of the secrets
pub due_in : (rows : List SecretRow) (moment : Moment) (token : List ℕ) (row : SecretRow)
    → first_due rows moment token ≡ Some row → (is_due_for row moment token ≡ true) × IsIn rows row
due_in [] moment token row e = absurd (cc)
due_in (r ∷ rows) moment token row e = by (is_due_for r moment token) refl e (due_in rows moment token row)
  where
    by : (b : Bool) → b ≡ is_due_for r moment token → cond b (Some r) (first_due rows moment token) ≡ Some row
        → (first_due rows moment token ≡ Some row → (is_due_for row moment token ≡ true) × IsIn rows row)
        → (is_due_for row moment token ≡ true) × IsIn (r ∷ rows) row
    by true is some later =
        let same : r ≡ row = cc in (ap (λ q. is_due_for q moment token) (sym same) ∙ sym is, inl same)
    by false is some later = let rest = later some in (rest.0, inr rest.1)

pub not_deleted : (row : SecretRow) (moment : Moment) (deletion : Option Moment) → is_none deletion ≡ true
    → is_reached deletion moment ≡ false
not_deleted row moment None h = refl
not_deleted row moment (Some date) h = absurd (cc)

-- what is due is not scheduled for deletion
due_stays : (row : SecretRow) (moment : Moment) (token : List ℕ) → is_due_for row moment token ≡ true
    → is_gone row moment ≡ false
due_stays row moment token is =
    let current = holder row.labels aws_current in
    let due = (and_parts (is_due row moment) (not (has_version row.versions token)) is).0 in
    let reached : Bool = row.rotation.enabled && is_reached row.rotation.next moment in
    let first = and_parts (reached && is_none row.deletion && is_some current
    && is_free_or_held_by (holder row.labels aws_pending) current) (not (is_full_when row (pruning moment))) due in
    let second = and_parts (reached && is_none row.deletion && is_some current)
    (is_free_or_held_by (holder row.labels aws_pending) current) first.0 in
    let third = and_parts (reached && is_none row.deletion) (is_some current) second.0 in
    not_deleted row moment row.deletion (and_parts reached (is_none row.deletion) third.0).1

pub due_found : (rows : Rows) (moment : Moment) (token : List ℕ) (row : SecretRow) → Sound rows
    → first_due rows.secrets moment token ≡ Some row → found_arn rows moment row.arn ≡ Some row
due_found rows moment token row sound e =
    let is = due_in rows.secrets moment token row e in
    found_in rows.secrets moment row sound.names sound.each is.1 (due_stays row moment token is.0)
