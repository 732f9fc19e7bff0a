-- The laws of admissions.
use Rattle.std.proofs.Common.{◌≡◌, ℕ, Bool, true, false, ◌||◌, cond, List, Option, Some, None, is_none, Result, Ok, Err, IfSome, IsTrue, refl, sym, ap, ◌∙◌, subst}
use Rattle.std.proofs.lemmas.Bool.{and_parts}
use Rattle.sm_base.specs.declared.moment.Moment.{Moment}
use Rattle.sm_base.specs.SecretId.{secret_id}
use Rattle.sm_base.specs.Spelling.{is_secret_id}
use Rattle.sm_model.specs.declared.person.Person.{Person}
use Rattle.sm_model.specs.declared.rows.Rows.{Rows}
use Rattle.sm_model.specs.declared.rows.SecretRow.{SecretRow}
use Rattle.sm_model.specs.Bounds.{fits}
use Rattle.sm_policy_text.specs.declared.policy.Policy.{Policy}
use Rattle.sm_policy.specs.declared.question.Decision.{Decision}
use Rattle.sm_policy.specs.declared.question.Decision.TheVariants.{Allow, Deny, Silent}
use Rattle.sm_policy.specs.Decisions.{PlainQuestion, denies, allows, first_number, decided, decision, admitted}
use Rattle.sm_policy_text.specs.Documents.{Flaw, policy_of, is_policy, is_read_policy, has_policy_length, is_resource_policy}
use Rattle.sm_policy.specs.Laws.{may_go}
use Rattle.sm_policy.proofs.LawLemmas.{decision_admits}
use Rattle.sm_versions.specs.Sound.{RowSound}
use Rattle.sm_table.specs.Found.{found}
use Rattle.sm_table.specs.Sound.{Sound}
use Rattle.sm_table.proofs.SoundLaws.{found_sound}
use Rattle.sm_access.specs.Admission.{by_decision, by_reading, by_policy, question_of, on_row, secret_named}
use Rattle.sm_access.specs.Laws.{AdmitsByPolicy, DenialNamesFirst, policy_read, kept_policy}

-- ---- who is admitted

-- where no statement says anything
silent_admits : (full : Bool) → is_none {T = Option ℕ} (cond full None (Some None)) ≡ full
silent_admits true = refl
silent_admits false = refl

-- what a decision comes to
decision_goes : (said : Decision) (person : Person) → is_none (by_decision said person) ≡ may_go said person.full
decision_goes (Allow n) person = refl
decision_goes (Deny n) person = refl
decision_goes Silent person = silent_admits person.full

-- a text that is kept is read
is_read : (read : Result Policy Flaw) (question : PlainQuestion) → is_read_policy read ≡ true
    → is_none (by_reading read question) ≡ admitted (policy_read read) question
is_read (Ok policy) question h =
    decision_goes (decision policy question) question.person ∙ sym (decision_admits policy question)
is_read (Err flaw) question h = absurd (cc)

of_policy : (text : List ℕ) → IsTrue (is_resource_policy text) → is_read_policy (policy_of text) ≡ true
unfolding is_resource_policy is_policy
of_policy text h = (and_parts (has_policy_length text) (is_policy text) h).1

or_false : (b : Bool) → b ≡ (b || false)
or_false true = refl
or_false false = refl

by_kept : (policy : Option (List ℕ)) (question : PlainQuestion) → IsTrue (fits is_resource_policy policy)
    → is_none (by_policy policy question) ≡ admitted (kept_policy policy) question
by_kept None question h = silent_admits question.person.full ∙ or_false question.person.full
by_kept (Some text) question h = is_read (policy_of text) question (of_policy text h)

-- the row that a text names on sound rows is sound
named_sound : (spelled : Bool) (found row : Option SecretRow) → IfSome found RowSound
    → cond spelled found None ≡ row → IfSome row RowSound
named_sound true found row each e = subst (λ (o : Option SecretRow). IfSome o RowSound) e each
named_sound false found None each e = tt
named_sound false found (Some row) each e = absurd (cc)

named_row_sound : (rows : Rows) (moment : Moment) (text : List ℕ) (row : SecretRow) → Sound rows
    → secret_named rows moment text ≡ Some row → RowSound row
named_row_sound rows moment text row sound e =
    named_sound (is_secret_id text) (found rows moment (secret_id text)) (Some row)
    (found_sound rows moment (secret_id text) (found rows moment (secret_id text)) refl sound) e

pub admits_by_policy : AdmitsByPolicy
admits_by_policy rows person moment access_request row sound e =
    ap (λ (o : Option SecretRow). is_none (on_row o person access_request)) e
    ∙ by_kept row.policy (question_of person row access_request)
    (named_row_sound rows moment access_request.secret_id row sound e).fits.policy

-- ---- which statement is named

unnamed : (full : Bool) (statement : Option ℕ) → cond full None (Some None) ≡ Some statement → statement ≡ None
unnamed true statement e = absurd (cc)
unnamed false statement e = cc

first_named : (denial allowance : Option ℕ) (person : Person) (statement : Option ℕ)
    → by_decision (decided denial allowance) person ≡ Some statement → statement ≡ denial
first_named (Some n) allowance person statement e = cc
first_named None (Some n) person statement e = absurd (cc)
first_named None None person statement e = unnamed person.full statement e

read_names : (read : Result Policy Flaw) (question : PlainQuestion) (statement : Option ℕ)
    → by_reading read question ≡ Some statement
    → statement ≡ first_number (denies question) 0 (policy_read read).statements
read_names (Ok policy) question statement e =
    first_named (first_number (denies question) 0 policy.statements)
    (first_number (allows question) 0 policy.statements) question.person statement e
read_names (Err flaw) question statement e = cc

pub denial_names_first : DenialNamesFirst
denial_names_first None question statement e = unnamed question.person.full statement e
denial_names_first (Some text) question statement e = read_names (policy_of text) question statement e
