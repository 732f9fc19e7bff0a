-- The outcome of a request at a state: its refusal, in the one order of all tests, or its reply and the entry that is
-- due. AWS Secrets Manager API Reference, Actions; AWS Secrets Manager User Guide, "AWS Secrets Manager quotas".
use Rattle.std.specs.Prelude.{ℕ, ◌+◌, nat_le, nat_lt, Bool, ◌||◌, if◌then◌else◌, List, Option, Some, None}
use Rattle.sm_base.specs.declared.moment.Moment.{Moment}
use Rattle.sm_model.specs.declared.entry.Change.{Change}
use Rattle.sm_model.specs.declared.entry.Entry.{Entry}
use Rattle.sm_base.specs.declared.limits.TheConstants.{ENTRIES_LIMIT}
use Rattle.sm_model.specs.declared.person.Person.{Person}
use Rattle.sm_model.specs.declared.reply.Reply.{Reply}
use Rattle.sm_model.specs.declared.request.Request.{Request}
use Rattle.sm_model.specs.declared.rows.Rows.{Rows}
use Rattle.sm_model.specs.declared.why.What.TheVariants.{Entries, JournalBytes}
use Rattle.sm_model.specs.declared.why.Why.{Why}
use Rattle.sm_model.specs.declared.why.Why.TheVariants as whys
use Rattle.sm_versions.specs.Prune.{pruning}
use Rattle.sm_forms.specs.Forms.{forms_of}
use Rattle.sm_access.specs.Admission.{admission}
use Rattle.sm_judge_common.specs.declared.judged.Judged.{Judged}
use Rattle.sm_judge_common.specs.declared.judged.Judged.TheVariants.{Accept, Refuse, Memory}
use Rattle.sm_core.specs.Effects.{entry_of}
use Rattle.sm_core.specs.Histories.{later}
use Rattle.sm_core.specs.Judging.{judgement_for}
use Rattle.sm_recovery.specs.Following.{entries_limit}
use Rattle.sm_account.specs.States.{State, size_of}

-- a refusal, or a reply and the entry that is due
pub data Outcome : Type 0 where
  Refuses : Why → Outcome
  Replies : Reply → Option Entry → Outcome

-- a member that is not in its form comes before what follows
abbrev pub unless_malformed : Option Why → Judged → Judged
unless_malformed (Some why) next = Refuse why
unless_malformed None next = next

-- a statement that denies, or that none allows, comes before what follows
abbrev pub unless_denied : Option (Option ℕ) → Judged → Judged
unless_denied (Some statement) next = Refuse (whys.Denied statement)
unless_denied None next = next

-- the members' forms, then access, then the tests on the rows
abbrev pub considered : Rows → Person → Moment → List ℕ → Request → Judged
considered rows person moment drawn request =
    unless_malformed (forms_of request)
    (unless_denied (admission rows person moment request) (judgement_for rows person (pruning moment) drawn request))

-- no entry more may be made: so many were made since the opening, or so many in all
abbrev pub is_full : State → Bool
is_full state = nat_le ENTRIES_LIMIT state.made || nat_le entries_limit (state.before + state.made)

-- The limit that one entry more would pass: so many entries, or so long a journal.
abbrev pub limit_passed : State → Entry → Option Why
limit_passed state entry =
    if is_full state then Some (whys.Limit ENTRIES_LIMIT Entries)
    else (if nat_lt state.limit (state.bytes + size_of entry) then Some (whys.Limit state.limit JournalBytes) else None)

abbrev pub outcome_within : Option Why → Reply → Entry → Outcome
outcome_within (Some why) reply entry = Refuses why
outcome_within None reply entry = Replies reply (Some entry)

-- an entry is due where there is a change
abbrev pub outcome_due : State → Entry → Reply → Option Change → Outcome
outcome_due state entry reply None = Replies reply None
outcome_due state entry reply (Some change) = outcome_within (limit_passed state entry) reply entry

abbrev pub outcome_judged : State → Entry → Judged → Outcome
outcome_judged state entry (Accept reply change) = outcome_due state entry reply change
outcome_judged state entry (Refuse why) = Refuses why
outcome_judged state entry Memory = Refuses whys.Memory

-- who asks for what, at which reading of the clock, and what was drawn for it
pub record Question : Type 0 where
  pub person : Person
  pub now : Moment
  pub drawn : List ℕ
  pub request : Request

-- an operation's moment: the greater of the last entry's moment and the clock's reading
abbrev pub moment_at : State → Question → Moment
moment_at state question = later state.last question.now

-- the entry of an accepted request of the person, whose ARN stands with the key
abbrev pub asked_entry : Moment → Person → List ℕ → Request → Entry
asked_entry moment person drawn request =
    record (entry_of (pruning moment) person.key drawn request) { by = person.arn }

-- the entry of a question
abbrev pub entry_at : State → Question → Entry
entry_at state question = asked_entry (moment_at state question) question.person question.drawn question.request

abbrev pub outcome : State → Question → Outcome
outcome state question =
    outcome_judged state (entry_at state question)
    (considered state.rows question.person (moment_at state question) question.drawn question.request)
