-- Entries that have a spelling which is not too long for a record of the journal.
-- AWS Secrets Manager User Guide: "AWS Secrets Manager quotas".
use Rattle.std.specs.Prelude.{◌≡◌, ◌≤◌, ℕ, Bool, true, false, List, length, None, IsTrue}
use Rattle.sm_base.specs.declared.limits.TheConstants.{CALLER_LIMIT}
use Rattle.sm_model.specs.Bounds.{is_attempt, is_small}
use Rattle.sm_model.specs.Needed.{needed}
use Rattle.sm_model.specs.declared.entry.Act.{Act}
use Rattle.sm_model.specs.declared.entry.Act.TheVariants.{Asked, Begun, Reported}
use Rattle.sm_model.specs.declared.entry.Answer.{Answer}
use Rattle.sm_model.specs.declared.entry.Answer.TheVariants as answers
use Rattle.sm_model.specs.declared.entry.At.{At}
use Rattle.sm_model.specs.declared.entry.Entry.{Entry}
use Rattle.sm_model.specs.declared.request.Request.{Request}
use Rattle.sm_forms.specs.Forms.{forms_of}
use Rattle.sm_core.specs.Histories.{may_be_by}
use Rattle.sm_core.specs.Judging.{is_reading}
use Rattle.sm_encoded_size.specs.Texts.{HasFewTags}

-- an answer has no value of more than 65,536 bytes
abbrev pub is_small_answer : Answer → Bool
is_small_answer (answers.Value value) = is_small value
is_small_answer answers.Yes = true
is_small_answer answers.No = true
is_small_answer answers.Failed = true

-- a request that is accepted and changes something
pub record IsAccepted (drawn : List ℕ) (request : Request) : Type 0 where
  pub drawn_for : length drawn ≡ needed request
  pub forms : forms_of request ≡ None
  pub changes : is_reading request ≡ false
  pub few : HasFewTags request

-- a step of a job, and an answer that an entry may have
pub record IsStep (drawn : List ℕ) (at : At) (answer : Answer) : Type 0 where
  pub none : length drawn ≡ 0
  pub attempt : IsTrue (is_attempt at.attempt)
  pub small : IsTrue (is_small_answer answer)

-- an act, and the random bytes that were drawn for it, of which an entry may be made
abbrev pub MayBeMade : List ℕ → Act → Type 0
MayBeMade drawn (Asked request) = IsAccepted drawn request
MayBeMade drawn (Begun arn) = length drawn ≡ 16
MayBeMade drawn (Reported arn at answer) = IsStep drawn at answer

-- an entry that may be made: the key and the ARN of who asked are short, and nobody stands with what nobody asks for
pub record IsSpellable (entry : Entry) : Type 0 where
  pub act : MayBeMade entry.drawn entry.act
  pub whose : IsTrue (may_be_by entry.caller entry.by entry.act)
  pub caller : length entry.caller ≤ CALLER_LIMIT
  pub by : length entry.by ≤ CALLER_LIMIT
