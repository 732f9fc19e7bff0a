-- What the pairs of a query have given so far.
use Rattle.std.specs.Prelude.{◌≡◌, ℕ, Bool, true, ◌&&◌, ⊤, if◌then◌else◌, List, Option, None, Some, is_none, Result, Ok, Err}
use Rattle.sm_agent.specs.declared.key.Key.{Key}
use Rattle.sm_agent.specs.declared.key.Key.TheVariants.{SecretId, VersionId, VersionStage, RefreshNow}
use Rattle.sm_agent.specs.declared.members.Members.{Members}
use Rattle.sm_agent.specs.declared.path.QueryRefused.{QueryRefused}
use Rattle.sm_agent.specs.declared.question.Question.{Question}
use Rattle.sm_agent.specs.declared.path.QueryRefused.TheVariants as refused
use Rattle.sm_agent.specs.Queries.{Pair, key_text, key_of, is_formed, is_fresh, text_under}

-- none yet
abbrev pub no_members : Members
no_members = record { secret_id = None; version_id = None; version_stage = None; refresh_now = None }

-- the text of a key
abbrev pub member : Members → Key → Option (List ℕ)
member members SecretId = members.secret_id
member members VersionId = members.version_id
member members VersionStage = members.version_stage
member members RefreshNow = members.refresh_now

-- with a text for a key
abbrev pub with_member : Members → Key → List ℕ → Members
with_member members SecretId text = record members { secret_id = Some text }
with_member members VersionId text = record members { version_id = Some text }
with_member members VersionStage text = record members { version_stage = Some text }
with_member members RefreshNow text = record members { refresh_now = Some text }

-- the key, where it is one, has no text yet
abbrev pub is_free : Members → Option Key → Bool
is_free members None = true
is_free members (Some key) = is_none (member members key)

-- the key of a pair that can't be added
abbrev pub key_refused : Members → Pair → Option (List ℕ)
key_refused members pair =
    if is_formed (key_of pair.key) pair.text && is_free members (key_of pair.key) then None else Some pair.key

-- with the text of a pair
abbrev pub with_text : Members → Option Key → Option (List ℕ) → Members
with_text members None text = members
with_text members (Some key) None = members
with_text members (Some key) (Some text) = with_member members key text

abbrev pub with_pair : Members → Pair → Members
with_pair members pair = with_text members (key_of pair.key) pair.text

-- what is refused is this key; or memory was wanted
abbrev pub IsRefusedBy : Option (List ℕ) → QueryRefused → Type 0
IsRefusedBy bad refused.Path = ⊥
IsRefusedBy bad (refused.Key key) = bad ≡ Some key
IsRefusedBy bad refused.Memory = ⊤

-- each has the text that the pairs give it
pub record AreOf (pairs : List Pair) (members : Members) : Type 0 where
  pub secret_id : members.secret_id ≡ text_under (key_text SecretId) pairs
  pub version_id : members.version_id ≡ text_under (key_text VersionId) pairs
  pub version_stage : members.version_stage ≡ text_under (key_text VersionStage) pairs
  pub refresh_now : members.refresh_now ≡ text_under (key_text RefreshNow) pairs

-- what members ask for, with this text as their SecretId
abbrev pub question_with : Members → Option (List ℕ) → Result (Question × Bool) QueryRefused
question_with members None = Err (refused.Key (key_text SecretId))
question_with members (Some id) = Ok (
  record { secret_id = id; version_id = members.version_id; version_stage = members.version_stage },
  is_fresh members.refresh_now,
)

-- what they ask for
abbrev pub question_of : Members → Result (Question × Bool) QueryRefused
question_of members = question_with members members.secret_id
