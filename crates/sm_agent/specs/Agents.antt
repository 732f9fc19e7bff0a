-- What a caching reader keeps, and what it gives.
use Rattle.std.specs.Prelude.{◌≡◌, ℕ, ◌+◌, Bool, IsTrue, max, nat_lt, ◌==◌, if◌then◌else◌, ◌⊎◌, ⊤, List, [], Option, None, Some}
use Rattle.std.specs.Map.{lookup, remove_entry}
use Rattle.lru.specs.LruCache.{LruCache, lru_cache, promoted, put_entries}
use Rattle.sm_agent.specs.Questions.{same_question}
use Rattle.sm_agent.specs.Upstreams.{is_status, told_more, answered, unanswered}
use Rattle.sm_agent.specs.declared.agent.Given.{Given}
use Rattle.sm_agent.specs.declared.agent.Given.TheVariants.{Kept, Asked, Failed, Memory}
use Rattle.sm_agent.specs.declared.answer.CachedAnswer.{CachedAnswer}
use Rattle.sm_agent.specs.declared.question.Question.{Question}
use Rattle.sm_agent.specs.declared.upstream.Told.{Told}

-- the answers that are kept, the most recently used first, for how many seconds they are, and the agent's last moment
pub record AgentState : Type 0 where
  pub cache : LruCache Question CachedAnswer
  pub ttl : ℕ
  pub last : ℕ

-- one that keeps nothing, and has no moment yet
abbrev pub empty_agent : ℕ → ℕ → AgentState
empty_agent size ttl = record { cache = lru_cache [] size; ttl = ttl; last = 0 }

-- an agent's moment: the greater of the reading and its last one
abbrev pub agent_moment : AgentState → ℕ → ℕ
agent_moment agent now = max agent.last now

-- the moment of the answer and the time to live are together above the moment
abbrev pub is_live : ℕ → ℕ → CachedAnswer → Bool
is_live ttl moment answer = nat_lt moment (answer.at.0 + ttl)

-- the answer, where it lives
abbrev pub if_live : ℕ → ℕ → Option CachedAnswer → Option CachedAnswer
if_live ttl moment None = None
if_live ttl moment (Some answer) = if is_live ttl moment answer then Some answer else None

-- the answer to the question that the cache has, where it lives still
abbrev pub live_answer : AgentState → Question → ℕ → Option CachedAnswer
live_answer agent question moment = if_live agent.ttl moment (lookup (same_question question) agent.cache.entries)

-- the answer that needs no asking: none where a fresh one is wanted
abbrev pub kept_answer : AgentState → Question → Bool → ℕ → Option CachedAnswer
kept_answer agent question fresh moment = if fresh then None else live_answer agent question moment

-- what the agent gave of what it keeps: an answer, or nothing where it asked; not told where memory was wanted
abbrev pub kept_told : Given → Option (Option CachedAnswer)
kept_told (Kept status body at) = Some (Some (record { body = body; at = at }))
kept_told (Asked status body) = Some None
kept_told Failed = Some None
kept_told Memory = None

-- a kept answer is one of status 200, and each other has a status of a reply
abbrev pub HasStatus : Given → Type 0
HasStatus (Kept status body at) = status ≡ 200
HasStatus (Asked status body) = IsTrue (is_status status)
HasStatus Failed = ⊤
HasStatus Memory = ⊤

-- the agent at a moment, with these entries in its cache
abbrev pub with_entries : AgentState → ℕ → List (Question × CachedAnswer) → AgentState
with_entries agent moment entries = record agent { cache = lru_cache entries agent.cache.cap; last = moment }

-- an answer of this moment
abbrev pub cached : List ℕ → ℕ → CachedAnswer
cached body moment = record { body = body; at = record { 0 = moment } }

-- the entries with an answer that came: of status 200 it is put among them, and any other takes the question out
abbrev pub entries_with : LruCache Question CachedAnswer → Question → ℕ → ℕ → List ℕ → List (Question × CachedAnswer)
entries_with cache question moment status body =
    if status == 200 then put_entries same_question cache question (cached body moment)
    else remove_entry (same_question question) cache.entries

-- What a call leaves of the agent. A kept answer comes to the front. One that came is kept by its status; where there
-- was no memory to put it, an older answer to the question goes. At a fault or out of memory nothing changes but the
-- moment.
abbrev pub Leaves : Question → ℕ → Given → AgentState → AgentState → Type 0
Leaves question moment (Kept status body at) old new =
    new ≡ with_entries old moment (promoted (same_question question) old.cache.entries)
Leaves question moment (Asked status body) old new =
    (new ≡ with_entries old moment (entries_with old.cache question moment status body))
    ⊎ ((status ≡ 200)
    × (new ≡ with_entries old moment (remove_entry (same_question question) old.cache.entries)))
Leaves question moment Failed old new = new ≡ record old { last = moment }
Leaves question moment Memory old new = new ≡ record old { last = moment }

-- what the upstream tells behind a call: it was asked once, or not at all where a kept answer was given or memory was
-- wanted
abbrev pub told_given : Question → Given → Option (List Told) → Option (List Told)
told_given question (Kept status body at) told = told
told_given question (Asked status body) told = told_more told (answered question status body)
told_given question Failed told = told_more told (unanswered question)
told_given question Memory told = told

-- a fact where a kept answer was given
abbrev pub OnKept : Given → Type 0 → Type 0
OnKept (Kept status body at) P = P
OnKept (Asked status body) P = ⊤
OnKept Failed P = ⊤
OnKept Memory P = ⊤

-- a fact where the agent failed
abbrev pub OnGivenFailed : Given → Type 0 → Type 0
OnGivenFailed (Kept status body at) P = ⊤
OnGivenFailed (Asked status body) P = ⊤
OnGivenFailed Failed P = P
OnGivenFailed Memory P = ⊤

-- the count stays, but where the agent failed
abbrev pub StaysUnlessGivenFailed : Given → ℕ → ℕ → Type 0
StaysUnlessGivenFailed (Kept status body at) old new = new ≡ old
StaysUnlessGivenFailed (Asked status body) old new = new ≡ old
StaysUnlessGivenFailed Failed old new = ⊤
StaysUnlessGivenFailed Memory old new = new ≡ old
