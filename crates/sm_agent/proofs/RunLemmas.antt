-- Runs of calls of a caching reader.
use Rattle.std.proofs.Common.{◌≡◌, ℕ, ◌+◌, ◌<◌, ◌==◌, max, nat_lt, inl, inr, cond, Bool, true, false, List, [], ◌∷◌, ◌++◌, Contains, Option, None, Some, refl, ap, sym, subst, ◌∙◌, append_assoc, append-nil, arith}
use Rattle.std.proofs.lemmas.Bool.Decides.{nat_tests}
use Rattle.std.specs.Map.{lookup, remove_entry}
use Rattle.lru.specs.LruCache.{promoted, put_entries}
use Rattle.lru.proofs.CallerLemmas.{Contains-lookup, Contains-promoted, Contains-remove_entry, Contains-put_entries, IsPut}
use Rattle.lru.proofs.Splits.{Contains-nil}
use Rattle.sm_base.specs.Outcomes.{OrMemory}
use Rattle.sm_base.specs.declared.moment.Moment.{Moment}
use Rattle.sm_agent.specs.declared.agent.Given.{Given}
use Rattle.sm_agent.specs.declared.agent.Given.TheVariants.{Kept, Asked, Failed, Memory}
use Rattle.sm_agent.specs.declared.answer.CachedAnswer.{CachedAnswer}
use Rattle.sm_agent.specs.declared.question.Question.{Question}
use Rattle.sm_agent.specs.Questions.{same_question, question_is}
use Rattle.sm_agent.specs.Agents.{AgentState, empty_agent, agent_moment, is_live, if_live, live_answer, kept_answer, kept_told, Leaves, with_entries, cached, entries_with}
use Rattle.sm_agent.specs.Runs.{Call, Goes, Run, greatest, WasAsked, IsKept, KeptWasAsked}

-- with a call more
greatest_more : (calls : List Call) (call : Call) → greatest (calls ++ call ∷ []) ≡ max (greatest calls) call.now
greatest_more [] call = omega arith
greatest_more (first ∷ calls) call = let more = greatest_more calls call in omega (arith, more)

asked_more : (calls : List Call) (call : Call) (question : Question) (body : List ℕ) (moment : ℕ)
    → WasAsked calls question body moment → WasAsked (calls ++ call ∷ []) question body moment
asked_more calls call question body moment w = record {
  before = w.before;
  call = w.call;
  behind = w.behind ++ call ∷ [];
  among = ap (λ (c : List Call). c ++ call ∷ []) w.among ∙ append_assoc w.before (w.call ∷ w.behind) (call ∷ []);
  question_is = w.question_is;
  given = w.given;
  moment_is = w.moment_is;
}

-- each entry was asked for
abbrev AreAsked : List Call → List (Question × CachedAnswer) → Type 0
AreAsked calls entries =
    (e : Question × CachedAnswer) → Contains entries e → WasAsked calls e.0 e.1.body e.1.at.0

-- What holds of an agent behind calls.
record Holds (ttl : ℕ) (calls : List Call) (agent : AgentState) : Type 0 where
  ttl_is : agent.ttl ≡ ttl
  last_is : agent.last ≡ greatest calls
  asked : AreAsked calls agent.cache.entries

holds_empty : (size ttl : ℕ) → Holds ttl [] (empty_agent size ttl)
holds_empty size ttl = record { ttl_is = refl; last_is = refl; asked = λ e c. absurd (Contains-nil e c) }

is_200 : (status : ℕ) → true ≡ (status == 200) → status ≡ 200
is_200 status h = grind (arith, nat_tests)

module _ (ttl : ℕ) (calls : List Call) (old : AgentState) (call : Call) (holds : Holds ttl calls old) where
  now_is : agent_moment old call.now ≡ greatest (calls ++ call ∷ [])
  now_is = ap (λ n. max n call.now) holds.last_is ∙ sym (greatest_more calls call)

  old_asked : AreAsked (calls ++ call ∷ []) old.cache.entries
  old_asked e c = asked_more calls call e.0 e.1.body e.1.at.0 (holds.asked e c)

  with_asked : (entries : List (Question × CachedAnswer)) → AreAsked (calls ++ call ∷ []) entries
      → Holds ttl (calls ++ call ∷ []) (with_entries old (agent_moment old call.now) entries)
  with_asked entries asked = record { ttl_is = holds.ttl_is; last_is = now_is; asked = asked }

  unchanged : Holds ttl (calls ++ call ∷ []) (record old { last = agent_moment old call.now })
  unchanged = record { ttl_is = holds.ttl_is; last_is = now_is; asked = old_asked }

  -- the answer that came
  itself : (body : List ℕ) → call.given ≡ Asked 200 body
      → WasAsked (calls ++ call ∷ []) call.question body (agent_moment old call.now)
  itself body given = record {
    before = calls;
    call = call;
    behind = [];
    among = refl;
    question_is = refl;
    given = given;
    moment_is = sym now_is;
  }

  its_question : (e : Question × CachedAnswer) (a : CachedAnswer)
      → IsPut same_question old.cache call.question a e → call.question ≡ e.0
  its_question e a put = elim put.1 [
    | inl same ↦ sym same
    | inr was ↦ question_is call.question e.0 was.2
  ]

  put_asked : (body : List ℕ) → call.given ≡ Asked 200 body → AreAsked (calls ++ call ∷ [])
      (put_entries same_question old.cache call.question (cached body (agent_moment old call.now)))
  put_asked body given e c =
      let answer : CachedAnswer = cached body (agent_moment old call.now) in
      elim (Contains-put_entries same_question old.cache call.question answer e c) [
        | inl was ↦ old_asked e was
        | inr put ↦ subst (λ (q : Question). WasAsked (calls ++ call ∷ []) q e.1.body e.1.at.0)
            (its_question e answer put)
            (subst (λ (a : CachedAnswer). WasAsked (calls ++ call ∷ []) call.question a.body a.at.0) (sym put.0)
            (itself body given))
      ]

  came_by : (status : ℕ) (body : List ℕ) → call.given ≡ Asked status body → (t : Bool) → t ≡ (status == 200)
      → AreAsked (calls ++ call ∷ []) (cond t
      (put_entries same_question old.cache call.question (cached body (agent_moment old call.now)))
      (remove_entry (same_question call.question) old.cache.entries))
  came_by status body given true is =
      put_asked body (given ∙ ap (λ s. Asked s body) (is_200 status is))
  came_by status body given false is =
      λ e c. old_asked e (Contains-remove_entry (same_question call.question) old.cache.entries e c)

  leaves_held : (given : Given) → call.given ≡ given → (new : AgentState)
      → Leaves call.question (agent_moment old call.now) given old new → Holds ttl (calls ++ call ∷ []) new
  leaves_held (Kept status body at) is new leaves =
      subst (Holds ttl (calls ++ call ∷ [])) (sym leaves)
      (with_asked (promoted (same_question call.question) old.cache.entries)
      (λ e c. old_asked e (Contains-promoted (same_question call.question) old.cache.entries e c)))
  leaves_held (Asked status body) is new leaves = elim leaves [
    | inl kept ↦ subst (Holds ttl (calls ++ call ∷ [])) (sym kept)
        (with_asked (entries_with old.cache call.question (agent_moment old call.now) status body)
        (came_by status body is (status == 200) refl))
    | inr gone ↦ subst (Holds ttl (calls ++ call ∷ [])) (sym gone.1)
        (with_asked (remove_entry (same_question call.question) old.cache.entries)
        (λ e c. old_asked e (Contains-remove_entry (same_question call.question) old.cache.entries e c)))
  ]
  leaves_held Failed is new leaves = subst (Holds ttl (calls ++ call ∷ [])) (sym leaves) unchanged
  leaves_held Memory is new leaves = subst (Holds ttl (calls ++ call ∷ [])) (sym leaves) unchanged

  step : (new : AgentState) → Goes old call new → Holds ttl (calls ++ call ∷ []) new
  step new goes = leaves_held call.given refl new goes.leaves

  -- ---- a kept answer

  unforced_by : (fresh : Bool) (answer : CachedAnswer) (live : Option CachedAnswer)
      → Some answer ≡ cond fresh None live → (fresh ≡ false) × (Some answer ≡ live)
  unforced_by true answer live h = cc
  unforced_by false answer live h = (refl, h)

  lives_by : (t : Bool) (answer found : CachedAnswer) → t ≡ is_live old.ttl (agent_moment old call.now) found
      → Some answer ≡ cond t (Some found) None
      → (found ≡ answer) × (true ≡ is_live old.ttl (agent_moment old call.now) answer)
  lives_by true answer found is h =
      let same : found ≡ answer = cc in
      (same, is ∙ ap (is_live old.ttl (agent_moment old call.now)) same)
  lives_by false answer found is h = cc

  found_by : (answer : CachedAnswer) (found : Option CachedAnswer)
      → Some answer ≡ if_live old.ttl (agent_moment old call.now) found
      → (found ≡ Some answer) × (true ≡ is_live old.ttl (agent_moment old call.now) answer)
  found_by answer None h = cc
  found_by answer (Some found) h =
      let l = lives_by (is_live old.ttl (agent_moment old call.now) found) answer found refl h in
      (ap Some l.0, l.1)

  below : (end : ℕ) → true ≡ nat_lt (agent_moment old call.now) end → agent_moment old call.now < end
  below end h = grind (arith, nat_tests)

  is_kept : (new : AgentState) → Goes old call new → (status : ℕ) (body : List ℕ) (at : Moment)
      → call.given ≡ Kept status body at → IsKept ttl calls call body at
  is_kept new goes status body at given =
      let answer : CachedAnswer = record { body = body; at = at } in
      let told : OrMemory (Some (Some answer)) (kept_answer old call.question call.fresh (agent_moment old call.now)) =
      subst (λ (g : Given). OrMemory (kept_told g)
      (kept_answer old call.question call.fresh (agent_moment old call.now))) given goes.kept in
      let unforced = unforced_by call.fresh answer (live_answer old call.question (agent_moment old call.now)) told in
      let found = found_by answer (lookup (same_question call.question) old.cache.entries) unforced.1 in
      let entry = Contains-lookup (same_question call.question) old.cache.entries answer found.0 in
      record {
        asked = subst (λ (q : Question). WasAsked calls q body at.0) (sym (question_is call.question entry.0 entry.2))
            (holds.asked (entry.0, answer) entry.1);
        lives =
            let under : agent_moment old call.now < at.0 + old.ttl = below (at.0 + old.ttl) found.1 in
            omega (arith, under, now_is, holds.ttl_is);
        unforced = unforced.0;
      }

-- ---- runs

held : (ttl : ℕ) (done : List Call) (old : AgentState) → Holds ttl done old → (calls : List Call) (new : AgentState)
    → Run old calls new → Holds ttl (done ++ calls) new
held ttl done old holds [] new run =
    subst (Holds ttl (done ++ [])) (sym run)
    (subst (λ (c : List Call). Holds ttl c old) (sym (append-nil done)) holds)
held ttl done old holds (call ∷ calls) new run =
    subst (λ (c : List Call). Holds ttl c new) (append_assoc done (call ∷ []) calls)
    (held ttl (done ++ call ∷ []) run.0 (step ttl done old call holds run.0 run.1) calls new run.2)

pub kept_was_asked : KeptWasAsked
kept_was_asked size ttl calls old new call status body at run goes given =
    is_kept ttl calls old call (held ttl [] (empty_agent size ttl) (holds_empty size ttl) calls old run) new goes
    status body at given
