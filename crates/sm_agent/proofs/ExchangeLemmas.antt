-- Requests to a caching reader, one after the other.
use Rattle.std.proofs.Common.{◌≡◌, ℕ, ◌⊎◌, inl, inr, List, [], ◌∷◌, Bool, Option, None, Some, Result, Ok, Err, IfOk, refl, sym, ap, subst, ◌∙◌}
use Rattle.std.specs.Result.{result_ok}
use Rattle.sm_base.specs.Outcomes.{OrMemory}
use Rattle.sm_base.specs.declared.moment.Moment.{Moment}
use Rattle.sm_agent.specs.declared.agent.Given.{Given}
use Rattle.sm_agent.specs.declared.agent.Given.TheVariants as given
use Rattle.sm_agent.specs.declared.answer.Answer.{Answer}
use Rattle.sm_agent.specs.declared.path.QueryRefused.{QueryRefused}
use Rattle.sm_agent.specs.declared.path.QueryRefused.TheVariants as refused
use Rattle.sm_agent.specs.declared.question.Question.{Question}
use Rattle.sm_agent.specs.Agents.{AgentState, empty_agent, HasStatus}
use Rattle.sm_agent.specs.Queries.{read_told}
use Rattle.sm_agent.specs.Replies.{reply, upstream_fault, refused_reply, given_reply}
use Rattle.sm_agent.specs.Runs.{Call, Run}
use Rattle.sm_agent.specs.Exchanges.{reply_by, IsReply, GoesBy, Exchange, Exchanges, call_first, calls_of, WasKept, WasGiven, WasFault, RepliesAreGiven}
use Rattle.sm_agent.proofs.RunLemmas.{kept_was_asked}

-- the reply to a call, where there was memory
pub answers : {E : Type 0} (wanted : Option Answer) (result : Result Answer E)
    → IfOk result (λ answer. wanted ≡ Some answer) → IsReply (result_ok result) wanted
answers wanted (Ok answer) h = h
answers wanted (Err e) h = tt

-- the reply to what was refused
pub refuses : {E : Type 0} (asked : Result (Question × Bool) QueryRefused) (why : QueryRefused)
    (result : Result Answer E) → OrMemory (read_told (Err why)) asked
    → IfOk result (λ answer. refused_reply why ≡ Some answer) → IsReply (result_ok result) (reply_by asked None)
refuses asked refused.Path result is h =
    answers (reply_by asked None) result (rw (sym is) h)
refuses asked (refused.Key key) result is h =
    answers (reply_by asked None) result (rw (sym is) h)
refuses asked refused.Memory (Ok answer) is h = cc
refuses asked refused.Memory (Err e) is h = tt

-- ---- runs

-- the calls of turns are a run
goes_on : (old : AgentState) (turns : List Exchange) (new : AgentState) → Exchanges old turns new
    → Run old (calls_of turns) new
goes_on old [] new h = h
goes_on old (turn ∷ turns) new h = by turn.call h.1.goes (goes_on h.0 turns new h.2)
  where
    by : (call : Option Call) → GoesBy call old h.0 → Run h.0 (calls_of turns) new
        → Run old (call_first call (calls_of turns)) new
    by None same rest = subst (λ (a : AgentState). Run a (calls_of turns) new) same rest
    by (Some call) goes rest = (h.0, goes, rest)

-- the status of a kept answer
kept_status : (call : Call) (status : ℕ) (body : List ℕ) (at : Moment) → call.given ≡ given.Kept status body at
    → HasStatus call.given → status ≡ 200
kept_status call status body at is has = subst HasStatus is has

pub replies_are_given : RepliesAreGiven
replies_are_given size ttl turns old new method path call answer run came =
    by call.given refl came.replies
  where
    by : (g : Given) → call.given ≡ g → given_reply g ≡ Some answer
        → WasKept ttl (calls_of turns) call answer ⊎ (WasGiven call answer ⊎ WasFault call answer)
    by (given.Kept status body at) is h =
        let ok : status ≡ 200 = kept_status call status body at is came.goes.status in
        let is_200 : call.given ≡ given.Kept 200 body at = is ∙ ap (λ s. given.Kept s body at) ok in
        let said : reply status body ≡ answer = cc in
        inl (record {
          body = body;
          at = at;
          given = is_200;
          answer_is = sym said ∙ ap (λ s. reply s body) ok;
          kept = kept_was_asked size ttl (calls_of turns) old new call 200 body at
              (goes_on (empty_agent size ttl) turns old run) came.goes is_200;
        })
    by (given.Asked status body) is h =
        let said : reply status body ≡ answer = cc in
        inr (inl (record { status = status; body = body; given = is; answer_is = sym said }))
    by given.Failed is h =
        let said : upstream_fault ≡ answer = cc in inr (inr (record { given = is; answer_is = sym said }))
    by given.Memory is h = absurd (cc)
