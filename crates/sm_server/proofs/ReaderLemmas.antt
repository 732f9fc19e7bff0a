-- Caching readers: their words, and how they run.
use Rattle.std.proofs.Common.{◌≡◌, ◌∙◌, Option, None, Some, Result, Ok, Err, sym, ap, subst, inl, inr}
use Rattle.sm_agent.specs.Agents.{AgentState}
use Rattle.sm_agent_server.specs.Streams.{Around}
use Rattle.sm_command_line.specs.declared.settings.Mode.{Mode}
use Rattle.sm_command_line.specs.declared.settings.Mode.TheVariants.{Exec, Serve, Check, Drill, Agent, Ship, Follow}
use Rattle.sm_command_line.specs.declared.settings.Settings.{Settings}
use Rattle.sm_server.specs.declared.status.Status.{Status}
use Rattle.sm_server.specs.declared.status.Status.TheVariants as statuses
use Rattle.sm_server.specs.Readers.{AgentRan, BuildsAgent, EndsReader, IsNewAgent, StreamRan, end_of_reader, end_of_reading, first_agent}

-- words that do not ask for a reader
at_mode : (mode : Mode) (status : Status) → Some status ≡ end_of_reading mode → status ≡ statuses.Words
at_mode Exec status is = let h : Some status ≡ Some statuses.Words = is in cc
at_mode Serve status is = let h : Some status ≡ Some statuses.Words = is in cc
at_mode Check status is = let h : Some status ≡ Some statuses.Words = is in cc
at_mode Drill status is = let h : Some status ≡ Some statuses.Words = is in cc
at_mode Agent status is = absurd (let h : Some status ≡ None = is in cc)
at_mode Ship status is = let h : Some status ≡ Some statuses.Words = is in cc
at_mode Follow status is = let h : Some status ≡ Some statuses.Words = is in cc

at_words : (asked : Option Settings) (status : Status) → Some status ≡ end_of_reader asked → status ≡ statuses.Words
at_words None status is = let h : Some status ≡ Some statuses.Words = is in cc
at_words (Some settings) status is = at_mode settings.mode status is

pub ended_reader : (asked : Option Settings) (status : Status) → EndsReader (Some status) asked
    → BuildsAgent (Err status) asked
ended_reader asked status (inl is) = inl (let h : Some status ≡ Some statuses.Memory = is in cc)
ended_reader asked status (inr is) =
    let words : status ≡ statuses.Words = at_words asked status is in
    inr (words, sym is ∙ ap (λ (s : Status). Some s) words)

-- words that do
reads : (asked : Option Settings) → EndsReader None asked → end_of_reader asked ≡ None
reads asked (inl is) = absurd (let none : Option Status = None in let h : none ≡ Some statuses.Memory = is in cc)
reads asked (inr is) = sym is

pub built_reader : (asked : Option Settings) (built : Result AgentState Status) → EndsReader None asked
    → IsNewAgent built → BuildsAgent built asked
built_reader asked (Ok agent) ends new = (reads asked ends, new)
built_reader asked (Err status) ends memory = inl memory

-- a run with a reader that was just built
pub agent_ran : (asked : Option Settings) (status : Status) (first last : AgentState) (before after : Around)
    → BuildsAgent (Ok first) asked → StreamRan status first last before after → AgentRan asked status before after
agent_ran asked status first last before after built ran =
    inr (last, built.0, subst (λ agent. StreamRan status agent last before after) built.1 ran)
