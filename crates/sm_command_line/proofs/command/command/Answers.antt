use Rattle.std.proofs.Common.{◌≡◌, subst}
use Rattle.std.proofs.lemmas.Result.{IfOk-weaker}
use Rattle.clap.specs.Words.{AddsArg, AddsInTurn, app_of}
use Rattle.sm_command_line.specs.Command.{app_at}
use Rattle.sm_command_line.proofs.CommandLemmas.{app_of-arg}
use Rattle.sm_command_line.proofs.command.command.Goals as goal

pub returns : goal.returns
returns c =
    let named = c.mode.ensures.rule in
    let listed = c.in_ok-arguments.ensures.items in
    IfOk-weaker c.args-2.result _ _
    (λ new adds.
    let with_mode = subst (λ items. AddsInTurn AddsArg c.bare.result items new) listed adds in
    let with_data = with_mode.2 in
    let with_people = with_data.2 in
    let with_listen = with_people.2 in
    let with_rotator = with_listen.2 in
    let with_connections = with_rotator.2 in
    let with_workers = with_connections.2 in
    let with_number = with_workers.2 in
    let with_region = with_number.2 in
    let with_log = with_region.2 in
    let first = app_of-arg _ _ _ _ _ with_mode.1 c.mode.ensures.global c.bare.ensures named.2 in
    let second = app_of-arg _ _ _ _ _ with_data.1 c.data.ensures.global first c.data.ensures.rule in
    let third = app_of-arg _ _ _ _ _ with_people.1 c.people.ensures.global second c.people.ensures.rule in
    let fourth = app_of-arg _ _ _ _ _ with_listen.1 c.listen.ensures.global third c.listen.ensures.rule in
    let fifth = app_of-arg _ _ _ _ _ with_rotator.1 c.rotator.ensures.global fourth c.rotator.ensures.rule in
    let sixth = app_of-arg _ _ _ _ _ with_connections.1 c.connections.ensures.global fifth
    c.connections.ensures.rule in
    let seventh = app_of-arg _ _ _ _ _ with_workers.1 c.workers.ensures.global sixth c.workers.ensures.rule in
    let eighth = app_of-arg _ _ _ _ _ with_number.1 c.number.ensures.global seventh c.number.ensures.rule in
    let ninth = app_of-arg _ _ _ _ _ with_region.1 c.region.ensures.global eighth c.region.ensures.rule in
    let tenth = app_of-arg _ _ _ _ _ with_log.1 c.log.ensures.global ninth c.log.ensures.rule in
    (named.0, named.1, subst (λ command. app_of command ≡ app_at named.0) with_log.2 tenth))
    c.args-2.ensures
