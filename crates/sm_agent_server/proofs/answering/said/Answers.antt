use Rattle.std.proofs.Common.{None, Some, refl}
use Rattle.sm_agent_server.proofs.answering.said.Goals as goal

pub returns-in-Ok : goal.returns-in-Ok
returns-in-Ok g c =
    let t = c.in-Ok.ensures in
    let came = rw (c.as_slice.ensures, c.as_slice-2.ensures) at t.1 in
    (t.0, Some c.in-Ok.answer, came, t.2, refl)

pub returns-in-Err : goal.returns-in-Err
returns-in-Err g c =
    let t = c.in-Err.ensures in
    let came = rw (c.as_slice.ensures, c.as_slice-2.ensures) at t.1 in
    (t.0, None, came, t.2, refl)
