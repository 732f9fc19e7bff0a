use Rattle.std.proofs.Common.{None, Some, refl, sym, arith}
use Rattle.sm_agent.specs.Replies.{request_of, given_reply}
use Rattle.sm_agent.specs.Runs.{Call}
use Rattle.sm_agent.proofs.ExchangeLemmas.{answers, refuses}
use Rattle.sm_agent.proofs.turns.turn.Goals as goal

pub returns-in-Ok : goal.returns-in-Ok
returns-in-Ok g c =
    let call : Call = record {
      question = c.in-Ok.question;
      fresh = c.in-Ok.fresh;
      now = c.now-now.result.0;
      given = c.get.result;
    } in (
      Some call,
      record {
        asks = sym c.in-Ok.ensures;
        goes = record {
          kept = c.get.ensures.kept;
          status = c.get.ensures.status;
          leaves = c.get.ensures.leaves;
        };
        replies = answers (given_reply c.get.result) c.given_reply.result c.given_reply.ensures;
      },
      record {
        upstream = c.get.ensures.told;
        clock = c.now-now.ensures.told;
        failed = c.get.ensures.failed;
        later = c.get.ensures.later;
        no_other = c.get.ensures.no_other;
      },
    )

pub returns-in-Err : goal.returns-in-Err
returns-in-Err g c = (
  None,
  record {
    asks = tt;
    goes = refl;
    replies = refuses (request_of c.args.method.now c.args.path.now) c.in-Err.refused c.refused_reply.result
        c.in-Err.ensures c.refused_reply.ensures;
  },
  record { upstream = refl; clock = refl; failed = tt; later = omega arith; no_other = refl },
)
