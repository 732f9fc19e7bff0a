use Rattle.std.proofs.Common.{◌∙◌}
use Rattle.sm_replication.proofs.AwaitLemmas.{body_told}
use Rattle.sm_replication.proofs.WalkLemmas.{something}
use Rattle.sm_replication.proofs.await_frame.await_frame.Goals as goal

pub returns-in-Whole-clause-still : goal.returns-in-Whole-clause-still
returns-in-Whole-clause-still g c =
    λ told. c.await_body.ensures.still
    (body_told c.args.ahead.now c.await_bytes.new.ahead _ _ c.await_bytes.ensures.moves told)
    ∙ c.await_bytes.ensures.still (something c.args.ahead.now told)

pub returns-in-Over-clause-still : goal.returns-in-Over-clause-still
returns-in-Over-clause-still g c =
    λ told. c.await_body.ensures.still
    (body_told c.args.ahead.now c.await_bytes.new.ahead _ _ c.await_bytes.ensures.moves told)
    ∙ c.await_bytes.ensures.still (something c.args.ahead.now told)

pub returns-in-End-await_body-clause-still : goal.returns-in-End-await_body-clause-still
returns-in-End-await_body-clause-still g c =
    λ told. c.await_body.ensures.still
    (body_told c.args.ahead.now c.await_bytes.new.ahead _ _ c.await_bytes.ensures.moves told)
    ∙ c.await_bytes.ensures.still (something c.args.ahead.now told)

pub returns-in-Failed-await_body-clause-still : goal.returns-in-Failed-await_body-clause-still
returns-in-Failed-await_body-clause-still g c =
    λ told. c.await_body.ensures.still
    (body_told c.args.ahead.now c.await_bytes.new.ahead _ _ c.await_bytes.ensures.moves told)
    ∙ c.await_bytes.ensures.still (something c.args.ahead.now told)

pub returns-in-Memory-await_body-clause-still : goal.returns-in-Memory-await_body-clause-still
returns-in-Memory-await_body-clause-still g c =
    λ told. c.await_body.ensures.still
    (body_told c.args.ahead.now c.await_bytes.new.ahead _ _ c.await_bytes.ensures.moves told)
    ∙ c.await_bytes.ensures.still (something c.args.ahead.now told)
