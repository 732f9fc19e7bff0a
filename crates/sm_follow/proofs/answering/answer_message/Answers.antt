use Rattle.std.proofs.Common.{◌≡◌, [], ◌∷◌, Result, Ok, Err, inl, refl, sym, subst}
use Rattle.sm_replication.specs.declared.input.Input.TheVariants as inputs
use Rattle.sm_http.specs.Messages.{Message}
use Rattle.sm_model.specs.declared.why.Why.{Why}
use Rattle.sm_reply.specs.Shown.{refused}
use Rattle.sm_session.specs.Answer.{Asked, heard}
use Rattle.sm_io.proofs.Known.{append_known-nil}
use Rattle.sm_follow.specs.Disks.{disk_in, turn_by}
use Rattle.sm_follow.specs.InputTurns.{Answers, Asks, Goes, moment_at}
use Rattle.sm_follow.proofs.TurnLemmas.{comes_memory, comes_said, comes_to, comes_weaker, unasked_memory}
use Rattle.sm_follow.proofs.answering.answer_message.Goals as goal

pub returns-in-Ask-clause-comes : goal.returns-in-Ask-clause-comes
returns-in-Ask-clause-comes g c =
    let message : Message = c.requires.message.0 in
    let asked : Asked = record { person = c.in-Ask.person; request = c.in-Ask.request } in
    let hears : heard c.args.people.now message ≡ Ok asked = c.in-Ask.ensures.hears message c.requires.message.1 in
    let now = c.now-now.result.0 in (
      now ∷ [],
      c.now-now.ensures.told,
      λ state stands. comes_to c.args.people.now state (inputs.Message c.args.bytes.now) (now ∷ []) _
          c.answer_request.result
          (comes_weaker (Asks state (moment_at state now) asked)
          (turn_by c.args.people.now state (inputs.Message c.args.bytes.now) (now ∷ [])) _ c.answer_request.result
          (λ o on asks. record {
            message = message;
            is = c.requires.message.1;
            answers = subst (λ (h : Result Asked Why). Answers state h (record { readings = now ∷ []; output = o }) on)
                (sym hears) (inl (record { now = now; reading = refl; asks = asks }));
          })
          (c.answer_request.ensures.comes state stands)),
    )

pub returns-in-Refused-clause-comes : goal.returns-in-Refused-clause-comes
returns-in-Refused-clause-comes g c =
    let message : Message = c.requires.message.0 in
    let why = c.in-Refused.why in
    let hears : heard c.args.people.now message ≡ Err why = c.in-Refused.ensures.hears message c.requires.message.1 in (
      [],
      sym (append_known-nil _),
      λ state stands. comes_said (turn_by c.args.people.now state (inputs.Message c.args.bytes.now) [])
          (g.D.Disk.faults (disk_in c.args.follower)) state
          c.args.follower c.say_refusal-said.result (refused why) stands c.say_refusal-said.ensures
          (λ o says. record {
            message = message;
            is = c.requires.message.1;
            answers = subst (λ (h : Result Asked Why). Answers state h (record { readings = []; output = o })
                (Goes state)) (sym hears) (record { untold = refl; says = says });
          }),
    )

pub returns-in-Memory-clause-comes : goal.returns-in-Memory-clause-comes
returns-in-Memory-clause-comes g c =
    let message : Message = c.requires.message.0 in (
      [],
      sym (append_known-nil _),
      λ state stands. comes_memory (turn_by c.args.people.now state (inputs.Message c.args.bytes.now) [])
          (g.D.Disk.faults (disk_in c.args.follower)) state
          c.args.follower stands
          (λ o is. record {
            message = message;
            is = c.requires.message.1;
            answers = unasked_memory state (heard c.args.people.now message) o is;
          }),
    )
