use Rattle.std.proofs.Common.{◌≡◌, length, arith}
use Rattle.sm_disk.specs.OneFile.{EachHas}
use Rattle.sm_journal.specs.Records.{front, Gated, RecoversEither}
use Rattle.sm_journal.proofs.Front.{length-front}
use Rattle.sm_journal.proofs.StandsLemmas.{behind_of, behind_either, gate_gated, gated_gate, loose_either, less_seen, set_closed}
use Rattle.sm_journal.proofs.journal.Journal.close_gate.Goals as goal

pub returns-in_err-set_gate-in-Gate-clause-any_moment : goal.returns-in_err-set_gate-in-Gate-clause-any_moment
returns-in_err-set_gate-in-Gate-clause-any_moment g c bodies failed stands =
    let journal = c.args.self.now in
    let at : journal.gate ≡ length (front journal.format bodies) =
    omega (arith, stands.length, length-front journal.format bodies) in
    let gated : EachHas journal.file (Gated (front journal.format bodies) (behind_of failed))
    (g.D.Disk.sight journal.disk).images = λ image was.
    gate_gated journal.format bodies journal.tail failed c.in-Gate.is (image journal.file) (stands.ends image was) in
    less_seen journal.file (Gated (front journal.format bodies) (behind_of failed))
    (RecoversEither journal.format bodies failed) _ _
    (λ d was y now. behind_either journal.format bodies journal.tail failed c.in-Gate.is stands.within stands.last
    (d journal.file) y (stands.ends d was) now)
    (c.set_gate.ensures.run (front journal.format bodies) (behind_of failed) at gated)

pub returns-in_ok-set_gate-in-Gate-clause-any_moment : goal.returns-in_ok-set_gate-in-Gate-clause-any_moment
returns-in_ok-set_gate-in-Gate-clause-any_moment g c bodies failed stands =
    let journal = c.args.self.now in
    let at : journal.gate ≡ length (front journal.format bodies) =
    omega (arith, stands.length, length-front journal.format bodies) in
    let gated : EachHas journal.file (Gated (front journal.format bodies) (behind_of failed))
    (g.D.Disk.sight journal.disk).images = λ image was.
    gate_gated journal.format bodies journal.tail failed c.in-Gate.is (image journal.file) (stands.ends image was) in
    less_seen journal.file (Gated (front journal.format bodies) (behind_of failed))
    (RecoversEither journal.format bodies failed) _ _
    (λ d was y now. behind_either journal.format bodies journal.tail failed c.in-Gate.is stands.within stands.last
    (d journal.file) y (stands.ends d was) now)
    (c.set_gate.ensures.run (front journal.format bodies) (behind_of failed) at gated)

pub returns-in_err-set_gate-in-Gate-clause-stands : goal.returns-in_err-set_gate-in-Gate-clause-stands
returns-in_err-set_gate-in-Gate-clause-stands g c bodies failed stands =
    let journal = c.args.self.now in
    let at : journal.gate ≡ length (front journal.format bodies) =
    omega (arith, stands.length, length-front journal.format bodies) in
    let gated : EachHas journal.file (Gated (front journal.format bodies) (behind_of failed))
    (g.D.Disk.sight journal.disk).images = λ image was.
    gate_gated journal.format bodies journal.tail failed c.in-Gate.is (image journal.file) (stands.ends image was) in
    let run = c.set_gate.ensures.run (front journal.format bodies) (behind_of failed) at gated in
    record {
      length = stands.length;
      within = stands.within;
      last = stands.last;
      recovers = λ image now. let from = run.images image now in
          behind_either journal.format bodies journal.tail failed c.in-Gate.is stands.within stands.last
          (from.0 journal.file)
          (image journal.file) (stands.ends from.0 from.1) from.2.changed;
      ends = λ image now. let from = run.images image now in
          gated_gate journal.format bodies journal.tail failed c.in-Gate.is (from.0 journal.file) (image journal.file)
          (stands.ends from.0 from.1) from.2.changed;
    }

pub returns-in_ok-set_gate-in-Gate-clause-stands : goal.returns-in_ok-set_gate-in-Gate-clause-stands
returns-in_ok-set_gate-in-Gate-clause-stands g c bodies failed stands =
    let journal = c.args.self.now in
    let at : journal.gate ≡ length (front journal.format bodies) =
    omega (arith, stands.length, length-front journal.format bodies) in
    let gated : EachHas journal.file (Gated (front journal.format bodies) (behind_of failed))
    (g.D.Disk.sight journal.disk).images = λ image was.
    gate_gated journal.format bodies journal.tail failed c.in-Gate.is (image journal.file) (stands.ends image was) in
    let set = c.in_ok-set_gate-in-Gate.ensures.set (front journal.format bodies) (behind_of failed) at gated in
    record {
      length = stands.length;
      within = stands.within;
      last = stands.last;
      recovers = λ image now. loose_either journal.format bodies failed stands.within _
          (set_closed (front journal.format bodies) (behind_of failed) _ (set image now));
      ends = λ image now. set_closed (front journal.format bodies) (behind_of failed) _ (set image now);
    }
