use Rattle.std.proofs.Common.{arith, vec_capacity}
use Rattle.sm_drive.proofs.AskedLemmas.{made_at}
use Rattle.sm_drive.specs.Askings.{askings}
use Rattle.sm_drive.proofs.AskingLemmas.{all_asked, none_asked, one_more_asked}
use Rattle.sm_drive.proofs.DriveLemmas.{gone_all, gone_first, gone_more, gone_stops}
use Rattle.sm_drive.proofs.running.go_on.Goals as goal

pub loop-call-init : goal.loop-call-init
loop-call-init g c = record {
  gone = gone_first g.D.Disk g.R.Rotator c.args.start c.requires.fresh c.args.calls.now c.args.outcomes.now.items
      (vec_capacity c.args.outcomes.now) c.requires.none c.requires.room c.stand.ensures;
  asked = none_asked c.args.outcomes.now.items (askings g.R.Rotator c.args.rotator.now c.args.start.verdicts)
      c.requires.none;
  one_door = λ one. one;
  later = omega arith;
}

pub step-requires : goal.step-requires
step-requires g c =
    made_at c.args.calls.now c.loop-call.call-index c.call-item.result c.requires.made c.loop-call-test.true
    c.call-item.is

pub push_reserved-requires : goal.push_reserved-requires
push_reserved-requires g c =
    let gone = c.loop-call.invariant.gone in
    omega (arith, gone.counted, gone.has_room, c.loop-call-test.true)

pub loop-call-preserved : goal.loop-call-preserved
loop-call-preserved g c = record {
  gone = gone_more g.D.Disk g.R.Rotator c.args.start c.requires.fresh c.args.calls.now c.loop-call.call-index
      c.call-item.result c.loop-call-test.true c.call-item.is c.loop-call.outcomes.items
      c.push_reserved.new.self.items (vec_capacity c.loop-call.outcomes) (vec_capacity c.push_reserved.new.self)
      c.loop-call.run c.in-Ok.next c.in-Ok.outcome c.loop-call.invariant.gone c.in-Ok.ensures.calls
      c.in-Ok.ensures.behind c.push_reserved.ensures.items c.push_reserved.ensures.capacity;
  asked = one_more_asked c.args.calls.now c.loop-call.call-index c.call-item.result c.loop-call-test.true
      c.call-item.is c.loop-call.outcomes.items c.push_reserved.new.self.items c.in-Ok.outcome
      (askings g.R.Rotator c.args.rotator.now c.args.start.verdicts)
      (askings g.R.Rotator c.loop-call.rotator c.loop-call.run.verdicts)
      (askings g.R.Rotator c.step.new.rotator c.in-Ok.next.verdicts) c.loop-call.invariant.asked c.in-Ok.ensures.asks
      c.push_reserved.ensures.items;
  one_door = λ one. c.in-Ok.ensures.one_door (c.loop-call.invariant.one_door one);
  later = omega (arith, c.loop-call.invariant.later, c.in-Ok.ensures.later);
}

pub returns-in-Err-clause-refused : goal.returns-in-Err-clause-refused
returns-in-Err-clause-refused g c =
    gone_stops g.D.Disk g.R.Rotator c.args.start c.requires.fresh c.args.calls.now c.loop-call.call-index
    c.call-item.result c.loop-call-test.true c.call-item.is c.loop-call.outcomes.items
    (vec_capacity c.loop-call.outcomes) c.loop-call.run c.in-Err.refused c.loop-call.invariant.gone
    c.in-Err.ensures.refused

pub returns-in-Err-clause-later : goal.returns-in-Err-clause-later
returns-in-Err-clause-later g c = omega (arith, c.loop-call.invariant.later, c.in-Err.ensures.later)

pub returns-clause-come : goal.returns-clause-come
returns-clause-come g c =
    gone_all g.D.Disk g.R.Rotator c.args.start c.requires.fresh c.args.calls.now c.loop-call.call-index
    c.loop-call.outcomes.items (vec_capacity c.loop-call.outcomes) c.loop-call.run c.loop-call-test.false
    c.loop-call.invariant.gone

pub returns-clause-asked : goal.returns-clause-asked
returns-clause-asked g c =
    all_asked c.args.calls.now c.loop-call.call-index c.loop-call.outcomes.items
    (askings g.R.Rotator c.args.rotator.now c.args.start.verdicts)
    (askings g.R.Rotator c.loop-call.rotator c.loop-call.run.verdicts) c.loop-call-test.false
    c.loop-call.invariant.asked

pub returns-clause-one_door : goal.returns-clause-one_door
returns-clause-one_door g c = c.loop-call.invariant.one_door

pub returns-clause-later : goal.returns-clause-later
returns-clause-later g c = c.loop-call.invariant.later
