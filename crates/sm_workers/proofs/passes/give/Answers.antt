use Rattle.std.proofs.Common.{◌≡◌, ◌-◌, ◌+◌, [], ◌∷◌, ◌++◌, take, get_or, sym, ap, ◌∙◌, arith}
use Rattle.std.proofs.lemmas.List.{same_from_push, take_more}
use Rattle.std.specs.Option.{option_to_list}
use Rattle.sm_workers.proofs.GivenLemmas.{given_more}
use Rattle.sm_workers.proofs.passes.give.Goals as goal

pub loop-left-preserved : goal.loop-left-preserved
loop-left-preserved g c =
    let i = c.loop-left.invariant in
    let left = c.loop-left.left in
    let passes = c.args.passes in
    let pass = c.in-Some.pass in
    let some = c.loop-left-test.true in
    let one : left - 1 + 1 ≡ left = omega (arith, some) in
    let parts : (p : _)
    → c.pop.new.self.items ++ pass ∷ [] ≡ take (left - 1) passes ++ get_or passes (left - 1) p ∷ [] =
    λ p. sym (ap (λ o. c.pop.new.self.items ++ option_to_list o) c.in-Some.is) ∙ sym c.pop.ensures.items ∙ i.room
    ∙ ap (λ n. take n passes) (sym one)
    ∙ take_more passes (left - 1) p (omega (arith, some, i.so_far.within, c.requires)) in
    record {
      so_far = given_more left passes c.args.workers.now c.loop-left.workers i.so_far some c.index-workers-left.result
          c.put_in.new.self pass c.put_in.ensures
          (λ p. (same_from_push c.pop.new.self.items (take (left - 1) passes) pass (get_or passes (left - 1) p)
          (parts p)).1);
      room = (same_from_push c.pop.new.self.items (take (left - 1) passes) pass (get_or passes (left - 1) pass)
          (parts pass)).0;
      space = omega (arith, i.space, c.pop.ensures.capacity);
    }

pub returns-clause-given : goal.returns-clause-given
returns-clause-given g c k pass worker high =
    c.loop-left.invariant.so_far.given k pass worker (omega (arith, c.loop-left-test.false)) high
