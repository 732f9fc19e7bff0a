use Rattle.std.proofs.Common.{◌≡◌, [], ◌∷◌, ◌∙◌, All, map, get_or, length, drop, sym, ap, subst, arith}
use Rattle.std.specs.List.{Contains}
use Rattle.sm_lock.specs.Story.{Grows, entries_of}
use Rattle.sm_lock.specs.Handles.{built_with, number, seen, mine, IsIn}
use Rattle.sm_lock.proofs.Stories.{mine-same}
use Rattle.sm_lock_tests.proofs.Added.{of_two}
use Rattle.sm_lock_tests.proofs.threads.both_add.Goals as goal

pub join-one-requires-after_bounds : goal.join-one-requires-after_bounds
join-one-requires-after_bounds g c κs within =
    let one = c.take_apart-one.result.0 in let two = c.take_apart-one.result.1 in
    let parts = c.take_apart-one.ensures.passes in
    let new = subst (All (λ pass. IsIn c.args.gate pass × (mine pass ≡ []))) parts c.requires.new in
    let numbers = sym (ap (map number) parts) ∙ c.requires.two.2 in
    let first = new 0 one (omega arith) in let second = new 1 one (omega arith) in
    ((first.0, ap (λ l. get_or l 0 0) numbers, first.1), (second.0, ap (λ l. get_or l 1 0) numbers, second.1))

pub returns : goal.returns
returns g c is_first is_second =
    let story = g.T.Storied.story in let built = story (built_with c.args.gate) in
    let whole = story c.close-value.result in
    let one = c.join-one.result.0.0 in let two = c.join-one.result.1.0 in let first = c.join-one.ensures.first in
    let second = c.join-one.ensures.second in
    let known = subst (All (λ pass. Grows (number pass ∷ []) (seen pass) whole)) c.put_together.ensures
    c.close-value.ensures.seen in
    let numbers = ap (map number) c.put_together.ensures ∙ (λ i. first.1 i ∷ second.1 i ∷ []) in
    let more = drop (length built) whole in
    let of_first : entries_of 1 more ≡ c.args.first ∷ [] = subst (λ n. entries_of n more ≡ c.args.first ∷ []) first.1
    (mine-same (number one) one.place.me.0.built built (seen one) whole (sym first.0.2) one.begins
    (known 0 one (omega arith)) ∙ first.2 is_first) in
    let of_second : entries_of 2 more ≡ c.args.second ∷ [] =
    subst (λ n. entries_of n more ≡ c.args.second ∷ []) second.1
    (mine-same (number two) two.place.me.0.built built (seen two) whole (sym second.0.2) two.begins
    (known 1 one (omega arith)) ∙ second.2 is_second) in
    let all = of_two more (subst (λ ns. All (λ x. Contains ns x.0) more) numbers c.close-value.ensures.numbers) in
    (of_first, of_second, omega (arith, all, ap length of_first, ap length of_second))
