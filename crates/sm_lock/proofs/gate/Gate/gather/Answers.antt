use Rattle.std.proofs.Common.{◌≡◌, [], ◌∷◌, ◌++◌, All, get_or, ap, ◌∙◌, sym, refl, subst, arith}
use mathlib.Core.List.{append_assoc, append-nil}
use Rattle.std.proofs.lemmas.List.{map-append}
use Rattle.std.proofs.lemmas.List.Elements.{All-push}
use Rattle.sm_lock.specs.Story.{times, Grows}
use Rattle.sm_lock.specs.Handles.{number, seen}
use Rattle.sm_lock.proofs.Sums.{if_same}
use Rattle.sm_lock.proofs.Passes.{empty_list, times-map, grows-on, all-grow}
use Rattle.sm_lock.proofs.gate.Gate.gather.Goals as goal

pub loop-pass-preserved : goal.loop-pass-preserved
loop-pass-preserved g c =
    let inv = c.loop-pass.invariant in let ys = c.loop-pass.yielded in let first = c.args.first in
    let pass = c.in-Some.pass in
    let v = c.loop-pass.place.me.0 in let w = c.join.new.place.me.0 in let joined = c.join.ensures in
    let ns = v.own.numbers in let are = inv.1.numbers in (
      (joined.gate ∙ inv.0.0, ap (λ m. m.0.origin) joined.place ∙ inv.0.1, ap (λ m. m.0.built) joined.place ∙ inv.0.2),
      record {
        turn = ap (λ m. m.0.turn) joined.place ∙ inv.1.turn;
        numbers = ap (λ m. m.0.own.numbers) joined.place ∙ (λ i. are i ++ pass.rests.numbers i)
            ∙ ap (λ l. number first ∷ l) (sym (map-append number ys (pass ∷ [])));
        plain = record {
          told = ap (λ m. m.0.told) joined.place;
          given = ap (λ m. m.0.given) joined.place
              ∙ inv.1.plain.given;
        };
        empty = ap (λ m. m.1) joined.place ∙ inv.1.empty;
      },
      grows-on (number first) ns (seen first) v.own.seen w.own.seen
          (omega (arith, ap (times (number first)) are, if_same (number first) (number first) refl)) inv.2 joined.seen,
      All-push (λ p. Grows (number p ∷ []) (seen p) w.own.seen) ys pass
          (all-grow number seen ns ys v.own.seen w.own.seen
          (λ k d lt. omega (arith, ap (times (number (get_or ys k d))) are, times-map number ys k d lt)) inv.3
          joined.seen)
          (subst (λ l. Grows l (seen pass) w.own.seen) pass.rests.numbers joined.heard),
      append_assoc ys (pass ∷ []) c.next.new.self.rest.items ∙ ap (λ l. ys ++ l) (sym c.in-Some.ensures.steps.0)
          ∙ inv.4,
    )

pub returns-clause-others : goal.returns-clause-others
returns-clause-others g c =
    let inv = c.loop-pass.invariant in let rest = c.loop-pass.pass-iterator.rest in
    let none_left : rest.items ≡ [] = empty_list rest.items (omega (arith, rest.ok.0, c.in-None.ensures.steps.0)) in
    let all : c.loop-pass.yielded ≡ c.args.others.items = sym (append-nil c.loop-pass.yielded)
    ∙ ap (λ l. c.loop-pass.yielded ++ l) (sym none_left) ∙ inv.4 in
    subst (All (λ p. Grows (number p ∷ []) (seen p) c.loop-pass.place.me.0.own.seen)) all inv.3
