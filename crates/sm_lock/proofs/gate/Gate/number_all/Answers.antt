use Rattle.std.proofs.Common.{rules, ◌≡◌, ◌+◌, [], ◌∷◌, ◌++◌, length, take, ap, ◌∙◌, sym, refl, subst, arith, All, map, drop, vec_len}
use mathlib.Core.List.{append-nil}
use Rattle.std.proofs.Math.Seq.{take-length}
use Rattle.std.proofs.lemmas.List.{map-append}
use Rattle.std.proofs.lemmas.List.Elements.{All-push}
use Rattle.std.specs.List.{range_with_len}
use Rattle.sm_lock.specs.Boxed.{boxed}
use Rattle.sm_lock.specs.View.{builders, newcomer, counted_up}
use Rattle.sm_lock.specs.SeatStates.{Outside}
use Rattle.sm_lock.specs.Handles.{built_with, number, seen, mine, IsIn}
use Rattle.sm_lock.specs.Story.{entries_of}
use Rattle.sm_lock.proofs.Passes.{range-more, drop-built}
use Rattle.sm_lock.proofs.SeatSteps.{numbers_next}
use Rattle.sm_lock.proofs.gate.Gate.number_all.Goals as goal

pub split_seat-place-requires : goal.split_seat-place-requires
split_seat-place-requires g c =
    let inv = c.loop-number.invariant in let few = c.args.self.now.counted in
    let v = c.loop-number.builder.me.0 in let gives : v.given ≡ c.loop-number.number = ap (λ m. m.0.given) inv.1 in (
      inv.0,
      search rules,
      numbers_next (boxed g.T.Storied.origin) (boxed g.T.Storied.story) _ _ _ _ v (omega (arith, gives, inv.2))
          (omega (arith, gives, few.0, c.loop-number-test.true))
          (ap (λ m. m.0.origin) inv.1) (ap (λ m. m.0.built) inv.1),
    )

pub invariant_of-push_reserved : goal.invariant_of-push_reserved
invariant_of-push_reserved g c =
    let inv = c.loop-number.invariant in let value = built_with c.args.self.now in let n = c.loop-number.number in
    let is : c.split_seat-place.result.me
    ≡ (newcomer (builders (g.T.Storied.origin value) (g.T.Storied.story value) n), []) =
    c.split_seat-place.ensures.4 ∙ ap (λ m. (newcomer m.0, [])) inv.1 in record {
      rests = subst (Outside (n ∷ [])) (sym is)
          (record { turn = refl; numbers = refl; plain = record { told = refl; given = refl }; empty = refl });
      counted = c.requires.count ∙ ap (λ m. length m.0.own.seen) (sym is);
      begins = subst (λ m. take (length m.0.built) m.0.own.seen ≡ m.0.built) (sym is)
          (take-length (g.T.Storied.story value));
    }

pub loop-number-preserved : goal.loop-number-preserved
loop-number-preserved g c =
    let inv = c.loop-number.invariant in let value = built_with c.args.self.now in let n = c.loop-number.number in
    let list = g.T.Storied.story value in
    let is : c.split_seat-place.result.me ≡ (newcomer (builders (g.T.Storied.origin value) list n), []) =
    c.split_seat-place.ensures.4 ∙ ap (λ m. (newcomer m.0, [])) inv.1 in
    let more = c.push_reserved.ensures in
    let before = vec_len c.loop-number.passes in
    let next : 1 + before ≡ n = omega (arith, inv.2) in (
      c.split_seat-place.ensures.0 ∙ inv.0,
      c.split_seat-place.ensures.2 ∙ ap (λ m. (counted_up m.0, m.1)) inv.1,
      omega (arith, more.len, inv.2),
      more.capacity ∙ inv.3,
      ap (map number) more.items ∙ map-append number c.loop-number.passes.items _ ∙ ap (λ l. l ++ n ∷ []) inv.4
          ∙ ap (λ k. range_with_len 1 before ++ k ∷ []) (sym next) ∙ sym (range-more 1 before)
          ∙ ap (range_with_len 1) (sym more.len),
      subst (All (λ pass. IsIn c.args.self.now pass × (seen pass ≡ list) × (mine pass ≡ []))) (sym more.items)
          (All-push (λ pass. IsIn c.args.self.now pass × (seen pass ≡ list)
          × (mine pass ≡ [])) c.loop-number.passes.items _ inv.5 (
            (c.split_seat-place.ensures.3 ∙ inv.0, ap (λ m. m.0.origin) is, ap (λ m. m.0.built) is),
            ap (λ m. m.0.own.seen) is,
            ap (λ m. entries_of n (drop (length m.0.built) m.0.own.seen)) is
                ∙ ap (entries_of n) (drop-built list [] list (sym (append-nil list))),
          )),
    )
