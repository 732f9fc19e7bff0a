use Rattle.std.proofs.Common.{◌<◌, length, sym, ◌∙◌}
use Rattle.std.proofs.lemmas.List.Elements.{All-head, All-tail}
use Rattle.sm_http.proofs.HeadLemmas.{all_sought, line_further}
use Rattle.sm_http.proofs.head.first_blank_line.Goals as goal

pub loop-place-init : goal.loop-place-init
loop-place-init c = all_sought c.args.bytes.now c.into_iter-place-iterator.result
    (c.into_iter-place-iterator.ensures.into_iter_gives ∙ c.memchr_iter-place-items.ensures.value)

pub loop-place-preserved : goal.loop-place-preserved
loop-place-preserved c =
    let is = c.in-Some.ensures.steps in
    let within = rw is at c.loop-place.invariant.1 in (
      line_further c.args.bytes.now _ _ _ c.loop-place.invariant.0 is
          (All-head (λ place. place < length c.args.bytes.now) c.in-Some.place _ within)
          (sym c.if-is_blank_line.ensures),
      All-tail (λ place. place < length c.args.bytes.now) c.in-Some.place c.next.new.self within,
    )
