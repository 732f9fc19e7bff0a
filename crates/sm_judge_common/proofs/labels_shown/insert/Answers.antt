use Rattle.std.proofs.Common.{◌∙◌, ap, arith}
use Rattle.std.specs.List.{insert}
use Rattle.sm_judge_common.proofs.SortingLemmas.{place, place_within, inserted_at}
use Rattle.sm_judge_common.proofs.labels_shown.insert.Goals as goal

pub insert-requires : goal.insert-requires
insert-requires c = omega (
  arith,
  c.place_of-place.ensures,
  place_within c.args.label c.as_slice.result.now,
  c.as_slice.ensures.len,
)

pub returns : goal.returns
returns c =
    c.in_ok-insert.ensures.items
    ∙ ap (λ i. insert c.args.labels.now.items i c.args.label)
    (c.place_of-place.ensures ∙ ap (λ ts. place c.args.label ts) c.as_slice.ensures.value)
    ∙ inserted_at c.args.label c.args.labels.now.items
