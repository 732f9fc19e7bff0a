use Rattle.std.proofs.Common.{◌≡◌, ◌∙◌, ◌<◌, length, get_or, false, true, sym, ap, arith}
use Rattle.std.specs.List.{remove}
use Rattle.std.proofs.lemmas.List.{get_or_read_under}
use Rattle.sm_table.specs.Ordered.{before}
use Rattle.sm_table.specs.Dates.{is_before}
use Rattle.sm_table.proofs.OrderedLemmas.{remove_taken, absent_taken}
use Rattle.sm_table.proofs.dates.take_out.Goals as goal

pub returns-else-is_before-clause-dates : goal.returns-else-is_before-clause-dates
returns-else-is_before-clause-dates c =
    let at : c.place_of-place.result ≡ before is_before c.args.dates.now.items c.args.due =
    c.place_of-place.ensures.place ∙ ap (λ xs. before is_before xs c.args.due) c.as_slice.ensures.value in
    let count : c.len.result ≡ length c.args.dates.now.items = omega arith in
    let less : before is_before c.args.dates.now.items c.args.due < length c.args.dates.now.items =
    omega (arith, at, count) in
    let read : c.index.result.now ≡ get_or c.args.dates.now.items c.place_of-place.result c.args.due =
    get_or_read_under _ _ c.len.result _ _ c.index.ensures (omega arith) count in
    let here : is_before c.args.due
    (get_or c.args.dates.now.items (before is_before c.args.dates.now.items c.args.due) c.args.due) ≡ false =
    ap (is_before c.args.due) (ap (λ i. get_or c.args.dates.now.items i c.args.due) (sym at) ∙ sym read)
    ∙ sym c.is_before.ensures ∙ c.if-is_before.false in
    c.remove.ensures.items ∙ ap (remove c.args.dates.now.items) at
    ∙ remove_taken is_before c.args.dates.now.items c.args.due c.args.due less here

pub returns-then-is_before-clause-dates : goal.returns-then-is_before-clause-dates
returns-then-is_before-clause-dates c =
    let at : c.place_of-place.result ≡ before is_before c.args.dates.now.items c.args.due =
    c.place_of-place.ensures.place ∙ ap (λ xs. before is_before xs c.args.due) c.as_slice.ensures.value in
    let count : c.len.result ≡ length c.args.dates.now.items = omega arith in
    let read : c.index.result.now ≡ get_or c.args.dates.now.items c.place_of-place.result c.args.due =
    get_or_read_under _ _ c.len.result _ _ c.index.ensures (omega arith) count in
    let here : is_before c.args.due
    (get_or c.args.dates.now.items (before is_before c.args.dates.now.items c.args.due) c.args.due) ≡ true =
    ap (is_before c.args.due) (ap (λ i. get_or c.args.dates.now.items i c.args.due) (sym at) ∙ sym read)
    ∙ sym c.is_before.ensures ∙ c.if-is_before.true in
    sym (absent_taken is_before c.args.dates.now.items c.args.due c.args.due (λ less. here))

pub returns-else-place-len-clause-dates : goal.returns-else-place-len-clause-dates
returns-else-place-len-clause-dates c =
    let at : c.place_of-place.result ≡ before is_before c.args.dates.now.items c.args.due =
    c.place_of-place.ensures.place ∙ ap (λ xs. before is_before xs c.args.due) c.as_slice.ensures.value in
    let count : c.len.result ≡ length c.args.dates.now.items = omega arith in
    sym (absent_taken is_before c.args.dates.now.items c.args.due c.args.due
    (λ less. absurd (omega (arith, at, count))))
