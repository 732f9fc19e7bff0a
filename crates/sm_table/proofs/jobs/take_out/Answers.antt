use Rattle.std.proofs.Common.{◌≡◌, ◌∙◌, ◌<◌, ◌≤◌, ltb, nat_lt, length, get_or, false, true, sym, ap, arith}
use Rattle.std.specs.List.{remove}
use Rattle.std.proofs.lemmas.List.{get_or_read_under}
use Rattle.sm_table.specs.Ordered.{before}
use Rattle.sm_table.proofs.JobLemmas.{not_below, is_below}
use Rattle.sm_table.proofs.OrderedLemmas.{remove_taken, absent_taken}
use Rattle.sm_table.proofs.jobs.take_out.Goals as goal

pub returns-then-index-serial-clause-serials : goal.returns-then-index-serial-clause-serials
returns-then-index-serial-clause-serials c =
    let at : c.place_of-place.result ≡ before nat_lt c.args.serials.now.items c.args.serial =
    c.place_of-place.ensures.place ∙ ap (λ xs. before nat_lt xs c.args.serial) c.as_slice.ensures.value in
    let count : c.len.result ≡ length c.args.serials.now.items = omega arith in
    let less : before nat_lt c.args.serials.now.items c.args.serial < length c.args.serials.now.items =
    omega (arith, at, count) in
    let read : c.index.result.now ≡ get_or c.args.serials.now.items c.place_of-place.result 0 =
    get_or_read_under _ _ c.len.result _ _ c.index.ensures (omega arith) count in
    let most : c.index.result.now ≤ c.args.serial = omega arith in
    let here : ltb c.args.serial (get_or c.args.serials.now.items
    (before nat_lt c.args.serials.now.items c.args.serial) 0) ≡ false =
    ap (ltb c.args.serial) (ap (λ i. get_or c.args.serials.now.items i 0) (sym at) ∙ sym read)
    ∙ not_below c.index.result.now c.args.serial most in
    c.remove.ensures.items ∙ ap (remove c.args.serials.now.items) at
    ∙ remove_taken nat_lt c.args.serials.now.items c.args.serial 0 less here

pub returns-else-index-serial-clause-serials : goal.returns-else-index-serial-clause-serials
returns-else-index-serial-clause-serials c =
    let at : c.place_of-place.result ≡ before nat_lt c.args.serials.now.items c.args.serial =
    c.place_of-place.ensures.place ∙ ap (λ xs. before nat_lt xs c.args.serial) c.as_slice.ensures.value in
    let count : c.len.result ≡ length c.args.serials.now.items = omega arith in
    let read : c.index.result.now ≡ get_or c.args.serials.now.items c.place_of-place.result 0 =
    get_or_read_under _ _ c.len.result _ _ c.index.ensures (omega arith) count in
    let more : c.args.serial < c.index.result.now = omega arith in
    let here : ltb c.args.serial (get_or c.args.serials.now.items
    (before nat_lt c.args.serials.now.items c.args.serial) 0) ≡ true =
    ap (ltb c.args.serial) (ap (λ i. get_or c.args.serials.now.items i 0) (sym at) ∙ sym read)
    ∙ is_below c.index.result.now c.args.serial more in
    sym (absent_taken nat_lt c.args.serials.now.items c.args.serial 0 (λ less. here))

pub returns-else-place-len-clause-serials : goal.returns-else-place-len-clause-serials
returns-else-place-len-clause-serials c =
    let at : c.place_of-place.result ≡ before nat_lt c.args.serials.now.items c.args.serial =
    c.place_of-place.ensures.place ∙ ap (λ xs. before nat_lt xs c.args.serial) c.as_slice.ensures.value in
    let count : c.len.result ≡ length c.args.serials.now.items = omega arith in
    sym (absent_taken nat_lt c.args.serials.now.items c.args.serial 0 (λ less. absurd (omega (arith, at, count))))
