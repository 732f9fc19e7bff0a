use Rattle.std.proofs.Common.{◌∙◌, ℕ, List, rules, filter, ap}
use Rattle.indexmap.proofs.CallerLemmas.{filter-RetainsPairs}
use Rattle.sm_table.specs.Changes.{row_with}
use Rattle.sm_table.specs.Maps.{pairs_of, stays}
use Rattle.sm_table.proofs.MapLemmas.{pairs-filter}
use Rattle.sm_table.proofs.name_map.NameMap.sweep.Goals as goal

pub returns-clause-pairs : goal.returns-clause-pairs
returns-clause-pairs c =
    let test = λ (s : ℕ). stays (row_with c.args.rows.now.list s) c.args.moment in
    ap pairs_of (filter-RetainsPairs _ (λ e. stays (row_with c.args.rows.now.list e.1) c.args.moment) _
    (λ k v b w g call. search rules) _ _ c.retain.ensures.filtered)
    ∙ pairs-filter test c.self.inside.map.entries
    ∙ ap (filter (λ (p : List ℕ × ℕ). test p.1)) (ap (λ n. n.pairs) c.self.view_is)
