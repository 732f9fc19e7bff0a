use Rattle.std.proofs.Common.{◌≡◌, ◌∙◌, ◌++◌, ◌∷◌, [], None, ap}
use Rattle.sm_table.specs.Maps.{pairs_of, serial_of}
use Rattle.sm_table.proofs.MapLemmas.{name_added}
use Rattle.sm_table.proofs.name_map.NameMap.add.Goals as goal

pub returns-clause-pairs : goal.returns-clause-pairs
returns-clause-pairs c =
    let same = ap (λ n. n.pairs) c.self.view_is in
    let new : serial_of (pairs_of c.self.inside.map.entries) c.args.name.items ≡ None =
    ap (λ ps. serial_of ps c.args.name.items) same ∙ c.requires.new in
    ap pairs_of c.in-Ok.ensures.entries
    ∙ name_added c.self.inside.map.entries c.args.name c.args.serial new
    ∙ ap (λ ps. ps ++ (c.args.name.items, c.args.serial) ∷ []) same
