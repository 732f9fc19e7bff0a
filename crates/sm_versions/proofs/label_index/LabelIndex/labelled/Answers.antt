use Rattle.std.proofs.Common.{◌≡◌, ◌∙◌, ◌≤◌, Some, None, length, get_or, sym, ap, arith}
use Rattle.std.specs.List.{position}
use Rattle.std.proofs.lemmas.List.{get_or_read_under}
use Rattle.sm_base.specs.Texts.{same_text}
use Rattle.sm_versions.specs.Places.{each_place}
use Rattle.sm_versions.proofs.PlaceLaws.{labelled_none, labelled_at, labelled_past}
use Rattle.sm_versions.proofs.label_index.LabelIndex.labelled.Goals as goal

pub returns-then-i-len : goal.returns-then-i-len
returns-then-i-len c =
    let found : position (λ p. same_text p.label c.args.label.now) c.args.row.now.labels ≡ Some c.in-Some.i =
    ap (position (λ p. same_text p.label c.args.label.now)) (sym c.as_slice.ensures) ∙ sym c.pair_place.ensures
    ∙ c.in-Some.is in
    let places : c.self.inside.places.items ≡ each_place c.args.row.now.versions c.args.row.now.labels =
    c.self.view_is ∙ c.requires in
    let count : c.len.result ≡ length c.self.inside.places.items = omega arith in
    let read : c.index.result.now ≡ get_or c.self.inside.places.items c.in-Some.i 0 =
    get_or_read_under _ _ c.len.result _ _ c.index.ensures (omega arith) count in
    c.get.ensures
    ∙ sym (labelled_at c.args.row.now.versions c.args.row.now.labels c.args.label.now c.in-Some.i c.index.result.now
    found
    (read ∙ ap (λ ns. get_or ns c.in-Some.i 0) places))

pub returns-else-i-len : goal.returns-else-i-len
returns-else-i-len c =
    let found : position (λ p. same_text p.label c.args.label.now) c.args.row.now.labels ≡ Some c.in-Some.i =
    ap (position (λ p. same_text p.label c.args.label.now)) (sym c.as_slice.ensures) ∙ sym c.pair_place.ensures
    ∙ c.in-Some.is in
    let places : c.self.inside.places.items ≡ each_place c.args.row.now.versions c.args.row.now.labels =
    c.self.view_is ∙ c.requires in
    let past : length (each_place c.args.row.now.versions c.args.row.now.labels) ≤ c.in-Some.i =
    omega (arith, ap length places) in
    sym (labelled_past c.args.row.now.versions c.args.row.now.labels c.args.label.now c.in-Some.i found past)

pub returns-in-None : goal.returns-in-None
returns-in-None c =
    let none : position (λ p. same_text p.label c.args.label.now) c.args.row.now.labels ≡ None =
    ap (position (λ p. same_text p.label c.args.label.now)) (sym c.as_slice.ensures) ∙ sym c.pair_place.ensures
    ∙ c.in-None.is in
    sym (labelled_none c.args.row.now.versions c.args.row.now.labels c.args.label.now none)
