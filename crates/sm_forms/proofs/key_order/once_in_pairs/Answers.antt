use Rattle.std.proofs.Common.{◌+◌, not, ◌&&◌, drop, sym, ap, ◌∙◌}
use Rattle.sm_versions.specs.Texts.{once}
use Rattle.sm_versions.specs.Sound.{tag_keys}
use Rattle.sm_forms.proofs.TagLemmas.{once_from}
use Rattle.sm_forms.proofs.key_order.once_in_pairs.Goals as goal

pub returns-then-has_key : goal.returns-then-has_key
returns-then-has_key c =
    let tags = c.args.tags.now in
    let i = c.loop-index.index in
    sym (c.loop-index.invariant
    ∙ once_from tags i c.index-tags-index.result c.has_key.result c.loop-index-test.true c.index-tags-index.is
    c.has_key.ensures
    ∙ ap (λ found. not found && once (tag_keys (drop (i + 1) tags))) c.if-has_key.true)

pub loop-index-preserved : goal.loop-index-preserved
loop-index-preserved c =
    let tags = c.args.tags.now in
    let i = c.loop-index.index in
    c.loop-index.invariant
    ∙ once_from tags i c.index-tags-index.result c.has_key.result c.loop-index-test.true c.index-tags-index.is
    c.has_key.ensures
    ∙ ap (λ found. not found && once (tag_keys (drop (i + 1) tags))) c.if-has_key.false
