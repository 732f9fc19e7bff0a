use Rattle.std.proofs.Common.{◌≡◌, true, map, ap, ◌∙◌, ◌++◌, sym, arith}
use Rattle.sm_model.specs.declared.rows.VersionRow.{VersionRow}
use Rattle.sm_listing.specs.Pages.{version_comes}
use Rattle.sm_listing.proofs.WalkLemmas.{page_full_behind}
use Rattle.sm_listing.proofs.pages.shown_versions.Goals as goal

pub returns-then-len-max : goal.returns-then-len-max
returns-then-len-max c =
    let labels = c.args.row.now.labels in
    let comes : version_comes labels c.args.deprecated c.args.start c.in-Some.version.now ≡ true = cc in
    page_full_behind c.args.max (λ (v : VersionRow). v.serial) (version_comes labels c.args.deprecated c.args.start)
    c.args.row.now.versions (map (λ version. version.now) c.loop-version.yielded)
    (map (λ version. version.now) c.next.new.self.rest.items) c.in-Some.version.now c.loop-version.serials.items
    (ap (λ left. map (λ version. version.now) c.loop-version.yielded ++ map (λ version. version.now) left)
    (sym c.in-Some.ensures.steps.0) ∙ c.loop-version.invariant.2) comes c.loop-version.invariant.0 (omega arith)
