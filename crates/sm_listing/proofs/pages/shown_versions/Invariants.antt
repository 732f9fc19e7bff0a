use Rattle.std.proofs.Common.{◌≡◌, ◌≤◌, ◌++◌, length, map}
use Rattle.std.specs.List.{filter}
use Rattle.sm_model.specs.declared.rows.VersionRow.{VersionRow}
use Rattle.sm_listing.specs.Pages.{version_comes}
use Rattle.sm_listing.proofs.pages.shown_versions.Given as goal

abbrev pub invariant-loop-version : goal.invariant-loop-version
invariant-loop-version l =
    (l.serials.items ≡ map (λ (version : VersionRow). version.serial)
    (filter (version_comes l.row.labels l.deprecated l.start) (map (λ version. version.now) l.yielded)))
    × (length l.serials.items ≤ l.max)
    × (map (λ version. version.now) l.yielded ++ map (λ version. version.now) l.version-iterator.rest.items ≡
    l.row.versions)
