use Rattle.std.proofs.Common.{◌≡◌, ◌++◌, map, length, drop}
use Rattle.sm_judge_lists_and_passwords.specs.ListSecretVersionIds.{version_item, version_serial}
use Rattle.sm_judge_lists_and_passwords.specs.Pages.{picked}
use Rattle.sm_judge_lists_and_passwords.proofs.list_secret_version_ids.version_items.Given as goal

abbrev pub invariant-loop-version : goal.invariant-loop-version
invariant-loop-version l =
    map (version_item l.row) (picked version_serial l.serials l.row.versions)
    ≡ l.list
    ++ map (version_item l.row)
    (picked version_serial (drop (length l.list) l.serials)
    (map (λ version. version.now) l.version-iterator.rest.items))
