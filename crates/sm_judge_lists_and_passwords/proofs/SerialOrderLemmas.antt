-- The serials of sound rows rise, and each is a serial.
use Rattle.std.proofs.Common.{◌≡◌, ℕ, ◌+◌, ◌<◌, ◌≤◌, ◌^◌, true, nat_le, List, [], ◌∷◌, map, ap, refl, subst, arith}
use Rattle.std.proofs.lemmas.Bool.{and_parts, leb-true}
use Rattle.sm_model.specs.declared.rows.SecretRow.{SecretRow}
use Rattle.sm_model.specs.declared.rows.VersionRow.{VersionRow}
use Rattle.sm_versions.specs.Serials.{rises, version_serials}
use Rattle.sm_table.specs.Kept.{row_serials}
use Rattle.sm_listing.specs.Following.{AreSerials, EachAbove, Rise}
use Rattle.sm_listing.proofs.FollowLemmas.{secrets_end, secrets_follow, versions_end, versions_follow}
use Rattle.sm_judge_lists_and_passwords.specs.Following.{SecretsEnd, SecretsFollow, VersionsEnd, VersionsFollow}

-- ---- numbers that rise

above_first : (serials : List ℕ) (first low next : ℕ) → first < low → rises low serials next ≡ true
    → EachAbove first serials
above_first [] first low next below h = tt
above_first (s ∷ serials) first low next below h =
    let parts = and_parts (nat_le low s) (rises (s + 1) serials next) h in
    let least = leb-true low s parts.0 in
    (omega (arith, below, least), above_first serials first (s + 1) next (omega (arith, below, least)) parts.1)

rise : (serials : List ℕ) (low next : ℕ) → rises low serials next ≡ true → Rise serials
rise [] low next h = tt
rise (s ∷ serials) low next h =
    let parts = and_parts (nat_le low s) (rises (s + 1) serials next) h in
    (above_first serials s (s + 1) next (omega arith) parts.1, rise serials (s + 1) next parts.1)

low_below : (serials : List ℕ) (low next : ℕ) → rises low serials next ≡ true → low ≤ next
low_below [] low next h = leb-true low next h
low_below (s ∷ serials) low next h =
    let parts = and_parts (nat_le low s) (rises (s + 1) serials next) h in
    let least = leb-true low s parts.0 in
    let rest = low_below serials (s + 1) next parts.1 in
    omega (arith, least, rest)

are_serials : (serials : List ℕ) (low next : ℕ) → next < 2 ^ 64 → rises low serials next ≡ true → AreSerials serials
are_serials [] low next few h = tt
are_serials (s ∷ serials) low next few h =
    let parts = and_parts (nat_le low s) (rises (s + 1) serials next) h in
    let rest = low_below serials (s + 1) next parts.1 in
    (omega (arith, few, rest), are_serials serials (s + 1) next few parts.1)

-- ---- the serials of rows

rows_mapped : (rows : List SecretRow) → row_serials rows ≡ map (λ (row : SecretRow). row.serial) rows
rows_mapped [] = refl
rows_mapped (row ∷ rows) = ap (λ serials. row.serial ∷ serials) (rows_mapped rows)

versions_mapped : (versions : List VersionRow)
    → version_serials versions ≡ map (λ (version : VersionRow). version.serial) versions
versions_mapped [] = refl
versions_mapped (version ∷ versions) = ap (λ serials. version.serial ∷ serials) (versions_mapped versions)

-- ---- pages of sound rows

pub all_secrets : SecretsFollow
all_secrets rows moment ask sound few some =
    secrets_follow rows.secrets moment ask
    (subst Rise (rows_mapped rows.secrets) (rise (row_serials rows.secrets) 0 rows.next sound.serials))
    (subst AreSerials (rows_mapped rows.secrets)
    (are_serials (row_serials rows.secrets) 0 rows.next few sound.serials)) some

pub secrets_finish : SecretsEnd
secrets_finish rows moment ask sound few some =
    secrets_end rows.secrets moment ask
    (subst Rise (rows_mapped rows.secrets) (rise (row_serials rows.secrets) 0 rows.next sound.serials))
    (subst AreSerials (rows_mapped rows.secrets)
    (are_serials (row_serials rows.secrets) 0 rows.next few sound.serials)) some

pub all_versions : VersionsFollow
all_versions row deprecated max sound few some =
    let serials = sound.kept.versions.serials in
    versions_follow row deprecated max
    (subst Rise (versions_mapped row.versions) (rise (version_serials row.versions) 0 row.next_version serials))
    (subst AreSerials (versions_mapped row.versions)
    (are_serials (version_serials row.versions) 0 row.next_version few serials)) some

pub versions_finish : VersionsEnd
versions_finish row deprecated max sound few some =
    let serials = sound.kept.versions.serials in
    versions_end row deprecated max
    (subst Rise (versions_mapped row.versions) (rise (version_serials row.versions) 0 row.next_version serials))
    (subst AreSerials (versions_mapped row.versions)
    (are_serials (version_serials row.versions) 0 row.next_version few serials)) some
