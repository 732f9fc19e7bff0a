-- A sound base has a spelling, and none of its bodies is too long.
use Rattle.std.proofs.Common.{◌≡◌, ℕ, ◌+◌, ◌*◌, ◌^◌, ◌<◌, ◌≤◌, leb, true, List, [], ◌∷◌, ◌++◌, length, refl, arith, length-append}
use Rattle.std.specs.List.{flat_map, list_all}
use Rattle.std.proofs.lemmas.Bool.{and_parts, and_from, eq-eqb}
use Rattle.std.proofs.lemmas.Bool.Decides.{nat_tests}
use Rattle.sm_model.specs.declared.rows.SecretRow.{SecretRow}
use Rattle.sm_model.specs.declared.rows.VersionRow.{VersionRow}
use Rattle.sm_versions.specs.Serials.{rises, version_serials}
use Rattle.sm_versions.specs.Sound.{is_version, each_version, RowSound}
use Rattle.sm_table.specs.Kept.{row_serials}
use Rattle.sm_table.specs.Sound.{EachSound}
use Rattle.sm_journal.specs.Records.{size, AreWithin}
use Rattle.sm_record.specs.Fields.{long}
use Rattle.sm_record.specs.Rows.{date, start, version, secret, rows, start_of_base}
use Rattle.sm_record.specs.Series.{one}
use Rattle.sm_record.specs.Snapshots.{snapshot, has_snapshot, HasSnapshot}
use Rattle.sm_record.specs.declared.base.Base.{Base}
use Rattle.sm_record.specs.declared.edition.Edition.TheVariants.{Second}
use Rattle.sm_base_check.specs.Bases.{IsSound}
use Rattle.sm_encoded_size.specs.Typed.{VersionsTyped, RowTyped, RowsTyped, BaseTyped}
use Rattle.sm_encoded_size.proofs.BodySizes.{long_size, long_fits, version_fits, version_size, head_fits, head_size}

-- ---- lists of bodies

size_append : (xs ys : List (List ℕ)) → size (xs ++ ys) ≡ size xs + size ys
size_append [] ys = omega arith
size_append (x ∷ xs) ys = omega (arith, size_append xs ys)

within_append : (xs ys : List (List ℕ)) → AreWithin xs → AreWithin ys → AreWithin (xs ++ ys)
within_append [] ys all others = others
within_append (x ∷ xs) ys all others = (all.0, within_append xs ys all.1 others)

-- ---- versions

-- what rises from a number on ends at it or above
above : (low : ℕ) (ns : List ℕ) (next : ℕ) → rises low ns next ≡ true → low ≤ next
above low [] next h = grind (arith, nat_tests)
above low (n ∷ ns) next h =
    let parts = and_parts (leb low n) (rises (n + 1) ns next) h in
    let rest = above (n + 1) ns next parts.1 in
    grind (arith, nat_tests, parts.0)

versions_fit : (versions : List VersionRow) (low next : ℕ) → VersionsTyped versions → each_version versions ≡ true
    → rises low (version_serials versions) next ≡ true → next < 2 ^ 64
    → list_all (one version).fits versions ≡ true
versions_fit [] low next typed each rising small = refl
versions_fit (v ∷ vs) low next typed each rising small =
    let parts = and_parts (is_version v) (each_version vs) each in
    let serials = and_parts (leb low v.serial) (rises (v.serial + 1) (version_serials vs) next) rising in
    let below : v.serial < 2 ^ 64 = omega (arith, above (v.serial + 1) (version_serials vs) next serials.1, small) in
    and_from _ _ (version_fits v typed.0 parts.0 below)
    (versions_fit vs (v.serial + 1) next typed.1 parts.1 serials.1 small)

versions_size : (versions : List VersionRow) → VersionsTyped versions → each_version versions ≡ true
    → size (flat_map (one version).spell versions) ≤ 65705 * length versions
versions_size [] typed each = omega arith
versions_size (v ∷ vs) typed each =
    let parts = and_parts (is_version v) (each_version vs) each in
    omega (arith, version_size v typed.0 parts.0, versions_size vs typed.1 parts.1)

versions_within : (versions : List VersionRow) → VersionsTyped versions → each_version versions ≡ true
    → AreWithin (flat_map (one version).spell versions)
versions_within [] typed each = tt
versions_within (v ∷ vs) typed each =
    let parts = and_parts (is_version v) (each_version vs) each in
    (omega (arith, version_size v typed.0 parts.0), versions_within vs typed.1 parts.1)

-- ---- one secret

module _ (row : SecretRow) (typed : RowTyped row) (sound : RowSound row) (small : row.serial < 2 ^ 64) where
  secret_fits : (secret Second).fits row ≡ true
  unfolding secret
  secret_fits =
      and_from _ _ (head_fits row typed sound small)
      (and_from _ _ (eq-eqb (length row.versions) (length row.versions) refl)
      (versions_fit row.versions 0 row.next_version typed.versions sound.fits.versions sound.kept.versions.serials
      typed.next))

  secret_within : AreWithin ((secret Second).spell row)
  unfolding secret
  secret_within = (
    omega (arith, head_size row typed sound small),
    versions_within row.versions typed.versions sound.fits.versions,
  )

  secret_size : size ((secret Second).spell row) ≤ 65917005
  unfolding secret
  secret_size =
      omega (
        arith,
        head_size row typed sound small,
        versions_size row.versions typed.versions sound.fits.versions,
        sound.version_count,
      )

-- ---- all secrets

module _ (next : ℕ) (few : next < 2 ^ 64) where
  rows_fit : (secrets : List SecretRow) (low : ℕ) → RowsTyped secrets → EachSound secrets
      → rises low (row_serials secrets) next ≡ true → list_all (secret Second).fits secrets ≡ true
  rows_fit [] low typed sound rising = refl
  rows_fit (r ∷ rs) low typed sound rising =
      let serials = and_parts (leb low r.serial) (rises (r.serial + 1) (row_serials rs) next) rising in
      let small : r.serial < 2 ^ 64 = omega (arith, above (r.serial + 1) (row_serials rs) next serials.1, few) in
      and_from _ _ (secret_fits r typed.0 sound.0 small)
      (rows_fit rs (r.serial + 1) typed.1 sound.1 serials.1)

  rows_within : (secrets : List SecretRow) (low : ℕ) → RowsTyped secrets → EachSound secrets
      → rises low (row_serials secrets) next ≡ true → AreWithin (flat_map (secret Second).spell secrets)
  rows_within [] low typed sound rising = tt
  rows_within (r ∷ rs) low typed sound rising =
      let serials = and_parts (leb low r.serial) (rises (r.serial + 1) (row_serials rs) next) rising in
      let small : r.serial < 2 ^ 64 = omega (arith, above (r.serial + 1) (row_serials rs) next serials.1, few) in
      within_append ((secret Second).spell r) (flat_map (secret Second).spell rs)
      (secret_within r typed.0 sound.0 small) (rows_within rs (r.serial + 1) typed.1 sound.1 serials.1)

  rows_size : (secrets : List SecretRow) (low : ℕ) → RowsTyped secrets → EachSound secrets
      → rises low (row_serials secrets) next ≡ true
      → size (flat_map (secret Second).spell secrets) ≤ 65917005 * length secrets
  rows_size [] low typed sound rising = omega arith
  rows_size (r ∷ rs) low typed sound rising =
      let serials = and_parts (leb low r.serial) (rises (r.serial + 1) (row_serials rs) next) rising in
      let small : r.serial < 2 ^ 64 = omega (arith, above (r.serial + 1) (row_serials rs) next serials.1, few) in
      omega (
        arith,
        size_append ((secret Second).spell r) (flat_map (secret Second).spell rs),
        secret_size r typed.0 sound.0 small,
        rows_size rs (r.serial + 1) typed.1 sound.1 serials.1,
      )

-- ---- the start

module _ (base : Base) (typed : BaseTyped base) (sound : IsSound base) where
  start_fits : start.fits (start_of_base base) ≡ true
  unfolding start date
  start_fits =
      and_from _ _ refl (and_from _ _ (long_fits base.rows.next typed.next)
      (and_from _ _ (long_fits base.last.0 (omega (arith, sound.last)))
      (and_from _ _ (long_fits base.entries typed.entries)
      (long_fits (length base.rows.secrets) (omega (arith, sound.rows.count))))))

  start_size : length (start.spell (start_of_base base)) ≡ 33
  unfolding start date
  start_size =
      let counted : List ℕ = long.spell (length base.rows.secrets) in
      let made : List ℕ = long.spell base.entries ++ counted in
      let dated : List ℕ = long.spell base.last.0 ++ made in
      omega (
        arith,
        length-append (long.spell base.rows.next) dated,
        length-append (long.spell base.last.0) made,
        length-append (long.spell base.entries) counted,
        long_size base.rows.next,
        long_size base.last.0,
        long_size base.entries,
        long_size (length base.rows.secrets),
      )

  -- ---- the whole base

  pub sound_spelled : HasSnapshot Second base
  unfolding has_snapshot rows
  sound_spelled =
      and_from _ _ start_fits
      (and_from _ _ (eq-eqb (length base.rows.secrets) (length base.rows.secrets) refl)
      (rows_fit base.rows.next typed.next base.rows.secrets 0 typed.rows sound.rows.each
      sound.rows.serials))

  pub sound_within : AreWithin (snapshot Second base)
  unfolding snapshot rows
  sound_within = (
    omega (arith, start_size),
    rows_within base.rows.next typed.next base.rows.secrets 0 typed.rows sound.rows.each
        sound.rows.serials,
  )

  pub sound_short : size (snapshot Second base) < 2 ^ 62
  unfolding snapshot rows
  sound_short =
      omega (
        arith,
        start_size,
        rows_size base.rows.next typed.next base.rows.secrets 0 typed.rows sound.rows.each
            sound.rows.serials,
        sound.rows.count,
      )
