-- The names of regions: AWS Secrets Manager API Reference, ReplicaRegionType (Region). How many a secret may have, and
-- of which letters a name is, is this project's own.
use Rattle.std.specs.Prelude.{ℕ, Bool, ◌&&◌, nat_le, List, length}
use Rattle.std.specs.List.{list_all}
use Rattle.sm_base.specs.Spelling.{is_run, is_region_byte}
use Rattle.sm_base.specs.declared.limits.TheConstants.{REGIONS_LIMIT}

-- a region is named by 1 to 32 lower-case letters, digits or -
abbrev pub is_region : List ℕ → Bool
is_region text = is_run is_region_byte 1 32 text

-- at most 20 of them
abbrev pub are_regions : List (List ℕ) → Bool
are_regions regions = nat_le (length regions) REGIONS_LIMIT && list_all is_region regions
