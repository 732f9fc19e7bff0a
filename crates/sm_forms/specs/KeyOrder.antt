-- The keys of tags in order.
use Rattle.std.specs.Prelude.{ℕ, Bool, List, [], slice_index_or}
use Rattle.std.specs.Ordering.{nat_cmp, is_lt}
use Rattle.std.specs.declared.cmp.Ordering.{Ordering}
use Rattle.std.specs.Cmp.Lexicographic.{slice_cmp}
use Rattle.sm_model.specs.declared.value.Tag.{Tag}
use Rattle.sm_versions.specs.Sound.{tag_keys}

-- the key of the tag at a place, or the empty one behind the last
abbrev pub key_of : List Tag → ℕ → List ℕ
key_of tags place = slice_index_or (tag_keys tags) place []

-- how two keys stand to each other by their bytes
abbrev pub by_bytes : List ℕ → List ℕ → Ordering
by_bytes = slice_cmp nat_cmp

-- the key at the first place comes before that at the other
abbrev pub comes_before : List Tag → ℕ → ℕ → Bool
comes_before tags one other = is_lt (by_bytes (key_of tags one) (key_of tags other))
