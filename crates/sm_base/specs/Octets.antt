-- Bytes, wherever they lie.
use Rattle.std.specs.Prelude.{ℕ, List}
use Rattle.std.specs.Arc.{arc_slice_items}
use Rattle.sm_base.specs.declared.bytes.Kept.{Kept}
use Rattle.sm_base.specs.declared.bytes.Kept.TheVariants.{Owned, Shared}

abbrev pub octets : Kept → List ℕ
octets (Owned vec) = vec.items
octets (Shared shared) = arc_slice_items shared
