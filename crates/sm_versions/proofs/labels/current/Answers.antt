use Rattle.std.proofs.Common.{refl}
use Rattle.sm_versions.proofs.TextLemmas.{ascii_label}
use Rattle.sm_versions.proofs.labels.current.Goals as goal

pub new-requires : goal.new-requires
new-requires c = rw c.fixed.ensures (ascii_label _ refl refl)
