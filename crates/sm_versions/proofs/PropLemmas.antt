-- What holds of a secret between any two changes has one proof at most, so that a type can keep it.
use Rattle.std.proofs.Props.{props}
use Rattle.sm_model.specs.declared.rows.Job.{Job}
use Rattle.sm_model.specs.declared.rows.SecretRow.{SecretRow}
use Rattle.sm_versions.specs.Kept.{VersionsKept, JobKept, CurrentKept}
use Rattle.sm_versions.specs.Sound.{RowFits, RowSound}

pub VersionsKept-prop : (row : SecretRow) → IsProp (VersionsKept row)
VersionsKept-prop row = Prim.hlevel props

pub JobKept-prop : (row : SecretRow) (job : Job) → IsProp (JobKept row job)
JobKept-prop row job = Prim.hlevel props

pub CurrentKept-prop : (row : SecretRow) → IsProp (CurrentKept row)
CurrentKept-prop row = Prim.hlevel props

pub RowFits-prop : (row : SecretRow) → IsProp (RowFits row)
RowFits-prop row = Prim.hlevel props

pub RowSound-prop : (row : SecretRow) → IsProp (RowSound row)
RowSound-prop row = Prim.hlevel props
