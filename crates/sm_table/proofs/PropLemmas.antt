-- What holds of all rows between any two changes has one proof at most, so that a type can keep it.
use Rattle.std.proofs.Props.{props}
use Rattle.std.proofs.Common.{List, [], ◌∷◌}
use Rattle.sm_model.specs.declared.rows.SecretRow.{SecretRow}
use Rattle.sm_model.specs.declared.rows.Rows.{Rows}
use Rattle.sm_versions.proofs.PropLemmas.{CurrentKept-prop, RowSound-prop}
use Rattle.sm_versions.specs.Kept.{CurrentKept}
use Rattle.sm_versions.specs.Sound.{RowSound}
use Rattle.sm_table.specs.Kept.{Each, RowsKept, HasOwnArn, NamesKept}
use Rattle.sm_table.specs.Sound.{Sound}

Each-prop : (Fact : SecretRow → Type 0) (rows : List SecretRow) → ((row : SecretRow) → IsProp (Fact row))
    → IsProp (Each Fact rows)
Each-prop Fact [] own = Prim.hlevel props
Each-prop Fact (r ∷ rs) own = Prim.hlevel (Each-prop Fact rs own, own, props)

HasOwnArn-prop : (row : SecretRow) → IsProp (HasOwnArn row)
HasOwnArn-prop row = Prim.hlevel props

pub RowsKept-prop : (rows : Rows) → IsProp (RowsKept rows)
RowsKept-prop rows = Prim.hlevel (Each-prop CurrentKept rows.secrets CurrentKept-prop, props)

pub NamesKept-prop : (rows : Rows) → IsProp (NamesKept rows)
NamesKept-prop rows = Prim.hlevel (Each-prop HasOwnArn rows.secrets HasOwnArn-prop, props)

pub Sound-prop : (rows : Rows) → IsProp (Sound rows)
Sound-prop rows = Prim.hlevel (Each-prop RowSound rows.secrets RowSound-prop, props)
