-- What a table ends as, where a `&mut` to one of its connections is returned.
use Rattle.std.specs.Prelude.{ℕ, Option, Some}
use Rattle.std.specs.Borrow.{LendsIf, Fml, RattleType, MutBor}
use Rattle.slab.specs.Slab.{with_value}
use Rattle.sm_visits.specs.Connections.{Table}
use Rattle.sm_visits.specs.contracts.connection_table.ConnectionTable.{the_row}

-- once the borrow r ends, the place has the last value written through r, and at `None` the table stays as it is
abbrev pub lends_here : (C : RattleType) → MutBor (Table C.Denot) → ℕ → Option (MutBor C.Denot) → Fml
lends_here C s place r = LendsIf (the_row C) C s r (λ c. with_value s.now place (Some c)) s.now
