-- Rows by their serials and by their names, and the room for more.
use Rattle.std.specs.Prelude.{◌≡◌, ℕ, zero, suc, ◌+◌, ◌-◌, ◌≤◌, nat_eq, min, [], length, if◌then◌else◌}
use Rattle.sm_table.specs.declared.indexed.Indexed.{Indexed}
use Rattle.sm_table.specs.declared.indexed.SpareMaps.{SpareMaps}
use Rattle.sm_table.specs.Maps.{by_name}
use Rattle.sm_table.specs.Signs.{IsSigns, SignsRoom}

-- for how many rows there is room behind the one with this serial, where it came with new room: for as many as
-- were made before it, and at most for 1,023
abbrev pub behind : ℕ → ℕ
behind serial = min serial 1023

-- for how many more rows there is room at least, where the next serial is this: where none is left, the next row comes
-- with new room
unfoldable pub room_left : ℕ → ℕ
room_left zero = zero
room_left (suc serial) = if nat_eq (room_left serial) 0 then behind serial else room_left serial - 1

-- there is room for so many more rows
pub record HasRoom (indexed : Indexed) (count : ℕ) : Type 0 where
  pub rows : count ≤ indexed.rows.room
  pub names : count ≤ indexed.names.room
  pub signs : SignsRoom indexed.signs (length indexed.rows.list + count)

-- the names and the signs are those of the rows
pub record IsIndexed (indexed : Indexed) : Type 0 where
  pub names : indexed.names.pairs ≡ by_name indexed.rows.list
  pub signs : IsSigns indexed.signs indexed.rows.list

-- empty room for so many rows
pub record AreSpareMaps (room : SpareMaps) (count : ℕ) : Type 0 where
  pub no_rows : room.rows.list ≡ []
  pub no_names : room.names.pairs ≡ []
  pub no_jobs : room.signs.jobs.items ≡ []
  pub no_dates : room.signs.dates.items ≡ []
  pub no_deletions : room.signs.deletions.items ≡ []
  pub rows : count ≤ room.rows.room
  pub names : count ≤ room.names.room
  pub signs : SignsRoom room.signs count
