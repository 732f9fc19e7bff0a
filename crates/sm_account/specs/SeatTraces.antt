-- What a seat does, one thing after the other, seen from the one history of an account: a message, a connection, a hold
-- of the lock and all that a server does are such things.
use Rattle.std.specs.Prelude.{◌≡◌, ℕ, List, [], ◌∷◌, ◌++◌}
use Rattle.sm_model.specs.declared.entry.Mark.{Mark}
use Rattle.sm_account.specs.History.{by_seat}

-- the marks of an account in their order, each beside the number of the seat that made it
abbrev pub History : Type 0
History = List (ℕ × Mark)

-- nothing comes between
abbrev pub NoGap : History → History → Type 0
NoGap from to = to ≡ from

-- of a thing: the history at which it was done, and the marks that it left there
pub record Shape (T : Type 0) : Type 0 where
  pub before : T → History
  pub marks : T → List Mark

-- Things of one shape. A gap says how the history may grow between them, and what is right is said of each.
module _ {T : Type 0} (shape : Shape T) (gap : History → History → Type 0) (seat : ℕ) (right : T → Type 0) where
  -- the history behind a thing, whose marks are the seat's
  abbrev pub behind : T → History
  behind x = shape.before x ++ by_seat seat (shape.marks x)

  -- The things, from one history to another: each is right, stands where a gap lies behind the thing before it, and
  -- leaves its marks there.
  abbrev pub SeatTrace : History → List T → History → Type 0
  SeatTrace from [] to = gap from to
  SeatTrace from (x ∷ xs) to = gap from (shape.before x) × right x × SeatTrace (behind x) xs to

-- the marks of things
abbrev pub marks_in : {T : Type 0} → Shape T → List T → List Mark
marks_in shape [] = []
marks_in shape (x ∷ xs) = shape.marks x ++ marks_in shape xs
