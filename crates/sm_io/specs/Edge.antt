-- What an edge answers, and what it does to the connections that it tells.
use Rattle.std.specs.Prelude.{◌≡◌, ◌<◌, ◌≤◌, ℕ, List, [], ◌∷◌, ◌++◌, length, Option, None, Some, ⊤}
use Rattle.sm_io.specs.declared.edge.Accepted.{Accepted}
use Rattle.sm_io.specs.declared.edge.Accepted.TheVariants.{Conn, End, Failed, Memory}

-- items that are told optionally, with one more at the end
abbrev pub told_more : {A : Type 0} → Option (List A) → A → Option (List A)
told_more None item = None
told_more (Some items) item = Some (items ++ item ∷ [])

-- and with one more at the beginning
abbrev pub told_first : {A : Type 0} → A → Option (List A) → Option (List A)
told_first item None = None
told_first item (Some items) = Some (item ∷ items)

-- What was left begins with the connection, and loses it. Every other answer takes none.
abbrev pub TakesFirst : {C : Type 0} → Accepted C → Option (List C) → Option (List C) → Type 0
TakesFirst (Conn conn) old new = old ≡ told_first conn new
TakesFirst End old new = new ≡ old
TakesFirst Failed old new = new ≡ old
TakesFirst Memory old new = new ≡ old

-- what was handed out grows by the connection, and every other answer hands out none
abbrev pub HandsOut : {C : Type 0} → Accepted C → Option (List C) → Option (List C) → Type 0
HandsOut (Conn conn) old new = new ≡ told_more old conn
HandsOut End old new = new ≡ old
HandsOut Failed old new = new ≡ old
HandsOut Memory old new = new ≡ old

-- no connection is left, where that is told
abbrev pub NoneLeft : {C : Type 0} → Option (List C) → Type 0
NoneLeft None = ⊤
NoneLeft (Some left) = left ≡ []

-- a fact where an accept answers that none is left
abbrev pub OnAcceptEnd : {C : Type 0} → Accepted C → Type 0 → Type 0
OnAcceptEnd (Conn conn) P = ⊤
OnAcceptEnd End P = P
OnAcceptEnd Failed P = ⊤
OnAcceptEnd Memory P = ⊤

-- a fact where an accept failed
abbrev pub OnAcceptFailed : {C : Type 0} → Accepted C → Type 0 → Type 0
OnAcceptFailed (Conn conn) P = ⊤
OnAcceptFailed End P = ⊤
OnAcceptFailed Failed P = P
OnAcceptFailed Memory P = ⊤

-- the count stays, but for an accept that failed
abbrev pub StaysUnlessAcceptFailed : {C : Type 0} → Accepted C → ℕ → ℕ → Type 0
StaysUnlessAcceptFailed (Conn conn) old new = new ≡ old
StaysUnlessAcceptFailed End old new = new ≡ old
StaysUnlessAcceptFailed Failed old new = ⊤
StaysUnlessAcceptFailed Memory old new = new ≡ old

-- fewer came back than were handed out, where both are told
abbrev pub IsFewer : {A B : Type 0} → Option (List A) → Option (List B) → Type 0
IsFewer None back = ⊤
IsFewer (Some handed) None = ⊤
IsFewer (Some handed) (Some back) = length back < length handed

-- no more came back than were handed out, where both are told
abbrev pub IsNoMore : {A B : Type 0} → Option (List A) → Option (List B) → Type 0
IsNoMore None back = ⊤
IsNoMore (Some handed) None = ⊤
IsNoMore (Some handed) (Some back) = length back ≤ length handed
