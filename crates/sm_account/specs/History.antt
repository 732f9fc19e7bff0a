-- What a history says: the marks of an account in their order, each beside the number of the seat that made it.
use Rattle.std.specs.Prelude.{ℕ, ◌+◌, List, [], ◌∷◌}
use Rattle.sm_model.specs.declared.entry.Entry.{Entry as entries}
use Rattle.sm_model.specs.declared.entry.Mark.{Mark}
use Rattle.sm_model.specs.declared.entry.Mark.TheVariants.{Entry, Claim, Fault}

-- a mark that is an entry, and the entries after it
abbrev pub entry_then : Mark → List entries → List entries
entry_then (Entry entry) rest = entry ∷ rest
entry_then (Claim arn at moment) rest = rest
entry_then Fault rest = rest

-- the entries of a history, which alone change the rows
abbrev pub entries_in : List (ℕ × Mark) → List entries
entries_in [] = []
entries_in (x ∷ xs) = entry_then x.1 (entries_in xs)

abbrev pub fault_count : Mark → ℕ
fault_count (Entry entry) = 0
fault_count (Claim arn at moment) = 0
fault_count Fault = 1

-- how many faults a history has
abbrev pub faults_in : List (ℕ × Mark) → ℕ
faults_in [] = 0
faults_in (x ∷ xs) = fault_count x.1 + faults_in xs

-- marks of one seat
abbrev pub by_seat : ℕ → List Mark → List (ℕ × Mark)
by_seat seat [] = []
by_seat seat (mark ∷ marks) = (seat, mark) ∷ by_seat seat marks
