use Rattle.std.proofs.Common.{◌≡◌, ℕ, List, take}
use Rattle.sm_listing.specs.Beginnings.{parting, partings_with, marked}
use Rattle.sm_listing.proofs.beginnings.mark.Given as goal

abbrev pub invariant-loop-place : goal.invariant-loop-place
invariant-loop-place l =
    ((past : List ℕ) × (l.row ≡ partings_with past l.sought.values) × (l.here ≡ parting past l.text))
    × (l.marks ≡ marked l.text (take l.place l.sought.values) l.initial.marks)
