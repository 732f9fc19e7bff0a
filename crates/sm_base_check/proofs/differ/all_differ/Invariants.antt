use Rattle.std.proofs.Common.{◌≡◌, ℕ, true, List, take}
use Rattle.sm_versions.specs.Texts.{is_among, once}
use Rattle.sm_base_check.proofs.differ.all_differ.Given as goal

abbrev pub invariant-loop-at : goal.invariant-loop-at
invariant-loop-at g l = record {
  differ : once (take l.at (g.T.Told.texts l.things)) ≡ true;
  those : (other : List ℕ) → is_among l.seen other ≡ is_among (take l.at (g.T.Told.texts l.things)) other;
}
