use Rattle.std.proofs.Common.{◌≡◌, take}
use Rattle.sm_model.specs.Labels.{aws_current}
use Rattle.sm_versions.specs.Labels.{place_each, others, firsts}
use Rattle.sm_versions.proofs.placing.place_others.Given as goal

abbrev pub invariant-loop-i : goal.invariant-loop-i
invariant-loop-i l = l.pairs.items ≡ place_each l.initial.pairs.items (others (firsts (take l.i l.labels)) aws_current)
    l.id
