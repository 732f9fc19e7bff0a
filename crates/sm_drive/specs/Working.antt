-- A verdict that is kept.
use Rattle.std.specs.Prelude.{◌≡◌, List, [], ◌∷◌, ◌++◌}
use Rattle.sm_rotator.specs.declared.rotator.Rotator.{Ghosts}
use Rattle.sm_rotator.specs.declared.verdict.Verdict.{Verdict}
use Rattle.sm_rotator.specs.declared.work.Work.{Work}
use Rattle.sm_drive.specs.declared.outcome.Outcome.{Outcome}
use Rattle.sm_drive.specs.declared.outcome.Outcome.TheVariants.{Asked, Memory}

-- it stands behind the others, or memory was wanted
abbrev pub Keeps : {R : Type 0} {V : Ghosts R} → Verdict R V → List (Verdict R V) → Outcome → List (Verdict R V)
    → Type 0
Keeps verdict old Asked new = new ≡ old ++ verdict ∷ []
Keeps verdict old Memory new = new ≡ old
Keeps verdict old out new = ⊥

-- a verdict on the work stands behind the others, or memory was wanted
abbrev pub Asks : {R : Type 0} (V : Ghosts R) → Work → List (Verdict R V) → Outcome → List (Verdict R V) → Type 0
Asks {R} V work old Asked new =
    (verdict : Verdict R V) × (verdict.work ≡ work) × (new ≡ old ++ verdict ∷ [])
Asks V work old Memory new = new ≡ old
Asks V work old out new = ⊥
