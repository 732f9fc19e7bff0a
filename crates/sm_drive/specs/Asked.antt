-- What is asked of a run of calls.
use Rattle.std.specs.Prelude.{◌≡◌, ◌≤◌, ⊤, List, [], ◌∷◌, length}
use Rattle.sm_base.specs.declared.moment.Moment.{Moment}
use Rattle.sm_base.specs.declared.moment.TheConstants.{LAST_READING}
use Rattle.sm_model.specs.Needed.{needed}
use Rattle.sm_account.specs.Handling.{HasShortTexts}
use Rattle.sm_drive.specs.declared.call.Call.{Call}
use Rattle.sm_drive.specs.declared.call.Call.TheVariants.{Handle, Work, Report, Due, Restart}

-- a clock can give the moment
abbrev pub IsReading : Moment → Type 0
IsReading now = now.0 ≤ LAST_READING

-- Each moment is one that a clock can give. A request has as many random bytes as it needs, and its person's key and
-- ARN are short enough to stand with an entry.
abbrev pub MayBeMade : Call → Type 0
MayBeMade (Handle person now drawn request) =
    IsReading now × (length drawn ≡ needed request) × HasShortTexts person
MayBeMade (Work now) = IsReading now
MayBeMade (Report place now) = IsReading now
MayBeMade (Due now drawn) = IsReading now
MayBeMade Restart = ⊤

abbrev pub AllMayBeMade : List Call → Type 0
AllMayBeMade [] = Unit {0}
AllMayBeMade (call ∷ calls) = MayBeMade call × AllMayBeMade calls
