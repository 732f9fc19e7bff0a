-- The search for the next moment, a day at a time.
use Rattle.std.specs.Prelude.{◌≡◌, ℕ, ◌+◌, ◌/◌, ◌*◌, ◌<◌, false, IsTrue}
use Rattle.sm_cron.specs.declared.schedule.Cron.{Cron}
use Rattle.sm_cron.specs.Next.{matches}

-- the least moment of the schedule above a moment, of those on a day
pub record IsFirstOn (cron : Cron) (day moment at : ℕ) : Type 0 where
  pub above : moment < at
  pub on : at / 86_400 ≡ day
  pub matched : IsTrue (matches cron at)
  pub least : (other : ℕ) → moment < other → other / 86_400 ≡ day → other < at → matches cron other ≡ false

-- the schedule names no moment above a moment, of those on a day
abbrev pub IsNoneOn : Cron → ℕ → ℕ → Type 0
IsNoneOn cron day moment = (other : ℕ) → moment < other → other / 86_400 ≡ day → matches cron other ≡ false

-- nor of those before an hour of the day
abbrev pub IsNoneBefore : Cron → ℕ → ℕ → ℕ → Type 0
IsNoneBefore cron day moment hour =
    (other : ℕ) → moment < other → other / 86_400 ≡ day → other < day * 86_400 + hour * 3_600
    → matches cron other ≡ false

-- nor of those on the days before one
abbrev pub IsNoneUntil : Cron → ℕ → ℕ → Type 0
IsNoneUntil cron moment day = (other : ℕ) → moment < other → other / 86_400 < day → matches cron other ≡ false
