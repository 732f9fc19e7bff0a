-- A rotation turn of an account that nobody else holds.
use Rattle.std.specs.Prelude.{⊤}
use Rattle.sm_pool.specs.declared.done.Done.{Done}
use Rattle.sm_pool.specs.declared.done.Done.TheVariants as ends
use Rattle.sm_pool.specs.declared.done.Trouble.{Trouble}
use Rattle.sm_pool.specs.declared.done.Trouble.TheVariants as troubles

-- the verdict came too late
abbrev pub IsStale : Done → Type 0
IsStale (ends.Did arn at) = ⊥
IsStale (ends.Started arn) = ⊥
IsStale ends.Idle = ⊥
IsStale (ends.Stale at) = Unit {0}
IsStale (ends.Trouble trouble) = ⊥

abbrev pub OnDiskTrouble : Trouble → Type 0 → Type 0
OnDiskTrouble troubles.Disk P = P
OnDiskTrouble troubles.Words P = ⊤
OnDiskTrouble troubles.Memory P = ⊤
OnDiskTrouble (troubles.Limit limit) P = ⊤

-- a fact where the disk failed
abbrev pub OnDisk : Done → Type 0 → Type 0
OnDisk (ends.Did arn at) P = ⊤
OnDisk (ends.Started arn) P = ⊤
OnDisk ends.Idle P = ⊤
OnDisk (ends.Stale at) P = ⊤
OnDisk (ends.Trouble trouble) P = OnDiskTrouble trouble P
