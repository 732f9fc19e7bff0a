use Rattle.std.proofs.Common.{◌≡◌, ◌++◌, take, drop}
use Rattle.std.specs.Option.{option_map}
use Rattle.sm_cron.specs.Languages.{parted}
use Rattle.sm_cron.proofs.reading.parted.Given as goal

abbrev pub invariant-loop-place : goal.invariant-loop-place
invariant-loop-place l =
    option_map (λ parts. (take l.place l.text ++ parts.0, parts.1)) (parted l.mark (drop l.place l.text))
    ≡ parted l.mark l.text
