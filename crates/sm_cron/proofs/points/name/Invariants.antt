use Rattle.std.proofs.Common.{◌≡◌, ◌+◌, map, drop}
use Rattle.sm_cron.specs.Languages.{or_reading, reading_of, words_of}
use Rattle.sm_cron.proofs.points.name.Given as goal

abbrev pub invariant-loop-place : goal.invariant-loop-place
invariant-loop-place l =
    or_reading l.so_far (reading_of (words_of l.low (l.place + 1) (map (λ name. name.now)
    (drop l.place l.names))) l.text)
    ≡ reading_of (words_of l.low 1 (map (λ name. name.now) l.names)) l.text
