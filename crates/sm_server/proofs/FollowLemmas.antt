-- Runs that follow a primary.
use Rattle.std.proofs.Common.{◌≡◌, ◌≤◌, ap, ◌∙◌, arith}
use Rattle.sm_disk.specs.declared.disk.Disk.{Ghosts}
use Rattle.sm_io.specs.declared.clock.Clock.{Ghosts as ClockGhosts}
use Rattle.sm_io.specs.declared.sink.Sink.{Ghosts as SinkGhosts}
use Rattle.sm_io.specs.declared.source.Source.{Ghosts as SourceGhosts}
use Rattle.sm_follow.specs.Streams.{around_by}
use Rattle.sm_journal.specs.declared.answers.OpenRefused.{OpenRefused}
use Rattle.sm_journal.specs.declared.answers.OpenRefused.TheVariants.{Damaged, Failed, Memory}
use Rattle.sm_store.specs.Openings.{IsOpenRefused}
use Rattle.sm_server.specs.Stored.{disk_unopened}

-- what is around a replica shows itself the same where nothing of it changed
pub same_around : {Q K C : Type 0} (sources : SourceGhosts Q) (sinks : SinkGhosts K) (clocks : ClockGhosts C)
    (q q' : Q) (k k' : K) (l l' : C) → q' ≡ q → k' ≡ k → l' ≡ l
    → around_by sources sinks clocks q' k' l' ≡ around_by sources sinks clocks q k l
same_around sources sinks clocks q q' k k' l l' source sink clock =
    ap (λ x. around_by sources sinks clocks x k' l') source
    ∙ ap (λ x. around_by sources sinks clocks q x l') sink
    ∙ ap (λ x. around_by sources sinks clocks q k x) clock

-- the disk's count did not fall
pub later_refused : {D : Type 0} (G : Ghosts D) (old : D) (refused : OpenRefused D) → IsOpenRefused G old refused
    → G.faults old ≤ G.faults (disk_unopened refused)
later_refused G old (Damaged now damage) r = omega (arith, r.1)
later_refused G old (Failed now) r = r.1
later_refused G old (Memory now) r = omega (arith, r.1)
