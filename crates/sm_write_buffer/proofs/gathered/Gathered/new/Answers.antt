use Rattle.std.proofs.Common.{◌≡◌, ap, arith}
use Rattle.sm_write_buffer.specs.Gathering.{place, pending_of}
use Rattle.sm_write_buffer.proofs.Amongs.{among_nothing}
use Rattle.sm_write_buffer.proofs.gathered.Gathered.new.Goals as goal

pub invariant_of-result : goal.invariant_of-result
invariant_of-result g c = record {
  placed = λ s read file.
      let none : place (pending_of c.nothing.result file) ≡ 0 = ap place (c.nothing.ensures file) in omega (
        arith,
        none,
      );
  among = among_nothing g.D.Disk.sight c.args.disk c.nothing-2.result.items c.nothing-2.ensures;
}
