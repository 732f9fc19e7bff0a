use Rattle.sm_write_buffer.proofs.Amongs.{tells_below}
use Rattle.sm_write_buffer.proofs.gathered.Gathered.into_disk.Goals as goal

pub returns-clause-told : goal.returns-clause-told
returns-clause-told g c = tells_below g.D.Disk.sight c.args.self.disk c.args.self.waiting c.args.self.past.items
    (g.met.D.Disk.only_now c.args.self.disk) c.args.self.among
