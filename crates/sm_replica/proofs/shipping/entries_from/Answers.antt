use Rattle.std.proofs.Common.{◌≤◌, ◌-◌, ◌++◌, ◌∷◌, [], min, length, ap, ◌∙◌, arith}
use Rattle.sm_replication.specs.declared.frame.TheConstants.{FRAME_ENTRIES}
use Rattle.sm_model.specs.declared.entry.Entry.{Entry}
use Rattle.sm_record.specs.declared.base.Base.{Base}
use Rattle.sm_replica.specs.Shipped.{entries_of}
use Rattle.sm_replica.proofs.ShipLemmas.{entries_more, entries_all}
use Rattle.sm_replica.proofs.shipping.entries_from.Goals as goal

pub loop-k-preserved : goal.loop-k-preserved
loop-k-preserved g c =
    entries_more (entries_of c.args.account.now) c.args.place c.loop-k.k c.loop-k.entries.items c.loop-k.invariant
    c.in-Some.entry.now c.push.new.self.items c.in-Some.ensures
    (c.in_ok-push-in-Some.ensures.items
    ∙ ap (λ (e : Entry). c.loop-k.entries.items ++ e ∷ []) c.in_ok-copy-in-Some.ensures)

pub returns : goal.returns
returns g c =
    let enough : min (length (entries_of c.args.account.now) - c.args.place) FRAME_ENTRIES ≤ c.loop-k.k =
    omega (
      arith,
      c.loop-k-test.false,
      c.min-count.ensures,
      c.saturating_sub.ensures,
      c.from.ensures,
      c.end_of_account.ensures,
      ap (λ (b : Base). b.entries) c.base.ensures.base,
    ) in
    entries_all (entries_of c.args.account.now) c.args.place c.loop-k.k c.loop-k.entries.items c.loop-k.invariant enough
    (omega (arith, c.loop-k.auto.k-end, c.min-count.ensures, c.from.ensures))
