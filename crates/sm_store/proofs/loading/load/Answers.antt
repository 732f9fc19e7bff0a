use Rattle.std.proofs.Common.{arith}
use Rattle.std.proofs.lemmas.List.Sums.{prefix_len-le-length}
use Rattle.sm_store.specs.Loading.{is_marked}
use Rattle.sm_store.specs.declared.entries.EntriesRefused.TheVariants.{Damaged}
use Rattle.sm_store.proofs.LoadRuns.{no_base, same_refusal}
use Rattle.sm_store.proofs.loading.load.Goals as goal

pub base_before-requires : goal.base_before-requires
base_before-requires c =
    omega (arith, c.marked_count-count.ensures, prefix_len-le-length is_marked c.args.bodies.now)

pub returns-in-Err-clause-damaged : goal.returns-in-Err-clause-damaged
returns-in-Err-clause-damaged c damage same =
    let same = same_refusal c.in-Err.refused (Damaged damage) same in
    no_base c.args.edition c.args.bodies.now c.marked_count-count.result damage.at damage.entry
    c.marked_count-count.ensures (c.in-Err.ensures.some damage same) (c.in-Err.ensures.damaged damage same)
