use Rattle.sm_table.specs.Changes.{CanMake, StandsAt}
use Rattle.sm_table.specs.Sound.{ChangeSound}
use Rattle.sm_table.specs.Sweep.{sweep}
use Rattle.sm_core.specs.Effects.{Makes}
use Rattle.sm_core.proofs.ReplayLemmas.{replays, if_replayed_then}
use Rattle.sm_core.proofs.replaying.again.Goals as goal

pub returns : goal.returns
returns c =
    let rows = c.args.table.now in
    let entry = c.args.entry.now in
    let result = c.replay_entry.result in
    let is = replays rows entry result c.requires.sound c.requires.moment c.replay_entry.ensures in
    record {
      replayed = c.replay_entry.ensures;
      legal = is.legal;
      makes = if_replayed_then result _ (Makes rows entry) (λ change h. h.makes) is.change;
      can = if_replayed_then result _ (CanMake rows) (λ change h. h.can) is.change;
      stands = if_replayed_then result _ (StandsAt rows entry.moment) (λ change h. h.stands) is.change;
      change_sound = if_replayed_then result _ (ChangeSound (sweep rows entry.moment)) (λ change h. h.sound) is.change;
    }
