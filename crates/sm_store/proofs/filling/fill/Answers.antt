use Rattle.std.proofs.Common.{IsTrue, List, ℕ, [], ◌∷◌, flat_map, sym, subst}
use Rattle.std.specs.List.{list_all}
use Rattle.sm_record.specs.Rows.{secret}
use Rattle.sm_record.specs.Snapshots.{start_body, secret_bodies}
use Rattle.sm_record.specs.declared.edition.Edition.TheVariants as editions
use Rattle.sm_record.proofs.SnapshotLaws.{snapshot_bodies, snapshot_fits}
use Rattle.sm_store.specs.Filling.{MayBeAdded, HasAdded}
use Rattle.sm_store.proofs.FillRuns.{went_on, room_front, room_behind, added_more}
use Rattle.sm_store.proofs.filling.fill.Goals as goal

pub put_start-requires-clause-spelled : goal.put_start-requires-clause-spelled
put_start-requires-clause-spelled g c = (snapshot_fits editions.Second c.args.base.now c.requires.spelled).0

pub put_start-requires-clause-room : goal.put_start-requires-clause-room
put_start-requires-clause-room g c =
    room_front (start_body c.args.base.now ∷ []) (flat_map (secret_bodies editions.Second) c.args.base.now.rows.secrets)
    c.args.fresh.now
    (subst (λ (bodies : List (List ℕ)). MayBeAdded bodies c.args.fresh.now)
    (snapshot_bodies editions.Second c.args.base.now) c.requires.room)

pub put_secrets-requires-clause-spelled : goal.put_secrets-requires-clause-spelled
put_secrets-requires-clause-spelled g c =
    subst (λ l. IsTrue (list_all (secret editions.Second).fits l)) (sym c.as_slice.ensures)
    (snapshot_fits editions.Second c.args.base.now c.requires.spelled).1

pub put_secrets-requires-clause-room : goal.put_secrets-requires-clause-room
put_secrets-requires-clause-room g c =
    subst (λ l. MayBeAdded (flat_map (secret_bodies editions.Second) l) c.put_start.new.fresh) (sym c.as_slice.ensures)
    (room_behind (start_body c.args.base.now ∷ [])
    (flat_map (secret_bodies editions.Second) c.args.base.now.rows.secrets) c.args.fresh.now c.put_start.new.fresh
    (subst (λ (bodies : List (List ℕ)). MayBeAdded bodies c.args.fresh.now)
    (snapshot_bodies editions.Second c.args.base.now) c.requires.room) c.in_ok-put_start.ensures.filled)

pub returns-in_err-put_secrets-clause-goes_on : goal.returns-in_err-put_secrets-clause-goes_on
returns-in_err-put_secrets-clause-goes_on g c =
    went_on c.args.fresh.now c.put_start.new.fresh c.put_secrets.new.fresh c.put_start.ensures.goes_on
    c.put_secrets.ensures.goes_on

pub returns-clause-goes_on : goal.returns-clause-goes_on
returns-clause-goes_on g c =
    went_on c.args.fresh.now c.put_start.new.fresh c.put_secrets.new.fresh c.put_start.ensures.goes_on
    c.put_secrets.ensures.goes_on

pub returns-clause-filled : goal.returns-clause-filled
returns-clause-filled g c =
    subst (λ (bodies : List (List ℕ)). HasAdded bodies c.args.fresh.now c.put_secrets.new.fresh)
    (sym (snapshot_bodies editions.Second c.args.base.now))
    (added_more (start_body c.args.base.now ∷ [])
    (flat_map (secret_bodies editions.Second) c.args.base.now.rows.secrets) c.args.fresh.now c.put_start.new.fresh
    c.put_secrets.new.fresh c.in_ok-put_start.ensures.filled
    (subst (λ l. HasAdded (flat_map (secret_bodies editions.Second) l) c.put_start.new.fresh c.put_secrets.new.fresh)
    c.as_slice.ensures c.in_ok-put_secrets.ensures.filled))
