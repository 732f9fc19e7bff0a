-- What a replica makes of a frame.
use Rattle.std.specs.Prelude.{◌≡◌, ◌⊎◌, ℕ, ◌+◌, ◌-◌, ◌<◌, ◌≤◌, Bool, true, false, List, drop}
use Rattle.sm_replication.specs.declared.frame.Frame.{Frame}
use Rattle.sm_replication.specs.declared.frame.Frame.TheVariants as frame
use Rattle.sm_model.specs.declared.entry.Entry.{Entry}
use Rattle.sm_record.specs.declared.base.Base.{Base}
use Rattle.sm_recovery.specs.Following.{after_all, MayCome, StopsAfter}
use Rattle.sm_base_check.specs.Bases.{IsSound}
use Rattle.sm_replica.specs.declared.replica.Taken.{Taken}
use Rattle.sm_replica.specs.declared.replica.Taken.TheVariants.{At, Ahead, Broken, Promoted, Memory}
use Rattle.sm_replica.specs.Replicas.{Replica}

-- the entries of a frame that begins here which are not before the position
abbrev pub fresh : ℕ → ℕ → List Entry → List Entry
fresh position at entries = drop (position - at) entries

-- Entries behind so many of their frame are followed, all of them or none. Where one may not come, the first such is
-- told by its place in the frame.
abbrev pub Follows : Base → ℕ → List Entry → Taken → Base → Type 0
Follows old passed entries (At position) new =
    MayCome old entries × (new ≡ after_all old entries) × (position ≡ new.entries)
Follows old passed entries (Ahead position) new = ⊥
Follows old passed entries (Broken place) new =
    ((count : ℕ) × StopsAfter old entries count × (place ≡ passed + count)) × (new ≡ old)
Follows old passed entries Promoted new = ⊥
Follows old passed entries Memory new = new ≡ old

-- Entries that begin past the position are ahead of it. Else those before the position are passed over, and the others
-- are followed.
abbrev pub TakesEntries : Base → ℕ → List Entry → Taken → Base → Type 0
TakesEntries old at entries answer new =
    ((old.entries < at) × (answer ≡ Ahead old.entries) × (new ≡ old))
    ⊎ ((at ≤ old.entries) × Follows old (old.entries - at) (fresh old.entries at entries) answer new)

-- rows that may be taken at a position: they are sound, and so many entries made them
pub record MayStand (at : ℕ) (base : Base) : Type 0 where
  pub sound : IsSound base
  pub counted : base.entries ≡ at

-- rows past the position take the place of what is held, where they may stand at theirs
abbrev pub Stands : Base → ℕ → Base → Taken → Base → Type 0
Stands old at base (At position) new = MayStand at base × (new ≡ base) × (position ≡ at)
Stands old at base (Ahead position) new = ⊥
Stands old at base (Broken place) new = (MayStand at base → ⊥) × (place ≡ 0) × (new ≡ old)
Stands old at base Promoted new = ⊥
Stands old at base Memory new = new ≡ old

-- rows at the position or below it change nothing
abbrev pub TakesRows : Base → ℕ → Base → Taken → Base → Type 0
TakesRows old at base answer new =
    ((at ≤ old.entries) × (answer ≡ At old.entries) × (new ≡ old))
    ⊎ ((old.entries < at) × Stands old at base answer new)

abbrev pub TakesFrame : Base → Frame → Taken → Base → Type 0
TakesFrame old (frame.Entries at entries) answer new = TakesEntries old at entries answer new
TakesFrame old (frame.Rows at base) answer new = TakesRows old at base answer new

-- a replica that was promoted takes nothing more
abbrev pub TakesIf : Bool → Replica → Frame → Taken → Replica → Type 0
TakesIf true old f answer new = (answer ≡ Promoted) × (new ≡ old)
TakesIf false old f answer new = TakesFrame old.base f answer new.base × (new.region ≡ old.region)
    × (new.promoted ≡ false)

abbrev pub Takes : Replica → Frame → Taken → Replica → Type 0
Takes old f answer new = TakesIf old.promoted old f answer new
