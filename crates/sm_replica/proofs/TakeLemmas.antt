-- Parts of entries that a clock can give, and what is taken.
use Rattle.std.proofs.Common.{◌≡◌, ℕ, zero, suc, ◌-◌, List, [], ◌∷◌, take, drop, sym, subst, inl, inr}
use Rattle.sm_core.specs.Histories.{InTime}
use Rattle.sm_model.specs.declared.entry.Entry.{Entry}
use Rattle.sm_record.specs.declared.base.Base.{Base}
use Rattle.sm_recovery.proofs.SoundLaws.{come_sound}
use Rattle.sm_base_check.specs.Bases.{IsSound}
use Rattle.sm_replica.specs.declared.replica.Taken.{Taken}
use Rattle.sm_replica.specs.declared.replica.Taken.TheVariants.{At, Ahead, Broken, Promoted, Memory}
use Rattle.sm_replica.specs.Taking.{Follows, TakesEntries, Stands, TakesRows}

pub timely_behind : (n : ℕ) (entries : List Entry) → InTime entries → InTime (drop n entries)
timely_behind zero entries early = early
timely_behind (suc n) [] early = early
timely_behind (suc n) (e ∷ es) early = timely_behind n es early.1

pub timely_front : (n : ℕ) (entries : List Entry) → InTime entries → InTime (take n entries)
timely_front zero entries early = tt
timely_front (suc n) [] early = tt
timely_front (suc n) (e ∷ es) early = (early.0, timely_front n es early.1)

-- ---- what is taken stays sound

same_sound : (old new : Base) → IsSound old → new ≡ old → IsSound new
same_sound old new sound same = subst IsSound (sym same) sound

follows_sound : (old new : Base) (passed : ℕ) (entries : List Entry) (answer : Taken) → IsSound old → InTime entries
    → Follows old passed entries answer new → IsSound new
follows_sound old new passed entries (At position) sound early follows =
    subst IsSound (sym follows.1) (come_sound old entries sound follows.0 early)
follows_sound old new passed entries (Ahead position) sound early follows = absurd follows
follows_sound old new passed entries (Broken place) sound early follows = same_sound old new sound follows.1
follows_sound old new passed entries Promoted sound early follows = absurd follows
follows_sound old new passed entries Memory sound early follows = same_sound old new sound follows

pub entries_sound : (old new : Base) (at : ℕ) (entries : List Entry) (answer : Taken) → IsSound old → InTime entries
    → TakesEntries old at entries answer new → IsSound new
entries_sound old new at entries answer sound early (inl ahead) = same_sound old new sound ahead.2
entries_sound old new at entries answer sound early (inr takes) =
    follows_sound old new (old.entries - at) (drop (old.entries - at) entries) answer sound
    (timely_behind (old.entries - at) entries early) takes.1

stands_sound : (old new : Base) (at : ℕ) (base : Base) (answer : Taken) → IsSound old → Stands old at base answer new
    → IsSound new
stands_sound old new at base (At position) sound stands = subst IsSound (sym stands.1) stands.0.sound
stands_sound old new at base (Ahead position) sound stands = absurd stands
stands_sound old new at base (Broken place) sound stands = same_sound old new sound stands.2
stands_sound old new at base Promoted sound stands = absurd stands
stands_sound old new at base Memory sound stands = same_sound old new sound stands

pub rows_sound : (old new : Base) (at : ℕ) (base : Base) (answer : Taken) → IsSound old
    → TakesRows old at base answer new → IsSound new
rows_sound old new at base answer sound (inl below) = same_sound old new sound below.2
rows_sound old new at base answer sound (inr takes) = stands_sound old new at base answer sound takes.1
