-- What a promotion answers.
use Rattle.std.specs.Prelude.{◌≡◌, IsTrue, Bool, true, false, Result, Ok, Err}
use Rattle.sm_base.specs.declared.moment.Moment.{Moment}
use Rattle.sm_base.specs.declared.secret_id.SecretId.{SecretId}
use Rattle.sm_record.specs.declared.base.Base.{Base}
use Rattle.sm_table.specs.Found.{found}
use Rattle.sm_replica.specs.declared.replica.PromoteRefused.{PromoteRefused}
use Rattle.sm_replica.specs.declared.replica.PromoteRefused.TheVariants.{NoSecret, Memory}
use Rattle.sm_replica.specs.Answering.{is_shown}
use Rattle.sm_replica.specs.Replicas.{Replica}

-- the replica shows the secret at the moment
abbrev pub shows : Replica → SecretId → Moment → Bool
shows replica id moment = is_shown replica.region (found replica.base.rows moment id)

-- It gives what the replica holds, which takes nothing more, exactly where it shows the secret, save for want of
-- memory. Else nothing changes.
abbrev pub Promotes : Replica → SecretId → Moment → Result Base PromoteRefused → Replica → Type 0
Promotes old id moment (Ok base) new = IsTrue (shows old id moment) × (base ≡ old.base)
    × (new ≡ record old { promoted = true })
Promotes old id moment (Err NoSecret) new = (shows old id moment ≡ false) × (new ≡ old)
Promotes old id moment (Err Memory) new = IsTrue (shows old id moment) × (new ≡ old)
