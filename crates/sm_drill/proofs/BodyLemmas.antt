-- What a drill's requests have for members has no number that is not whole.
use Rattle.std.proofs.Common.{◌≡◌, ℕ, false, refl}
use Rattle.serde_json.specs.Data.{Members}
use Rattle.serde_json.specs.Written.{members_have_float}
use Rattle.sm_drill.specs.declared.step.Step.{Step}
use Rattle.sm_drill.specs.declared.step.Step.TheVariants.{Create, Put, Get}
use Rattle.sm_drill.specs.Messages.{members_of, shown_members, valued_members}

are_whole : (step : Step) (i word : ℕ) → members_have_float (members_of step i word) ≡ false
unfolding valued_members shown_members
are_whole (Create secret) i word = refl
are_whole (Put secret) i word = refl
are_whole (Get secret) i word = refl

pub members_whole : (step : Step) (i word : ℕ) (made : Members) → made ≡ members_of step i word
    → members_have_float made ≡ false
members_whole step i word made are = rw are (are_whole step i word)
