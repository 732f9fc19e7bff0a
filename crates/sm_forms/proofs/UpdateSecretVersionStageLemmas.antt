-- What it says of an UpdateSecretVersionStage that its forms pass.
use Rattle.std.proofs.Common.{◌≡◌, ◌⊎◌, ℕ, List, true, false, ◌||◌, Option, Some, None, is_some, IfSome, IsSome, inl, inr, refl}
use Rattle.std.specs.Prelude.{IsTrue}
use Rattle.sm_model.specs.declared.request.UpdateSecretVersionStage.{UpdateSecretVersionStage}
use Rattle.sm_base.specs.Spelling.{is_token, is_label, is_secret_id}
use Rattle.sm_forms.specs.UpdateSecretVersionStage.{move_forms}
use Rattle.sm_forms.proofs.MemberLemmas.{none_first, passes, all_pass}

one_of : (to from : Option (List ℕ)) → (is_some to || is_some from) ≡ true → IsSome to ⊎ IsSome from
one_of (Some to) from h = inl refl
one_of None (Some from) h = inr refl
one_of None None h = let f : false ≡ true = h in cc

-- each of the members, and then a target or a source
parts : (update : UpdateSecretVersionStage) → move_forms update ≡ None
    → IfSome update.move_to_version_id (λ t. IsTrue (is_token t))
    × IfSome update.remove_from_version_id (λ t. IsTrue (is_token t))
    × IsTrue (is_secret_id update.secret_id) × IsTrue (is_label update.version_stage)
    × (IsSome update.move_to_version_id ⊎ IsSome update.remove_from_version_id)
parts update h =
    let to = none_first _ _ h in
    let from = none_first _ _ to.1 in
    let id = none_first _ _ from.1 in
    let label = none_first _ _ id.1 in (
      all_pass is_token _ update.move_to_version_id to.0,
      all_pass is_token _ update.remove_from_version_id from.0,
      passes (is_secret_id update.secret_id) _ id.0,
      passes (is_label update.version_stage) _ label.0,
      one_of update.move_to_version_id update.remove_from_version_id
          (passes (is_some update.move_to_version_id || is_some update.remove_from_version_id) _ label.1),
    )

pub move_to : (update : UpdateSecretVersionStage) → move_forms update ≡ None
    → IfSome update.move_to_version_id (λ t. IsTrue (is_token t))
move_to update h = (parts update h).0

pub move_from : (update : UpdateSecretVersionStage) → move_forms update ≡ None
    → IfSome update.remove_from_version_id (λ t. IsTrue (is_token t))
move_from update h = (parts update h).1

pub move_id : (update : UpdateSecretVersionStage) → move_forms update ≡ None → IsTrue (is_secret_id update.secret_id)
move_id update h = (parts update h).2

pub move_label : (update : UpdateSecretVersionStage) → move_forms update ≡ None → IsTrue (is_label update.version_stage)
move_label update h = (parts update h).3

-- a target or a source is there
pub move_one : (update : UpdateSecretVersionStage) → move_forms update ≡ None
    → IsSome update.move_to_version_id ⊎ IsSome update.remove_from_version_id
move_one update h = (parts update h).4
