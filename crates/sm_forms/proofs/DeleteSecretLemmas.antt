-- What it says of a DeleteSecret that its forms pass.
use Rattle.std.proofs.Common.{◌≡◌, Bool, true, false, not, Option, Some, None, IfSome, refl}
use Rattle.std.specs.Prelude.{ℤ, IsTrue}
use Rattle.sm_model.specs.declared.request.DeleteSecret.{DeleteSecret}
use Rattle.sm_base.specs.Spelling.{is_secret_id}
use Rattle.sm_forms.specs.DeleteSecret.{is_window, window_form, is_forced_with_window, delete_forms}
use Rattle.sm_forms.proofs.MemberLemmas.{none_first, passes}

window_passes : (window : Option ℤ) → window_form window ≡ None → IfSome window (λ days. IsTrue (is_window days))
window_passes None h = tt
window_passes (Some days) h = passes (is_window days) _ h

negated : (b : Bool) → not b ≡ true → b ≡ false
negated false e = refl
negated true e = let f : false ≡ true = e in cc

-- each of the members, and then the joint test
parts : (delete : DeleteSecret) → delete_forms delete ≡ None
    → IfSome delete.recovery_window_in_days (λ days. IsTrue (is_window days)) × IsTrue (is_secret_id delete.secret_id)
    × (is_forced_with_window delete ≡ false)
parts delete h =
    let window = none_first _ _ h in
    let id = none_first _ _ window.1 in (
      window_passes delete.recovery_window_in_days window.0,
      passes (is_secret_id delete.secret_id) _ id.0,
      negated (is_forced_with_window delete) (passes (not (is_forced_with_window delete)) _ id.1),
    )

pub delete_window : (delete : DeleteSecret) → delete_forms delete ≡ None
    → IfSome delete.recovery_window_in_days (λ days. IsTrue (is_window days))
delete_window delete h = (parts delete h).0

pub delete_id : (delete : DeleteSecret) → delete_forms delete ≡ None → IsTrue (is_secret_id delete.secret_id)
delete_id delete h = (parts delete h).1

-- no window stands beside a forced deletion
pub delete_one : (delete : DeleteSecret) → delete_forms delete ≡ None → is_forced_with_window delete ≡ false
delete_one delete h = (parts delete h).2
