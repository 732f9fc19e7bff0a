-- The forms of DeleteSecret: AWS Secrets Manager API Reference, DeleteSecret.
use Rattle.std.specs.Prelude.{ℤ, pos, negsuc, Bool, false, not, ◌&&◌, nat_le, Option, Some, None, is_some, codes}
use Rattle.sm_model.specs.declared.request.DeleteSecret.{DeleteSecret}
use Rattle.sm_model.specs.declared.why.Why.{Why}
use Rattle.sm_base.specs.Spelling.{is_secret_id}
use Rattle.sm_base.specs.declared.limits.TheConstants.{SHORTEST_WINDOW, LONGEST_WINDOW}
use Rattle.sm_forms.specs.Members.{first_why, form_unless}

-- a window has 7 to 30 days
abbrev pub is_window : ℤ → Bool
is_window (pos days) = nat_le SHORTEST_WINDOW days && nat_le days LONGEST_WINDOW
is_window (negsuc n) = false

abbrev pub window_form : Option ℤ → Option Why
window_form None = None
window_form (Some days) = form_unless (is_window days) (codes "RecoveryWindowInDays")

-- a window is there, and the deletion is forced
abbrev pub is_forced_with_window : DeleteSecret → Bool
is_forced_with_window delete = is_some delete.recovery_window_in_days && delete.force_delete_without_recovery

-- the members, in ascending byte order of their names, and then that no window stands beside a forced deletion
abbrev pub delete_forms : DeleteSecret → Option Why
delete_forms delete =
    first_why (window_form delete.recovery_window_in_days)
    (first_why (form_unless (is_secret_id delete.secret_id) (codes "SecretId"))
    (form_unless (not (is_forced_with_window delete)) (codes "ForceDeleteWithoutRecovery")))
