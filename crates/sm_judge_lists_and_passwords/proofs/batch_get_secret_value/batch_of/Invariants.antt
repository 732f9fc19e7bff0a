use Rattle.std.proofs.Common.{◌≡◌, take}
use Rattle.sm_judge_lists_and_passwords.specs.BatchGetSecretValue.{answered_to, values_of, errors_of}
use Rattle.sm_judge_lists_and_passwords.proofs.batch_get_secret_value.batch_of.Given as goal

abbrev pub invariant-loop-id : goal.invariant-loop-id
invariant-loop-id l =
    (l.errors ≡ errors_of (answered_to l.person l.table l.moment) (take l.id-index l.ids))
    × (l.secret_values ≡ values_of (answered_to l.person l.table l.moment) (take l.id-index l.ids))
    × (l.next_token ≡ l.fn.next_token)
