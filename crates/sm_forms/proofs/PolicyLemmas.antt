-- What it says of a policy's text that its form and its reading pass.
use Rattle.std.proofs.Common.{◌≡◌, ◌⊎◌, inl, inr, List, ℕ, Bool, true, ◌&&◌, Option, Some, None, Result, Ok, Err, refl}
use Rattle.std.specs.Prelude.{IsTrue}
use Rattle.std.proofs.lemmas.Bool.{and_from}
use Rattle.sm_model.specs.declared.why.Why.{Why}
use Rattle.sm_model.specs.declared.why.Why.TheVariants.{Memory}
use Rattle.sm_policy_text.specs.declared.policy.Policy.{Policy}
use Rattle.sm_policy_text.specs.Documents.{Flaw, policy_of, is_policy, is_read_policy, has_policy_length, is_resource_policy}
use Rattle.sm_forms.specs.Policies.{policy_form, flaw_in, policy_flaw, OrNoMemory}
use Rattle.sm_forms.proofs.MemberLemmas.{passes}

no_flaw : (read : Result Policy Flaw) → flaw_in read ≡ None → is_read_policy read ≡ true
no_flaw (Ok policy) h = refl
no_flaw (Err flaw) h = cc

-- no form fails of a request of which none is found to fail
pub none_formed : (wanted : Option Why) → OrNoMemory None wanted → wanted ≡ None
none_formed wanted (inl h) = absurd (cc)
none_formed wanted (inr h) = cc

-- a text that passes both may be the resource policy of a secret
pub policy_passes : (t : List ℕ) → policy_form t ≡ None → policy_flaw t ≡ None → IsTrue (is_resource_policy t)
unfolding is_policy is_resource_policy
policy_passes t form flaw =
    and_from (has_policy_length t) (is_policy t) (passes (has_policy_length t) _ form)
    (no_flaw (policy_of t) flaw)
