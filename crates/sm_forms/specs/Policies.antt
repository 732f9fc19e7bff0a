-- The form of a policy's text, and its first fault: AWS Secrets Manager API Reference, PutResourcePolicy
-- (ResourcePolicy, MalformedPolicyDocumentException).
use Rattle.std.specs.Prelude.{◌≡◌, ◌⊎◌, ℕ, List, Option, Some, None, Result, Ok, Err, codes}
use Rattle.sm_model.specs.declared.why.Why.{Why}
use Rattle.sm_model.specs.declared.why.Why.TheVariants.{Malformed, Memory}
use Rattle.sm_policy_text.specs.declared.policy.Policy.{Policy}
use Rattle.sm_policy_text.specs.Documents.{Flaw, policy_of, has_policy_length}
use Rattle.sm_forms.specs.Members.{form_unless}

-- 1 to 20,480 characters
abbrev pub policy_form : List ℕ → Option Why
policy_form text = form_unless (has_policy_length text) (codes "ResourcePolicy")

-- the first fault of a text that is no policy
abbrev pub flaw_in : Result Policy Flaw → Option Why
flaw_in (Ok policy) = None
flaw_in (Err flaw) = Some (Malformed flaw.0 flaw.1)

abbrev pub policy_flaw : List ℕ → Option Why
policy_flaw text = flaw_in (policy_of text)

-- the refusal is this one, or memory ran out
abbrev pub OrNoMemory : Option Why → Option Why → Type 0
OrNoMemory result wanted = (result ≡ Some Memory) ⊎ (result ≡ wanted)
