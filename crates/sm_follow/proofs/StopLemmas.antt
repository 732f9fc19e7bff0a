-- The SecretId of a message that stops a replication is spelled, where its form passes.
use Rattle.std.proofs.Common.{◌≡◌, IsTrue, List, ℕ, Some, None, subst}
use Rattle.sm_base.specs.Spelling.{is_secret_id}
use Rattle.sm_forms.specs.Forms.{forms_of}
use Rattle.sm_model.specs.declared.request.Request.{Request}
use Rattle.sm_model.specs.declared.request.Request.TheVariants as requests
use Rattle.sm_forms.proofs.OfSecretLemmas.{named_id}
use Rattle.sm_follow.specs.InputTurns.{stopped_by}

some_is : (a b : List ℕ) → Some a ≡ Some b → a ≡ b
some_is a b e = cc

none_some : (b : List ℕ) → None ≡ Some b → ⊥
none_some b e = cc

pub stop_spelled : (request : Request) (text : List ℕ) → stopped_by request ≡ Some text → forms_of request ≡ None
    → IsTrue (is_secret_id text)
stop_spelled (requests.StopReplicationToReplica stop) text is none =
    subst (λ (t : List ℕ). IsTrue (is_secret_id t)) (some_is stop.secret_id text is) (named_id stop none)
stop_spelled (requests.BatchGetSecretValue r) text is none = absurd (none_some text is)
stop_spelled (requests.CancelRotateSecret r) text is none = absurd (none_some text is)
stop_spelled (requests.CreateSecret r) text is none = absurd (none_some text is)
stop_spelled (requests.DeleteResourcePolicy r) text is none = absurd (none_some text is)
stop_spelled (requests.DeleteSecret r) text is none = absurd (none_some text is)
stop_spelled (requests.DescribeSecret r) text is none = absurd (none_some text is)
stop_spelled (requests.GetRandomPassword r) text is none = absurd (none_some text is)
stop_spelled (requests.GetResourcePolicy r) text is none = absurd (none_some text is)
stop_spelled (requests.GetSecretValue r) text is none = absurd (none_some text is)
stop_spelled (requests.ListSecretVersionIds r) text is none = absurd (none_some text is)
stop_spelled (requests.ListSecrets r) text is none = absurd (none_some text is)
stop_spelled (requests.PutResourcePolicy r) text is none = absurd (none_some text is)
stop_spelled (requests.PutSecretValue r) text is none = absurd (none_some text is)
stop_spelled (requests.RemoveRegionsFromReplication r) text is none = absurd (none_some text is)
stop_spelled (requests.ReplicateSecretToRegions r) text is none = absurd (none_some text is)
stop_spelled (requests.RestoreSecret r) text is none = absurd (none_some text is)
stop_spelled (requests.RotateSecret r) text is none = absurd (none_some text is)
stop_spelled (requests.TagResource r) text is none = absurd (none_some text is)
stop_spelled (requests.UntagResource r) text is none = absurd (none_some text is)
stop_spelled (requests.UpdateSecret r) text is none = absurd (none_some text is)
stop_spelled (requests.UpdateSecretVersionStage r) text is none = absurd (none_some text is)
stop_spelled (requests.ValidateResourcePolicy r) text is none = absurd (none_some text is)
