-- Requests that a replica answers read one secret, and need no random bytes.
use Rattle.std.proofs.Common.{◌≡◌, ℕ, true, IsTrue, List, Option, Some, None, is_none, refl, sym, subst, ◌∙◌}
use Rattle.sm_base.specs.Spelling.{is_secret_id}
use Rattle.sm_base.specs.declared.moment.Moment.{Moment}
use Rattle.sm_core.specs.Judging.{IsUnchanged, is_reading}
use Rattle.sm_forms.specs.Forms.{forms_of}
use Rattle.sm_forms.proofs.OfSecretLemmas.{named_id}
use Rattle.sm_forms.proofs.GetSecretValueLemmas.{get_id}
use Rattle.sm_model.specs.Needed.{needed}
use Rattle.sm_model.specs.declared.entry.Change.{Change}
use Rattle.sm_model.specs.declared.request.Request.{Request}
use Rattle.sm_model.specs.declared.request.Request.TheVariants as requests
use Rattle.sm_model.specs.declared.rows.Rows.{Rows}
use Rattle.sm_replica.specs.Answering.{read_by}

-- what is said of a request that reads the secret
pub record ReadsOnly (request : Request) (text : List ℕ) : Type 0 where
  pub spelled : forms_of request ≡ None → IsTrue (is_secret_id text)
  pub needs : needed request ≡ 0
  pub reads : is_reading request ≡ true

some_is : (a b : List ℕ) → Some a ≡ Some b → a ≡ b
some_is a b e = cc

none_some : (b : List ℕ) → None ≡ Some b → ⊥
none_some b e = cc

pub reads_only : (request : Request) (text : List ℕ) → read_by request ≡ Some text → ReadsOnly request text
reads_only (requests.GetSecretValue get) text e = record {
  spelled = λ none. subst (λ (t : List ℕ). IsTrue (is_secret_id t)) (some_is get.secret_id text e) (get_id get none);
  needs = refl;
  reads = refl;
}
reads_only (requests.DescribeSecret describe) text e = record {
  spelled = λ none. subst (λ (t : List ℕ). IsTrue (is_secret_id t)) (some_is describe.secret_id text e)
      (named_id describe none);
  needs = refl;
  reads = refl;
}
reads_only (requests.BatchGetSecretValue r) text e = absurd (none_some text e)
reads_only (requests.CancelRotateSecret r) text e = absurd (none_some text e)
reads_only (requests.CreateSecret r) text e = absurd (none_some text e)
reads_only (requests.DeleteResourcePolicy r) text e = absurd (none_some text e)
reads_only (requests.DeleteSecret r) text e = absurd (none_some text e)
reads_only (requests.GetRandomPassword r) text e = absurd (none_some text e)
reads_only (requests.GetResourcePolicy r) text e = absurd (none_some text e)
reads_only (requests.ListSecretVersionIds r) text e = absurd (none_some text e)
reads_only (requests.ListSecrets r) text e = absurd (none_some text e)
reads_only (requests.PutResourcePolicy r) text e = absurd (none_some text e)
reads_only (requests.PutSecretValue r) text e = absurd (none_some text e)
reads_only (requests.RemoveRegionsFromReplication r) text e = absurd (none_some text e)
reads_only (requests.ReplicateSecretToRegions r) text e = absurd (none_some text e)
reads_only (requests.RestoreSecret r) text e = absurd (none_some text e)
reads_only (requests.RotateSecret r) text e = absurd (none_some text e)
reads_only (requests.StopReplicationToReplica r) text e = absurd (none_some text e)
reads_only (requests.TagResource r) text e = absurd (none_some text e)
reads_only (requests.UntagResource r) text e = absurd (none_some text e)
reads_only (requests.UpdateSecret r) text e = absurd (none_some text e)
reads_only (requests.UpdateSecretVersionStage r) text e = absurd (none_some text e)
reads_only (requests.ValidateResourcePolicy r) text e = absurd (none_some text e)

pub secret_spelled : (request : Request) (text : List ℕ) → read_by request ≡ Some text → forms_of request ≡ None
    → IsTrue (is_secret_id text)
secret_spelled request text e none = (reads_only request text e).spelled none

pub nothing_needed : (request : Request) (text : List ℕ) → read_by request ≡ Some text → 0 ≡ needed request
nothing_needed request text e = sym (reads_only request text e).needs

-- nothing is changed
pub nothing_changed : (rows : Rows) (moment : Moment) (drawn : List ℕ) (request : Request) (text : List ℕ)
    (change : Option Change) → read_by request ≡ Some text → IsUnchanged rows moment drawn request change
    → change ≡ None
nothing_changed rows moment drawn request text change e unchanged =
    by change (unchanged ∙ rw (reads_only request text e).reads refl)
  where
    by : (c : Option Change) → is_none c ≡ true → c ≡ None
    by None is = refl
    by (Some x) is = cc
