-- Judging a request: when it is refused, when it changes nothing, and what its change is.
use Rattle.std.proofs.Common.{◌≡◌, inl, ℕ, ◌≤◌, false, ◌||◌, List, length, Option, Some, None, is_none, IsSome, IsTrue, Result, Ok, Err, IfOk, refl, sym, ◌∙◌, subst, arith}
use Rattle.std.proofs.lemmas.Bool.Decides.{nat_tests}
use Rattle.std.proofs.Math.Bool.{or-false}
use Rattle.sm_base.specs.declared.memory.NoMemory.{NoMemory}
use Rattle.sm_base.specs.declared.moment.Moment.{Moment}
use Rattle.sm_base.specs.declared.moment.TheConstants.{LAST_READING}
use Rattle.sm_base.specs.Outcomes.{OrMemory}
use Rattle.sm_model.specs.declared.entry.Act.TheVariants.{Asked}
use Rattle.sm_model.specs.declared.person.Person.{Person}
use Rattle.sm_model.specs.declared.request.BatchGetSecretValue.{BatchGetSecretValue}
use Rattle.sm_model.specs.declared.request.CreateSecret.{CreateSecret}
use Rattle.sm_model.specs.declared.request.DeleteSecret.{DeleteSecret}
use Rattle.sm_model.specs.declared.request.Request.{Request}
use Rattle.sm_model.specs.declared.request.Request.TheVariants as requests
use Rattle.sm_model.specs.declared.rows.Rows.{Rows}
use Rattle.sm_model.specs.declared.why.Why.{Why}
use Rattle.sm_model.specs.Bounds.{is_date}
use Rattle.sm_model.specs.Needed.{needed}
use Rattle.sm_model.specs.Versions.{When}
use Rattle.sm_table.specs.Sound.{Sound}
use Rattle.sm_forms.specs.Forms.{forms_of}
use Rattle.sm_judge_common.specs.declared.judged.Judged.{Judged}
use Rattle.sm_judge_common.specs.declared.judged.Judged.TheVariants.{Accept, Refuse, Memory}
use Rattle.sm_judge_common.specs.Changes.{IsChange}
use Rattle.sm_judge_common.specs.Judged.{judged_told, refusal_told, IfAccepted, IfChange}
use Rattle.sm_judge_common.proofs.JudgedLemmas.{told_same, told_refusal}
use Rattle.sm_judge_values.proofs.CreateSecretLemmas.{create_refuses, create_repeats, create_change}
use Rattle.sm_judge_reads.proofs.DescribeSecretLemmas.{describe_refuses, describe_reads, describe_change}
use Rattle.sm_judge_reads.proofs.GetSecretValueLemmas.{get_refuses, get_reads, get_change}
use Rattle.sm_judge_values.proofs.PutSecretValueLemmas.{put_refuses, put_repeats, put_change}
use Rattle.sm_judge_values.proofs.UpdateSecretLemmas.{update_refuses, update_repeats, update_change}
use Rattle.sm_judge_labels_and_regions.proofs.UpdateSecretVersionStageLemmas.{move_refuses, move_changes, move_change}
use Rattle.sm_judge_lists_and_passwords.specs.BatchGetSecretValue.{value_question}
use Rattle.sm_judge_lists_and_passwords.proofs.BatchGetSecretValueLemmas.{batch_refuses, batch_reads}
use Rattle.sm_judge_lists_and_passwords.proofs.GetRandomPasswordLemmas.{password_refuses, password_reads}
use Rattle.sm_judge_lists_and_passwords.proofs.ListSecretVersionIdsLemmas.{versions_refuses, versions_reads, versions_change}
use Rattle.sm_judge_lists_and_passwords.proofs.ListSecretsLemmas.{list_refuses, list_reads}
use Rattle.sm_judge_policies.proofs.DeleteResourcePolicyLemmas.{delete_policy_refuses, delete_policy_changes, delete_policy_change}
use Rattle.sm_judge_policies.proofs.GetResourcePolicyLemmas.{get_policy_refuses, get_policy_reads, get_policy_change}
use Rattle.sm_judge_policies.proofs.PutResourcePolicyLemmas.{put_policy_refuses, put_policy_changes, put_policy_change}
use Rattle.sm_judge_policies.proofs.ValidateResourcePolicyLemmas.{validate_refuses, validate_reads, validate_change}
use Rattle.sm_judge_labels_and_regions.proofs.RemoveRegionsFromReplicationLemmas.{remove_refuses, remove_changes, remove_change}
use Rattle.sm_judge_labels_and_regions.proofs.ReplicateSecretToRegionsLemmas.{replicate_refuses, replicate_changes, replicate_change}
use Rattle.sm_judge_labels_and_regions.proofs.StopReplicationToReplicaLemmas.{stop_refuses, stop_reads, stop_change}
use Rattle.sm_judge_rotations.proofs.CancelRotateSecretLemmas.{cancel_refuses, cancel_changes, cancel_change}
use Rattle.sm_judge_rotations.proofs.RotateSecretLemmas.{rotate_refuses, rotate_repeats, rotate_change}
use Rattle.sm_judge_deletion_and_tags.specs.DeleteSecret.{delete_judgement, deletes_nobody}
use Rattle.sm_judge_deletion_and_tags.proofs.DeleteSecretLemmas.{delete_refuses, delete_changes, delete_change}
use Rattle.sm_judge_deletion_and_tags.proofs.RestoreSecretLemmas.{restore_refuses, restore_changes, restore_change}
use Rattle.sm_judge_deletion_and_tags.proofs.TagResourceLemmas.{tag_refuses, tag_changes, tag_change}
use Rattle.sm_judge_deletion_and_tags.proofs.UntagResourceLemmas.{untag_refuses, untag_changes, untag_change}
use Rattle.sm_core.specs.Effects.{effect, entry_of}
use Rattle.sm_core.specs.Histories.{IsDue, LegalAct}
use Rattle.sm_core.specs.Judging.{judgement_asking, judgement_for, judgement, is_batch, refusal, IsUnchanged}

-- it is refused exactly by the first test that fails
pub is_refused : (question : List ℕ → Option Why) (rows : Rows) (when : When) (drawn : List ℕ) (request : Request)
    → refusal_told (judgement_asking question rows when drawn request) ≡ Some (refusal rows when drawn request)
is_refused question rows when drawn (requests.BatchGetSecretValue batch) = batch_refuses question rows when.moment batch
is_refused question rows when drawn (requests.CreateSecret create) = create_refuses rows when.moment drawn create
is_refused question rows when drawn (requests.DeleteSecret delete) = delete_refuses rows when delete
is_refused question rows when drawn (requests.DescribeSecret describe) = describe_refuses rows when.moment describe
is_refused question rows when drawn (requests.GetRandomPassword get) = password_refuses drawn get
is_refused question rows when drawn (requests.GetSecretValue get) = get_refuses rows when.moment get
is_refused question rows when drawn (requests.ListSecretVersionIds list) = versions_refuses rows when.moment list
is_refused question rows when drawn (requests.ListSecrets list) = list_refuses rows when.moment list
is_refused question rows when drawn (requests.PutSecretValue put) = put_refuses rows when drawn put
is_refused question rows when drawn (requests.RemoveRegionsFromReplication remove) = remove_refuses rows when remove
is_refused question rows when drawn (requests.ReplicateSecretToRegions replicate) =
    replicate_refuses rows when replicate
is_refused question rows when drawn (requests.StopReplicationToReplica stop) = stop_refuses rows when.moment stop
is_refused question rows when drawn (requests.RestoreSecret restore) = restore_refuses rows when restore
is_refused question rows when drawn (requests.TagResource tag) = tag_refuses rows when tag
is_refused question rows when drawn (requests.UntagResource untag) = untag_refuses rows when untag
is_refused question rows when drawn (requests.UpdateSecret update) = update_refuses rows when drawn update
is_refused question rows when drawn (requests.UpdateSecretVersionStage update) = move_refuses rows when update
is_refused question rows when drawn (requests.CancelRotateSecret cancel) = cancel_refuses rows when cancel
is_refused question rows when drawn (requests.DeleteResourcePolicy delete) = delete_policy_refuses rows when delete
is_refused question rows when drawn (requests.GetResourcePolicy get) = get_policy_refuses rows when.moment get
is_refused question rows when drawn (requests.PutResourcePolicy put) = put_policy_refuses rows when put
is_refused question rows when drawn (requests.RotateSecret rotate) = rotate_refuses rows when drawn rotate
is_refused question rows when drawn (requests.ValidateResourcePolicy validate) =
    validate_refuses rows when.moment validate

-- a deletion has no repeat
deletes_unchanged : (rows : Rows) (when : When) (delete : DeleteSecret)
    → IfAccepted (delete_judgement rows when delete)
    (λ change. is_none change ≡ (deletes_nobody rows when.moment delete || false))
deletes_unchanged rows when delete =
    subst (λ b. IfAccepted (delete_judgement rows when delete) (λ change. is_none change ≡ b))
    (sym (or-false (deletes_nobody rows when.moment delete))) (delete_changes rows when delete)

-- nothing is changed exactly by what only reads, by the forced deletion of a secret that is not there, and by a repeat
pub is_unchanged : (question : List ℕ → Option Why) (rows : Rows) (when : When) (drawn : List ℕ) (request : Request)
    → IfAccepted (judgement_asking question rows when drawn request) (IsUnchanged rows when.moment drawn request)
is_unchanged question rows when drawn (requests.BatchGetSecretValue batch) = batch_reads question rows when.moment batch
is_unchanged question rows when drawn (requests.CreateSecret create) = create_repeats rows when.moment drawn create
is_unchanged question rows when drawn (requests.DeleteSecret delete) = deletes_unchanged rows when delete
is_unchanged question rows when drawn (requests.DescribeSecret describe) = describe_reads rows when.moment describe
is_unchanged question rows when drawn (requests.GetRandomPassword get) = password_reads drawn get
is_unchanged question rows when drawn (requests.GetSecretValue get) = get_reads rows when.moment get
is_unchanged question rows when drawn (requests.ListSecretVersionIds list) = versions_reads rows when.moment list
is_unchanged question rows when drawn (requests.ListSecrets list) = list_reads rows when.moment list
is_unchanged question rows when drawn (requests.PutSecretValue put) = put_repeats rows when drawn put
is_unchanged question rows when drawn (requests.RemoveRegionsFromReplication remove) = remove_changes rows when remove
is_unchanged question rows when drawn (requests.ReplicateSecretToRegions replicate) =
    replicate_changes rows when replicate
is_unchanged question rows when drawn (requests.StopReplicationToReplica stop) = stop_reads rows when.moment stop
is_unchanged question rows when drawn (requests.RestoreSecret restore) = restore_changes rows when restore
is_unchanged question rows when drawn (requests.TagResource tag) = tag_changes rows when tag
is_unchanged question rows when drawn (requests.UntagResource untag) = untag_changes rows when untag
is_unchanged question rows when drawn (requests.UpdateSecret update) = update_repeats rows when drawn update
is_unchanged question rows when drawn (requests.UpdateSecretVersionStage update) = move_changes rows when update
is_unchanged question rows when drawn (requests.CancelRotateSecret cancel) = cancel_changes rows when cancel
is_unchanged question rows when drawn (requests.DeleteResourcePolicy delete) =
    delete_policy_changes rows when delete
is_unchanged question rows when drawn (requests.GetResourcePolicy get) = get_policy_reads rows when.moment get
is_unchanged question rows when drawn (requests.PutResourcePolicy put) = put_policy_changes rows when put
is_unchanged question rows when drawn (requests.RotateSecret rotate) = rotate_repeats rows when drawn rotate
is_unchanged question rows when drawn (requests.ValidateResourcePolicy validate) =
    validate_reads rows when.moment validate

-- a moment that a clock can give is a date that a secret may keep
pub is_kept_date : (moment : Moment) → moment.0 ≤ LAST_READING → IsTrue (is_date moment)
is_kept_date moment h = grind (arith, nat_tests, h)

least : (create : CreateSecret) (n : ℕ) → n ≡ needed (requests.CreateSecret create)
    → needed (requests.CreateSecret create) ≤ n
least create n e = omega (arith, e)

-- the change of an accepted request is its entry's
pub change_is_entry : (question : List ℕ → Option Why) (rows : Rows) (when : When) (key drawn : List ℕ)
    (request : Request) → Sound rows
    → when.moment.0 ≤ LAST_READING
    → forms_of request ≡ None → length drawn ≡ needed request
    → IfChange (judgement_asking question rows when drawn request) (IsChange rows when.moment
    (effect rows (entry_of when key drawn request)))
change_is_entry question rows when key drawn (requests.BatchGetSecretValue batch) sound early forms room = tt
change_is_entry question rows when key drawn (requests.CreateSecret create) sound early forms room =
    create_change rows when.moment drawn create sound (is_kept_date when.moment early) forms
    (least create (length drawn) room)
change_is_entry question rows when key drawn (requests.DeleteSecret delete) sound early forms room =
    delete_change rows when delete sound early forms
change_is_entry question rows when key drawn (requests.DescribeSecret describe) sound early forms room =
    describe_change rows when.moment describe _
change_is_entry question rows when key drawn (requests.GetRandomPassword get) sound early forms room = tt
change_is_entry question rows when key drawn (requests.GetSecretValue get) sound early forms room =
    get_change rows when.moment get _
change_is_entry question rows when key drawn (requests.ListSecretVersionIds list) sound early forms room =
    versions_change rows when.moment list _
change_is_entry question rows when key drawn (requests.ListSecrets list) sound early forms room = tt
change_is_entry question rows when key drawn (requests.PutSecretValue put) sound early forms room =
    put_change rows when drawn put sound (is_kept_date when.moment early) forms
change_is_entry question rows when key drawn (requests.RemoveRegionsFromReplication remove) sound early forms room =
    remove_change rows when remove sound (is_kept_date when.moment early)
change_is_entry question rows when key drawn (requests.ReplicateSecretToRegions replicate) sound early forms room =
    replicate_change rows when replicate sound (is_kept_date when.moment early) forms
change_is_entry question rows when key drawn (requests.StopReplicationToReplica stop) sound early forms room =
    stop_change rows when.moment stop _
change_is_entry question rows when key drawn (requests.RestoreSecret restore) sound early forms room =
    restore_change rows when restore sound (is_kept_date when.moment early)
change_is_entry question rows when key drawn (requests.TagResource tag) sound early forms room =
    tag_change rows when tag sound (is_kept_date when.moment early) forms
change_is_entry question rows when key drawn (requests.UntagResource untag) sound early forms room =
    untag_change rows when untag sound (is_kept_date when.moment early)
change_is_entry question rows when key drawn (requests.UpdateSecret update) sound early forms room =
    update_change rows when drawn update sound (is_kept_date when.moment early) forms
change_is_entry question rows when key drawn (requests.UpdateSecretVersionStage update) sound early forms room =
    move_change rows when update sound (is_kept_date when.moment early)
change_is_entry question rows when key drawn (requests.CancelRotateSecret cancel) sound early forms room =
    cancel_change rows when cancel sound (is_kept_date when.moment early)
change_is_entry question rows when key drawn (requests.DeleteResourcePolicy delete) sound early forms room =
    delete_policy_change rows when delete sound (is_kept_date when.moment early)
change_is_entry question rows when key drawn (requests.GetResourcePolicy get) sound early forms room =
    get_policy_change rows when.moment get _
change_is_entry question rows when key drawn (requests.PutResourcePolicy put) sound early forms room =
    put_policy_change rows when put sound (is_kept_date when.moment early) forms
change_is_entry question rows when key drawn (requests.RotateSecret rotate) sound early forms room =
    rotate_change rows when drawn rotate sound early (is_kept_date when.moment early) forms
change_is_entry question rows when key drawn (requests.ValidateResourcePolicy validate) sound early forms room =
    validate_change rows when.moment validate _

-- no request is judged as out of memory
no_memory : (judged : Judged) (refusal : Option Why) → refusal_told judged ≡ Some refusal → IsSome (judged_told judged)
no_memory (Accept reply change) refusal e = refl
no_memory (Refuse why) refusal e = refl
no_memory Memory refusal e = absurd (let f : None ≡ Some refusal = e in cc)

pub judgement_is_no_memory : (question : List ℕ → Option Why) (rows : Rows) (when : When) (drawn : List ℕ)
    (request : Request) → IsSome (judged_told (judgement_asking question rows when drawn request))
judgement_is_no_memory question rows when drawn request =
    no_memory (judgement_asking question rows when drawn request) (refusal rows when drawn request)
    (is_refused question rows when drawn request)

-- ---- whatever is asked of the secrets of a batch

-- an entry is due for the same requests
due_alike : (question : List ℕ → Option Why) (rows : Rows) (when : When) (drawn : List ℕ) (request : Request)
    → IsDue (judgement_asking question rows when drawn request) → IsDue (judgement rows when drawn request)
due_alike question rows when drawn (requests.BatchGetSecretValue batch) due = absurd (cc)
due_alike question rows when drawn request due = due

-- so one is due for a person's request only where it is due whoever asks
pub due_for : (rows : Rows) (person : Person) (when : When) (drawn : List ℕ) (request : Request)
    → IsDue (judgement_for rows person when drawn request) → IsDue (judgement rows when drawn request)
due_for rows person when drawn request due =
    due_alike (value_question rows person when.moment) rows when drawn request due

-- and any other request is judged alike
alone_alike : (question : List ℕ → Option Why) (rows : Rows) (when : When) (drawn : List ℕ) (request : Request)
    → is_batch request ≡ false
    → judgement rows when drawn request ≡ judgement_asking question rows when drawn request
alone_alike question rows when drawn (requests.BatchGetSecretValue batch) alone = absurd (cc)
alone_alike question rows when drawn request alone = refl

pub is_alone : (request : Request)
    → ((batch : BatchGetSecretValue) → request ≡ requests.BatchGetSecretValue batch → ⊥) → is_batch request ≡ false
is_alone (requests.BatchGetSecretValue batch) other = absurd (other batch refl)
is_alone request other = refl

pub judged_alone : (result : Result Judged NoMemory) (question : List ℕ → Option Why) (rows : Rows) (when : When)
    (drawn : List ℕ) (request : Request) → is_batch request ≡ false
    → IfOk result (λ judged. judged ≡ judgement rows when drawn request)
    → IfOk result (λ judged. judged ≡ judgement_asking question rows when drawn request)
judged_alone (Ok judged) question rows when drawn request alone is =
    is ∙ alone_alike question rows when drawn request alone
judged_alone (Err e) question rows when drawn request alone is = tt

-- ---- all of it

-- there is a change only where an entry is due
if_due : (judged : Judged) (L : Type 0) → (IsDue judged → L) → IfChange judged (λ _. L)
if_due (Accept reply None) L f = tt
if_due (Accept reply (Some change)) L f = f refl
if_due (Refuse why) L f = tt
if_due Memory L f = tt

-- all that is said of a request that is judged so
pub record IsJudged (question : List ℕ → Option Why) (rows : Rows) (when : When) (key drawn : List ℕ)
    (request : Request) (result : Judged) : Type 0 where
  pub judged : OrMemory (judged_told result) (judgement_asking question rows when drawn request)
  pub refused : OrMemory (refusal_told result) (refusal rows when drawn request)
  pub unchanged : IfAccepted result (IsUnchanged rows when.moment drawn request)
  pub legal : IfChange result (λ _. LegalAct rows when drawn (Asked request))
  pub change : IfChange result (IsChange rows when.moment (effect rows (entry_of when key drawn request)))

pub judges : (question : List ℕ → Option Why) (rows : Rows) (when : When) (key drawn : List ℕ) (request : Request)
    (judged : Judged) → Sound rows → when.moment.0 ≤ LAST_READING → forms_of request ≡ None
    → length drawn ≡ needed request → judged ≡ judgement_asking question rows when drawn request
    → IsJudged question rows when key drawn request judged
judges question rows when key drawn request judged sound early forms room e =
    let model = judgement_asking question rows when drawn request in
    record {
      judged = told_same judged model e;
      refused = subst (λ j. OrMemory (refusal_told j) (refusal rows when drawn request)) (sym e)
          (told_refusal model (refusal rows when drawn request) (is_refused question rows when drawn request));
      unchanged = subst (λ j. IfAccepted j (IsUnchanged rows when.moment drawn request)) (sym e)
          (is_unchanged question rows when drawn request);
      legal = subst (λ j. IfChange j (λ _. LegalAct rows when drawn (Asked request))) (sym e)
          (if_due model (LegalAct rows when drawn (Asked request))
          (λ due. (room, forms, inl (due_alike question rows when drawn request due))));
      change = subst (λ j. IfChange j (IsChange rows when.moment (effect rows (entry_of when key drawn request))))
          (sym e)
          (change_is_entry question rows when key drawn request sound early forms room);
    }
