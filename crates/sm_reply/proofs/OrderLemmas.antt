-- The members of replies ascend, and stand exactly where their values are.
use Rattle.std.proofs.Common.{◌≡◌, ℕ, List, [], ◌∷◌, ◌++◌, true, Option, Some, None, option_map, inl, inr, refl, ap, sym, subst, ◌∙◌}
use Rattle.std.proofs.Common.{Ordering, Less, Equal, Greater}
use Rattle.std.proofs.lemmas.Cmp.{nat_list_cmp_total, tied_itself}
use Rattle.std.proofs.lemmas.Map.Text.{is_eq-slice_cmp}
use Rattle.std.proofs.lemmas.Slice.Eq.{bytes_eq-Decides}
use Rattle.std.specs.Cmp.Lexicographic.{slice_cmp}
use Rattle.std.specs.Ordering.{nat_cmp, is_eq, is_gt, match_ordering, ordering_reverse}
use Rattle.serde_json.specs.Data.{Data, Members, no_members, member, put}
use Rattle.serde_json.specs.Find.{get_member}
use Rattle.sm_base.specs.declared.moment.Moment.{Moment}
use Rattle.sm_model.specs.declared.reply.BatchError.{BatchError}
use Rattle.sm_model.specs.declared.reply.Described.{Described}
use Rattle.sm_model.specs.declared.reply.GotSecret.{GotSecret}
use Rattle.sm_model.specs.declared.reply.Reply.{Reply}
use Rattle.sm_model.specs.declared.reply.Reply.TheVariants as replies
use Rattle.sm_model.specs.declared.reply.ReplicationStatus.{ReplicationStatus}
use Rattle.sm_model.specs.declared.reply.RulesShown.{RulesShown}
use Rattle.sm_model.specs.declared.reply.Staged.{Staged}
use Rattle.sm_model.specs.declared.reply.ValidationError.{ValidationError}
use Rattle.sm_model.specs.declared.reply.VersionItem.{VersionItem}
use Rattle.sm_model.specs.declared.value.Tag.{Tag}
use Rattle.sm_reply.specs.Laws.{Precedes, Ascends, EachAscends, MembersAscend, Has, ShowsExactly, RepliesAscend, RepliesShowExactly, members_of_refusal, RefusalsAscend, RefusalsShowExactly}
use Rattle.sm_reply.specs.Members.{Given, items_of, members_of}
use Rattle.sm_reply.specs.Shown.{binary, date, count, labels_shown, replication_members, replication_object, replication_shown, batch_error_members, batch_error_object, got_members, got_object, rules_members, rules_object, tag_members, tag_object, put_versions, first_members, middle_members, rotation_members, described_end, described_members, listed_end, listed_members, listed_object, version_members, version_object, fault_members, fault_object, reply_members}
use Rattle.sm_reply.proofs.MemberLemmas.{first_holds, second_holds, before_all, ascend}

-- the other way round
less : (a b : List ℕ) → is_gt (slice_cmp nat_cmp a b) ≡ true → slice_cmp nat_cmp b a ≡ Less
less a b h = nat_list_cmp_total.antisymm b a ∙ ap ordering_reverse (greater (slice_cmp nat_cmp a b) h)
  where
    greater : (o : Ordering) → is_gt o ≡ true → o ≡ Greater
    greater Less h = absurd (let e = h in cc)
    greater Equal h = absurd (let e = h in cc)
    greater Greater h = refl

turned : (a b : List ℕ) → slice_cmp nat_cmp a b ≡ Greater → slice_cmp nat_cmp b a ≡ Less
turned a b h = nat_list_cmp_total.antisymm b a ∙ ap ordering_reverse h

-- what all values of a list are
abbrev IfUp : Option Data → Type 0
IfUp None = Unit {0}
IfUp (Some value) = Ascends value

abbrev AllUp : List Given → Type 0
AllUp [] = Unit {0}
AllUp (given ∷ more) = IfUp given.1 × AllUp more

precedes_of : (name : List ℕ) (list : List Given) → before_all name list ≡ true → Precedes name (members_of list)
precedes_of name [] h = tt
precedes_of name ((other, None) ∷ more) h =
    precedes_of name more (second_holds (is_gt (slice_cmp nat_cmp other name)) (before_all name more) h)
precedes_of name ((other, Some value) ∷ more) h = (
  less other name (first_holds (is_gt (slice_cmp nat_cmp other name)) (before_all name more) h),
  precedes_of name more (second_holds (is_gt (slice_cmp nat_cmp other name)) (before_all name more) h),
)

members_up : (list : List Given) → ascend list ≡ true → AllUp list → MembersAscend (members_of list)
members_up [] up all = tt
members_up ((name, None) ∷ more) up all =
    members_up more (second_holds (before_all name more) (ascend more) up) all.1
members_up ((name, Some value) ∷ more) up all = (
  all.0,
  precedes_of name more (first_holds (before_all name more) (ascend more) up),
  members_up more (second_holds (before_all name more) (ascend more) up) all.1,
)

module _ {A : Type 0} (shows : A → Data) (up : (part : A) → Ascends (shows part)) where
  if_up : (part : Option A) → IfUp (option_map shows part)
  if_up None = tt
  if_up (Some part) = up part

  items_up : (parts : List A) → EachAscends (items_of shows parts)
  items_up [] = tt
  items_up (part ∷ parts) = (up part, items_up parts)

string_up : (text : List ℕ) → Ascends (Data.string text)
string_up text = tt

date_up : (moment : Moment) → Ascends (date moment)
date_up moment = tt

labels_up : (labels : List (List ℕ)) → Ascends (labels_shown labels)
labels_up labels = items_up Data.string string_up labels

text_if_up : (text : Option (List ℕ)) → IfUp (option_map Data.string text)
text_if_up text = if_up Data.string string_up text

date_if_up : (moment : Option Moment) → IfUp (option_map date moment)
date_if_up moment = if_up date date_up moment

-- a member put at its place
precedes_further : (a b : List ℕ) (members : Members) → slice_cmp nat_cmp a b ≡ Less → Precedes b members
    → Precedes a members
precedes_further a b no_members h p = tt
precedes_further a b (member name value members) h p = (
  nat_list_cmp_total.trans a b name h p.0,
  precedes_further a b members h p.1,
)

precedes_put : (a name : List ℕ) (value : Data) (members : Members) → slice_cmp nat_cmp a name ≡ Less
    → Precedes a members → Precedes a (put name value members)
precedes_put a name value no_members h p = (h, tt)
precedes_put a name value (member n v members) h p =
    at_its_place (slice_cmp nat_cmp name n) (precedes_put a name value members h p.1)
  where
    at_its_place : (o : Ordering) → Precedes a (put name value members)
        → Precedes a (match_ordering o (member name value (member n v members)) (member n value members)
        (member n v (put name value members)))
    at_its_place Less more = (h, p)
    at_its_place Equal more = p
    at_its_place Greater more = (p.0, more)

put_up : (name : List ℕ) (value : Data) (members : Members) → Ascends value → MembersAscend members
    → MembersAscend (put name value members)
put_up name value no_members up all = (up, tt, tt)
put_up name value (member n v members) up all =
    at_its_place (slice_cmp nat_cmp name n) refl (put_up name value members up all.2)
  where
    at_its_place : (o : Ordering) → slice_cmp nat_cmp name n ≡ o → MembersAscend (put name value members)
        → MembersAscend (match_ordering o (member name value (member n v members)) (member n value members)
        (member n v (put name value members)))
    at_its_place Less is more = (up, (is, precedes_further name n members is all.1), all)
    at_its_place Equal is more = (up, all.1, all.2)
    at_its_place Greater is more = (all.0, precedes_put n name value members (turned name n is) all.1, more)

versions_up : (versions : List Staged) (found : Members) → MembersAscend found
    → MembersAscend (put_versions versions found)
versions_up [] found all = all
versions_up (version ∷ versions) found all =
    versions_up versions (put version.id (labels_shown version.labels) found)
    (put_up version.id (labels_shown version.labels) found (labels_up version.labels) all)

replica_up : (status : ReplicationStatus) → Ascends (replication_object status)
replica_up status = members_up (replication_members status) refl (tt, (tt, tt))

replicas_up : (regions : List ReplicationStatus) → Ascends (replication_shown regions)
replicas_up regions = items_up replication_object replica_up regions

replicas_if_up : (regions : Option (List ReplicationStatus)) → IfUp (option_map replication_shown regions)
replicas_if_up regions = if_up replication_shown replicas_up regions

tag_up : (tag : Tag) → Ascends (tag_object tag)
tag_up tag = members_up (tag_members tag) refl (tt, (tt, tt))

error_up : (error : BatchError) → Ascends (batch_error_object error)
error_up error = members_up (batch_error_members error) refl (tt, (tt, (tt, tt)))

fault_up : (fault : ValidationError) → Ascends (fault_object fault)
fault_up fault = members_up (fault_members fault) refl (tt, (tt, tt))

binary_up : (bytes : List ℕ) → Ascends (binary bytes)
binary_up bytes = tt

got_up : (reply : GotSecret) → AllUp (got_members reply)
got_up reply = (
  tt,
  (
    tt,
    (
      tt,
      (
        if_up binary binary_up reply.secret_binary,
        (text_if_up reply.secret_string, (tt, (labels_up reply.version_stages, tt))),
      ),
    ),
  ),
)

got_object_up : (reply : GotSecret) → Ascends (got_object reply)
got_object_up reply = members_up (got_members reply) refl (got_up reply)

count_up : (n : ℕ) → Ascends (count n)
count_up n = tt

rules_up : (rules : RulesShown) → Ascends (rules_object rules)
rules_up rules = members_up (rules_members rules) refl
    (if_up count count_up rules.days, (text_if_up rules.schedule, tt))

version_up : (version : VersionItem) → Ascends (version_object version)
version_up version = members_up (version_members version) refl
    (tt, (tt, (if_up labels_shown labels_up version.version_stages, tt)))

-- members and others behind them
both_up : (list more : List Given) → AllUp list → AllUp more → AllUp (list ++ more)
both_up [] more all others = others
both_up (given ∷ list) more all others = (all.0, both_up list more all.1 others)

first_up : (reply : Described) → AllUp (first_members reply)
first_up reply = (
  tt,
  (
    tt,
    (
      date_if_up reply.deleted_date,
      (text_if_up reply.description, (text_if_up reply.kms_key_id, tt)),
    ),
  ),
)

middle_up : (reply : Described) → AllUp (middle_members reply)
middle_up reply = (
  tt,
  (
    date_if_up reply.last_rotated_date,
    (tt, (date_if_up reply.next_rotation_date, (replicas_if_up reply.replication_status, tt))),
  ),
)

rotation_up : (reply : Described) → AllUp (rotation_members reply)
rotation_up reply =
    (tt, (text_if_up reply.rotation_lambda_arn, (if_up rules_object rules_up reply.rotation_rules, tt)))

ended_up : (reply : Described) (end : List Given) → AllUp end
    → AllUp (first_members reply ++ (middle_members reply ++ (rotation_members reply ++ end)))
ended_up reply end all =
    both_up (first_members reply) (middle_members reply ++ (rotation_members reply ++ end)) (first_up reply)
    (both_up (middle_members reply) (rotation_members reply ++ end) (middle_up reply)
    (both_up (rotation_members reply) end (rotation_up reply) all))

described_up : (reply : Described) → AllUp (described_members reply)
described_up reply =
    ended_up reply (described_end reply) (
      items_up tag_object tag_up reply.tags,
      (versions_up reply.version_ids_to_stages no_members tt, tt),
    )

listed_up : (reply : Described) → Ascends (listed_object reply)
listed_up reply =
    members_up (listed_members reply) refl
    (ended_up reply (listed_end reply) (
      versions_up reply.version_ids_to_stages no_members tt,
      (items_up tag_object tag_up reply.tags, tt),
    ))

-- the members of a reply
abbrev IfAllUp : Option (List Given) → Type 0
IfAllUp None = Unit {0}
IfAllUp (Some list) = AllUp list

reply_up : (reply : Reply) → IfAllUp (reply_members reply)
reply_up (replies.BatchGetSecretValue r) = (
  items_up batch_error_object error_up r.errors,
  (text_if_up r.next_token, (items_up got_object got_object_up r.secret_values, tt)),
)
reply_up (replies.CancelRotateSecret r) = (tt, (tt, (text_if_up r.version_id, tt)))
reply_up (replies.CreateSecret r) =
    (tt, (tt, (replicas_if_up r.replication_status, (text_if_up r.version_id, tt))))
reply_up (replies.DeleteResourcePolicy r) = (tt, (tt, tt))
reply_up (replies.DeleteSecret r) = (text_if_up r.arn, (tt, (tt, tt)))
reply_up (replies.DescribeSecret r) = described_up r
reply_up (replies.GetRandomPassword r) = (tt, tt)
reply_up (replies.GetResourcePolicy r) = (tt, (tt, (text_if_up r.resource_policy, tt)))
reply_up (replies.GetSecretValue r) = got_up r
reply_up (replies.ListSecretVersionIds r) =
    (tt, (tt, (text_if_up r.next_token, (items_up version_object version_up r.versions, tt))))
reply_up (replies.ListSecrets r) =
    (text_if_up r.next_token, (items_up listed_object listed_up r.secret_list, tt))
reply_up (replies.PutResourcePolicy r) = (tt, (tt, tt))
reply_up (replies.PutSecretValue r) = (tt, (tt, (tt, (labels_up r.version_stages, tt))))
reply_up (replies.RemoveRegionsFromReplication r) = (tt, (replicas_up r.replication_status, tt))
reply_up (replies.ReplicateSecretToRegions r) = (tt, (replicas_up r.replication_status, tt))
reply_up (replies.RestoreSecret r) = (tt, (tt, tt))
reply_up (replies.RotateSecret r) = (tt, (tt, (text_if_up r.version_id, tt)))
reply_up (replies.StopReplicationToReplica r) = (tt, tt)
reply_up replies.TagResource = tt
reply_up replies.UntagResource = tt
reply_up (replies.UpdateSecret r) = (tt, (tt, (text_if_up r.version_id, tt)))
reply_up (replies.UpdateSecretVersionStage r) = (tt, (tt, tt))
reply_up (replies.ValidateResourcePolicy r) = (tt, (items_up fault_object fault_up r.validation_errors, tt))

-- the names of each reply ascend
abbrev IfAscend : Option (List Given) → Type 0
IfAscend None = Unit {0}
IfAscend (Some list) = ascend list ≡ true

reply_ascends : (reply : Reply) → IfAscend (reply_members reply)
reply_ascends (replies.BatchGetSecretValue r) = refl
reply_ascends (replies.CancelRotateSecret r) = refl
reply_ascends (replies.CreateSecret r) = refl
reply_ascends (replies.DeleteResourcePolicy r) = refl
reply_ascends (replies.DeleteSecret r) = refl
reply_ascends (replies.DescribeSecret r) = refl
reply_ascends (replies.GetRandomPassword r) = refl
reply_ascends (replies.GetResourcePolicy r) = refl
reply_ascends (replies.GetSecretValue r) = refl
reply_ascends (replies.ListSecretVersionIds r) = refl
reply_ascends (replies.ListSecrets r) = refl
reply_ascends (replies.PutResourcePolicy r) = refl
reply_ascends (replies.PutSecretValue r) = refl
reply_ascends (replies.RemoveRegionsFromReplication r) = refl
reply_ascends (replies.ReplicateSecretToRegions r) = refl
reply_ascends (replies.RestoreSecret r) = refl
reply_ascends (replies.RotateSecret r) = refl
reply_ascends (replies.StopReplicationToReplica r) = refl
reply_ascends replies.TagResource = tt
reply_ascends replies.UntagResource = tt
reply_ascends (replies.UpdateSecret r) = refl
reply_ascends (replies.UpdateSecretVersionStage r) = refl
reply_ascends (replies.ValidateResourcePolicy r) = refl

one_up : (made : Option (List Given)) (list : List Given) → made ≡ Some list → IfAscend made → IfAllUp made
    → (ascend list ≡ true) × AllUp list
one_up None list is up all = absurd (let e = is in cc)
one_up (Some other) list is up all =
    let e : other ≡ list = cc in (ap ascend (sym e) ∙ up, subst AllUp e all)

pub replies_ascend : RepliesAscend
replies_ascend reply list is =
    let p = one_up (reply_members reply) list is (reply_ascends reply) (reply_up reply) in
    members_up list p.0 p.1

pub refusals_ascend : RefusalsAscend
refusals_ascend why = members_up (members_of_refusal why) refl (tt, (tt, tt))

-- a name that stands before all others is none of them
absent_behind : (name : List ℕ) (list : List Given) → before_all name list ≡ true
    → get_member name (members_of list) ≡ None
absent_behind name [] h = refl
absent_behind name ((other, None) ∷ more) h =
    absent_behind name more (second_holds (is_gt (slice_cmp nat_cmp other name)) (before_all name more) h)
absent_behind name ((other, Some value) ∷ more) h =
    ap (λ o. match_ordering o (get_member name (members_of more)) (Some value) (get_member name (members_of more)))
    (less other name (first_holds (is_gt (slice_cmp nat_cmp other name)) (before_all name more) h))
    ∙ absent_behind name more (second_holds (is_gt (slice_cmp nat_cmp other name)) (before_all name more) h)

-- a name of the list stands behind one that stands before all of it
behind_of : (name : List ℕ) (list : List Given) (one : Given) → before_all name list ≡ true → Has list one
    → is_gt (slice_cmp nat_cmp one.0 name) ≡ true
behind_of name [] one h there = absurd there
behind_of name (given ∷ more) one h (inl same) =
    subst (λ (g : Given). is_gt (slice_cmp nat_cmp g.0 name) ≡ true) same
    (first_holds (is_gt (slice_cmp nat_cmp given.0 name)) (before_all name more) h)
behind_of name (given ∷ more) one h (inr later) =
    behind_of name more one (second_holds (is_gt (slice_cmp nat_cmp given.0 name)) (before_all name more) h) later

further : (o : Ordering) (a b : Option Data) → is_gt o ≡ true → match_ordering o a b a ≡ a
further Less a b h = refl
further Equal a b h = absurd (let e = h in cc)
further Greater a b h = refl

given_shown : (list : List Given) (one : Given) → ascend list ≡ true → Has list one
    → get_member one.0 (members_of list) ≡ one.1
given_shown [] one up there = absurd there
given_shown ((name, None) ∷ more) one up (inl same) =
    subst (λ (g : Given). get_member g.0 (members_of more) ≡ g.1) same
    (absent_behind name more (first_holds (before_all name more) (ascend more) up))
given_shown ((name, Some value) ∷ more) one up (inl same) =
    subst (λ (g : Given). get_member g.0 (member name value (members_of more)) ≡ g.1) same
    (ap (λ o. match_ordering o (get_member name (members_of more)) (Some value) (get_member name (members_of more)))
    (tied_itself nat_list_cmp_total name))
given_shown ((name, None) ∷ more) one up (inr later) =
    given_shown more one (second_holds (before_all name more) (ascend more) up) later
given_shown ((name, Some value) ∷ more) one up (inr later) =
    further (slice_cmp nat_cmp one.0 name) (get_member one.0 (members_of more)) (Some value)
    (behind_of name more one (first_holds (before_all name more) (ascend more) up) later)
    ∙ given_shown more one (second_holds (before_all name more) (ascend more) up) later

-- names that compare as equal are equal
same_name : (a b : List ℕ) → slice_cmp nat_cmp a b ≡ Equal → a ≡ b
same_name a b h = (bytes_eq-Decides a b).0 (sym (is_eq-slice_cmp a b) ∙ ap is_eq h)

-- a name that none of the list has
unequal : (o : Ordering) (a b : Option Data) → (o ≡ Equal → ⊥) → match_ordering o a b a ≡ a
unequal Less a b h = refl
unequal Equal a b h = absurd (h refl)
unequal Greater a b h = refl

others_absent : (name : List ℕ) (list : List Given) → ((one : Given) → Has list one → one.0 ≡ name → ⊥)
    → get_member name (members_of list) ≡ None
others_absent name [] none = refl
others_absent name ((other, None) ∷ more) none = others_absent name more (λ one there. none one (inr there))
others_absent name ((other, Some value) ∷ more) none =
    unequal (slice_cmp nat_cmp name other) (get_member name (members_of more)) (Some value)
    (λ h. none (other, Some value) (inl refl) (sym (same_name name other h)))
    ∙ others_absent name more (λ one there. none one (inr there))

shows_exactly : (list : List Given) → ascend list ≡ true → ShowsExactly list
shows_exactly list up = record {
  given = λ one there. given_shown list one up there;
  nothing_else = λ name none. others_absent name list none;
}

pub replies_exact : RepliesShowExactly
replies_exact reply list is =
    shows_exactly list (one_up (reply_members reply) list is (reply_ascends reply) (reply_up reply)).0

pub refusals_exact : RefusalsShowExactly
refusals_exact why = shows_exactly (members_of_refusal why) refl

pub got_exact : (got : GotSecret) → ShowsExactly (got_members got)
got_exact got = shows_exactly (got_members got) refl

pub errors_exact : (error : BatchError) → ShowsExactly (batch_error_members error)
errors_exact error = shows_exactly (batch_error_members error) refl

pub listed_exact : (secret : Described) → ShowsExactly (listed_members secret)
listed_exact secret = shows_exactly (listed_members secret) refl

pub replicas_exact : (status : ReplicationStatus) → ShowsExactly (replication_members status)
replicas_exact status = shows_exactly (replication_members status) refl

pub rules_exact : (rules : RulesShown) → ShowsExactly (rules_members rules)
rules_exact rules = shows_exactly (rules_members rules) refl

pub tags_exact : (tag : Tag) → ShowsExactly (tag_members tag)
tags_exact tag = shows_exactly (tag_members tag) refl

pub versions_exact : (version : VersionItem) → ShowsExactly (version_members version)
versions_exact version = shows_exactly (version_members version) refl

pub faults_exact : (fault : ValidationError) → ShowsExactly (fault_members fault)
faults_exact fault = shows_exactly (fault_members fault) refl
