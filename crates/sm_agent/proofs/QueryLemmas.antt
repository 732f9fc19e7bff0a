-- Queries that are read pair by pair.
use Rattle.std.proofs.Common.{◌≡◌, ℕ, suc, ◌&&◌, cond, Bool, true, false, List, [], ◌∷◌, ◌++◌, length, map, Option, None, Some, is_none, Result, Ok, Err, refl, ap, sym, subst, ◌∙◌, append_assoc, append-nil}
use Rattle.std.proofs.lemmas.Str.{IsUtf8-from_is_utf8, is_utf8-from_IsUtf8}
use Rattle.std.specs.Str.{IsUtf8, is_utf8}
use Rattle.sm_base.specs.Outcomes.{OrMemory}
use Rattle.sm_agent.specs.declared.key.Key.{Key}
use Rattle.sm_agent.specs.declared.key.Key.TheVariants.{SecretId, VersionId, VersionStage, RefreshNow}
use Rattle.sm_agent.specs.declared.members.Members.{Members}
use Rattle.sm_agent.specs.declared.path.QueryRefused.{QueryRefused}
use Rattle.sm_agent.specs.declared.path.QueryRefused.TheVariants as refused
use Rattle.sm_agent.specs.declared.question.Question.{Question}
use Rattle.sm_agent.specs.Cuts.{pieces, pieces_left}
use Rattle.sm_agent.specs.Queries.{Pair, pair_of, pairs_of, key_text, key_of, text_under, is_formed, is_fine, first_bad, asked_unless, asked_with, is_fresh, text_query, query_of}
use Rattle.sm_agent.specs.Members.{member, with_member, with_text, with_pair, key_refused, is_free, AreOf, IsRefusedBy, no_members, question_of, question_with}
use Rattle.sm_agent.proofs.KeyLemmas.{key_is, own_text, other_text}

-- the pairs of a text that is left
abbrev pub pairs_left : Option (List ℕ) → List Pair
pairs_left left = map pair_of (pieces_left 38 left)

-- how much is left
abbrev pub left_size : Option (List ℕ) → ℕ
left_size None = 0
left_size (Some text) = suc (length text)

-- How far a query has come: the pairs that were read are fine and give the members, and the rest is left.
pub record Comes (pairs : List Pair) (members : Members) (left : Option (List ℕ)) : Type 0 where
  pub before : List Pair
  pub whole : pairs ≡ before ++ pairs_left left
  pub fine : first_bad [] pairs ≡ first_bad before (pairs_left left)
  pub given : AreOf before members

-- nothing is read yet
none_given : AreOf [] no_members
none_given = record { secret_id = refl; version_id = refl; version_stage = refl; refresh_now = refl }

pub begins_empty : (query : List ℕ) → length query ≡ 0 → Comes (pairs_of query) no_members None
begins_empty [] h = record { before = []; whole = refl; fine = refl; given = none_given }
begins_empty (b ∷ query) h = absurd (cc)

pub begins : (query : List ℕ) → ¬ (length query ≡ 0) → Comes (pairs_of query) no_members (Some query)
begins [] h = absurd (h refl)
begins (b ∷ query) h = record { before = []; whole = refl; fine = refl; given = none_given }

-- ---- a pair more

member_is : (before : List Pair) (members : Members) → AreOf before members → (key : Key)
    → member members key ≡ text_under (key_text key) before
member_is before members given SecretId = given.secret_id
member_is before members given VersionId = given.version_id
member_is before members given VersionStage = given.version_stage
member_is before members given RefreshNow = given.refresh_now

module _ (before : List Pair) (members : Members) (given : AreOf before members) (pair : Pair) where
  free_is : (key : Key) → pair.key ≡ key_text key → is_none (member members key) ≡ is_none (text_under pair.key before)
  free_is key spelled =
      ap is_none (member_is before members given key)
      ∙ ap (λ (k : List ℕ). is_none (text_under k before)) (sym spelled)

  formed_by : (key : Option Key) → key_of pair.key ≡ key
      → (is_formed key pair.text && is_free members key)
      ≡ (is_formed key pair.text && is_none (text_under pair.key before))
  formed_by None is = refl
  formed_by (Some key) is = ap (λ b. is_formed (Some key) pair.text && b) (free_is key (key_is pair.key key is))

  -- the code's test is the definition's
  refused_is : key_refused members pair ≡ cond (is_fine before pair) None (Some pair.key)
  refused_is = ap (λ b. cond b None (Some pair.key)) (formed_by (key_of pair.key) refl)

  given_more : (key : Key) (text : List ℕ) → pair.key ≡ key_text key → pair.text ≡ Some text
      → text_under (key_text key) before ≡ None → AreOf (before ++ pair ∷ []) (with_member members key text)
  given_more SecretId text spelled is free = record {
    secret_id = own_text before pair SecretId spelled text is free;
    version_id = other_text before pair SecretId spelled VersionId _ refl given.version_id;
    version_stage = other_text before pair SecretId spelled VersionStage _ refl given.version_stage;
    refresh_now = other_text before pair SecretId spelled RefreshNow _ refl given.refresh_now;
  }
  given_more VersionId text spelled is free = record {
    secret_id = other_text before pair VersionId spelled SecretId _ refl given.secret_id;
    version_id = own_text before pair VersionId spelled text is free;
    version_stage = other_text before pair VersionId spelled VersionStage _ refl given.version_stage;
    refresh_now = other_text before pair VersionId spelled RefreshNow _ refl given.refresh_now;
  }
  given_more VersionStage text spelled is free = record {
    secret_id = other_text before pair VersionStage spelled SecretId _ refl given.secret_id;
    version_id = other_text before pair VersionStage spelled VersionId _ refl given.version_id;
    version_stage = own_text before pair VersionStage spelled text is free;
    refresh_now = other_text before pair VersionStage spelled RefreshNow _ refl given.refresh_now;
  }
  given_more RefreshNow text spelled is free = record {
    secret_id = other_text before pair RefreshNow spelled SecretId _ refl given.secret_id;
    version_id = other_text before pair RefreshNow spelled VersionId _ refl given.version_id;
    version_stage = other_text before pair RefreshNow spelled VersionStage _ refl given.version_stage;
    refresh_now = own_text before pair RefreshNow spelled text is free;
  }

  none_is : (text : Option (List ℕ)) → is_none text ≡ true → text ≡ None
  none_is None h = refl
  none_is (Some text) h = absurd (cc)

  both : (a b : Bool) → cond (a && b) None (Some pair.key) ≡ None → (a ≡ true) × (b ≡ true)
  both true true h = (refl, refl)
  both true false h = cc
  both false b h = cc

  -- a pair that is fine gives its key its text
  added_by : (key : Option Key) (text : Option (List ℕ)) → key_of pair.key ≡ key → pair.text ≡ text
      → cond (is_formed key text && is_free members key) None (Some pair.key) ≡ None
      → AreOf (before ++ pair ∷ []) (with_text members key text)
  added_by None text is told h = absurd (cc)
  added_by (Some key) None is told h = absurd (cc)
  added_by (Some key) (Some text) is told h =
      given_more key text (key_is pair.key key is) told
      (sym (member_is before members given key)
      ∙ none_is (member members key) (both (is_formed (Some key) (Some text)) (is_none (member members key)) h).1)

  added : key_refused members pair ≡ None → AreOf (before ++ pair ∷ []) (with_pair members pair)
  added h = added_by (key_of pair.key) pair.text refl refl h

-- ---- a step of the loop

module _ (pairs : List Pair) (members : Members) (text piece : List ℕ) (rest : Option (List ℕ))
    (cut : pieces 38 text ≡ piece ∷ pieces_left 38 rest) (comes : Comes pairs members (Some text)) where
  left_is : pairs_left (Some text) ≡ pair_of piece ∷ pairs_left rest
  left_is = ap (map pair_of) cut

  first_is : first_bad [] pairs ≡ first_bad comes.before (pair_of piece ∷ pairs_left rest)
  first_is = comes.fine ∙ ap (first_bad comes.before) left_is

  fine_by : (t : Bool) → cond t None (Some (pair_of piece).key) ≡ None
      → cond t (first_bad (comes.before ++ pair_of piece ∷ []) (pairs_left rest)) (Some (pair_of piece).key)
      ≡ first_bad (comes.before ++ pair_of piece ∷ []) (pairs_left rest)
  fine_by true h = refl
  fine_by false h = cc

  pub step : (new : Members) → key_refused members (pair_of piece) ≡ None → new ≡ with_pair members (pair_of piece)
      → Comes pairs new rest
  step new h is = record {
    before = comes.before ++ pair_of piece ∷ [];
    whole = comes.whole ∙ ap (λ (l : List Pair). comes.before ++ l) left_is
        ∙ sym (append_assoc comes.before (pair_of piece ∷ []) (pairs_left rest));
    fine = first_is ∙ fine_by (is_fine comes.before (pair_of piece))
        (sym (refused_is comes.before members comes.given (pair_of piece)) ∙ h);
    given = subst (AreOf (comes.before ++ pair_of piece ∷ [])) (sym is)
        (added comes.before members comes.given (pair_of piece) h);
  }

  bad_by : (t : Bool) (key : List ℕ) → cond t None (Some (pair_of piece).key) ≡ Some key
      → cond t (first_bad (comes.before ++ pair_of piece ∷ []) (pairs_left rest)) (Some (pair_of piece).key) ≡ Some key
  bad_by true key h = cc
  bad_by false key h = h

  -- what is refused here is refused of the whole query
  pub refusal : (why : QueryRefused) → IsRefusedBy (key_refused members (pair_of piece)) why
      → IsRefusedBy (first_bad [] pairs) why
  refusal refused.Path h = h
  refusal (refused.Key key) h =
      first_is ∙ bad_by (is_fine comes.before (pair_of piece)) key
      (sym (refused_is comes.before members comes.given (pair_of piece)) ∙ h)
  refusal refused.Memory h = tt

-- ---- the end

module _ (pairs : List Pair) (members : Members) (comes : Comes pairs members None) where
  pub all_given : AreOf pairs members
  all_given = subst (λ (p : List Pair). AreOf p members) (sym (comes.whole ∙ append-nil comes.before)) comes.given

  pub all_fine : first_bad [] pairs ≡ None
  all_fine = comes.fine

-- what the members ask for is what the pairs do
pub asks_same : (pairs : List Pair) (members : Members) → AreOf pairs members → first_bad [] pairs ≡ None
    → question_of members ≡ asked_unless pairs (first_bad [] pairs)
asks_same pairs members given fine =
    ap (question_with members) given.secret_id ∙ by (text_under (key_text SecretId) pairs)
    ∙ ap (asked_unless pairs) (sym fine)
  where
    by : (id : Option (List ℕ)) → question_with members id ≡ asked_with pairs id
    by None = refl
    by (Some id) =
        ap (λ (m : Option (List ℕ) × (Option (List ℕ) × Option (List ℕ))).
        asking id m.0 m.1.0 (is_fresh m.1.1)) (
        let v : members.version_id ≡ text_under (key_text VersionId) pairs = given.version_id in
        let s : members.version_stage ≡ text_under (key_text VersionStage) pairs = given.version_stage in
        let f : members.refresh_now ≡ text_under (key_text RefreshNow) pairs = given.refresh_now in
        cc
        )
      where
        asking : List ℕ → Option (List ℕ) → Option (List ℕ) → Bool → Result (Question × Bool) QueryRefused
        asking id version stage fresh =
            Ok (record { secret_id = id; version_id = version; version_stage = stage }, fresh)

-- ---- bytes that are a text

pub read_text : (path text : List ℕ) (told : Option (Result (Question × Bool) QueryRefused)) → IsUtf8 path
    → text ≡ path → OrMemory told (text_query text) → OrMemory told (query_of path)
read_text path text told utf8 same h =
    subst (OrMemory told)
    (ap text_query same
    ∙ sym (ap (λ b. cond b (text_query path) (Err refused.Path)) (is_utf8-from_IsUtf8 path utf8))) h

pub no_text : (path : List ℕ) → ¬ IsUtf8 path → Err refused.Path ≡ query_of path
no_text path other = by (is_utf8 path) refl
  where
    by : (b : Bool) → b ≡ is_utf8 path → Err refused.Path ≡ cond b (text_query path) (Err refused.Path)
    by true is = absurd (other (IsUtf8-from_is_utf8 path (sym is)))
    by false is = refl
