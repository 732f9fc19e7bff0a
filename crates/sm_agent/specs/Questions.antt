-- When two questions are the same, and how they are hashed.
use Rattle.std.specs.Prelude.{◌≡◌, ℕ, Bool, true, ◌&&◌, nat_eq, List, ◌++◌, Option, None, Some, refl}
use Rattle.std.proofs.Common.{ap, ◌∙◌}
use Rattle.std.specs.Cmp.{IsEquivalence, and_equiv, on_equiv, first_so, second_so}
use Rattle.std.specs.Cmp.Lexicographic.{pointwise, bytes_decides, nat_list_eq_equiv, options_equiv}
use Rattle.std.specs.Hash as fed
use Rattle.std.specs.Option.{option_eq}
use Rattle.sm_agent.specs.declared.question.Question.{Question}

-- both have the same text, or neither has one
abbrev pub same_option : Option (List ℕ) → Option (List ℕ) → Bool
same_option one other = option_eq (pointwise nat_eq) one other

-- both ask for the same version of the same secret
abbrev pub same_question : Question → Question → Bool
same_question one other = pointwise nat_eq one.secret_id other.secret_id
    && (same_option one.version_id other.version_id && same_option one.version_stage other.version_stage)

pub question_equiv : IsEquivalence same_question
question_equiv = and_equiv (on_equiv (λ (q : Question). q.secret_id) nat_list_eq_equiv)
    (and_equiv (on_equiv (λ (q : Question). q.version_id) (options_equiv nat_list_eq_equiv))
    (on_equiv (λ (q : Question). q.version_stage) (options_equiv nat_list_eq_equiv)))

-- what a question feeds a hasher
abbrev pub hash_writes : Question → List (List ℕ)
hash_writes question = fed.str question.secret_id
    ++ (fed.option fed.str question.version_id ++ fed.option fed.str question.version_stage)

text_is : (one other : Option (List ℕ)) → same_option one other ≡ true → one ≡ other
text_is None None same = refl
text_is None (Some b) same = absurd (cc)
text_is (Some a) None same = absurd (cc)
text_is (Some a) (Some b) same = ap Some ((bytes_decides a b).0 same)

-- a test that finds two questions the same decides whether they are
pub question_is : (one other : Question) → same_question one other ≡ true → one ≡ other
question_is one other same =
    let ids : Bool = pointwise nat_eq one.secret_id other.secret_id in
    let versions : Bool = same_option one.version_id other.version_id in
    let stages : Bool = same_option one.version_stage other.version_stage in
    let later : (versions && stages) ≡ true = second_so ids (versions && stages) same in
    let id : one.secret_id ≡ other.secret_id =
    (bytes_decides one.secret_id other.secret_id).0 (first_so ids (versions && stages) same) in
    let version : one.version_id ≡ other.version_id =
    text_is one.version_id other.version_id (first_so versions stages later) in
    let stage : one.version_stage ≡ other.version_stage =
    text_is one.version_stage other.version_stage (second_so versions stages later) in
    ap (λ (t : List ℕ). asking t one.version_id one.version_stage) id
    ∙ ap (λ (t : Option (List ℕ)). asking other.secret_id t one.version_stage) version
    ∙ ap (asking other.secret_id other.version_id) stage
  where
    asking : List ℕ → Option (List ℕ) → Option (List ℕ) → Question
    asking id version stage = record { secret_id = id; version_id = version; version_stage = stage }

pub same_questions_hash_alike : (one other : Question) → same_question one other ≡ true
    → hash_writes one ≡ hash_writes other
same_questions_hash_alike one other same = ap hash_writes (question_is one other same)
