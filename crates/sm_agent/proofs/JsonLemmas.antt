-- What is written has no number that is not whole.
use Rattle.std.proofs.Common.{◌≡◌, ℕ, List, Bool, true, false, ◌||◌, Ordering, Less, Equal, Greater, Option, None, Some, codes, refl, ap, ◌∙◌}
use Rattle.std.specs.Ordering.{nat_cmp, match_ordering}
use Rattle.std.specs.Cmp.Lexicographic.{slice_cmp}
use Rattle.serde_json.specs.Data.{Data, string, Members, no_members, member, put}
use Rattle.serde_json.specs.Written.{has_float, members_have_float}
use Rattle.sm_agent.specs.declared.question.Question.{Question}
use Rattle.sm_agent.specs.Messages.{put_text, question_members, refusal_members}

neither : (a b : Bool) → a ≡ false → b ≡ false → (a || b) ≡ false
neither a b p q = ap (λ x. x || b) p ∙ q

-- an object stays whole with a whole member more
put_plain : (name : List ℕ) (value : Data) (members : Members) → has_float value ≡ false
    → members_have_float members ≡ false → members_have_float (put name value members) ≡ false
put_plain name value no_members plain all = neither (has_float value) false plain refl
put_plain name value (member n v members) plain all =
    at_its_place (has_float v) (slice_cmp nat_cmp name n) refl all (put_plain name value members plain)
  where
    at_its_place : (f : Bool) (o : Ordering) → has_float v ≡ f → (f || members_have_float members) ≡ false
        → (members_have_float members ≡ false → members_have_float (put name value members) ≡ false)
        → members_have_float (match_ordering o (member name value (member n v members)) (member n value members)
        (member n v (put name value members))) ≡ false
    at_its_place true o is h more = absurd (let e = h in cc)
    at_its_place false Less is h more = neither (has_float value) (has_float v || members_have_float members) plain
        (neither (has_float v) (members_have_float members) is h)
    at_its_place false Equal is h more = neither (has_float value) (members_have_float members) plain h
    at_its_place false Greater is h more = neither (has_float v) (members_have_float (put name value members)) is
        (more h)

text_plain : (name : List ℕ) (text : Option (List ℕ)) (members : Members) → members_have_float members ≡ false
    → members_have_float (put_text name text members) ≡ false
text_plain name None all h = h
text_plain name (Some text) all h = put_plain name (string text) all refl h

pub question_plain : (question : Question) → members_have_float (question_members question) ≡ false
unfolding question_members
question_plain question =
    let id : Members = put (codes "SecretId") (string question.secret_id) no_members in
    let version : Members = put_text (codes "VersionId") question.version_id id in
    text_plain (codes "VersionStage") question.version_stage version
    (text_plain (codes "VersionId") question.version_id id
    (put_plain (codes "SecretId") (string question.secret_id) no_members refl refl))

pub refusal_plain : (message error : List ℕ) → members_have_float (refusal_members message error) ≡ false
unfolding refusal_members
refusal_plain message error =
    let first : Members = put (codes "Message") (string message) no_members in
    put_plain (codes "__type") (string error) first refl
    (put_plain (codes "Message") (string message) no_members refl refl)
