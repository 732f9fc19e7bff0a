-- What the path of a request asks for.
-- AWS Secrets Manager User Guide, "Using the AWS Secrets Manager Agent" (secretsmanager/get, secretId, versionId,
-- versionStage, refreshNow).
use Rattle.std.specs.Prelude.{ℕ, Bool, false, ◌&&◌, ◌||◌, ◌==◌, if◌then◌else◌, List, [], ◌∷◌, ◌++◌, map, codes, Option, None, Some, is_none, Result, Ok, Err}
use Rattle.std.specs.List.{list_any, before_first, after_first, slice_split}
use Rattle.std.specs.Option.{option_or}
use Rattle.std.specs.Str.{is_utf8}
use Rattle.sm_base.specs.Spelling.{is_secret_id, is_token, is_label}
use Rattle.sm_base.specs.Texts.{same_text}
use Rattle.sm_agent.specs.declared.key.Key.{Key}
use Rattle.sm_agent.specs.declared.key.Key.TheVariants.{SecretId, VersionId, VersionStage, RefreshNow}
use Rattle.sm_agent.specs.declared.path.QueryRefused.{QueryRefused}
use Rattle.sm_agent.specs.declared.path.QueryRefused.TheVariants as refused
use Rattle.sm_agent.specs.declared.question.Question.{Question}
use Rattle.sm_agent.specs.Values.{decoded}

-- how a key is spelled
unfoldable pub key_text : Key → List ℕ
key_text SecretId = codes "secretId"
key_text VersionId = codes "versionId"
key_text VersionStage = codes "versionStage"
key_text RefreshNow = codes "refreshNow"

-- the key that a text is, as it is spelled
abbrev pub key_of : List ℕ → Option Key
key_of text =
    if same_text text (key_text SecretId) then Some SecretId
    else if same_text text (key_text VersionId) then Some VersionId
    else if same_text text (key_text VersionStage) then Some VersionStage
    else if same_text text (key_text RefreshNow) then Some RefreshNow
    else None

-- the texts of the two that RefreshNow may have
unfoldable pub is_true : List ℕ → Bool
is_true text = same_text text (codes "true")

unfoldable pub is_false : List ℕ → Bool
is_false text = same_text text (codes "false")

-- the text is in the form of the key's value
abbrev pub passes : Key → List ℕ → Bool
passes SecretId text = is_secret_id text
passes VersionId text = is_token text
passes VersionStage text = is_label text
passes RefreshNow text = is_true text || is_false text

-- a key as it is spelled, and the text that its value stands for, where the value is in its form
pub record Pair : Type 0 where
  pub key : List ℕ
  pub text : Option (List ℕ)

-- the text behind the first =
abbrev pub text_in : List ℕ → Option (List ℕ)
text_in piece = if list_any (λ b. b == 61) piece then decoded (after_first (λ b. b == 61) piece) else None

-- a piece of a query: what stands before the first = is the key
abbrev pub pair_of : List ℕ → Pair
pair_of piece = record { key = before_first (λ b. b == 61) piece; text = text_in piece }

-- the pairs of a query, with & between two; an empty one has none
abbrev pub pairs_of : List ℕ → List Pair
pairs_of [] = []
pairs_of (b ∷ query) = map pair_of (slice_split (λ b. b == 38) (b ∷ query))

-- the text that a pair gives a key
abbrev pub text_for : List ℕ → Pair → Option (List ℕ)
text_for key pair = if same_text pair.key key then pair.text else None

-- the first that one of the pairs gives it
abbrev pub text_under : List ℕ → List Pair → Option (List ℕ)
text_under key [] = None
text_under key (pair ∷ pairs) = option_or (text_for key pair) (text_under key pairs)

-- it is a key, and the text is in its form
abbrev pub is_formed : Option Key → Option (List ℕ) → Bool
is_formed None text = false
is_formed (Some key) None = false
is_formed (Some key) (Some text) = passes key text

-- a pair that is in its form, and whose key has no text from those before it
abbrev pub is_fine : List Pair → Pair → Bool
is_fine before pair = is_formed (key_of pair.key) pair.text && is_none (text_under pair.key before)

-- the key of the first pair that is not fine behind those before it
abbrev pub first_bad : List Pair → List Pair → Option (List ℕ)
first_bad before [] = None
first_bad before (pair ∷ pairs) = if is_fine before pair then first_bad (before ++ pair ∷ []) pairs else Some pair.key

-- whether a fresh answer is wanted
abbrev pub is_fresh : Option (List ℕ) → Bool
is_fresh None = false
is_fresh (Some text) = is_true text

-- what fine pairs ask for, with this text as its SecretId
abbrev pub asked_with : List Pair → Option (List ℕ) → Result (Question × Bool) QueryRefused
asked_with pairs None = Err (refused.Key (key_text SecretId))
asked_with pairs (Some id) = Ok (
  record {
    secret_id = id;
    version_id = text_under (key_text VersionId) pairs;
    version_stage = text_under (key_text VersionStage) pairs;
  },
  is_fresh (text_under (key_text RefreshNow) pairs),
)

-- what pairs ask for, of which this is the first key that is not fine
abbrev pub asked_unless : List Pair → Option (List ℕ) → Result (Question × Bool) QueryRefused
asked_unless pairs None = asked_with pairs (text_under (key_text SecretId) pairs)
asked_unless pairs (Some key) = Err (refused.Key key)

-- what a query asks for
abbrev pub asked_by : List ℕ → Result (Question × Bool) QueryRefused
asked_by query = asked_unless (pairs_of query) (first_bad [] (pairs_of query))

-- the path that answers questions
unfoldable pub get_path : List ℕ
get_path = codes "/secretsmanager/get"

-- what stands before the first ? is that path
abbrev pub is_get : List ℕ → Bool
is_get path = same_text (before_first (λ b. b == 63) path) get_path

-- what a path asks for
abbrev pub text_query : List ℕ → Result (Question × Bool) QueryRefused
text_query path = if is_get path then asked_by (after_first (λ b. b == 63) path) else Err refused.Path

-- bytes that are no text are another path
abbrev pub query_of : List ℕ → Result (Question × Bool) QueryRefused
query_of path = if is_utf8 path then text_query path else Err refused.Path

-- what was read of a path, not told where memory was wanted
abbrev pub read_told : Result (Question × Bool) QueryRefused → Option (Result (Question × Bool) QueryRefused)
read_told (Ok asked) = Some (Ok asked)
read_told (Err refused.Path) = Some (Err refused.Path)
read_told (Err (refused.Key key)) = Some (Err (refused.Key key))
read_told (Err refused.Memory) = None
