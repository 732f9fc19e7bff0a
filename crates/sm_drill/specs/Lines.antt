-- What a drill says of the replies to its messages.
-- AWS Secrets Manager API Reference: GetSecretValue (Response Elements, SecretString).
use Rattle.std.specs.Prelude.{ℕ, ◌+◌, ◌==◌, if◌then◌else◌, List, [], ◌∷◌, ◌++◌, codes, decimal, Option, None, option_and_then, unwrap_or, slice_get}
use Rattle.serde_json.specs.Find.{as_str, get}
use Rattle.sm_json.specs.Asks.{json_of}
use Rattle.sm_reply.specs.Shown.{Answered}

-- how many of some replies refuse: their status is not 200
abbrev pub refused_count : List Answered → ℕ
refused_count [] = 0
refused_count (reply ∷ replies) = (if reply.status == 200 then 0 else 1) + refused_count replies

-- the SecretString of a body, where it has one that is a text
abbrev pub string_in : List ℕ → Option (List ℕ)
string_in body = option_and_then as_str (option_and_then (get (codes "SecretString")) (json_of body))

-- the SecretString that a reply shows; one that refuses shows none
abbrev pub shown_string : ℕ → List ℕ → Option (List ℕ)
shown_string status body = if status == 200 then string_in body else None

-- the three lines, by how many replies refuse, the line of the account's totals, and the SecretString that the last
-- reply shows
unfoldable pub lines : ℕ → List ℕ → Option (List ℕ) → List ℕ
lines refused totals shown =
    codes "messages 10000 refused " ++ (decimal refused ++ (codes "\n" ++ (totals
    ++ (codes "last " ++ (unwrap_or shown (codes "-") ++ codes "\n")))))

-- what a reply shows, where there is one
abbrev pub shown_by : Option Answered → Option (List ℕ)
shown_by reply = option_and_then (λ r. shown_string r.status r.body) reply

-- what message 9,999's reply shows
abbrev pub last_shown : List Answered → Option (List ℕ)
last_shown replies = shown_by (slice_get replies 9_999)

-- the three lines of all replies
abbrev pub lines_of : List Answered → List ℕ → List ℕ
lines_of replies totals = lines (refused_count replies) totals (last_shown replies)
