-- What the messages of a drill ask for, as requests.
-- AWS Secrets Manager API Reference: CreateSecret, PutSecretValue, GetSecretValue (Request Parameters).
use Rattle.std.specs.Prelude.{◌≡◌, ℕ, List, [], codes, Some, None}
use Rattle.sm_http.specs.Heads.{field_of}
use Rattle.sm_http.specs.Messages.{Message}
use Rattle.sm_json.specs.declared.requests.ReadRequest.TheVariants as answers
use Rattle.sm_json.specs.Asks.{asks}
use Rattle.sm_model.specs.declared.request.Request.{Request}
use Rattle.sm_model.specs.declared.request.Request.TheVariants as requests
use Rattle.sm_drill.specs.declared.step.Step.{Step}
use Rattle.sm_drill.specs.declared.step.Step.TheVariants.{Create, Put, Get}
use Rattle.sm_drill.specs.Messages.{name_of, token_of, value_of}
use Rattle.sm_drill.specs.Steps.{step_of}
use Rattle.sm_drill.specs.Words.{word_of}

-- the request of message i with this word, whose step this is: a secret with the value and the token, or these for a
-- secret, or the current value of one
abbrev pub request_by : Step → ℕ → ℕ → Request
request_by (Create secret) i word = requests.CreateSecret (record {
  regions = [];
  client_request_token = Some (token_of i);
  description = None;
  kms_key_id = None;
  name = name_of secret;
  secret_binary = None;
  secret_string = Some (value_of word);
  tags = None;
})
request_by (Put secret) i word = requests.PutSecretValue (record {
  client_request_token = Some (token_of i);
  secret_binary = None;
  secret_id = name_of secret;
  secret_string = Some (value_of word);
  version_stages = None;
})
request_by (Get secret) i word =
    requests.GetSecretValue (record { secret_id = name_of secret; version_id = None; version_stage = None })

-- the request of message i of a number
abbrev pub request_of : ℕ → ℕ → Request
request_of number i =
    let word = word_of number i in
    request_by (step_of i word) i word

-- a message asks for this: its field names the operation, and of its body the request is read
abbrev pub AsksFor : Message → Request → Type 0
AsksFor message request = (target : List ℕ) × (field_of (codes "x-amz-target") message.fields ≡ Some target)
    × (asks target message.body ≡ answers.Ok request)
