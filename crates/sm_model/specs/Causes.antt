-- The causes of refusals: the error's name, its message and the status of the reply.
-- AWS Secrets Manager API Reference, the errors of each operation and "Common Errors"; the messages are this server's
-- own.
use Rattle.std.specs.Prelude.{ℕ, List, ◌++◌, Option, Some, None, codes, decimal}
use Rattle.sm_base.specs.declared.bad_kind.BadKind.{BadKind}
use Rattle.sm_base.specs.declared.bad_kind.BadKind.TheVariants.{HeadTooLong, Head, Chunked, Length, BodyTooLong}
use Rattle.sm_model.specs.declared.why.What.{What}
use Rattle.sm_model.specs.declared.why.Part.{Part}
use Rattle.sm_model.specs.declared.why.Part.TheVariants.{Authorization, SignedHeaders, Date, Signature}
use Rattle.sm_model.specs.declared.why.What.TheVariants.{Secrets, Versions, Labels, Tags, Entries, JournalBytes, Regions}
use Rattle.sm_model.specs.declared.why.Why.{Why}
use Rattle.sm_model.specs.declared.why.Why.TheVariants.{Form, Left, HeldBy, KeepsCurrent, Empty, Scheduled, Differ, Pending, NoCurrent, NotReplica, ReadOnly, NoSecret, NoVersion, NotThere, SecretExists, OtherValue, VersionExists, Limit, Malformed, Public, BadToken, Denied, NoCredential, UnknownKey, BadSignature, UnknownOperation, NotJson, BadMember, Http, DiskFault, RandomFault, Memory}

-- the error's name
abbrev pub error_of : Why → List ℕ
error_of (Form member) = codes "InvalidParameterException"
error_of (Left member) = codes "InvalidParameterException"
error_of (HeldBy id) = codes "InvalidParameterException"
error_of KeepsCurrent = codes "InvalidParameterException"
error_of (Empty id) = codes "InvalidRequestException"
error_of (Scheduled moment) = codes "InvalidRequestException"
error_of Differ = codes "InvalidRequestException"
error_of (Pending id) = codes "InvalidRequestException"
error_of NoCurrent = codes "InvalidRequestException"
error_of NotReplica = codes "InvalidRequestException"
error_of ReadOnly = codes "InvalidRequestException"
error_of NoSecret = codes "ResourceNotFoundException"
error_of NoVersion = codes "ResourceNotFoundException"
error_of (NotThere id) = codes "ResourceNotFoundException"
error_of (SecretExists name) = codes "ResourceExistsException"
error_of (OtherValue id) = codes "ResourceExistsException"
error_of (VersionExists id) = codes "ResourceExistsException"
error_of (Limit count what) = codes "LimitExceededException"
error_of (Malformed statement member) = codes "MalformedPolicyDocumentException"
error_of (Public statement) = codes "PublicPolicyException"
error_of BadToken = codes "InvalidNextTokenException"
error_of (Denied statement) = codes "AccessDeniedException"
error_of NoCredential = codes "AccessDeniedException"
error_of (UnknownKey key) = codes "AccessDeniedException"
error_of (BadSignature part) = codes "AccessDeniedException"
error_of UnknownOperation = codes "UnknownOperationException"
error_of NotJson = codes "SerializationException"
error_of (BadMember member) = codes "SerializationException"
error_of (Http kind) = codes "SerializationException"
error_of DiskFault = codes "InternalServiceError"
error_of RandomFault = codes "InternalServiceError"
error_of Memory = codes "ServiceUnavailable"

-- what a limit counts
abbrev pub name_of_what : What → List ℕ
name_of_what Secrets = codes "secrets"
name_of_what Versions = codes "versions"
name_of_what Labels = codes "labels"
name_of_what Tags = codes "tags"
name_of_what Entries = codes "entries"
name_of_what JournalBytes = codes "journal bytes"
name_of_what Regions = codes "regions"

-- the message of a label that another version, or none, holds
abbrev pub holder_message : Option (List ℕ) → List ℕ
holder_message None = codes "label is held by no version"
holder_message (Some id) = codes "label is held by " ++ id

-- the message of a request that a statement denies, or that none allows
abbrev pub denial_message : Option ℕ → List ℕ
denial_message None = codes "no statement allows"
denial_message (Some statement) = codes "denied by statement " ++ decimal statement

-- the message of a part of a signature that is wrong
abbrev pub signature_message : Part → List ℕ
signature_message Authorization = codes "signature: Authorization"
signature_message SignedHeaders = codes "signature: SignedHeaders"
signature_message Date = codes "signature: Date"
signature_message Signature = codes "signature: Signature"

-- the message of a fault of a message
abbrev pub http_message : BadKind → List ℕ
http_message HeadTooLong = codes "http: head too long"
http_message Head = codes "http: head"
http_message Chunked = codes "http: chunked"
http_message Length = codes "http: length"
http_message BodyTooLong = codes "http: body too long"

-- the error's message
abbrev pub message_of : Why → List ℕ
message_of (Form member) = member ++ codes " is not in its form"
message_of (Left member) = member ++ codes " is not in its form"
message_of (HeldBy id) = holder_message id
message_of KeepsCurrent = codes "AWSCURRENT can be moved but not removed"
message_of (Empty id) = codes "version " ++ id ++ codes " has no value"
message_of (Scheduled moment) = codes "secret is scheduled for deletion at " ++ decimal moment.0
message_of Differ = codes "version and label differ"
message_of (Pending id) = codes "AWSPENDING is held by " ++ id
message_of NoCurrent = codes "secret has no current value"
message_of NotReplica = codes "secret is not a replica"
message_of ReadOnly = codes "replica is read-only"
message_of NoSecret = codes "secret not found"
message_of NoVersion = codes "version not found"
message_of (NotThere id) = codes "version not found"
message_of (SecretExists name) = codes "secret " ++ name ++ codes " exists"
message_of (OtherValue id) = codes "version " ++ id ++ codes " has another value"
message_of (VersionExists id) = codes "version " ++ id ++ codes " exists"
message_of (Limit count what) = codes "limit of " ++ (decimal count ++ (codes " " ++ name_of_what what))
message_of (Malformed statement member) = codes "statement " ++ (decimal statement ++ (codes ": " ++ member))
message_of (Public statement) = codes "statement " ++ (decimal statement ++ codes " is public")
message_of BadToken = codes "NextToken is not in its form"
message_of (Denied statement) = denial_message statement
message_of NoCredential = codes "no credential"
message_of (UnknownKey key) = codes "unknown key " ++ key
message_of (BadSignature part) = signature_message part
message_of UnknownOperation = codes "unknown operation"
message_of NotJson = codes "body is not a JSON object"
message_of (BadMember member) = member ++ codes " is missing or of another type"
message_of (Http kind) = http_message kind
message_of DiskFault = codes "disk fault"
message_of RandomFault = codes "random source fault"
message_of Memory = codes "out of memory"

-- the status of a message's fault
abbrev pub http_status : BadKind → ℕ
http_status HeadTooLong = 400
http_status Head = 400
http_status Chunked = 400
http_status Length = 400
http_status BodyTooLong = 413

-- the status of a refusal: 500 for faults of the server, 503 where memory ran out, 413 for a body that is too long, and
-- else 400
abbrev pub status_of : Why → ℕ
status_of (Form member) = 400
status_of (Left member) = 400
status_of (HeldBy id) = 400
status_of KeepsCurrent = 400
status_of (Empty id) = 400
status_of (Scheduled moment) = 400
status_of Differ = 400
status_of (Pending id) = 400
status_of NoCurrent = 400
status_of NotReplica = 400
status_of ReadOnly = 400
status_of NoSecret = 400
status_of NoVersion = 400
status_of (NotThere id) = 400
status_of (SecretExists name) = 400
status_of (OtherValue id) = 400
status_of (VersionExists id) = 400
status_of (Limit count what) = 400
status_of (Malformed statement member) = 400
status_of (Public statement) = 400
status_of BadToken = 400
status_of (Denied statement) = 400
status_of NoCredential = 400
status_of (UnknownKey key) = 400
status_of (BadSignature part) = 400
status_of UnknownOperation = 400
status_of NotJson = 400
status_of (BadMember member) = 400
status_of (Http kind) = http_status kind
status_of DiskFault = 500
status_of RandomFault = 500
status_of Memory = 503
