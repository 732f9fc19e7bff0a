-- What a replica writes after what it reads.
use Rattle.std.specs.Prelude.{◌≡◌, ◌⊎◌, ◌<◌, ℕ, ◌+◌, min, List, length, take, Option, None, Some}
use Rattle.std.specs.List.{flat_map}
use Rattle.std.specs.Io.KnownBytes.{append_known}
use Rattle.sm_base.specs.Faults.{Rose}
use Rattle.sm_replication.specs.Outputs.{position_bytes, reply_bytes}
use Rattle.sm_reply.specs.Shown.{Answered}
use Rattle.sm_session.specs.Endings.{count_limit}
use Rattle.sm_session.specs.Replies.{framed_answer, reply_of, unavailable}
use Rattle.sm_follow.specs.declared.end.End.{End}
use Rattle.sm_follow.specs.declared.end.End.TheVariants as ends
use Rattle.sm_follow.specs.declared.output.Output.{Output as outputs}
use Rattle.sm_follow.specs.declared.output.Output.TheVariants as said

-- after entries and rows the replica's position, after a message its reply
pub data Outgoing : Type 0 where
  Position : ℕ → Outgoing
  Reply : Answered → Outgoing

abbrev pub output_bytes : Outgoing → List ℕ
output_bytes (Position at) = position_bytes at
output_bytes (Reply answer) = reply_bytes (framed_answer answer)

-- the bytes of outputs, one after the other
abbrev pub joined : List Outgoing → List ℕ
joined outputs = flat_map output_bytes outputs

-- the reply, or the one where memory ran out in its place
abbrev pub IsReply : Answered → Outgoing → Type 0
IsReply answer output = (output ≡ Reply answer) ⊎ (output ≡ Reply unavailable)

-- what was said, as it is written
abbrev pub IsWritten : outputs → Outgoing → Type 0
IsWritten (said.Position at) output = output ≡ Position at
IsWritten (said.Reply reply) output = output ≡ Reply (reply_of reply)

-- the number of bytes that were counted, and so many more
abbrev pub counted : ℕ → ℕ → ℕ
counted count more = min (count + more) count_limit

-- An output was written, or the sink failed within it: so many bytes had been taken then. Where memory ran out nothing
-- was written.
abbrev pub Puts : Option End → outputs → ℕ → ℕ → Option (List ℕ) → Option (List ℕ) → ℕ → ℕ → Type 0
Puts None wanted count count' old new before now = (output : Outgoing) × IsWritten wanted output
    × (new ≡ append_known old (output_bytes output)) × (count' ≡ counted count (length (output_bytes output)))
Puts (Some (ends.WriteFault sent)) wanted count count' old new before now =
    (output : Outgoing) × IsWritten wanted output × (size : ℕ) × (size < length (output_bytes output))
    × (new ≡ append_known old (take size (output_bytes output))) × (sent ≡ counted count size) × Rose before now
Puts (Some ends.Memory) wanted count count' old new before now = new ≡ old
Puts (Some end) wanted count count' old new before now = ⊥
