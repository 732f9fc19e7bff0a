-- The writing of outputs.
use Rattle.std.proofs.Common.{◌≡◌, ℕ, ◌<◌, List, [], length, take, true, Option, Some, None, Result, Ok, Err, refl, ap, subst, ◌∙◌, arith}
use Rattle.std.proofs.lemmas.List.{take_all}
use Rattle.std.specs.Io.KnownBytes.{append_known}
use Rattle.std.specs.Prelude.{IfOk, MatchBool}
use Rattle.sm_base.specs.Faults.{Rose}
use Rattle.sm_replication.specs.Outputs.{position_bytes, reply_bytes}
use Rattle.sm_http.specs.declared.reply.Sent.{Sent}
use Rattle.sm_http.specs.Framed.{Sends}
use Rattle.sm_session.specs.Replies.{framed_answer, reply_of}
use Rattle.sm_session.specs.declared.said.Said.{Said}
use Rattle.sm_follow.specs.declared.end.End.TheVariants as ends
use Rattle.sm_follow.specs.declared.output.Output.{Output as outputs}
use Rattle.sm_follow.specs.declared.output.Output.TheVariants as said
use Rattle.sm_follow.specs.Outputs.{IsWritten, Outgoing, Position, Puts, Reply, counted, output_bytes}

some_bytes : (a b : List ℕ) → Some a ≡ Some b → a ≡ b
some_bytes a b e = cc

-- ---- the bytes of outputs that the sink took

module _ (wanted : outputs) (output : Outgoing) (bytes : List ℕ) (count : ℕ) (old new : Option (List ℕ))
    (before now : ℕ) (w : IsWritten wanted output) (is : bytes ≡ output_bytes output) where
  pub put_whole : (count' : ℕ) → new ≡ append_known old bytes → count' ≡ counted count (length bytes)
      → Puts None wanted count count' old new before now
  put_whole count' taken counts =
      (output, w, taken ∙ ap (append_known old) is, counts ∙ ap (λ xs. counted count (length xs)) is)

  pub put_part : (n sent : ℕ) → n < length bytes → new ≡ append_known old (take n bytes) → sent ≡ counted count n
      → Rose before now → Puts (Some (ends.WriteFault sent)) wanted count count old new before now
  put_part n sent short taken counts rose = (
    output,
    w,
    n,
    subst (λ xs. n < length xs) is short,
    taken ∙ ap (λ xs. append_known old (take n xs)) is,
    counts,
    rose,
  )

-- ---- the bytes of an output

pub position_encoded : {E : Type 0} (at : ℕ) (r : Result (List ℕ) E) → IfOk r (λ bytes. bytes ≡ position_bytes at)
    → IfOk r (λ bytes. (written : Outgoing) × IsWritten (said.Position at) written × (bytes ≡ output_bytes written))
position_encoded at (Ok bytes) is = (Position at, refl, is)
position_encoded at (Err why) is = tt

pub reply_encoded : {E : Type 0} (reply : Said) (r : Result (List ℕ) E)
    → IfOk r (λ bytes. bytes ≡ reply_bytes (framed_answer (reply_of reply)))
    → IfOk r (λ bytes. (written : Outgoing) × IsWritten (said.Reply reply) written × (bytes ≡ output_bytes written))
reply_encoded reply (Ok bytes) is = (Reply (reply_of reply), refl, is)
reply_encoded reply (Err why) is = tt

-- ---- a reply that is put together in memory

pub taken_whole : (sent : Sent) (text : List ℕ) (old : Option (List ℕ)) (taken : List ℕ) (before now : ℕ)
    → old ≡ Some [] → sent.whole ≡ true → Sends sent text old (Some taken) before now → taken ≡ text
taken_whole sent text old taken before now none whole sends =
    let all : sent.taken ≡ length text =
    subst (λ b. MatchBool b (sent.taken ≡ length text) ((sent.taken < length text) × Rose before now)) whole
    sends.whole in
    let is : Some taken ≡ Some (take sent.taken text) =
    sends.bytes ∙ ap (λ o. append_known o (take sent.taken text)) none in
    some_bytes taken (take sent.taken text) is ∙ take_all sent.taken text (omega (arith, all))

pub copied_whole : {E : Type 0} (r : Result (List ℕ) E) (slice text : List ℕ) → IfOk r (λ b. b ≡ slice)
    → slice ≡ text → IfOk r (λ b. b ≡ text)
copied_whole (Ok b) slice text is same = is ∙ same
copied_whole (Err why) slice text is same = tt
