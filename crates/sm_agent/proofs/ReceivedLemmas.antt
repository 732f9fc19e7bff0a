-- What stands at the front of a server's bytes, by what the parser answers.
use Rattle.std.proofs.Common.{◌≡◌, ℕ, ◌+◌, ◌<◌, ◌≤◌, Bool, true, false, List, [], ◌∷◌, ◌++◌, All, length, drop, take, map, Option, Some, None, refl, sym, ap, subst, ◌∙◌, arith}
use Rattle.std.proofs.lemmas.List.{length-map, length-take}
use Rattle.std.proofs.lemmas.List.Elements.{All-weaker}
use Rattle.std.specs.Prelude.{IsTrue, Result, Ok, Err}
use Rattle.httparse.specs.Grammar.{ResponseHead, ReadsResponse, status_code}
use Rattle.httparse.specs.Spans.{AreFieldsAt, FindsResponse, IsHeaderWithin, IsResponseAt, IsResponseOf, IsResponseWithin, header_bytes, name_and_value}
use Rattle.httparse.specs.declared.Error.{Error}
use Rattle.httparse.specs.declared.Status.{Status}
use Rattle.httparse.specs.declared.Status.TheVariants.{Complete, Partial}
use Rattle.httparse.specs.declared.spans.HeaderSpan.{HeaderSpan}
use Rattle.httparse.specs.declared.spans.ResponseSpans.{ResponseSpans}
use Rattle.sm_agent.specs.declared.received.TheConstants.{BODY_LIMIT, FIELD_LIMIT, HEAD_LIMIT}
use Rattle.sm_agent.specs.Received.{IsFoundHead, IsHeadAt, IsReply, IsReplyHead, NoneBegins, NoneWhole, body_length, fields_of, head_size, length_in}
use Rattle.sm_agent.specs.Upstreams.{is_status}
use Rattle.sm_http.specs.Heads.{NameValue}

some_same : (a b : ℕ) → ◌≡◌ {A = Option ℕ} (Some a) (Some b) → a ≡ b
some_same a b same = cc

none_some : (a : ℕ) → ◌≡◌ {A = Option ℕ} None (Some a) → ⊥
none_some a same = cc

no_true : (b : Bool) → b ≡ false → IsTrue b → ⊥
no_true b other passes = cc

module _ (bytes : List ℕ) (spans : ResponseSpans) (headers : List HeaderSpan) (found : IsFoundHead bytes spans headers)
  where
    -- each reply's head has these parts
    same_head : (head : ResponseHead) (size : ℕ) → IsReplyHead bytes head size → IsHeadAt bytes spans headers head
    same_head head size is = found.only head (drop (head_size head) bytes) is.reads is.few

    length_here : (head : ResponseHead) (size : ℕ) → IsReplyHead bytes head size
        → body_length (map (header_bytes bytes) headers) ≡ Some size
    length_here head size is = ap body_length (same_head head size is).fields ∙ is.size_is

    -- ---- none begins

    pub head_is_long : HEAD_LIMIT < spans.len → NoneBegins bytes
    head_is_long long head size is =
        absurd (let len : spans.len ≡ head_size head = (same_head head size is).len in
        omega (arith, long, len, is.short))

    pub status_is_other : is_status spans.code ≡ false → NoneBegins bytes
    status_is_other other head size is =
        no_true (is_status (status_code head)) (ap is_status (sym (same_head head size is).code) ∙ other) is.status

    pub length_is_unknown : None ≡ body_length (map (header_bytes bytes) headers) → NoneBegins bytes
    length_is_unknown none head size is = none_some size (none ∙ length_here head size is)

    pub body_is_long : (size : ℕ) → Some size ≡ body_length (map (header_bytes bytes) headers) → BODY_LIMIT < size
        → NoneBegins bytes
    body_is_long size size_is long head other is =
        absurd (let same : size ≡ other = some_same size other (size_is ∙ length_here head other is) in
        omega (arith, long, same, is.size_short))

    -- ---- one begins

    module _ (size : ℕ) (size_is : Some size ≡ body_length (map (header_bytes bytes) headers)) where
      pub none_whole : length bytes < spans.len + size → NoneWhole bytes
      none_whole partial head other is =
          let same : size ≡ other = some_same size other (size_is ∙ length_here head other is) in
          let len : spans.len ≡ head_size head = (same_head head other is).len in
          omega (arith, partial, same, len)

      pub is_whole : spans.len ≤ HEAD_LIMIT → is_status spans.code ≡ true → size ≤ BODY_LIMIT
          → (end : ℕ) → end ≡ spans.len + size → end ≤ length bytes → IsReply bytes spans.code spans.len end
      is_whole short status size_short end end_is whole =
          let at = found.found in
          let head = found.head in
          let covered : length headers ≡ length head.fields = sym (length-map headers (header_bytes bytes))
          ∙ ap length at.fields ∙ length-map head.fields name_and_value in
          let few : length head.fields ≤ FIELD_LIMIT = omega (arith, found.few, covered) in
          record {
            head = head;
            size = size;
            is_head = record {
              reads = subst (λ n. ReadsResponse bytes head (drop n bytes)) at.len at.reads;
              few = few;
              short = omega (arith, short, at.len);
              status = ap is_status (sym at.code) ∙ status;
              size_is = ap body_length (sym at.fields) ∙ sym size_is;
              size_short = size_short;
            };
            status_is = at.code;
            start_is = at.len;
            end_is = end_is;
            whole = whole;
          }

-- ---- the parser's answer

-- it answers no head
pub none_found : (bytes : List ℕ) (room : List HeaderSpan) (result : Result (Status ResponseSpans) Error)
    → FindsResponse bytes FIELD_LIMIT room result → ((spans : ResponseSpans) → result ≡ Ok (Complete spans) → ⊥)
    → NoneBegins bytes
none_found bytes room (Ok (Complete spans)) finds none head size is = absurd (none spans refl)
none_found bytes room (Ok Partial) finds none head size is =
    absurd (finds head (drop (head_size head) bytes) is.reads is.few)
none_found bytes room (Err error) finds none head size is =
    absurd (finds head (drop (head_size head) bytes) is.reads is.few)

pub none_is_whole : (bytes : List ℕ) → NoneBegins bytes → NoneWhole bytes
none_is_whole bytes none head size is = absurd (none head size is)

-- it answers a head
pub head_found : (bytes : List ℕ) (room : List HeaderSpan) (spans : ResponseSpans) → length room ≡ FIELD_LIMIT
    → IsResponseWithin bytes room spans → IsResponseOf bytes room spans
    → FindsResponse bytes FIELD_LIMIT room (Ok (Complete spans)) → IsFoundHead bytes spans (take spans.headers room)
head_found bytes room spans long within (head, at) finds = record {
  head = head;
  found = here head at;
  few = omega (arith, long, within.section.count_fits, length-take spans.headers room);
  within = All-weaker (IsHeaderWithin spans.len) (IsHeaderWithin (length bytes))
      (λ header within_len. omega (arith, within_len, within.section.len_fits)) _ within.section.headers_fit;
  len_fits = within.section.len_fits;
  only = λ other rest reads few. here other (finds other rest reads few);
}
  where
    here : (h : ResponseHead) → IsResponseAt bytes room spans h → IsHeadAt bytes spans (take spans.headers room) h
    here h is = record { reads = is.reads; len = is.len; code = is.code; fields = is.fields }
