-- What the bytes begin with, where a head begins them; and that bytes begin in one way only.
use Rattle.std.proofs.Common.{◌≡◌, ◌≢◌, IsSome, true, false, All, min, subst, ℕ, ◌+◌, ◌<◌, ◌≤◌, List, [], ◌++◌, length, drop, take, map, Some, None, refl, ap, sym, ◌∙◌, arith, inl, inr, append_assoc, length-append, add-zero, codes}
use Rattle.std.proofs.lemmas.List.{take-append-drop, length-drop, length-take, take_all, drop-drop, length-map, take_at, drop_at}
use Rattle.std.proofs.Math.ListN.{drop_of_length-le}
use Rattle.std.proofs.lemmas.Bool.{cases_lt}
use Rattle.httparse.proofs.GrammarLemmas.{request_unique}
use Rattle.httparse.specs.declared.spans.HeaderSpan.{HeaderSpan}
use Rattle.httparse.specs.declared.spans.RequestSpans.{RequestSpans}
use Rattle.httparse.specs.Grammar.{RequestHead, ReadsRequest, print_request}
use Rattle.httparse.specs.Spans.{header_bytes, name_and_value, IsWithin, IsHeaderWithin, IsRequestAt, IsRequestOf, IsRequestWithin}
use Rattle.sm_base.specs.declared.bad_kind.BadKind.{BadKind}
use Rattle.sm_base.specs.declared.bad_kind.BadKind.TheVariants.{HeadTooLong, Head, Chunked, Length, BodyTooLong}
use Rattle.sm_http.specs.Heads.{body_limit, head_length, IsHead, NameValue, fields_of, values_of, first_of, field_of, length_of, body_length}
use Rattle.sm_http.specs.Messages.{Message, message_of, Begins, IsMessage, transfer_encoding, StartsBadly, IsPartial}
use Rattle.sm_http.specs.Fronts.{HasHead}

-- the fields that the headers cover are those of the head
module _ (bytes text : List ℕ) (spans : RequestSpans) (headers : List HeaderSpan)
    (h : HasHead bytes text spans headers) where
  covered : List NameValue
  covered = map (header_bytes text) headers

  module _ (size : ℕ)
      (whole : first_of (values_of (codes "transfer-encoding") (map (header_bytes text) headers)) ≡ None)
      (sized : length_of (values_of (codes "content-length") (map (header_bytes text) headers)) ≡ Some size) where
    is_whole : transfer_encoding h.head ≡ None
    is_whole = ap (field_of (codes "transfer-encoding")) (sym h.fields) ∙ whole

    is_sized : body_length (fields_of h.head) ≡ Some size
    is_sized = ap body_length (sym h.fields) ∙ sized

    pub body_too_long : body_limit < size → StartsBadly bytes BodyTooLong
    body_too_long long = (text, h.head, h.begins, (is_whole, size, is_sized, long))

    pub cut_body : size ≤ body_limit → length bytes < length text + size → IsPartial bytes
    cut_body fits short = inr (text, h.head, h.begins, (is_whole, size, is_sized, fits, short))

    -- the body is the bytes behind the head
    pub whole_message : size ≤ body_limit → length text + size ≤ length bytes
        → IsMessage bytes (message_of h.head (take size (drop (length text) bytes))) (drop (length text + size) bytes)
    whole_message fits room = record {
      text = text;
      head = h.head;
      begins = h.begins;
      whole = is_whole;
      sized = is_sized ∙ ap Some (sym body_is);
      fits = omega (arith, body_is);
      parts = split;
      is = refl;
    }
      where
        body_is : length (take size (drop (length text) bytes)) ≡ size
        body_is = omega (arith, length-take size (drop (length text) bytes), length-drop (length text) bytes)

        split : bytes ≡ text ++ take size (drop (length text) bytes) ++ drop (length text + size) bytes
        split =
            sym (take-append-drop (length text) bytes)
            ∙ ap (λ xs. xs ++ drop (length text) bytes) h.begins.front
            ∙ ap (λ xs. text ++ xs) (sym (take-append-drop size (drop (length text) bytes)))
            ∙ sym (append_assoc text (take size (drop (length text) bytes)) (drop size (drop (length text) bytes)))
            ∙ ap (λ xs. (text ++ take size (drop (length text) bytes)) ++ xs)
            (drop-drop size (length text) bytes ∙ ap (λ n. drop n bytes) (omega arith))

-- the front of a list up to a limit, where the list may be shorter
pub take_within : (n : ℕ) (xs : List ℕ) → take (min (length xs) n) xs ≡ take n xs
take_within n xs = elim (cases_lt n (length xs)) [
  | inl long ↦ ap (λ k. take k xs) (omega arith)
  | inr short ↦ ap (λ k. take k xs) (omega arith) ∙ take_all (length xs) xs (omega arith) ∙ sym (take_all n xs short)
]

-- the parser's answer is the head of the text
module _ (bytes : List ℕ) (end : ℕ) (headers : List HeaderSpan) (spans : RequestSpans) where
  pub found_head : head_length bytes ≡ Some end → end ≤ length bytes → length headers ≡ 64
      → IsRequestOf (take end bytes) headers spans → IsRequestWithin (take end bytes) headers spans → spans.len ≡ end
      → HasHead bytes (take end bytes) spans (take spans.headers headers)
  found_head ends room count found within whole = record {
    head = head;
    begins = record {
      ends = ends ∙ ap Some (sym size);
      front = ap (λ n. take n bytes) size;
      reads = (subst (ReadsRequest (take end bytes) head) nothing at.reads, few);
    };
    len = all;
    method = at.method;
    path = at.path;
    minor = at.version;
    fields = at.fields;
    method_within = subst (λ n. IsWithin n spans.method) all within.method;
    path_within = subst (λ n. IsWithin n spans.path) all within.path;
    headers_within = subst (λ n. All (IsHeaderWithin n) (take spans.headers headers)) all within.section.headers_fit;
  }
    where
      head : RequestHead
      head = found.0

      at : IsRequestAt (take end bytes) headers spans head
      at = found.1

      size : length (take end bytes) ≡ end
      size = omega (arith, length-take end bytes)

      all : spans.len ≡ length (take end bytes)
      all = whole ∙ sym size

      nothing : drop spans.len (take end bytes) ≡ []
      nothing = drop_of_length-le (take end bytes) (omega (arith, all))

      few : length head.fields ≤ 64
      few =
          let covered : length (take spans.headers headers) ≡ length head.fields
          = sym (length-map (take spans.headers headers) (header_bytes (take end bytes))) ∙ ap length at.fields
          ∙ length-map head.fields name_and_value in
          omega (arith, length-take spans.headers headers)

  -- a head at the front that ends before the text does is not the whole text
  pub ends_before : IsRequestOf (take end bytes) headers spans → end ≤ length bytes → spans.len ≢ end
      → (head : RequestHead) → IsHead (take end bytes) head → ⊥
  ends_before found room differs head is =
      let same = request_unique (take end bytes) head found.0 [] (drop spans.len (take end bytes)) is.0 found.1.reads in
      let whole : length (take end bytes) ≡ length (print_request head) = ap length is.0.1
      ∙ length-append (print_request head) [] ∙ add-zero (length (print_request head)) in
      differs (found.1.len ∙ ap (λ h. length (print_request h)) (sym same.0) ∙ sym whole
      ∙ omega (arith, length-take end bytes))

pub some_is : {n m : ℕ} → Some n ≡ Some m → n ≡ m
some_is e = cc

-- one head begins the bytes at most
pub begins_unique : (bytes t u : List ℕ) (h k : RequestHead) → Begins bytes t h → Begins bytes u k → (t ≡ u) × (h ≡ k)
begins_unique bytes t u h k a b =
    let size : length t ≡ length u = some_is (sym a.ends ∙ b.ends) in
    let text : t ≡ u = sym a.front ∙ ap (λ n. take n bytes) size ∙ b.front in
    (text, (request_unique u h k [] [] (subst (λ s. ReadsRequest s h []) text a.reads.0) b.reads.0).0)

-- where the rest of a message begins, and where its body does
pub message_rest : (bytes : List ℕ) (m : Message) (rest : List ℕ) → (is : IsMessage bytes m rest) →
    (m.body ≡ take (length m.body) (drop (length is.text) bytes)) × (rest ≡ drop (length is.text + length m.body) bytes)
    × (length bytes ≡ length is.text + length m.body + length rest)
message_rest bytes m rest is = (
  sym (ap (λ xs. take (length m.body) (drop (length is.text) xs)) is.parts
      ∙ ap (take (length m.body)) (ap (drop (length is.text)) (append_assoc is.text m.body rest)
      ∙ drop_at is.text (m.body ++ rest) (length is.text) refl)
      ∙ take_at m.body rest (length m.body) refl),
  sym (ap (drop (length is.text + length m.body)) is.parts
      ∙ drop_at (is.text ++ m.body) rest (length is.text + length m.body) (length-append is.text m.body)),
  ap length is.parts ∙ length-append (is.text ++ m.body) rest
      ∙ ap (λ n. n + length rest) (length-append is.text m.body),
)

-- one message begins the bytes at most
pub message_unique : (bytes : List ℕ) (m n : Message) (r s : List ℕ) → IsMessage bytes m r → IsMessage bytes n s
    → (m ≡ n) × (r ≡ s)
message_unique bytes m n r s a b =
    let same = begins_unique bytes a.text b.text a.head b.head a.begins b.begins in
    let size : length m.body ≡ length n.body =
    some_is (sym a.sized ∙ ap (λ h. body_length (fields_of h)) same.1 ∙ b.sized) in
    let ma = message_rest bytes m r a in
    let mb = message_rest bytes n s b in
    let body : m.body ≡ n.body = ma.0 ∙ ap (λ k. take k (drop (length a.text) bytes)) size
    ∙ ap (λ t. take (length n.body) (drop (length t) bytes)) same.0 ∙ sym mb.0 in (
      a.is ∙ ap (λ h. message_of h m.body) same.1 ∙ ap (message_of b.head) body ∙ sym b.is,
      ma.1 ∙ ap (λ k. drop (length a.text + k) bytes) size ∙ ap (λ t. drop (length t + length n.body) bytes) same.0
          ∙ sym mb.1,
    )

-- where a fault stands there is no message
pub bad_is_no_message : (bytes : List ℕ) (kind : BadKind) (m : Message) (rest : List ℕ) → StartsBadly bytes kind
    → IsMessage bytes m rest → ⊥
bad_is_no_message bytes HeadTooLong m rest bad is = let e = is.begins.ends in let f = bad.0 in cc
bad_is_no_message bytes Head m rest (n, ends, none) is =
    let size : n ≡ length is.text = some_is (sym ends ∙ is.begins.ends) in
    none is.head (subst (λ t. IsHead t is.head) (sym is.begins.front
    ∙ ap (λ k. take k bytes) (sym size)) is.begins.reads)
bad_is_no_message bytes Chunked m rest (text, head, begins, there) is =
    let same = begins_unique bytes text is.text head is.head begins is.begins in
    let some : false ≡ true = subst IsSome (ap transfer_encoding same.1 ∙ is.whole) there in cc
bad_is_no_message bytes Length m rest (text, head, begins, (whole, none)) is =
    let same = begins_unique bytes text is.text head is.head begins is.begins in
    let e = ap (λ h. body_length (fields_of h)) same.1 in let f = is.sized in cc
bad_is_no_message bytes BodyTooLong m rest (text, head, begins, (whole, n, sized, long)) is =
    let same = begins_unique bytes text is.text head is.head begins is.begins in
    let size : n ≡ length m.body = some_is (sym sized ∙ ap (λ h. body_length (fields_of h)) same.1 ∙ is.sized) in
    omega (arith, size, long, is.fits)

-- nor where one is not whole yet
pub partial_is_no_message : (bytes : List ℕ) (m : Message) (rest : List ℕ) → IsPartial bytes → IsMessage bytes m rest
    → ⊥
partial_is_no_message bytes m rest (inl p) is = let e = is.begins.ends in let f = p.0 in cc
partial_is_no_message bytes m rest (inr (text, head, begins, (whole, n, sized, fits, short))) is =
    let same = begins_unique bytes text is.text head is.head begins is.begins in
    let size : n ≡ length m.body = some_is (sym sized ∙ ap (λ h. body_length (fields_of h)) same.1 ∙ is.sized) in
    let used : length text ≡ length is.text = ap length same.0 in
    omega (arith, size, used, short, (message_rest bytes m rest is).2)
