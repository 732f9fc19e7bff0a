use Rattle.std.proofs.Common.{◌==◌, ◌||◌, map, length, take, drop, arith, ap, ◌∙◌, codes}
use Rattle.httparse.specs.Spans.{header_bytes}
use Rattle.sm_http.specs.Heads.{field_of}
use Rattle.sm_http.specs.Messages.{message_of, asks_to_close}
use Rattle.sm_http.proofs.MessageLemmas.{cut_body, whole_message}
use Rattle.sm_http.proofs.message.front_with_body.Goals as goal

pub returns-then-bytes-used : goal.returns-then-bytes-used
returns-then-bytes-used c =
    cut_body c.args.bytes.now c.args.text.now c.args.spans c.args.headers.now c.requires.head c.args.size
    c.requires.whole c.requires.sized c.requires.fits c.if-bytes-used.true

pub returns : goal.returns
returns c =
    let h = c.requires.head in (
      message_of h.head (take c.args.size (drop (length c.args.text.now) c.args.bytes.now)),
      whole_message c.args.bytes.now c.args.text.now c.args.spans c.args.headers.now h c.args.size c.requires.whole
          c.requires.sized c.requires.fits c.if-bytes-used.false,
      record {
        method = c.of.ensures ∙ h.method;
        path = c.of-2.ensures ∙ h.path;
        target = c.first_value.ensures ∙ ap (field_of (codes "x-amz-target")) h.fields;
        closing = c.is_closing.ensures
            ∙ ap (λ n. n == 0 || asks_to_close
            (field_of (codes "connection") (map (header_bytes c.args.text.now) c.args.headers.now))) h.minor
            ∙ ap (λ fields. h.head.minor == 0 || asks_to_close (field_of (codes "connection") fields)) h.fields;
        body = ap (λ n. take n (drop (length c.args.text.now) c.args.bytes.now)) (omega arith);
      },
      c.if-bytes-used.false,
    )
