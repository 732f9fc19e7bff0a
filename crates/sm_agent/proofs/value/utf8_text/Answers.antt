use Rattle.std.proofs.Common.{◌≡◌, subst, sym, ap, ◌∙◌}
use Rattle.std.specs.Cow.{cow_str_bytes}
use Rattle.std.specs.Str.{IsUtf8}
use Rattle.percent_encoding.specs.Percent.{percent_decode}
use Rattle.percent_encoding.specs.Iter.{decoded_bytes}
use Rattle.percent_encoding.specs.declared.DecodeError.TheVariants.{OutOfMemory}
use Rattle.sm_agent.proofs.ValueLemmas.{text_there, no_text}
use Rattle.sm_agent.proofs.value.utf8_text.Goals as goal

pub returns-in_ok-from_str-in-Ok-Borrowed : goal.returns-in_ok-from_str-in-Ok-Borrowed
returns-in_ok-from_str-in-Ok-Borrowed c =
    let whole : decoded_bytes c.percent_decode.result ≡ percent_decode c.args.value.now =
    c.percent_decode.ensures.bytes ∙ ap percent_decode c.as_bytes.ensures.value in
    text_there _ _ (subst IsUtf8 whole c.in-Ok-Borrowed.ensures.ok_only_if_utf8)
    (c.in_ok-from_str-in-Ok-Borrowed.ensures ∙ sym (ap cow_str_bytes c.in-Ok-Borrowed.field-0-is)
    ∙ c.in-Ok-Borrowed.ensures.value ∙ whole)

pub returns-in-Ok-Owned : goal.returns-in-Ok-Owned
returns-in-Ok-Owned c =
    let whole : decoded_bytes c.percent_decode.result ≡ percent_decode c.args.value.now =
    c.percent_decode.ensures.bytes ∙ ap percent_decode c.as_bytes.ensures.value in
    text_there _ _ (subst IsUtf8 whole c.in-Ok-Owned.ensures.ok_only_if_utf8)
    (c.new.ensures ∙ sym (ap cow_str_bytes c.in-Ok-Owned.field-0-is) ∙ c.in-Ok-Owned.ensures.value ∙ whole)

pub returns-in-Err-Utf8 : goal.returns-in-Err-Utf8
returns-in-Err-Utf8 c =
    let whole : decoded_bytes c.percent_decode.result ≡ percent_decode c.args.value.now =
    c.percent_decode.ensures.bytes ∙ ap percent_decode c.as_bytes.ensures.value in
    no_text _ (λ utf8.
    let full : c.in-Err-Utf8.field-0 ≡ OutOfMemory =
    c.in-Err-Utf8.ensures.utf8 (subst IsUtf8 (sym whole) utf8) in cc)
