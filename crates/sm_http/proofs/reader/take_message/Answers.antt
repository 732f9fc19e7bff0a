use Rattle.std.proofs.Common.{ap, take, drop, arith, ◌∙◌}
use Rattle.sm_http.proofs.ReaderLemmas.{found_message}
use Rattle.sm_http.proofs.reader.take_message.Goals as goal

pub returns-in-Ok-clause-found : goal.returns-in-Ok-clause-found
returns-in-Ok-clause-found c =
    let spans = c.args.spans in
    let seen = c.as_slice-bytes.ensures in
    found_message c.args.ahead.now _ c.args.at c.args.size c.in-Ok.message c.skip.new.self c.requires.whole
    (ap (take spans.len) seen)
    (ap (λ n. take n (drop spans.len c.as_slice-bytes.result.now)) (omega arith)
    ∙ ap (λ xs. take c.args.size (drop spans.len xs)) seen)
    c.requires.there c.in-Ok.ensures c.skip.ensures
