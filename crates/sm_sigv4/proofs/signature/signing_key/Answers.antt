use Rattle.std.proofs.Common.{[], ◌++◌, codes, ap, ◌∙◌}
use Rattle.sm_sigv4.specs.Hmac.{hmac}
use Rattle.sm_sigv4.specs.Signatures.{signing_key}
use Rattle.sm_sigv4.proofs.signature.signing_key.Goals as goal

pub returns : goal.returns
unfolding signing_key
returns c =
    let first_key = codes "AWS4" ++ c.args.secret.now in
    let of_day = c.finalize-of_day.ensures first_key c.args.scope.date.now
    (c.update.ensures first_key [] c.of_parts-mac.ensures) in
    let of_region = c.hmac-of_region.ensures ∙ ap (λ k. hmac k c.args.scope.region.now) of_day in
    let of_service = c.hmac-of_service.ensures ∙ ap (λ k. hmac k c.args.scope.service.now) of_region in
    c.hmac.ensures ∙ ap (λ k. hmac k (codes "aws4_request")) of_service
