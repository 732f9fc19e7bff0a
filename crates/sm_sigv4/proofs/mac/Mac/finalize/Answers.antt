use Rattle.std.proofs.Common.{◌++◌, ap, ◌∙◌}
use Rattle.sha2.specs.Sha256.{sha256}
use Rattle.sm_sigv4.specs.Hmac.{key_block, masked, hmac}
use Rattle.sm_sigv4.proofs.mac.Mac.finalize.Goals as goal

pub returns : goal.returns
unfolding hmac
returns c key text is =
    c.finalize-2.ensures _ (c.update.ensures _ is.1)
    ∙ ap (λ d. sha256 (masked 0x5c (key_block key) ++ d)) (c.finalize.ensures _ is.0)
