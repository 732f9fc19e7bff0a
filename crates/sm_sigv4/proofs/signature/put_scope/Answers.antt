use Rattle.std.proofs.Common.{List, ℕ, subst}
use Rattle.sm_sigv4.specs.Hmac.{IsMac}
use Rattle.sm_sigv4.proofs.AuthorizationLemmas.{six_behind}
use Rattle.sm_sigv4.proofs.signature.put_scope.Goals as goal

pub returns : goal.returns
returns c key text is =
    subst (λ (t : List ℕ). IsMac c.update-6.new.self key t) (six_behind text _ _ _ _ _ _)
    (c.update-6.ensures key _ (c.update-5.ensures key _ (c.update-4.ensures key _
    (c.update-3.ensures key _ (c.update-2.ensures key _ (c.update.ensures key text is))))))
