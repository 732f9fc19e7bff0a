use Rattle.std.proofs.Common.{◌≡◌, ◌<◌, ℕ, List, length, sym, ◌∙◌, subst}
use Rattle.std.proofs.lemmas.Result.{IfOk-weaker}
use Rattle.sm_store.specs.Loading.{IsNoSnapshot}
use Rattle.sm_store.proofs.loading.base_before.Goals as goal

pub returns-in-Ok-clause-base : goal.returns-in-Ok-clause-base
returns-in-Ok-clause-base c =
    let front = c.as_slice.ensures.value ∙ c.in-Ok.ensures in
    IfOk-weaker c.base_in.result _ _ (λ base is. (is.0, sym front ∙ is.1)) c.base_in.ensures.base

pub returns-in-Ok-clause-damaged : goal.returns-in-Ok-clause-damaged
returns-in-Ok-clause-damaged c damage same =
    let front = c.as_slice.ensures.value ∙ c.in-Ok.ensures in
    subst (λ (l : List (List ℕ)). IsNoSnapshot c.args.edition l damage.at damage.entry) front
    (c.base_in.ensures.damaged damage same)

pub returns-in-Ok-clause-some : goal.returns-in-Ok-clause-some
returns-in-Ok-clause-some c damage same =
    let front = c.as_slice.ensures.value ∙ c.in-Ok.ensures in
    subst (λ (l : List (List ℕ)). 0 < length l) front (c.base_in.ensures.some damage same)
