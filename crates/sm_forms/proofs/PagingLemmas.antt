-- What it says of the members that ask for a page that their forms pass.
use Rattle.std.proofs.Common.{◌≡◌, ℕ, Bool, true, false, cond, List, Option, Some, None, refl}
use Rattle.std.specs.Prelude.{IsTrue}
use Rattle.sm_model.specs.declared.why.Why.{Why}
use Rattle.sm_model.specs.declared.why.Why.TheVariants.{BadToken}
use Rattle.sm_model.specs.Bounds.{fits}
use Rattle.sm_forms.specs.Paging.{is_page_token, next_form}

unrefused : (fits : Bool) (why : Why) → cond fits None (Some why) ≡ None → fits ≡ true
unrefused true why h = refl
unrefused false why h = absurd (let f : Some why ≡ None = h in cc)

pub next_passes : (letter : ℕ) (token : Option (List ℕ)) → next_form letter token ≡ None
    → IsTrue (fits (is_page_token letter) token)
next_passes letter token h = unrefused (fits (is_page_token letter) token) BadToken h
