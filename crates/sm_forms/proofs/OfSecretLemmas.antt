-- What it says of a request that names a secret and nothing else that its form passes.
use Rattle.std.proofs.Common.{◌≡◌, None}
use Rattle.std.specs.Prelude.{IsTrue}
use Rattle.sm_model.specs.declared.request.OfSecret.{OfSecret}
use Rattle.sm_base.specs.Spelling.{is_secret_id}
use Rattle.sm_forms.specs.OfSecret.{of_secret_forms}
use Rattle.sm_forms.proofs.MemberLemmas.{passes}

pub named_id : (asked : OfSecret) → of_secret_forms asked ≡ None → IsTrue (is_secret_id asked.secret_id)
named_id asked h = passes (is_secret_id asked.secret_id) _ h
