-- Fields of a secret.
use Rattle.std.proofs.Common.{◌≡◌, ◌&&◌, List, [], ◌∷◌, Result, Ok, Err, is_some, refl, ap}
use Rattle.std.specs.List.{list_all}
use Rattle.std.specs.Result.{result_ok}
use Rattle.sm_model.specs.Bounds.{is_tag}
use Rattle.sm_model.specs.declared.value.Tag.{Tag}
use Rattle.sm_policy_text.specs.Documents.{Flaw, is_read_policy}
use Rattle.sm_policy_text.specs.declared.policy.Policy.{Policy}
use Rattle.sm_versions.specs.Sound.{each_tag}

pub read_is : (policy : Result Policy Flaw) → is_some (result_ok policy) ≡ is_read_policy policy
read_is (Ok policy) = refl
read_is (Err flaw) = refl

pub each_tag_is : (tags : List Tag) → list_all is_tag tags ≡ each_tag tags
each_tag_is [] = refl
each_tag_is (tag ∷ tags) = ap (λ b. is_tag tag && b) (each_tag_is tags)
