-- What it says of a request that names a secret and regions that its forms pass.
use Rattle.std.proofs.Common.{◌≡◌, ℕ, List, None}
use Rattle.std.specs.Prelude.{IsTrue}
use Rattle.sm_base.specs.Spelling.{is_secret_id}
use Rattle.sm_model.specs.declared.request.RegionsOfSecret.{RegionsOfSecret}
use Rattle.sm_versions.specs.Regions.{are_regions}
use Rattle.sm_forms.specs.RegionsOfSecret.{regions_forms, replicate_forms, remove_regions_forms}
use Rattle.sm_forms.proofs.MemberLemmas.{none_first, passes}

id_passes : (member : List ℕ) (of : RegionsOfSecret) → regions_forms member of ≡ None
    → IsTrue (is_secret_id of.secret_id)
id_passes member of h = passes (is_secret_id of.secret_id) _ (none_first _ _ h).1

regions_pass : (member : List ℕ) (of : RegionsOfSecret) → regions_forms member of ≡ None
    → IsTrue (are_regions of.regions)
regions_pass member of h = passes (are_regions of.regions) member (none_first _ _ h).0

pub replicate_id : (replicate : RegionsOfSecret) → replicate_forms replicate ≡ None
    → IsTrue (is_secret_id replicate.secret_id)
replicate_id replicate h = id_passes _ replicate h

pub replicate_regions : (replicate : RegionsOfSecret) → replicate_forms replicate ≡ None
    → IsTrue (are_regions replicate.regions)
replicate_regions replicate h = regions_pass _ replicate h

pub remove_id : (remove : RegionsOfSecret) → remove_regions_forms remove ≡ None
    → IsTrue (is_secret_id remove.secret_id)
remove_id remove h = id_passes _ remove h

pub remove_regions : (remove : RegionsOfSecret) → remove_regions_forms remove ≡ None
    → IsTrue (are_regions remove.regions)
remove_regions remove h = regions_pass _ remove h
