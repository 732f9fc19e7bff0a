-- The forms of the operations that name a secret and regions: AWS Secrets Manager API Reference,
-- RemoveRegionsFromReplication, ReplicateSecretToRegions.
use Rattle.std.specs.Prelude.{ℕ, List, Option, codes}
use Rattle.sm_base.specs.Spelling.{is_secret_id}
use Rattle.sm_model.specs.declared.request.RegionsOfSecret.{RegionsOfSecret}
use Rattle.sm_model.specs.declared.why.Why.{Why}
use Rattle.sm_versions.specs.Regions.{are_regions}
use Rattle.sm_forms.specs.Members.{first_why, form_unless}

-- the regions, under the name of their member, and then the SecretId, which comes behind both names in byte order
abbrev pub regions_forms : List ℕ → RegionsOfSecret → Option Why
regions_forms member of =
    first_why (form_unless (are_regions of.regions) member)
    (form_unless (is_secret_id of.secret_id) (codes "SecretId"))

abbrev pub replicate_forms : RegionsOfSecret → Option Why
replicate_forms replicate = regions_forms (codes "AddReplicaRegions") replicate

abbrev pub remove_regions_forms : RegionsOfSecret → Option Why
remove_regions_forms remove = regions_forms (codes "RemoveReplicaRegions") remove
