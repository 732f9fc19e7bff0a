-- Where the versions of the labels stand.
-- AWS Secrets Manager User Guide: "Secret versions" (staging labels).
use Rattle.std.specs.Prelude.{ℕ, ◌+◌, List, [], ◌∷◌, if◌then◌else◌}
use Rattle.sm_base.specs.Texts.{same_text}
use Rattle.sm_model.specs.declared.rows.Pair.{Pair}
use Rattle.sm_model.specs.declared.rows.VersionRow.{VersionRow}
use Rattle.sm_model.specs.declared.rows.SecretRow.{SecretRow}

-- the place of the first version with the id, or how many versions there are where none has it
abbrev pub place_of : List VersionRow → List ℕ → ℕ
place_of [] id = 0
place_of (v ∷ vs) id = if same_text v.id id then 0 else 1 + place_of vs id

-- the place of each label's version, in the order of the pairs
abbrev pub each_place : List VersionRow → List Pair → List ℕ
each_place versions [] = []
each_place versions (p ∷ ps) = place_of versions p.id ∷ each_place versions ps

-- the same of a secret
abbrev pub places_of : SecretRow → List ℕ
places_of row = each_place row.versions row.labels
