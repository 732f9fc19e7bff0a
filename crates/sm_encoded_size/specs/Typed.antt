-- What the types of a base's parts say: texts are UTF-8, names, ARNs, labels and tokens are spelled as such, and
-- numbers have eight bytes.
use Rattle.std.specs.Prelude.{◌^◌, ◌<◌, ⊤, List, [], ◌∷◌, IfSome, IsTrue, IsUtf8}
use Rattle.sm_base.specs.Spelling.{is_arn, is_label, is_name, is_token}
use Rattle.sm_model.specs.declared.rows.Pair.{Pair}
use Rattle.sm_model.specs.declared.rows.SecretRow.{SecretRow}
use Rattle.sm_model.specs.declared.rows.VersionRow.{VersionRow}
use Rattle.sm_record.specs.declared.base.Base.{Base}
use Rattle.sm_encoded_size.specs.Texts.{TagTexts, ValueText}

pub record VersionTyped (version : VersionRow) : Type 0 where
  pub id : IsTrue (is_token version.id)
  pub value : IfSome version.value ValueText

abbrev pub VersionsTyped : List VersionRow → Type 0
VersionsTyped [] = ⊤
VersionsTyped (v ∷ vs) = VersionTyped v × VersionsTyped vs

pub record PairTyped (pair : Pair) : Type 0 where
  pub label : IsTrue (is_label pair.label)
  pub id : IsTrue (is_token pair.id)

abbrev pub PairsTyped : List Pair → Type 0
PairsTyped [] = ⊤
PairsTyped (p ∷ ps) = PairTyped p × PairsTyped ps

pub record TextsTyped (row : SecretRow) : Type 0 where
  pub description : IfSome row.description IsUtf8
  pub kms : IfSome row.kms IsUtf8
  pub lambda : IfSome row.rotation.lambda IsUtf8
  pub schedule : IfSome row.rotation.schedule IsUtf8
  pub policy : IfSome row.policy IsUtf8
  pub tags : TagTexts row.tags

pub record RowTyped (row : SecretRow) : Type 0 where
  pub arn : IsTrue (is_arn row.arn)
  pub name : IsTrue (is_name row.name)
  pub texts : TextsTyped row
  pub labels : PairsTyped row.labels
  pub versions : VersionsTyped row.versions
  pub job : IfSome row.job (λ job. IsTrue (is_token job.token))
  pub next : row.next_version < 2 ^ 64

abbrev pub RowsTyped : List SecretRow → Type 0
RowsTyped [] = ⊤
RowsTyped (r ∷ rs) = RowTyped r × RowsTyped rs

pub record BaseTyped (base : Base) : Type 0 where
  pub rows : RowsTyped base.rows.secrets
  pub next : base.rows.next < 2 ^ 64
  pub entries : base.entries < 2 ^ 64
