-- How rows are spelled: a body for the start, one for each secret, and one for each of its versions. What
-- soundness asks of rows is not asked here: a number is any that its bytes hold.
use Rattle.std.specs.Prelude.{ℕ, ◌^◌, nat_lt, ◌==◌, Bool, if◌then◌else◌, List, [], ◌∷◌, length, Option, Some, None}
use Rattle.sm_base.specs.Spelling.{is_name, is_label}
use Rattle.sm_base.specs.declared.moment.Moment.{Moment}
use Rattle.sm_model.specs.declared.rows.Job.{Job}
use Rattle.sm_model.specs.declared.rows.Pair.{Pair}
use Rattle.sm_model.specs.declared.rows.Rotation.{Rotation}
use Rattle.sm_model.specs.declared.rows.SecretRow.{SecretRow}
use Rattle.sm_model.specs.declared.rows.VersionRow.{VersionRow}
use Rattle.sm_model.specs.declared.value.Value.{Value}
use Rattle.sm_record.specs.Codec.{Codec, both, mapped, only, read_byte, coded, optional}
use Rattle.sm_record.specs.Fields.{long, octets, text, arn, token, listed, truth, stage, value, tag, schedule}
use Rattle.sm_record.specs.Requests.{regions}
use Rattle.sm_record.specs.Series.{Series, one, then_times, renamed}
use Rattle.sm_record.specs.declared.edition.Edition.{Edition}
use Rattle.sm_record.specs.declared.base.Base.{Base}
use Rattle.sm_record.specs.declared.row_parts.Start.{Start}
use Rattle.sm_record.specs.declared.row_parts.Named.{Named}
use Rattle.sm_record.specs.declared.row_parts.Described.{Described}
use Rattle.sm_record.specs.declared.row_parts.Counted.{Counted}
use Rattle.sm_record.specs.declared.row_parts.Ruled.{Ruled}
use Rattle.sm_record.specs.declared.row_parts.RowHead.{RowHead}

-- the name of a secret
unfoldable pub name : Codec (List ℕ)
name = only is_name octets

-- a staging label
unfoldable pub label : Codec (List ℕ)
label = only is_label octets

-- a moment that need not be one that a clock reads
unfoldable pub date : Codec Moment
date = mapped long (λ n. record { 0 = n }) (λ m. m.0)

-- a small number: one byte
unfoldable pub octet : Codec ℕ
octet = record { spell = λ n. n ∷ []; fits = λ n. nat_lt n 256; read = read_byte }

-- days: eight bytes, of which the first four are 0
unfoldable pub days : Codec ℕ
days = only (λ n. nat_lt n (2 ^ 32)) long

abbrev pub sign_of_byte : ℕ → ℕ → Option (Unit {0})
sign_of_byte sign byte = if byte == sign then Some tt else None

-- the byte that a body of rows begins with
abbrev pub sign : ℕ → Codec (Unit {0})
sign byte = coded (λ _. byte) (sign_of_byte byte)

-- a label and the version that it is on
unfoldable pub pair : Codec Pair
pair = mapped (both label token) (λ x. record { label = x.0; id = x.1 }) (λ p. (p.label, p.id))

-- a rotation under way
unfoldable pub job : Codec Job
job = mapped (both token (both stage (both octet (both date (optional octet)))))
    (λ x. record { token = x.0; stage = x.1.0; attempt = x.1.1.0; retry_at = x.1.1.1.0; tested = x.1.1.1.1 })
    (λ j. (j.token, (j.stage, (j.attempt, (j.retry_at, j.tested)))))

-- the schedule, the next date and the last of a rotation
abbrev pub rotation_dates : Edition → Codec (Option (List ℕ) × (Option Moment × Option Moment))
rotation_dates e = both (schedule e) (both (optional date) (optional date))

-- how a secret is rotated
unfoldable pub rotation : Edition → Codec Rotation
rotation e = mapped
    (both truth (both (optional text) (both (optional days) (rotation_dates e))))
    (λ x. record {
      enabled = x.0;
      lambda = x.1.0;
      days = x.1.1.0;
      schedule = x.1.1.1.0;
      next = x.1.1.1.1.0;
      last = x.1.1.1.1.1;
    })
    (λ r. (r.enabled, (r.lambda, (r.days, (r.schedule, (r.next, r.last))))))

unfoldable pub named : Codec Named
named = mapped (both long (both arn (both name (both date date))))
    (λ x. record { serial = x.0; arn = x.1.0; name = x.1.1.0; created = x.1.1.1.0; changed = x.1.1.1.1 })
    (λ n. (n.serial, (n.arn, (n.name, (n.created, n.changed)))))

unfoldable pub described : Codec Described
described = mapped (both (optional text) (both (optional text) (listed tag)))
    (λ x. record { description = x.0; kms = x.1.0; tags = x.1.1 }) (λ d. (d.description, (d.kms, d.tags)))

unfoldable pub counted : Codec Counted
counted = mapped (both long (both long (both (listed pair) (optional date))))
    (λ x. record { versions = x.0; next_version = x.1.0; labels = x.1.1.0; deletion = x.1.1.1 })
    (λ c. (c.versions, (c.next_version, (c.labels, c.deletion))))

unfoldable pub ruled : Edition → Codec Ruled
ruled e = mapped (both (optional text) (both (regions e) (optional job)))
    (λ x. record { policy = x.0; regions = x.1.0; job = x.1.1 }) (λ r. (r.policy, (r.regions, r.job)))

-- what is said of a secret behind its description
abbrev pub row_tail : Edition → Codec (Counted × (Rotation × Ruled))
row_tail e = both counted (both (rotation e) (ruled e))

-- a secret without its versions, of which it says how many they are
unfoldable pub row_head : Edition → Codec RowHead
row_head e = mapped
    (both (sign 242) (both named (both described (row_tail e))))
    (λ x. record {
      named = x.1.0;
      described = x.1.1.0;
      counted = x.1.1.1.0;
      rotation = x.1.1.1.1.0;
      ruled = x.1.1.1.1.1;
    })
    (λ h. (tt, (h.named, (h.described, (h.counted, (h.rotation, h.ruled))))))

-- the value of a version, the attempt at which it was accepted, and whether a rotation made it
abbrev pub version_content : Codec (Option Value × (Option ℕ × Bool))
version_content = both (optional value) (both (optional octet) truth)

-- a version of a secret
unfoldable pub version : Codec VersionRow
version = mapped
    (both (sign 243) (both token (both long (both date version_content))))
    (λ x. record {
      id = x.1.0;
      serial = x.1.1.0;
      made = x.1.1.1.0;
      value = x.1.1.1.1.0;
      rotated = x.1.1.1.1.1.0;
      by_rotation = x.1.1.1.1.1.1;
    })
    (λ v. (tt, (v.id, (v.serial, (v.made, (v.value, (v.rotated, v.by_rotation)))))))

-- what stands before all secrets: the serial of the next one, the last moment, how many entries were made, and how many
-- secrets follow
unfoldable pub start : Codec Start
start = mapped (both (sign 241) (both long (both date (both long long))))
    (λ x. record { next = x.1.0; last = x.1.1.0; entries = x.1.1.1.0; secrets = x.1.1.1.1 })
    (λ s. (tt, (s.next, (s.last, (s.entries, s.secrets)))))

-- the parts of a secret
abbrev pub named_of : SecretRow → Named
named_of row = record {
  serial = row.serial;
  arn = row.arn;
  name = row.name;
  created = row.created;
  changed = row.changed;
}

abbrev pub described_of : SecretRow → Described
described_of row = record { description = row.description; kms = row.kms; tags = row.tags }

abbrev pub counted_of : SecretRow → Counted
counted_of row = record {
  versions = length row.versions;
  next_version = row.next_version;
  labels = row.labels;
  deletion = row.deletion;
}

abbrev pub ruled_of : SecretRow → Ruled
ruled_of row = record { policy = row.policy; regions = row.regions; job = row.job }

abbrev pub head_of_row : SecretRow → RowHead
head_of_row row = record {
  named = named_of row;
  described = described_of row;
  counted = counted_of row;
  rotation = row.rotation;
  ruled = ruled_of row;
}

-- the secret of this head, with these versions
abbrev pub row_of : RowHead → List VersionRow → SecretRow
row_of head versions = record {
  serial = head.named.serial;
  arn = head.named.arn;
  name = head.named.name;
  created = head.named.created;
  changed = head.named.changed;
  description = head.described.description;
  kms = head.described.kms;
  tags = head.described.tags;
  versions = versions;
  next_version = head.counted.next_version;
  labels = head.counted.labels;
  deletion = head.counted.deletion;
  rotation = head.rotation;
  policy = head.ruled.policy;
  regions = head.ruled.regions;
  job = head.ruled.job;
}

-- a secret, and its versions behind it
unfoldable pub secret : Edition → Series SecretRow
secret e = renamed (then_times (λ h. h.counted.versions) (one (row_head e)) (one version))
    (λ x. row_of x.0 x.1) (λ row. (head_of_row row, row.versions))

abbrev pub start_of_base : Base → Start
start_of_base base = record {
  next = base.rows.next;
  last = base.last;
  entries = base.entries;
  secrets = length base.rows.secrets;
}

abbrev pub base_of_start : Start → List SecretRow → Base
base_of_start s secrets = record {
  rows = record { next = s.next; secrets = secrets };
  last = s.last;
  entries = s.entries;
}

-- all rows: the start, and the secrets behind it
unfoldable pub rows : Edition → Series Base
rows e = renamed (then_times (λ s. s.secrets) (one start) (secret e))
    (λ x. base_of_start x.0 x.1) (λ base. (start_of_base base, base.rows.secrets))
