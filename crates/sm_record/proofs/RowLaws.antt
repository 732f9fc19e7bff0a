-- The laws of rows and of their fields.
use Rattle.std.proofs.Common.{◌≡◌, ℕ, ◌^◌, ◌≤◌, ◌==◌, Bool, true, false, cond, IsTrue, nat_lt, List, [], ◌∷◌, length, Option, Some, None, is_some, refl, sym, ap, subst, inl, inr, eqb-true, arith}
use Rattle.std.proofs.lemmas.Bool.{and_parts, lt-ltb}
use Rattle.sm_base.specs.Spelling.{is_name, is_label}
use Rattle.sm_model.specs.declared.rows.SecretRow.{SecretRow}
use Rattle.sm_model.specs.declared.rows.VersionRow.{VersionRow}
use Rattle.sm_record.specs.Codec.{IsBytes, read_byte, both, only, optional}
use Rattle.sm_record.specs.Fields.{long, octets, text, arn, token, listed, truth, stage, value, tag, schedule}
use Rattle.sm_record.specs.Requests.{regions}
use Rattle.sm_record.specs.Rows.{name, label, date, octet, days, sign_of_byte, sign, pair, job, rotation, named, described, counted, ruled, row_head, version, start, head_of_row, row_of, secret, start_of_base, base_of_start, rows}
use Rattle.sm_record.specs.Series.{one, then_times}
use Rattle.sm_record.specs.declared.base.Base.{Base}
use Rattle.sm_record.specs.declared.row_parts.Start.{Start}
use Rattle.sm_record.specs.declared.row_parts.RowHead.{RowHead}
use Rattle.sm_record.specs.declared.edition.Edition.{Edition}
use Rattle.sm_record.proofs.Bytes.{chosen, gives, stops, ok_is, err_is, ok_no_err, err_no_ok}
use Rattle.sm_record.proofs.CodecLaws.{Begins, Lawful, both_lawful, mapped_lawful, only_lawful, coded_lawful}
use Rattle.sm_record.proofs.ArmLaws.{optional_lawful}
use Rattle.sm_record.proofs.FieldLaws.{long_lawful, octets_lawful, text_lawful, arn_lawful, token_lawful, listed_lawful, truth_lawful, stage_lawful, value_lawful, tag_lawful, schedule_lawful}
use Rattle.sm_record.proofs.RequestLaws.{regions_lawful}
use Rattle.sm_record.proofs.SeriesLaws.{Orderly, one_orderly, then_orderly, renamed_orderly}

-- ---- fields

no_some : {A : Type 0} (a : A) → None ≡ Some a → ⊥
no_some a e = cc

pub name_lawful : Lawful name
unfolding name
name_lawful = only_lawful is_name octets octets_lawful

pub label_lawful : Lawful label
unfolding label
label_lawful = only_lawful is_label octets octets_lawful

pub date_lawful : Lawful date
unfolding date
date_lawful = mapped_lawful long long_lawful (λ n. record { 0 = n }) (λ m. m.0) (λ _. refl) (λ _. refl)

pub days_lawful : Lawful days
unfolding days
days_lawful = only_lawful (λ n. nat_lt n (2 ^ 32)) long long_lawful

octet_takes : (bytes : List ℕ) (n : ℕ) (rest : List ℕ) → IsBytes bytes → read_byte bytes ≡ gives (n, rest)
    → Begins octet bytes n rest
unfolding octet
octet_takes [] n rest fits e = absurd (err_no_ok (n, rest) 0 e)
octet_takes (byte ∷ bytes) n rest fits e =
    let whole : Begins octet (byte ∷ bytes) byte bytes = record { parts = refl; fits = lt-ltb byte 256 (fits 0) } in
    subst (λ (y : ℕ × List ℕ). Begins octet (byte ∷ bytes) y.0 y.1) (ok_is (byte, bytes) (n, rest) e) whole

octet_within : (bytes : List ℕ) (left : ℕ) → read_byte bytes ≡ stops left → left ≤ length bytes
octet_within [] left e = omega (arith, err_is {A = ℕ} 0 left e)
octet_within (byte ∷ bytes) left e = absurd (ok_no_err (byte, bytes) left e)

pub octet_lawful : Lawful octet
unfolding octet
octet_lawful = record {
  takes = λ bytes n rest fits e. octet_takes bytes n rest fits e;
  again = λ n rest fits. refl;
  within = λ bytes left fits e. octet_within bytes left e;
}

sign_inverse : (sign byte : ℕ) (u : Unit {0}) → sign_of_byte sign byte ≡ Some u → sign ≡ byte
sign_inverse sign byte u e =
    elim (chosen (byte == sign) (Some tt) None (Some u) e) [
      | inl is ↦ sym (eqb-true byte sign is.0)
      | inr other ↦ absurd (no_some u other.1)
    ]

abbrev sign_if : Bool → Unit {0} → Option (Unit {0})
sign_if test u = cond test (Some u) None

sign_same : (test : Bool) (u : Unit {0}) → IsTrue (is_some (sign_if test u)) → sign_if test u ≡ Some u
sign_same true u fits = refl
sign_same false u fits = absurd cc

pub sign_lawful : (byte : ℕ) → Lawful (sign byte)
sign_lawful byte = coded_lawful (λ _. byte) (sign_of_byte byte) (λ b u e. sign_inverse byte b u e)
    (λ u fits. sign_same (byte == byte) u fits)

pub pair_lawful : Lawful pair
unfolding pair
pair_lawful = mapped_lawful (both label token) (both_lawful label_lawful token_lawful)
    (λ x. record { label = x.0; id = x.1 }) (λ p. (p.label, p.id)) (λ _. refl) (λ _. refl)

pub job_lawful : Lawful job
unfolding job
job_lawful = mapped_lawful (both token (both stage (both octet (both date (optional octet)))))
    (both_lawful token_lawful (both_lawful stage_lawful (both_lawful octet_lawful (both_lawful date_lawful
    (optional_lawful octet octet_lawful)))))
    (λ x. record { token = x.0; stage = x.1.0; attempt = x.1.1.0; retry_at = x.1.1.1.0; tested = x.1.1.1.1 })
    (λ j. (j.token, (j.stage, (j.attempt, (j.retry_at, j.tested))))) (λ _. refl) (λ _. refl)

pub rotation_lawful : (e : Edition) → Lawful (rotation e)
unfolding rotation
rotation_lawful e = mapped_lawful
    (both truth (both (optional text) (both (optional days)
    (both (schedule e) (both (optional date) (optional date))))))
    (both_lawful truth_lawful (both_lawful (optional_lawful text text_lawful)
    (both_lawful (optional_lawful days days_lawful) (both_lawful (schedule_lawful e)
    (both_lawful (optional_lawful date date_lawful) (optional_lawful date date_lawful))))))
    (λ x. record {
      enabled = x.0;
      lambda = x.1.0;
      days = x.1.1.0;
      schedule = x.1.1.1.0;
      next = x.1.1.1.1.0;
      last = x.1.1.1.1.1;
    })
    (λ r. (r.enabled, (r.lambda, (r.days, (r.schedule, (r.next, r.last)))))) (λ _. refl) (λ _. refl)

-- ---- secrets and versions

named_lawful : Lawful named
unfolding named
named_lawful = mapped_lawful (both long (both arn (both name (both date date))))
    (both_lawful long_lawful (both_lawful arn_lawful (both_lawful name_lawful (both_lawful date_lawful date_lawful))))
    (λ x. record { serial = x.0; arn = x.1.0; name = x.1.1.0; created = x.1.1.1.0; changed = x.1.1.1.1 })
    (λ n. (n.serial, (n.arn, (n.name, (n.created, n.changed))))) (λ _. refl) (λ _. refl)

described_lawful : Lawful described
unfolding described
described_lawful = mapped_lawful (both (optional text) (both (optional text) (listed tag)))
    (both_lawful (optional_lawful text text_lawful) (both_lawful (optional_lawful text text_lawful)
    (listed_lawful tag tag_lawful)))
    (λ x. record { description = x.0; kms = x.1.0; tags = x.1.1 }) (λ d. (d.description, (d.kms, d.tags)))
    (λ _. refl) (λ _. refl)

counted_lawful : Lawful counted
unfolding counted
counted_lawful = mapped_lawful (both long (both long (both (listed pair) (optional date))))
    (both_lawful long_lawful (both_lawful long_lawful (both_lawful (listed_lawful pair pair_lawful)
    (optional_lawful date date_lawful))))
    (λ x. record { versions = x.0; next_version = x.1.0; labels = x.1.1.0; deletion = x.1.1.1 })
    (λ c. (c.versions, (c.next_version, (c.labels, c.deletion)))) (λ _. refl) (λ _. refl)

ruled_lawful : (e : Edition) → Lawful (ruled e)
unfolding ruled
ruled_lawful e = mapped_lawful (both (optional text) (both (regions e) (optional job)))
    (both_lawful (optional_lawful text text_lawful) (both_lawful (regions_lawful e) (optional_lawful job job_lawful)))
    (λ x. record { policy = x.0; regions = x.1.0; job = x.1.1 }) (λ r. (r.policy, (r.regions, r.job)))
    (λ _. refl) (λ _. refl)

pub row_head_lawful : (e : Edition) → Lawful (row_head e)
unfolding row_head
row_head_lawful e = mapped_lawful
    (both (sign 242) (both named (both described (both counted (both (rotation e) (ruled e))))))
    (both_lawful (sign_lawful 242) (both_lawful named_lawful (both_lawful described_lawful (both_lawful counted_lawful
    (both_lawful (rotation_lawful e) (ruled_lawful e))))))
    (λ x. record {
      named = x.1.0;
      described = x.1.1.0;
      counted = x.1.1.1.0;
      rotation = x.1.1.1.1.0;
      ruled = x.1.1.1.1.1;
    })
    (λ h. (tt, (h.named, (h.described, (h.counted, (h.rotation, h.ruled)))))) (λ _. refl) (λ _. refl)

pub version_lawful : Lawful version
unfolding version
version_lawful = mapped_lawful
    (both (sign 243) (both token (both long (both date (both (optional value) (both (optional octet) truth))))))
    (both_lawful (sign_lawful 243) (both_lawful token_lawful (both_lawful long_lawful (both_lawful date_lawful
    (both_lawful (optional_lawful value value_lawful) (both_lawful (optional_lawful octet octet_lawful)
    truth_lawful))))))
    (λ x. record {
      id = x.1.0;
      serial = x.1.1.0;
      made = x.1.1.1.0;
      value = x.1.1.1.1.0;
      rotated = x.1.1.1.1.1.0;
      by_rotation = x.1.1.1.1.1.1;
    })
    (λ v. (tt, (v.id, (v.serial, (v.made, (v.value, (v.rotated, v.by_rotation))))))) (λ _. refl) (λ _. refl)

pub start_lawful : Lawful start
unfolding start
start_lawful = mapped_lawful (both (sign 241) (both long (both date (both long long))))
    (both_lawful (sign_lawful 241) (both_lawful long_lawful (both_lawful date_lawful (both_lawful long_lawful
    long_lawful))))
    (λ x. record { next = x.1.0; last = x.1.1.0; entries = x.1.1.1.0; secrets = x.1.1.1.1 })
    (λ s. (tt, (s.next, (s.last, (s.entries, s.secrets))))) (λ _. refl) (λ _. refl)

-- ---- rows

-- a head that counts these versions is that of its secret
head_again : (h : RowHead) (versions : List VersionRow) → h.counted.versions ≡ length versions
    → ◌≡◌ {A = RowHead × List VersionRow} (head_of_row (row_of h versions), versions) (h, versions)
head_again h versions count =
    λ i. (record h { counted = record h.counted { versions = sym count i } }, versions)

start_again : (s : Start) (secrets : List SecretRow) → s.secrets ≡ length secrets
    → ◌≡◌ {A = Start × List SecretRow} (start_of_base (base_of_start s secrets), secrets) (s, secrets)
start_again s secrets count = λ i. (record s { secrets = sym count i }, secrets)

pub secret_orderly : (e : Edition) → Orderly (secret e)
unfolding secret
secret_orderly e = renamed_orderly (then_times (λ h. h.counted.versions) (one (row_head e)) (one version))
    (then_orderly (λ h. h.counted.versions) (one (row_head e)) (one version)
    (one_orderly (row_head e) (row_head_lawful e))
    (one_orderly version version_lawful))
    (λ x. row_of x.0 x.1) (λ row. (head_of_row row, row.versions))
    (λ x fits. head_again x.0 x.1 (eqb-true x.0.counted.versions (length x.1)
    (and_parts _ _ (and_parts _ _ fits).1).0)) (λ row. refl)

pub rows_orderly : (e : Edition) → Orderly (rows e)
unfolding rows
rows_orderly e = renamed_orderly (then_times (λ s. s.secrets) (one start) (secret e))
    (then_orderly (λ s. s.secrets) (one start) (secret e) (one_orderly start start_lawful) (secret_orderly e))
    (λ x. base_of_start x.0 x.1) (λ base. (start_of_base base, base.rows.secrets))
    (λ x fits. start_again x.0 x.1 (eqb-true x.0.secrets (length x.1) (and_parts _ _ (and_parts _ _ fits).1).0))
    (λ base. refl)
