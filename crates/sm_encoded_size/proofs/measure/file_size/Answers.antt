use Rattle.std.proofs.Common.{◌∙◌, length, sym, ap, subst, arith}
use Rattle.std.specs.Prelude.{IsTrue}
use Rattle.std.specs.List.{list_all}
use Rattle.sm_record.specs.Rows.{secret}
use Rattle.sm_record.specs.declared.edition.Edition.TheVariants.{Second}
use Rattle.sm_record.proofs.SnapshotLaws.{snapshot_fits}
use Rattle.sm_encoded_size.proofs.MeasureLemmas.{all_size}
use Rattle.sm_encoded_size.proofs.measure.file_size.Goals as goal

pub encode_start-requires : goal.encode_start-requires
encode_start-requires c = (snapshot_fits Second c.args.base.now c.note_spelled.ensures.spelled).0

pub secrets_size-requires-clause-spelled : goal.secrets_size-requires-clause-spelled
secrets_size-requires-clause-spelled c =
    subst (λ rows. IsTrue (list_all (secret Second).fits rows)) (sym c.as_slice.ensures)
    (snapshot_fits Second c.args.base.now c.note_spelled.ensures.spelled).1

pub secrets_size-requires-clause-short : goal.secrets_size-requires-clause-short
secrets_size-requires-clause-short c =
    omega (arith, all_size c.args.base.now c.as_slice.result.now c.as_slice.ensures, c.note_spelled.ensures.short)

pub overflow_add-result-2 : goal.overflow_add-result-2
overflow_add-result-2 c =
    omega (
      arith,
      c.record_size.ensures,
      ap length (c.as_slice-2.ensures ∙ c.in_ok-body.ensures),
      c.in_ok-size.ensures,
      all_size c.args.base.now c.as_slice.result.now c.as_slice.ensures,
      c.note_spelled.ensures.short,
    )

pub returns : goal.returns
returns c =
    omega (
      arith,
      c.record_size.ensures,
      ap length (c.as_slice-2.ensures ∙ c.in_ok-body.ensures),
      c.in_ok-size.ensures,
      all_size c.args.base.now c.as_slice.result.now c.as_slice.ensures,
    )
