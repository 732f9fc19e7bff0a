-- What always has a spelling.
use Rattle.std.proofs.Common.{◌≡◌, ℕ, ◌^◌, Bool, true, false, nat_lt, nat_le, ◌&&◌, is_some, refl, arith}
use Rattle.std.specs.Prelude.{ℤ, pos, negsuc, FitsSigned}
use Rattle.std.specs.Int.{w64}
use Rattle.std.proofs.lemmas.Bool.Decides.{nat_tests}
use Rattle.sm_base.specs.declared.moment.TheConstants.{LAST_READING}
use Rattle.sm_model.specs.declared.rows.Stage.{Stage}
use Rattle.sm_model.specs.declared.rows.Stage.TheVariants.{Create, Set, Test, Finish}
use Rattle.sm_record.specs.Editions.{mark}
use Rattle.sm_record.specs.declared.edition.Edition.{Edition}
use Rattle.sm_record.specs.declared.edition.Edition.TheVariants.{First, Second}
use Rattle.sm_record.specs.Fields.{is_i64, byte_of_truth, truth_of_byte, byte_of_stage, stage_of_byte}

pub signed_fits : (z : ℤ) → FitsSigned w64 z → is_i64 z ≡ true
signed_fits (pos n) fits = grind (arith, nat_tests)
signed_fits (negsuc n) fits = grind (arith, nat_tests)

-- a moment that a clock reads fits eight bytes
pub moment_fits : (n : ℕ) → nat_le n LAST_READING ≡ (nat_le n LAST_READING && nat_lt n (2 ^ 64))
moment_fits n = grind (arith, nat_tests)

pub truth_fits : (truth : Bool) → is_some (truth_of_byte (byte_of_truth truth)) ≡ true
truth_fits false = refl
truth_fits true = refl

pub stage_fits : (stage : Stage) → is_some (stage_of_byte (byte_of_stage stage)) ≡ true
stage_fits Create = refl
stage_fits Set = refl
stage_fits Test = refl
stage_fits Finish = refl

pub mark_fits : (e : Edition) → (mark e).fits tt ≡ true
unfolding mark
mark_fits First = refl
mark_fits Second = refl
