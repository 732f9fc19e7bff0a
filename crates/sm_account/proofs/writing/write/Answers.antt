use Rattle.std.proofs.Common.{inl, inr, refl, ◌∙◌, arith}
use Rattle.sm_store.specs.Stores.{disk_of}
use Rattle.sm_account.proofs.WriteLemmas.{same_through, stays_through, writes_behind}
use Rattle.sm_account.proofs.writing.write.Goals as goal

pub append-requires-clause-format : goal.append-requires-clause-format
append-requires-clause-format g c = c.mend.ensures.same.format ∙ c.requires.format

pub append-requires-clause-fits : goal.append-requires-clause-fits
append-requires-clause-fits g c =
    omega (arith, c.requires.fits, c.mend.ensures.length, c.mend.ensures.same.limit)

pub returns-in-Ok-clause-answer : goal.returns-in-Ok-clause-answer
returns-in-Ok-clause-answer g c = λ e spells.
    writes_behind c.args.store.now c.mend.new.self c.append.new.store e c.append.result c.mend.ensures.length
    c.in-Ok.ensures.ok.1 (c.append.ensures.answer e spells)

pub returns-in-Ok-clause-same : goal.returns-in-Ok-clause-same
returns-in-Ok-clause-same g c =
    same_through c.args.store.now c.mend.new.self c.append.new.store c.mend.ensures.same c.append.ensures.same

pub returns-in-Ok-clause-any_moment : goal.returns-in-Ok-clause-any_moment
returns-in-Ok-clause-any_moment g c = λ e spells h failed was.
    inr (
      disk_of c.mend.new.self,
      c.mend.ensures.recovered h failed was,
      c.append.ensures.any_moment e spells h (c.in-Ok.ensures.ok.1 h failed was),
    )

pub returns-in-Err-clause-any_moment : goal.returns-in-Err-clause-any_moment
returns-in-Err-clause-any_moment g c = λ e spells h failed was. inl (c.mend.ensures.recovered h failed was)

pub returns-in-Ok-clause-no_other : goal.returns-in-Ok-clause-no_other
returns-in-Ok-clause-no_other g c =
    stays_through _ _ _ c.append.result (c.in-Ok.ensures.cause.no_other refl) c.append.ensures.no_other
