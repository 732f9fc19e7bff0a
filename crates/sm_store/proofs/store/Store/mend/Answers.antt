use Rattle.std.proofs.Common.{refl}
use Rattle.sm_journal.proofs.StandsLemmas.{at_err}
use Rattle.sm_store.proofs.StoreStands.{store_is, holds_on, holds_sure, mend_leaves, mend_recovers}
use Rattle.sm_store.proofs.store.Store.mend.Goals as goal

pub returns-in_err-mend-clause-err : goal.returns-in_err-mend-clause-err
returns-in_err-mend-clause-err g c =
    let kept = c.in_err-mend.ensures.err in
    at_err c.from_residual.result (
      kept.0,
      holds_on c.args.self.now _ c.mend.ensures.any_moment refl c.mend.ensures.same.format kept.1,
    )

pub returns-in_err-mend-clause-any_moment : goal.returns-in_err-mend-clause-any_moment
returns-in_err-mend-clause-any_moment g c = mend_leaves c.args.self.now c.mend.new.self c.mend.ensures.any_moment

pub returns-in_err-mend-clause-recovered : goal.returns-in_err-mend-clause-recovered
returns-in_err-mend-clause-recovered g c = mend_recovers c.args.self.now c.mend.new.self c.mend.ensures.any_moment

pub returns-clause-ok : goal.returns-clause-ok
returns-clause-ok g c =
    let mended = c.in_ok-mend.ensures.ok in (
      mended.0,
      holds_sure c.args.self.now _ c.mend.ensures.any_moment refl c.mend.ensures.same.format mended.1,
    )

pub returns-clause-left : goal.returns-clause-left
returns-clause-left g c sure = (refl, store_is _ _ (c.in_ok-mend.ensures.left sure).1)

pub returns-clause-any_moment : goal.returns-clause-any_moment
returns-clause-any_moment g c = mend_leaves c.args.self.now c.mend.new.self c.mend.ensures.any_moment

pub returns-clause-recovered : goal.returns-clause-recovered
returns-clause-recovered g c = mend_recovers c.args.self.now c.mend.new.self c.mend.ensures.any_moment
