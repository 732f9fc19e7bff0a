use Rattle.std.proofs.Common.{ℕ, List, Some, refl, subst}
use Rattle.sm_journal.specs.Journals as journals
use Rattle.sm_store.proofs.StoreStands.{appends_ready, append_leaves_ready, append_recovers}
use Rattle.sm_store.proofs.store.Store.append.Goals as goal

pub returns-clause-answer : goal.returns-clause-answer
returns-clause-answer g c e ready =
    appends_ready c.args.self.now _ e c.args.ready.now c.append.result c.requires.format ready c.requires.within refl
    c.append.ensures.same.format
    (λ bodies stands. subst
    (λ (b : List ℕ). journals.LeavesEither bodies (Some b) c.args.self.now.journal c.append.new.self)
    c.as_slice.ensures (c.append.ensures.any_moment bodies stands))
    (subst (λ (b : List ℕ). journals.AppendsAs c.args.self.now.journal b c.append.new.self c.append.result)
    c.as_slice.ensures c.append.ensures.answer)

pub returns-clause-any_moment : goal.returns-clause-any_moment
returns-clause-any_moment g c e ready =
    append_leaves_ready c.args.self.now c.append.new.self e c.args.ready.now c.requires.format ready
    (λ bodies stands. subst
    (λ (b : List ℕ). journals.LeavesEither bodies (Some b) c.args.self.now.journal c.append.new.self)
    c.as_slice.ensures (c.append.ensures.any_moment bodies stands))

pub returns-clause-recovered : goal.returns-clause-recovered
returns-clause-recovered g c e ready =
    append_recovers c.args.self.now c.append.new.self e c.args.ready.now c.requires.format ready
    (λ bodies stands. subst
    (λ (b : List ℕ). journals.LeavesEither bodies (Some b) c.args.self.now.journal c.append.new.self)
    c.as_slice.ensures (c.append.ensures.any_moment bodies stands))
