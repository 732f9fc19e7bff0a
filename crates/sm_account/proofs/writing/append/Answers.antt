use Rattle.std.proofs.Common.{refl}
use Rattle.sm_account.proofs.WriteLemmas.{never_full}
use Rattle.sm_account.proofs.writing.append.Goals as goal

pub append-requires-clause-sure : goal.append-requires-clause-sure
append-requires-clause-sure g c = c.requires.sure

pub append-requires-clause-format : goal.append-requires-clause-format
append-requires-clause-format g c = c.requires.format

pub append-requires-clause-spelled : goal.append-requires-clause-spelled
append-requires-clause-spelled g c = c.requires.spelled

pub append-requires-clause-within : goal.append-requires-clause-within
append-requires-clause-within g c = c.requires.short

pub unreachable-requires : goal.unreachable-requires
unreachable-requires g c =
    never_full c.args.store.now c.requires.spelled.0 c.args.ready.now c.requires.spelled.1.1 c.requires.fits
    (c.in-Full.ensures.answer c.requires.spelled.0 c.requires.spelled.1).0

pub unreachable-unreachable : goal.unreachable-unreachable
unreachable-unreachable g c = c.unreachable.type_inv

pub unreachable-requires-in-TooLong : goal.unreachable-requires-in-TooLong
unreachable-requires-in-TooLong g c = c.in-TooLong.ensures.answer c.requires.spelled.0 c.requires.spelled.1

pub unreachable-unreachable-in-TooLong : goal.unreachable-unreachable-in-TooLong
unreachable-unreachable-in-TooLong g c = c.unreachable-in-TooLong.type_inv

pub returns-in-Ok-clause-answer : goal.returns-in-Ok-clause-answer
returns-in-Ok-clause-answer g c = λ e spells.
    let a = c.in-Ok.ensures.answer e spells in (a.1, a.2, λ h was. (a.3 h was).0)

pub returns-in-Ok-clause-same : goal.returns-in-Ok-clause-same
returns-in-Ok-clause-same g c = c.append.ensures.same

pub returns-in-Ok-clause-any_moment : goal.returns-in-Ok-clause-any_moment
returns-in-Ok-clause-any_moment g c = c.append.ensures.recovered

pub returns-in-Ok-clause-later : goal.returns-in-Ok-clause-later
returns-in-Ok-clause-later g c = c.append.ensures.later

pub returns-in-Failed-clause-answer : goal.returns-in-Failed-clause-answer
returns-in-Failed-clause-answer g c = λ e spells. let a = c.in-Failed.ensures.answer e spells in (a.1, a.2, a.3)

pub returns-in-Failed-clause-same : goal.returns-in-Failed-clause-same
returns-in-Failed-clause-same g c = c.append.ensures.same

pub returns-in-Failed-clause-any_moment : goal.returns-in-Failed-clause-any_moment
returns-in-Failed-clause-any_moment g c = c.append.ensures.recovered

pub returns-in-Failed-clause-later : goal.returns-in-Failed-clause-later
returns-in-Failed-clause-later g c = c.append.ensures.later

pub returns-in-Failed-clause-failed : goal.returns-in-Failed-clause-failed
returns-in-Failed-clause-failed g c = c.in-Failed.ensures.failed refl

pub returns-in-Ok-clause-no_other : goal.returns-in-Ok-clause-no_other
returns-in-Ok-clause-no_other g c = c.in-Ok.ensures.no_other

pub returns-in-Failed-clause-no_other : goal.returns-in-Failed-clause-no_other
returns-in-Failed-clause-no_other g c = tt
