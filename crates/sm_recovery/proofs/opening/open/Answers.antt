use Rattle.std.proofs.Common.{◌∙◌, ap, subst, sym}
use Rattle.std.proofs.lemmas.Result.{IfOk-weaker, IfErr-weaker}
use Rattle.sm_store.proofs.HeldRuns.{both_ok}
use Rattle.sm_store.specs.Openings.{held_of, IsUnopened}
use Rattle.sm_store.specs.Stores.{disk_of, format_of}
use Rattle.sm_store.specs.declared.unopened.Unopened.TheVariants.{NoEntry}
use Rattle.sm_recovery.specs.Lawful.{made_of, IsLawful}
use Rattle.sm_recovery.proofs.LawfulLaws.{taken_makes, taken_lawful}
use Rattle.sm_recovery.proofs.TakingLemmas.{opens, stays_on, refused_taking, refused_opening}
use Rattle.sm_recovery.proofs.opening.open.Goals as goal

pub returns-in-Ok-clause-opened : goal.returns-in-Ok-clause-opened
returns-in-Ok-clause-opened g c =
    both_ok c.take_over.result
    (λ opened lawful takes. opens g.D.Disk c.args.disk c.in-Ok.store c.in-Ok.loaded c.args.limit
    c.in-Ok.ensures.any_moment c.in-Ok.ensures.no_other c.in-Ok.ensures.found c.in-Ok.ensures.whole lawful opened takes)
    c.take_over.ensures.lawful c.take_over.ensures.takes

pub returns-in-Ok-clause-lawful : goal.returns-in-Ok-clause-lawful
returns-in-Ok-clause-lawful g c =
    both_ok c.take_over.result
    (λ opened lawful takes. subst IsLawful (sym takes.taken)
    (taken_lawful (format_of c.in-Ok.store) c.args.limit (held_of c.in-Ok.loaded) lawful))
    c.take_over.ensures.lawful c.take_over.ensures.takes

pub returns-in-Ok-clause-made : goal.returns-in-Ok-clause-made
returns-in-Ok-clause-made g c =
    IfOk-weaker c.take_over.result _ _
    (λ opened takes. takes.replayed
    ∙ sym (taken_makes (format_of c.in-Ok.store) c.args.limit (held_of c.in-Ok.loaded))
    ∙ ap made_of (sym takes.taken))
    c.take_over.ensures.takes

pub returns-in-Ok-clause-any_moment : goal.returns-in-Ok-clause-any_moment
returns-in-Ok-clause-any_moment g c =
    IfOk-weaker c.take_over.result _ _
    (λ opened stays. stays_on g.D.Disk c.args.disk c.in-Ok.store c.in-Ok.loaded c.args.limit
    c.in-Ok.ensures.any_moment c.in-Ok.ensures.no_other c.in-Ok.ensures.found (disk_of opened.store) stays)
    c.take_over.ensures.any_moment

pub returns-in-Ok-clause-no_other : goal.returns-in-Ok-clause-no_other
returns-in-Ok-clause-no_other g c =
    IfOk-weaker c.take_over.result _ _ (λ opened same. same ∙ c.in-Ok.ensures.no_other)
    c.take_over.ensures.no_other

pub returns-in-Ok-clause-refused : goal.returns-in-Ok-clause-refused
returns-in-Ok-clause-refused g c =
    IfErr-weaker c.take_over.result _ _
    (λ refused why. refused_taking g.D.Disk c.args.disk c.in-Ok.store c.in-Ok.loaded c.args.limit
    c.in-Ok.ensures.any_moment c.in-Ok.ensures.no_other c.in-Ok.ensures.found refused why)
    c.take_over.ensures.refused

pub refused_behind-requires : goal.refused_behind-requires
refused_behind-requires g c =
    let why : IsUnopened g.D.Disk c.args.disk (NoEntry c.in-Err-NoEntry.disk c.in-Err-NoEntry.front) =
    rw c.in-Err-NoEntry.field-0-is at c.in-Err-NoEntry.ensures.refused in
    (why.2, why.3)

pub returns-in-Err-NoEntry-clause-refused : goal.returns-in-Err-NoEntry-clause-refused
returns-in-Err-NoEntry-clause-refused g c =
    c.refused_behind.ensures c.args.disk (rw c.in-Err-NoEntry.field-0-is at c.in-Err-NoEntry.ensures.refused)

pub returns-in-Err-Refused-clause-refused : goal.returns-in-Err-Refused-clause-refused
returns-in-Err-Refused-clause-refused g c =
    refused_opening g.D.Disk c.args.disk c.in-Err-Refused.refused
    (rw c.in-Err-Refused.field-0-is at c.in-Err-Refused.ensures.refused)
