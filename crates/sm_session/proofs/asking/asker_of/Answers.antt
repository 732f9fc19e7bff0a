use Rattle.std.proofs.Common.{◌≤◌, length, option_copied, sym, arith}
use Rattle.sm_account.specs.Handling.{HasShortTexts}
use Rattle.sm_principal.proofs.BoundLemmas.{caller_short}
use Rattle.sm_session.proofs.HearLemmas.{asker_short}
use Rattle.sm_session.proofs.asking.asker_of.Goals as goal

pub returns-in-Ok-clause-short : goal.returns-in-Ok-clause-short
returns-in-Ok-clause-short c =
    let person = c.in-Ok.person in
    let key : length person.key ≤ 128 =
    caller_short c.args.people.now (option_copied c.value_of-authorization.result) person
    (sym c.in-Ok.ensures.caller) in
    let short : HasShortTexts person =
    record { key = omega (arith, key); arn = omega (arith, c.in-Ok.ensures.short) } in
    asker_short c.signed_by.result person c.signed_by.ensures.same short
