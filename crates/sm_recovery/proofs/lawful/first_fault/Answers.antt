use Rattle.std.proofs.Common.{◌≡◌, ap, arith, inr, subst, sym}
use Rattle.sm_journal.specs.Records.{place_behind}
use Rattle.sm_store.specs.Openings.{held_of}
use Rattle.sm_store.specs.Held.{base_bodies, bodies_in, IsSpelledIn}
use Rattle.sm_recovery.specs.Unlawful.{IsUnlawful, OnDamaged}
use Rattle.sm_recovery.proofs.FaultLemmas.{front_spelled, front_short, fault_before}
use Rattle.sm_recovery.proofs.lawful.first_fault.Goals as goal

pub lawful-requires-clause-spelled : goal.lawful-requires-clause-spelled
lawful-requires-clause-spelled c =
    subst (λ edition. IsSpelledIn edition (held_of c.args.front.now.loaded)) (sym c.edition_of.ensures)
    (front_spelled c.requires.0 c.args.front.now c.requires.1)

pub lawful-requires-clause-gate : goal.lawful-requires-clause-gate
lawful-requires-clause-gate c =
    subst (λ edition. c.args.front.now.loaded.gate ≡ place_behind (base_bodies edition c.args.front.now.loaded.base))
    (sym c.edition_of.ensures) c.requires.1.gate

pub lawful-requires-clause-short : goal.lawful-requires-clause-short
lawful-requires-clause-short c = omega (
  arith,
  front_short c.requires.0 c.args.front.now c.requires.1,
  ap (λ edition. place_behind (bodies_in edition (held_of c.args.front.now.loaded))) c.edition_of.ensures,
)

pub returns-in-Ok : goal.returns-in-Ok
returns-in-Ok c bodies front = inr (inr (held_of c.args.front.now.loaded, c.in-Ok.ensures.lawful, front.behind))

pub returns-in-Err : goal.returns-in-Err
returns-in-Err c bodies front =
    fault_before bodies c.args.front.now front c.in-Err.why
    (subst (λ edition. OnDamaged (IsUnlawful edition (held_of c.args.front.now.loaded)) c.in-Err.why)
    c.edition_of.ensures c.in-Err.ensures.refused)
