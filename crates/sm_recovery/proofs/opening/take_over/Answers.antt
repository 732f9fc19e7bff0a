use Rattle.std.proofs.Common.{arith, ap, subst, sym, ◌≡◌, ◌∙◌}
use Rattle.std.proofs.lemmas.Result.{IfOk-weaker}
use Rattle.sm_journal.specs.Records.{place_behind}
use Rattle.sm_store.specs.Openings.{held_of}
use Rattle.sm_store.specs.Stores.{bodies_edition}
use Rattle.sm_store.specs.Held.{edition_of, base_bodies, bodies_in, IsSpelledIn}
use Rattle.sm_recovery.specs.Unlawful.{IsUnlawful, OnDamaged}
use Rattle.sm_recovery.proofs.TakingLemmas.{both_err, untaken_as, holds_short}
use Rattle.sm_recovery.proofs.opening.take_over.Goals as goal

pub lawful-requires-clause-spelled : goal.lawful-requires-clause-spelled
lawful-requires-clause-spelled g c = subst (λ edition. IsSpelledIn edition (held_of c.args.loaded))
    (sym (c.edition_of.ensures ∙ ap edition_of c.format.ensures)) c.requires.opened.holds.spelled

pub lawful-requires-clause-gate : goal.lawful-requires-clause-gate
lawful-requires-clause-gate g c =
    subst (λ edition. c.args.loaded.gate ≡ place_behind (base_bodies edition c.args.loaded.base))
    (sym (c.edition_of.ensures ∙ ap edition_of c.format.ensures)) c.requires.gate

pub lawful-requires-clause-short : goal.lawful-requires-clause-short
lawful-requires-clause-short g c = omega (
  arith,
  holds_short c.args.store (held_of c.args.loaded) c.requires.opened.holds,
  ap (λ edition. place_behind (bodies_in edition (held_of c.args.loaded)))
      (c.edition_of.ensures ∙ ap edition_of c.format.ensures),
)

pub returns-in-Ok-clause-lawful : goal.returns-in-Ok-clause-lawful
returns-in-Ok-clause-lawful g c =
    IfOk-weaker c.go_over.result _ _ (λ opened takes. c.in-Ok.ensures.lawful) c.go_over.ensures.takes

pub returns-in-Ok-clause-refused : goal.returns-in-Ok-clause-refused
returns-in-Ok-clause-refused g c =
    both_err c.go_over.result
    (λ refused stopped stays. untaken_as c.args.store (held_of c.args.loaded) refused stopped stays)
    c.go_over.ensures.stopped c.go_over.ensures.stays

pub returns-in-Err-clause-refused : goal.returns-in-Err-clause-refused
returns-in-Err-clause-refused g c =
    c.untaken.ensures (held_of c.args.loaded)
    (subst (λ edition. OnDamaged (IsUnlawful edition (held_of c.args.loaded)) c.in-Err.why)
    (c.edition_of.ensures ∙ ap edition_of c.format.ensures) c.in-Err.ensures.refused)
