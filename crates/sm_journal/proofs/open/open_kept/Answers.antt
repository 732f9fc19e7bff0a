use Rattle.std.proofs.Common.{◌≡◌, ◌<◌, ℕ, List, length, sym, ◌∙◌, ap, subst}
use Rattle.sm_journal.specs.Journals.{format_of, IsOpened}
use Rattle.sm_journal.specs.Lengths.{ReadsLength}
use Rattle.sm_journal.specs.Openings.{IsRefusedAs}
use Rattle.sm_journal.specs.Places.{bodies_at, AreInside}
use Rattle.sm_journal.specs.Records.{Recovers}
use Rattle.sm_journal.proofs.open.open_kept.Goals as goal

pub open_old-requires-clause-place : goal.open_old-requires-clause-place
open_old-requires-clause-place g c =
    subst (λ (b : List ℕ). ReadsLength c.args.file (length b) (g.D.Disk.sight c.args.disk))
    (sym c.as_slice.ensures.value) c.requires.place

pub over-requires : goal.over-requires
over-requires g c =
    subst (λ (b : List ℕ). AreInside b c.in-Ok.places.items) c.as_slice.ensures.value c.in-Ok.ensures.inside

pub returns-in-Ok-clause-opened : goal.returns-in-Ok-clause-opened
returns-in-Ok-clause-opened g c images =
    subst (λ (bodies : List (List ℕ)). IsOpened c.args.file c.args.limit bodies c.in-Ok.journal)
    (ap (λ (b : List ℕ). bodies_at b c.in-Ok.places.items) c.as_slice.ensures.value ∙ sym c.over.ensures)
    (c.in-Ok.ensures.opened (λ image was. images image was ∙ sym c.as_slice.ensures.value))

pub returns-in-Ok-clause-list : goal.returns-in-Ok-clause-list
returns-in-Ok-clause-list g c =
    subst (λ (bodies : List (List ℕ)). Recovers c.args.bytes.items (format_of c.in-Ok.journal) bodies)
    (sym c.over.ensures)
    (subst (λ (b : List ℕ). Recovers b (format_of c.in-Ok.journal) (bodies_at b c.in-Ok.places.items))
    c.as_slice.ensures.value c.in-Ok.ensures.list)

pub returns-in-Ok-clause-run : goal.returns-in-Ok-clause-run
returns-in-Ok-clause-run g c images =
    c.in-Ok.ensures.run (λ image was. images image was ∙ sym c.as_slice.ensures.value)

pub returns-in-Err-clause-refused : goal.returns-in-Err-clause-refused
returns-in-Err-clause-refused g c =
    subst (λ (b : List ℕ). IsRefusedAs g.D.Disk c.args.file b c.args.disk c.in-Err.refused) c.as_slice.ensures.value
    c.in-Err.ensures.refused
