-- The numbers that the settings have lie in the ranges of their options.
use Rattle.std.proofs.Common.{◌≡◌, ◌∙◌, false, true, List, [], ap, arith, refl, subst, sym}
use Rattle.std.proofs.lemmas.Bool.{false≢true}
use Rattle.std.specs.Prelude.{codes}
use Rattle.clap.specs.Simple.{built}
use Rattle.clap.specs.Walk.{Row, Text}
use Rattle.sm_command_line.specs.declared.settings.Settings.{Settings}
use Rattle.sm_command_line.specs.Command.{app, faults, found}
use Rattle.sm_command_line.specs.Reading.{IsInBounds, settings_in}
use Rattle.sm_command_line.proofs.FittingRows.{AllFit, AllSuit, number_of-bounds, rows_after-fit}

unlike : {X : Type 0} → false ≡ true → X
unlike e = absurd (false≢true e)

connections-suit : AllSuit (codes "connections") 1 64 (built app).top.rules
connections-suit = (
  unlike,
  (
    unlike,
    (
      unlike,
      (
        unlike,
        (
          unlike,
          ((λ e. (refl, refl)), (unlike, (unlike, (unlike, (unlike, (unlike, (unlike, tt))))))),
        ),
      ),
    ),
  ),
)

workers-suit : AllSuit (codes "workers") 0 16 (built app).top.rules
workers-suit = (
  unlike,
  (
    unlike,
    (
      unlike,
      (
        unlike,
        (
          unlike,
          (
            unlike,
            ((λ e. (refl, refl)), (unlike, (unlike, (unlike, (unlike, (unlike, tt)))))),
          ),
        ),
      ),
    ),
  ),
)

connections-fit : (words : List Text) → faults words ≡ [] → AllFit (codes "connections") 1 64 (found words)
unfolding faults found
connections-fit words nil = rows_after-fit (codes "connections") 1 64 (built app).top connections-suit words _ _ nil

workers-fit : (words : List Text) → faults words ≡ [] → AllFit (codes "workers") 0 16 (found words)
unfolding faults found
workers-fit words nil = rows_after-fit (codes "workers") 0 16 (built app).top workers-suit words _ _ nil

found-in_bounds : (words : List Text) → faults words ≡ [] → IsInBounds (settings_in (found words))
found-in_bounds words nil =
    let connections = number_of-bounds (codes "connections") 1 64 32 4 (found words) (connections-fit words nil)
    (omega arith) (omega arith) in
    let workers = number_of-bounds (codes "workers") 0 16 32 2 (found words) (workers-fit words nil) (omega arith)
    (omega arith) in
    (connections.0, connections.1, workers.1)

pub settings-in_bounds : (words : List Text) (rows : List Row) (settings : Settings) → faults words ≡ []
    → rows ≡ found words
    → settings ≡ settings_in rows → IsInBounds settings
settings-in_bounds words rows settings nil are made =
    subst IsInBounds (sym (made ∙ ap settings_in are)) (found-in_bounds words nil)
