use Rattle.std.proofs.Common.{◌≡◌, ℕ, ◌≤◌, ◌∷◌, ap, ◌∙◌, sym, subst, List, Option, length, replicate, Box, Global, arith}
use Rattle.std.proofs.lemmas.List.{length-replicate}
use Rattle.std.proofs.lemmas.List.Elements.{All-replicate}
use Rattle.atomic_table.specs.Table.{opening}
use Rattle.sm_lock.specs.Boxed.{boxed}
use Rattle.sm_lock.specs.Rule.{Counted}
use Rattle.sm_lock.specs.View.{first_view}
use Rattle.sm_lock.proofs.SeatSteps.{opens}
use Rattle.sm_lock.proofs.build.lay.Goals as goal

pub new-requires : goal.new-requires
new-requires g c =
    let org = g.T.Storied.origin in let sty = g.T.Storied.story in let value = c.of.result.value in
    let slot = c.in-Ok.ensures.ok in
    let flags : List ℕ = replicate 128 0 in
    let same : slot.0.value ≡ value = slot.2 ∙ sym c.of.ensures in
    let count : c.length.result ≡ length (sty value) = c.length.ensures ∙ ap (λ x. length (sty x)) (sym c.of.ensures) in
    let words : List ℕ = 0 ∷ 0 ∷ c.length.result ∷ flags in
    subst (λ (l : List (Option (Box g.row.T.Denot Global))). Counted (boxed org) (boxed sty) (org value) (sty value)
    c.args.seats (opening words l (first_view (org value) (sty value)))) (sym slot.1)
    (opens (boxed org) (boxed sty) (org value) (sty value) c.args.seats words flags slot.0
    (ap (λ n. 0 ∷ 0 ∷ n ∷ flags) count)
    (length-replicate {A = ℕ} 128 0, All-replicate (λ (f : ℕ). f ≤ 1) 128 0 (omega arith))
    (ap sty same) (ap org same))

pub only-requires : goal.only-requires
only-requires g c =
    let slot = c.in-Ok.ensures.ok in (slot.0, c.in-Err-new.ensures.err ∙ slot.1)
