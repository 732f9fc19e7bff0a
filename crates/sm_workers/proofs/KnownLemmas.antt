-- Lists that are told optionally.
use Rattle.std.proofs.Common.{◌≡◌, List, [], ◌∷◌, ◌++◌, None, Some, refl, sym, ap, arith, append_assoc, append-nil, length-append}
use Rattle.std.specs.Prelude.{Option}
use Rattle.sm_io.specs.Edge.{IsFewer, IsNoMore, told_first, told_more}
use Rattle.sm_workers.specs.Known.{told_ahead, told_behind}

module _ {A : Type 0} where
  -- no items more
  pub behind-nil : (told : Option (List A)) → told_behind told [] ≡ told
  behind-nil None = refl
  behind-nil (Some items) = ap Some (append-nil items)

  pub ahead-nil : (told : Option (List A)) → told_ahead [] told ≡ told
  ahead-nil None = refl
  ahead-nil (Some items) = refl

  -- one item more
  pub behind-one : (told : Option (List A)) (items : List A) (item : A)
      → told_more (told_behind told items) item ≡ told_behind told (items ++ item ∷ [])
  behind-one None items item = refl
  behind-one (Some before) items item = ap Some (append_assoc before items (item ∷ []))

  pub ahead-one : (told : Option (List A)) (items : List A) (item : A)
      → told_ahead items (told_first item told) ≡ told_ahead (items ++ item ∷ []) told
  ahead-one None items item = refl
  ahead-one (Some after) items item = ap Some (sym (append_assoc items (item ∷ []) after))

-- where no more came back than were handed out, fewer did once another is handed out
pub fewer_then : {A B : Type 0} (handed : Option (List A)) (back : Option (List B)) (item : A) → IsNoMore handed back
    → IsFewer (told_more handed item) back
fewer_then None back item no_more = tt
fewer_then (Some handed) None item no_more = tt
fewer_then (Some handed) (Some back) item no_more = omega (arith, no_more, length-append handed (item ∷ []))
