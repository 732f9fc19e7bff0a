-- How chains are made.
use Rattle.std.proofs.Common.{◌≡◌, ℕ, List, [], ◌∷◌, ◌++◌, refl, sym, ◌∙◌, subst}
use Rattle.sm_lock.specs.Story.{Grows}
use Rattle.sm_lock.proofs.Stories.{grows-same, grows-trans}
use Rattle.sm_session.specs.Sessions.{LocalState}
use Rattle.sm_account.proofs.SeatTraceLaws.{Joins}
use Rattle.sm_workers.specs.Chains.{Chain, Waits}
use Rattle.sm_workers.specs.RotationWorkers.{Post, WaitsAt}

module _ {P T : Type 0} (waiting : P → P → Type 0) (start end : T → P)
    (both : (a b c : P) → waiting a b → waiting b c → waiting a c) where
  -- a waiting behind it
  pub chain_on : (from to later : P) (xs : List T) → Chain waiting start end from xs to → waiting to later
      → Chain waiting start end from xs later
  chain_on from to later [] chain after = both from to later chain after
  chain_on from to later (x ∷ xs) chain after = (chain.0, chain_on (end x) to later xs chain.1 after)

  -- one thing more
  pub chain_more : (from at to : P) (xs : List T) (x : T) → Chain waiting start end from xs at → waiting at (start x)
      → waiting (end x) to → Chain waiting start end from (xs ++ x ∷ []) to
  chain_more from at to [] x chain before after = (both from at (start x) chain before, after)
  chain_more from at to (y ∷ ys) x chain before after =
      (chain.0, chain_more (end y) at to ys x chain.1 before after)

module _ (seat : ℕ) where
  -- others add, and add again
  pub joins : Joins (Grows (seat ∷ []))
  joins = record { still = grows-same (seat ∷ []); both = grows-trans (seat ∷ []) }

  pub waits_still : (at : LocalState) → Waits seat at at
  waits_still at = record { seen = grows-same (seat ∷ []) at.seen; readings = refl; drawn = refl; random = refl }

  pub waits_both : (a b c : LocalState) → Waits seat a b → Waits seat b c → Waits seat a c
  waits_both a b c first then = record {
    seen = grows-trans (seat ∷ []) a.seen b.seen c.seen first.seen then.seen;
    readings = then.readings ∙ first.readings;
    drawn = then.drawn ∙ first.drawn;
    random = then.random ∙ first.random;
  }

  -- one and the same
  pub waits_same : (a b : LocalState) → b ≡ a → Waits seat a b
  waits_same a b same = subst (λ (s : LocalState). Waits seat a s) (sym same) (waits_still a)

  pub waits_at_still : (at : Post) → WaitsAt seat at at
  waits_at_still at = record { own = waits_still at.own; rotator = refl }

  pub waits_at_both : (a b c : Post) → WaitsAt seat a b → WaitsAt seat b c → WaitsAt seat a c
  waits_at_both a b c first then = record {
    own = waits_both a.own b.own c.own first.own then.own;
    rotator = then.rotator ∙ first.rotator;
  }
