-- Passes on their way to workers and back.
use Rattle.std.proofs.Common.{◌≡◌, ℕ, ◌+◌, ◌-◌, ◌<◌, ◌≤◌, List, [], ◌∷◌, ◌++◌, length, get_or, set, Some, None, sym, ap, ◌∙◌, subst, arith, length-append}
use Rattle.std.proofs.lemmas.List.{get_or-set_other, get_or-set_same, get_or_append_left, get_or_default, get_or_push, length-set}
use mathlib.Core.Logic.{dite}
use native.Mathlib.Decide.{ℕ_discrete}
use Rattle.sm_lock.specs.declared.pass.Pass.{Pass}
use Rattle.sm_lock.specs.declared.storied.Storied.{Ghosts}
use Rattle.sm_workers.specs.declared.worker.WorkerBy.{WorkerBy}

module _ {E C W R A O M : Type 0} {g : Ghosts A O M} where
  -- the workers from a place on have their passes, and those before it are as they were
  pub record GivenFrom (left : ℕ) (passes : List (Pass A O M g)) (old now : List (WorkerBy E C W R A O M g)) : Type 0
    where
      pub many : length now ≡ length old
      pub within : left ≤ length old
      pub stays : (k : ℕ) (worker : WorkerBy E C W R A O M g) → k < left → get_or now k worker ≡ get_or old k worker
      pub given : (k : ℕ) (pass : Pass A O M g) (worker : WorkerBy E C W R A O M g) → left ≤ k → k < length old
          → get_or now k worker ≡ record (get_or old k worker) { pass = Some (get_or passes k pass) }

  -- the workers before a place have none, those from it on are as they were, and these passes were taken
  pub record TakenTo (place : ℕ) (passes : List (Pass A O M g)) (old now : List (WorkerBy E C W R A O M g)) : Type 0
    where
      pub many : length now ≡ length old
      pub size : length passes ≡ place
      pub stays : (k : ℕ) (worker : WorkerBy E C W R A O M g) → place ≤ k → get_or now k worker ≡ get_or old k worker
      pub taken : (k : ℕ) (pass : Pass A O M g) (worker : WorkerBy E C W R A O M g) → k < place
          → ((get_or old k worker).pass ≡ Some (get_or passes k pass))
          × (get_or now k worker ≡ record (get_or old k worker) { pass = None })

  -- a worker is as it was, whatever stands for one past the end
  same_there : (old now : List (WorkerBy E C W R A O M g)) (i : ℕ) (other worker : WorkerBy E C W R A O M g)
      → i < length now → ((w : WorkerBy E C W R A O M g) → get_or now i w ≡ get_or old i w)
      → get_or now i other ≡ get_or old i worker
  same_there old now i other worker lt stays = get_or_default now i other worker lt ∙ stays worker

  -- one pass more is given
  pub given_more : (left : ℕ) (passes : List (Pass A O M g)) (old now : List (WorkerBy E C W R A O M g))
      → GivenFrom left passes old now → 0 < left → (other put : WorkerBy E C W R A O M g) (pass : Pass A O M g)
      → put ≡ record (get_or now (left - 1) other) { pass = Some pass }
      → ((p : Pass A O M g) → pass ≡ get_or passes (left - 1) p)
      → GivenFrom (left - 1) passes old (set now (left - 1) put)
  given_more left passes old now so_far some other put pass makes has =
      let i = left - 1 in
      let here : i < length now = omega (arith, so_far.many, so_far.within, some) in
      record {
        many = length-set now i put ∙ so_far.many;
        within = omega (arith, so_far.within);
        stays = λ k worker lt. get_or-set_other now i k put worker (λ same. absurd (omega (arith, same, lt)))
            ∙ so_far.stays k worker (omega (arith, lt));
        given = λ k p worker low high. dite (ℕ_discrete k i)
            (λ same. subst
            (λ n. get_or (set now i put) n worker ≡ record (get_or old n worker) { pass = Some (get_or passes n p) })
            (sym same)
            (get_or-set_same now i put worker here ∙ makes
            ∙ ap (λ (w : WorkerBy E C W R A O M g). record w { pass = Some pass })
            (same_there old now i other worker here (λ w. so_far.stays i w (omega (arith, some))))
            ∙ ap (λ (q : Pass A O M g). record (get_or old i worker) { pass = Some q }) (has p)))
            (λ apart. get_or-set_other now i k put worker apart
            ∙ so_far.given k p worker (omega (arith, low, apart)) high);
      }

  -- one pass more is taken
  pub taken_more : (place : ℕ) (passes : List (Pass A O M g)) (old now : List (WorkerBy E C W R A O M g))
      → TakenTo place passes old now → place < length old → (other out : WorkerBy E C W R A O M g)
      (pass : Pass A O M g) → (get_or now place other).pass ≡ Some pass
      → out ≡ record (get_or now place other) { pass = None }
      → TakenTo (place + 1) (passes ++ pass ∷ []) old (set now place out)
  taken_more place passes old now so_far high other out pass has makes =
      let here : place < length now = omega (arith, so_far.many, high) in
      let stood : (worker : WorkerBy E C W R A O M g) → get_or now place other ≡ get_or old place worker =
      λ worker. same_there old now place other worker here (λ w. so_far.stays place w (omega arith)) in
      record {
        many = length-set now place out ∙ so_far.many;
        size = omega (arith, length-append passes (pass ∷ []), so_far.size);
        stays = λ k worker lt. get_or-set_other now place k out worker (λ same. absurd (omega (arith, same, lt)))
            ∙ so_far.stays k worker (omega (arith, lt));
        taken = λ k p worker lt. dite (ℕ_discrete k place)
            (λ same. subst
            (λ n. ((get_or old n worker).pass ≡ Some (get_or (passes ++ pass ∷ []) n p))
            × (get_or (set now place out) n worker ≡ record (get_or old n worker) { pass = None })) (sym same) (
              ap (λ (w : WorkerBy E C W R A O M g). w.pass) (sym (stood worker)) ∙ has
                  ∙ ap Some (sym (get_or_push passes pass p place so_far.size)),
              get_or-set_same now place out worker here ∙ makes
                  ∙ ap (λ (w : WorkerBy E C W R A O M g). record w { pass = None }) (stood worker),
            ))
            (λ apart.
            let before : k < place = omega (arith, lt, apart) in
            let t = so_far.taken k p worker before in (
              t.0 ∙ ap Some
                  (sym (get_or_append_left passes (pass ∷ []) p k (omega (arith, so_far.size, before)))),
              get_or-set_other now place k out worker apart ∙ t.1,
            ));
      }
