-- What opening a journal leaves, from what its parts leave.
use Rattle.std.proofs.Common.{◌≡◌, ℕ, ◌≤◌, List, [], length, sym, ap, ◌∙◌, subst, inl, inr, arith}
use Rattle.sm_base.proofs.FaultCounts.{rose_within}
use Rattle.sm_disk.specs.Sight.{Sight}
use Rattle.sm_disk.specs.Steps.{Keeps}
use Rattle.sm_disk.specs.OneFile.{EachHas, Leaves}
use Rattle.sm_disk.specs.declared.disk.Disk.{Ghosts}
use Rattle.sm_disk.proofs.Runs.{joined, weakened}
use Rattle.sm_journal.specs.Records.{Short, SameList, Recovers, IsDamaged}
use Rattle.sm_journal.specs.Openings.{Equal, Untouched, ReadsAs, FailsFrom, IsRefusedAs, IsRefused}
use Rattle.sm_journal.specs.declared.format.Format.{Format}
use Rattle.sm_journal.specs.declared.answers.OpenRefused.{OpenRefused}
use Rattle.sm_journal.specs.declared.answers.OpenRefused.TheVariants.{Damaged, Failed, Memory}
use Rattle.sm_journal.proofs.StandsLemmas.{keeps_list}

-- a file that is made new has no records before and afterwards
pub short_run : (file : ℕ) (bytes : List ℕ) (old now : Sight) → length bytes ≤ 9
    → (EachHas file Short old.images → Leaves file (λ _. Short) (λ _. Short) old now)
    → EachHas file (λ b. b ≡ bytes) old.images → Leaves file SameList SameList old now
short_run file bytes old now short run images =
    keeps_list file bytes Short old now (λ y few f bodies has. inl (few, none f bodies has)) images
    (run (λ image was. subst Short (sym (images image was)) short))
  where
    none : (f : Format) (bodies : List (List ℕ)) → Recovers bytes f bodies → bodies ≡ []
    none f bodies (inl has) = has.1
    none f bodies (inr has) = absurd (omega (arith, has.0, short))

-- after a run that leaves the file
pub after_load : (file : ℕ) (old mid now : Sight) → Leaves file Equal Equal old mid
    → Leaves file SameList SameList mid now → Leaves file SameList SameList old now
after_load file old mid now first second = joined file SameList Equal SameList SameList old mid now
    (weakened file Equal Equal SameList Equal old mid (λ d was y same. kept (d file) y same)
    (λ d was y same. same) first) second through SameList through
  where
    kept : (x y : List ℕ) → Equal x y → SameList x y
    kept x y same f bodies has = subst (λ (b : List ℕ). Recovers b f bodies) (sym same) has

    through : (x y z : List ℕ) → Equal x y → SameList y z → SameList x z
    through x y z same list f bodies has = list f bodies (subst (λ (b : List ℕ). Recovers b f bodies) (sym same) has)

module _ {D : Type 0} (G : Ghosts D) (file : ℕ) (bytes : List ℕ) where
  pub new_refused : (old : D) → length bytes ≤ 9 → (refused : OpenRefused D)
      → FailsFrom G file Short (λ _. Short) old refused → IsRefusedAs G file bytes old refused
  new_refused old short (Failed now) fails =
      (short_run file bytes (G.sight old) (G.sight now) short fails.0, fails.1, fails.2)
  new_refused old short (Damaged now damage) fails = absurd fails
  new_refused old short (Memory now) fails = absurd fails

  module _ (old mid : D) (run : Leaves file Equal Equal (G.sight old) (G.sight mid))
      (reads : Keeps (G.sight old) (G.sight mid)) (loaded : ReadsAs file (λ b. b ≡ bytes) (G.sight old))
      (images : EachHas file (λ b. b ≡ bytes) (G.sight mid).images) (stay : G.faults mid ≡ G.faults old) where
    untouched : (now : D) → now ≡ mid → Untouched file (G.sight old) (G.sight now)
    untouched now is = subst (λ disk. Untouched file (G.sight old) (G.sight disk)) (sym is)
        (record { leaves = run; reads = reads })

    faults_kept : (now : D) → now ≡ mid → G.faults now ≡ G.faults old
    faults_kept now is = ap G.faults is ∙ stay

    pub loaded_refused : (refused : OpenRefused D) → IsRefusedAs G file bytes mid refused → IsRefused G file old refused
    loaded_refused (Damaged now damage) why = (
      untouched now why.0,
      λ s read. subst (λ (b : List ℕ). IsDamaged b damage.at damage.entry)
          (sym (loaded s read)) why.1,
      faults_kept now why.0,
    )
    loaded_refused (Failed now) why = (
      after_load file (G.sight old) (G.sight mid) (G.sight now) run (why.0 images),
      omega (arith, stay, why.1),
      rose_within _ _ _ _ (omega (arith, stay)) why.2 (omega arith),
    )
    loaded_refused (Memory now) why = (untouched now why, faults_kept now why)
