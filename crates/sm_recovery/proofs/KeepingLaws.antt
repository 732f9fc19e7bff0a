-- What keeps the state of a disk.
use Rattle.std.proofs.Common.{◌≡◌, ◌⊎◌, ℕ, List, inl, inr, ap, sym, subst, ◌∙◌}
use Rattle.sm_disk.specs.Sight.{Image}
use Rattle.sm_disk.specs.Steps.{Same}
use Rattle.sm_disk.specs.declared.disk.Disk.{Ghosts}
use Rattle.sm_disk.proofs.AllRuns.{nothing_yet, weaker_by, joined_by}
use Rattle.sm_journal.specs.Roots.{named}
use Rattle.sm_journal.specs.declared.root.TheConstants.{ROOT}
use Rattle.sm_store.proofs.NamedRuns.{keeps_held}
use Rattle.sm_store.specs.Files.{active, KeepsList}
use Rattle.sm_store.specs.Openings.{AllStay, ListsStay}
use Rattle.sm_store.specs.Held.{only, HoldsFile, Recovered, SameHeld, HeldOr}
use Rattle.sm_recovery.specs.Lawful.{made_of}
use Rattle.sm_recovery.specs.Keeping.{HasState, SameState, StateStays, HeldKeepsState, ReplacedKeepsState, RunsKeepState, ReplacingKeepsState, KeepsJoin}

pub held_keeps : HeldKeepsState
held_keeps d c same state (h, was, makes) = (h, same h was, makes)

pub replaced_keeps : ReplacedKeepsState
replaced_keeps one h d c had now state (g, was, makes) =
    let is : made_of h ≡ state = ap made_of (one d h g had was) ∙ makes in by now is
  where
    by : Recovered h c ⊎ Recovered (only (made_of h)) c → made_of h ≡ state → HasState state c
    by (inl kept) is = (h, kept, is)
    by (inr new) is = (only (made_of h), new, is)

-- files that stay hold the same
same_holds : (d c : Image) → Same d c → SameHeld d c
same_holds d c same h had =
    let is : active c ≡ active d = ap (λ (root : List ℕ). c (named root)) (same ROOT) ∙ same (named (d ROOT)) in
    subst (HoldsFile h) (sym is) had

module _ {D : Type 0} (G : Ghosts D) where
  -- before the first call, since when there is no other moment
  pub stays_itself : (disk : D)
      → ((c : Image) → (G.sight disk).left_since (G.sight disk).moment c → (G.sight disk).images c)
      → StateStays (G.sight disk) (G.sight disk)
  stays_itself disk only_now =
      nothing_yet SameState SameState (G.sight disk) only_now (λ c was state has. has) (λ c was state has. has)

  -- calls that keep the lists
  pub lists_keep : (old now : D) → ListsStay (G.sight old) (G.sight now) → StateStays (G.sight old) (G.sight now)
  lists_keep old now run =
      weaker_by KeepsList KeepsList SameState SameState (G.sight old) (G.sight now)
      (λ d c was kept. held_keeps d c (keeps_held d c kept))
      (λ d c was image kept. held_keeps d c (keeps_held d c kept)) run

  -- or all files
  pub files_keep : (old now : D) → AllStay (G.sight old) (G.sight now) → StateStays (G.sight old) (G.sight now)
  files_keep old now stay =
      weaker_by Same Same SameState SameState (G.sight old) (G.sight now)
      (λ d c was same. held_keeps d c (same_holds d c same))
      (λ d c was image same. held_keeps d c (same_holds d c same)) stay.leaves

  pub runs_keep : RunsKeepState G
  runs_keep old now run =
      weaker_by SameHeld SameHeld SameState SameState (G.sight old) (G.sight now) (λ d c was. held_keeps d c)
      (λ d c was image. held_keeps d c) run

  pub replacing_keeps : ReplacingKeepsState G
  replacing_keeps one h old now all run =
      weaker_by (HeldOr h (only (made_of h))) (HeldOr h (only (made_of h))) SameState SameState (G.sight old)
      (G.sight now) (λ d c was. replaced_keeps one h d c (all d was))
      (λ d c was image. replaced_keeps one h d c (all d was)) run

  pub keeps_join : KeepsJoin G
  keeps_join old mid now first second =
      joined_by SameState SameState SameState SameState SameState SameState (G.sight old) (G.sight mid) (G.sight now)
      first second (λ d c was same. same) (λ d m c was mid same next state had. next state (same state had))
      (λ d m c was mid image same next state had. next state (same state had))
