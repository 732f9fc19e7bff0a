-- How runs of calls on several files join: a line for each run.
use Rattle.std.proofs.Common.{◌≢◌, inl, inr, ⊎_elim, ℕ, List, refl, sym, subst, arith}
use Rattle.sm_disk.specs.Sight.{Image, Sight}
use Rattle.sm_disk.specs.Steps.{OnFile, Same, Goes, Keeps}
use Rattle.sm_disk.specs.OneFile.{EachHas, Leaves}
use Rattle.sm_disk.specs.AllFiles.{After, LeavesBy}

-- a run on one file
pub by_file : (file : ℕ) (P Q : List ℕ → List ℕ → Type 0) (old now : Sight) → Leaves file P Q old now
    → LeavesBy (OnFile file P) (OnFile file Q) old now
by_file file P Q old now run = record { ever = run.ever; images = run.images; tells = run.tells }

-- before the first call
pub nothing_yet : (P Q : Image → Image → Type 0) (old : Sight)
    → ((c : Image) → old.left_since old.moment c → old.images c) → ((c : Image) → old.images c → P c c)
    → ((c : Image) → old.images c → Q c c) → LeavesBy P Q old old
nothing_yet P Q old only_now ever images = record {
  ever = record {
    later = omega arith;
    each = λ c left. let was = only_now c left in (c, was, ever c was);
    before = λ t c le left. inl left;
  };
  images = λ c was. (c, was, images c was);
  tells = λ s reads. (s, reads);
}

-- a call that changes nothing
pub same_by : (P Q : Image → Image → Type 0) (old now : Sight) → Goes Same old now → Keeps old now
    → ((c : Image) → old.left_since old.moment c → old.images c)
    → ((d c : Image) → old.images d → Same d c → P d c) → ((d c : Image) → old.images d → Same d c → Q d c)
    → LeavesBy P Q old now
same_by P Q old now goes keeps only_now ever images = record {
  ever = record {
    later = goes.later;
    each = λ c left. ⊎_elim (λ was. stayed c (only_now c was)) (went c)
        (goes.nothing_else old.moment c (omega arith) left);
    before = λ t c le left. ⊎_elim inl (λ image. inr (went c image)) (goes.nothing_else t c le left);
  };
  images = λ c image. let from = goes.crash c image in (from.0, from.1, images from.0 c from.1 from.2);
  tells = λ s reads. (s, keeps.still s reads);
}
  where
    went : (c : Image) → now.images c → After P old.images c
    went c image = let from = goes.crash c image in (from.0, from.1, ever from.0 c from.1 from.2)

    stayed : (c : Image) → old.images c → After P old.images c
    stayed c was = (c, was, ever c c was (λ file. refl))

-- less is said of the images
pub weaker_by : (P Q P' Q' : Image → Image → Type 0) (old now : Sight)
    → ((d c : Image) → old.images d → P d c → P' d c) → ((d c : Image) → old.images d → now.images c → Q d c → Q' d c)
    → LeavesBy P Q old now → LeavesBy P' Q' old now
weaker_by P Q P' Q' old now ever images run = record {
  ever = record {
    later = run.ever.later;
    each = λ c left. less c (run.ever.each c left);
    before = λ t c le left. ⊎_elim inl (λ after. inr (less c after)) (run.ever.before t c le left);
  };
  images = λ c image. let from = run.images c image in (from.0, from.1, images from.0 c from.1 image from.2);
  tells = run.tells;
}
  where
    less : (c : Image) → After P old.images c → After P' old.images c
    less c (d, was, by) = (d, was, ever d c was by)

-- a run after another
pub joined_by : (P Q P' Q' P'' Q'' : Image → Image → Type 0) (old mid now : Sight) → LeavesBy P Q old mid
    → LeavesBy P' Q' mid now → ((d c : Image) → old.images d → P d c → P'' d c)
    → ((d m c : Image) → old.images d → mid.images m → Q d m → P' m c → P'' d c)
    → ((d m c : Image) → old.images d → mid.images m → now.images c → Q d m → Q' m c → Q'' d c)
    → LeavesBy P'' Q'' old now
joined_by P Q P' Q' P'' Q'' old mid now first second left right images = record {
  ever = record {
    later = omega (arith, first.ever.later, second.ever.later);
    each = λ c was. ⊎_elim (λ was. begun c (first.ever.each c was)) (ended c)
        (second.ever.before old.moment c first.ever.later was);
    before = λ t c le was. ⊎_elim (λ was. ⊎_elim inl (λ after. inr (begun c after)) (first.ever.before t c le was))
        (λ after. inr (ended c after)) (second.ever.before t c (omega (arith, le, first.ever.later)) was);
  };
  images = λ c image. let from = second.images c image in let was = first.images from.0 from.1 in
      (was.0, was.1, images was.0 from.0 c was.1 from.1 image was.2 from.2);
  tells = λ s read. let told = first.tells s read in second.tells told.0 told.1;
}
  where
    begun : (c : Image) → After P old.images c → After P'' old.images c
    begun c (d, was, by) = (d, was, left d c was by)

    ended : (c : Image) → After P' mid.images c → After P'' old.images c
    ended c (m, image, by) = let from = first.images m image in
        (from.0, from.1, right from.0 m c from.1 image from.2 by)

-- what each image has of a file, each image still has after a run on another
pub others_stay : (file other : ℕ) (P Q : List ℕ → List ℕ → Type 0) (R : List ℕ → Type 0) (old now : Sight)
    → other ≢ file → Leaves file P Q old now → EachHas other R old.images → EachHas other R now.images
others_stay file other P Q R old now ne run had c image = let from = run.images c image in
    subst R (sym (from.2.others other ne)) (had from.0 from.1)
