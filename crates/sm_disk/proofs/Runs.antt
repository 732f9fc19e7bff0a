-- How a run of calls on one file goes on: a line for each call of the disk.
use Rattle.std.proofs.Common.{◌≡◌, inl, inr, ⊎_elim, ℕ, List, refl, sym, ◌∙◌, subst, arith}
use Rattle.std.proofs.lemmas.Bool.{cases_eq}
use Rattle.sm_disk.specs.Sight.{Image, Sight}
use Rattle.sm_disk.specs.Steps.{OnFile, Same, Follows, GoesOnTelling, Goes, Keeps, Synced}
use Rattle.sm_disk.specs.OneFile.{LeavesOnly, EachHas, Beside, Anyhow, Leaves}

-- nothing happens
pub goes_nowhere : (step : Image → Image → Type 0) (now : Sight) → ((c : Image) → step c c) → Goes step now now
goes_nowhere step now stays = record {
  crash = λ c image. (c, image, stays c);
  later = omega arith;
  nothing_else = λ t c le left. inl left;
  keeps = λ t c le left. left;
}

pub goes_weaker : (step wider : Image → Image → Type 0) (old new : Sight) → ((d c : Image) → step d c → wider d c)
    → Goes step old new → Goes wider old new
goes_weaker step wider old new weaker goes = record {
  crash = λ c image. let from = goes.crash c image in (from.0, from.1, weaker from.0 c from.2);
  later = goes.later;
  nothing_else = goes.nothing_else;
  keeps = goes.keeps;
}

-- a file that stays beside files that stay
pub all_same : (file : ℕ) (d c : Image) → OnFile file (λ old new. new ≡ old) d c → Same d c
all_same file d c on other = ⊎_elim (λ is. subst (λ (f : ℕ). c f ≡ d f) (sym is) on.changed) (λ ne. on.others other ne)
    (cases_eq other file)

-- a step after another
pub on_file_then : (file : ℕ) (P Q R : List ℕ → List ℕ → Type 0) → ((x y z : List ℕ) → P x y → Q y z → R x z)
    → (a b c : Image) → OnFile file P a b → OnFile file Q b c → OnFile file R a c
on_file_then file P Q R after_ a b c first second = record {
  changed = after_ (a file) (b file) (c file) first.changed second.changed;
  others = λ other ne. second.others other ne ∙ first.others other ne;
}

pub on_file_weaker : (file : ℕ) (P Q : List ℕ → List ℕ → Type 0) → ((x y : List ℕ) → P x y → Q x y) → (a b : Image)
    → OnFile file P a b → OnFile file Q a b
on_file_weaker file P Q weaker a b on = record { changed = weaker (a file) (b file) on.changed; others = on.others }

-- nothing that changes is a step on any file
pub same_file : (file : ℕ) (a b : Image) → Same a b → OnFile file (λ old new. new ≡ old) a b
same_file file a b same = record { changed = same file; others = λ other ne. same other }

-- A run so far: as Leaves, and what a read gives of the file has R.
pub record Run (file : ℕ) (P Q : List ℕ → List ℕ → Type 0) (R : List ℕ → Type 0) (old now : Sight) : Type 0 where
  pub leaves : Leaves file P Q old now
  pub reading : (s : Image) → now.reads s → R (s file)

module _ (file : ℕ) (P : List ℕ → List ℕ → Type 0) where
  -- an image that is still one of old with a step on the file
  wider : (Q : List ℕ → List ℕ → Type 0) (images : Image → Type 0) → ((x y : List ℕ) → Q x y → P x y) → (c : Image)
      → Beside file Q images c → Beside file P images c
  wider Q images within c (d, was, on) = (d, was, on_file_weaker file Q P within d c on)

  -- before the first call
  pub begun : (Q : List ℕ → List ℕ → Type 0) (R : List ℕ → Type 0) (old : Sight)
      → ((c : Image) → old.left_since old.moment c → old.images c)
      → ((c : Image) → old.images c → Q (c file) (c file)) → ((x y : List ℕ) → Q x y → P x y)
      → ((s : Image) → old.reads s → R (s file)) → Run file P Q R old old
  begun Q R old only_now images within reads = record {
    leaves = record {
      ever = record {
        later = omega arith;
        each =
            λ c left. wider Q old.images within c (stays c (only_now c left));
        before = λ t c le left. inl left;
      };
      images = stays;
      reads = λ s reads. (s, reads, record { changed = tt; others = λ other ne. refl });
      tells = λ s reads. (s, reads);
    };
    reading = reads;
  }
    where
      stays : (c : Image) → old.images c → Beside file Q old.images c
      stays c image = (c, image, record { changed = images c image; others = λ other ne. refl })

  module _ (Q : List ℕ → List ℕ → Type 0) (R : List ℕ → Type 0) (old mid now : Sight)
      (so_far : Run file P Q R old mid) where
    -- one more call, after which a crash leaves such images
    goes_on : (Q' : List ℕ → List ℕ → Type 0) → Goes (OnFile file Anyhow) mid now
        → ((c : Image) → now.images c → Beside file Q' old.images c) → ((x y : List ℕ) → Q' x y → P x y)
        → LeavesOnly (Beside file P old.images) old now
    goes_on Q' goes beside within = record {
      later = omega (arith, so_far.leaves.ever.later, goes.later);
      each = λ c left. ⊎_elim (so_far.leaves.ever.each c) (λ image. wider Q' old.images within c (beside c image))
          (goes.nothing_else old.moment c so_far.leaves.ever.later left);
      before = λ t c le left. ⊎_elim (so_far.leaves.ever.before t c le)
          (λ image. inr (wider Q' old.images within c (beside c image)))
          (goes.nothing_else t c (omega (arith, le, so_far.leaves.ever.later)) left);
    }

    -- a call that makes a step on the file
    pub stepped : (step tried : List ℕ → List ℕ → Type 0) → Goes (OnFile file step) mid now
        → Follows (OnFile file tried) mid.reads now.reads → GoesOnTelling mid now
        → (Q' : List ℕ → List ℕ → Type 0) → ((x y z : List ℕ) → Q x y → step y z → Q' x z)
        → ((x y : List ℕ) → Q' x y → P x y)
        → (R' : List ℕ → Type 0) → ((y z : List ℕ) → R y → tried y z → R' z) → Run file P Q' R' old now
    stepped step tried goes reads tells Q' images within R' gives = record {
      leaves = record {
        ever = goes_on Q' (goes_weaker (OnFile file step) (OnFile file Anyhow) mid now
            (on_file_weaker file step Anyhow (λ x y on. tt)) goes) beside within;
        images = beside;
        reads = λ s read. let from = reads s read in let first = so_far.leaves.reads from.0 from.1 in
            (first.0, first.1, on_file_then file Anyhow tried Anyhow (λ x y z a b. tt) first.0 from.0 s first.2 from.2);
        tells = λ s read. let told = so_far.leaves.tells s read in tells told.0 told.1;
      };
      reading = λ s read. let from = reads s read in
          gives (from.0 file) (s file) (so_far.reading from.0 from.1) from.2.changed;
    }
      where
        beside : (c : Image) → now.images c → Beside file Q' old.images c
        beside c image = let from = goes.crash c image in let first = so_far.leaves.images from.0 from.1 in
            (first.0, first.1, on_file_then file Q step Q' images first.0 from.0 c first.2 from.2)

    -- a call that changes nothing
    pub stayed : Goes Same mid now → Keeps mid now → ((x y : List ℕ) → Q x y → P x y) → Run file P Q R old now
    stayed goes keeps within = stepped (λ old new. new ≡ old) (λ old new. new ≡ old)
        (goes_weaker Same (OnFile file (λ old new. new ≡ old)) mid now (same_file file) goes)
        (λ s read. (s, keeps.nothing_new s read, record { changed = refl; others = λ other ne. refl }))
        (λ s read. (s, keeps.still s read))
        Q (λ x y z on is. subst (Q x) (sym is) on) within R (λ y z reads is. subst R (sym is) reads)

    -- a sync that is done: what a read gives of the file is all that a crash leaves of it
    pub synced : Goes Same mid now → Keeps mid now → Synced file now → ((x y : List ℕ) → Q x y → P x y)
        → Run file P (λ x y. Q x y × R y) R old now
    synced goes keeps durable within = record {
      leaves = record {
        ever = after.leaves.ever;
        images = beside;
        reads = after.leaves.reads;
        tells =
            after.leaves.tells;
      };
      reading = after.reading;
    }
      where
        after : Run file P Q R old now
        after = stayed goes keeps within

        read : (c : Image) → now.images c → R (c file)
        read c image = let all = durable c image in subst R (sym (all.2 c image)) (after.reading all.0 all.1)

        beside : (c : Image) → now.images c → Beside file (λ x y. Q x y × R y) old.images c
        beside c image = let from = after.leaves.images c image in
            (from.0, from.1, record { changed = (from.2.changed, read c image); others = from.2.others })

  -- a run after another
  pub joined : (Q P' Q' : List ℕ → List ℕ → Type 0) (old mid now : Sight) → Leaves file P Q old mid
      → Leaves file P' Q' mid now
      → ((x y z : List ℕ) → Q x y → P' y z → P x z) → (Q'' : List ℕ → List ℕ → Type 0)
      → ((x y z : List ℕ) → Q x y → Q' y z → Q'' x z) → Leaves file P Q'' old now
  joined Q P' Q' old mid now first second ever Q'' images = record {
    ever = record {
      later = omega (arith, first.ever.later, second.ever.later);
      each = λ c left. ⊎_elim (first.ever.each c) (through c) (second.ever.before old.moment c first.ever.later left);
      before = λ t c le left. ⊎_elim (first.ever.before t c le) (λ beside. inr (through c beside))
          (second.ever.before t c (omega (arith, le, first.ever.later)) left);
    };
    images = λ c image. let from = second.images c image in let was = first.images from.0 from.1 in
        (was.0, was.1, on_file_then file Q Q' Q'' images was.0 from.0 c was.2 from.2);
    reads = λ s read. let from = second.reads s read in let was = first.reads from.0 from.1 in
        (was.0, was.1, on_file_then file Anyhow Anyhow Anyhow (λ x y z a b. tt) was.0 from.0 s was.2 from.2);
    tells = λ s read. let told = first.tells s read in second.tells told.0 told.1;
  }
    where
      through : (c : Image) → Beside file P' mid.images c → Beside file P old.images c
      through c (m, image, on) = let was = first.images m image in
          (was.0, was.1, on_file_then file Q P' P ever was.0 m c was.2 on)

  -- what each image now has
  pub narrowed : (Q : List ℕ → List ℕ → Type 0) (R : List ℕ → Type 0) (old now : Sight) → Leaves file P Q old now
      → EachHas file R now.images → Leaves file P (λ x y. Q x y × R y) old now
  narrowed Q R old now leaves has = record {
    ever = leaves.ever;
    images = λ c image. let from = leaves.images c image in
        (from.0, from.1, record { changed = (from.2.changed, has c image); others = from.2.others });
    reads = leaves.reads;
    tells = leaves.tells;
  }

  -- less is said of the images
  pub weakened : (Q P' Q' : List ℕ → List ℕ → Type 0) (old now : Sight)
      → ((d : Image) → old.images d → (y : List ℕ) → P (d file) y → P' (d file) y)
      → ((d : Image) → old.images d → (y : List ℕ) → Q (d file) y → Q' (d file) y) → Leaves file P Q old now
      → Leaves file P' Q' old now
  weakened Q P' Q' old now ever images leaves = record {
    ever = record {
      later = leaves.ever.later;
      each = λ c left. less c (leaves.ever.each c left);
      before = λ t c le left. ⊎_elim inl (λ beside. inr (less c beside)) (leaves.ever.before t c le left);
    };
    images = λ c image. let from = leaves.images c image in
        (from.0, from.1, record { changed = images from.0 from.1 (c file) from.2.changed; others = from.2.others });
    reads = leaves.reads;
    tells = leaves.tells;
  }
    where
      less : (c : Image) → Beside file P old.images c → Beside file P' old.images c
      less c (d, was, on) = (d, was, record { changed = ever d was (c file) on.changed; others = on.others })

-- an image that follows has what each such step makes of what the images had
pub followed : (file : ℕ) (Q : List ℕ → List ℕ → Type 0) (old now : Image → Type 0) (P P' : Image → Type 0)
    → Follows (OnFile file Q) old now
    → ((d : Image) → old d → P d) → ((d c : Image) → P d → OnFile file Q d c → P' c) → (c : Image) → now c → P' c
followed file Q old now P P' follows had makes c image = let from = follows c image in
    makes from.0 c (had from.0 from.1) from.2

-- what holds of the whole disk at each moment of two runs
pub widened : (P P' P'' : Image → Type 0) (old mid now : Sight) → LeavesOnly P old mid → LeavesOnly P' mid now
    → ((c : Image) → P c → P'' c) → ((c : Image) → P' c → P'' c) → LeavesOnly P'' old now
widened P P' P'' old mid now first second left right = record {
  later = omega (arith, first.later, second.later);
  each = λ c was. ⊎_elim (λ was. left c (first.each c was)) (right c) (second.before old.moment c first.later was);
  before = λ t c le was. ⊎_elim (λ was. ⊎_elim inl (λ has. inr (left c has)) (first.before t c le was))
      (λ has. inr (right c has)) (second.before t c (omega (arith, le, first.later)) was);
}
