-- What the ends of files recover to, and how the runs of a journal's calls join.
use Rattle.std.proofs.Common.{◌≡◌, ℕ, ◌<◌, ◌≤◌, false, List, [], ◌∷◌, ◌++◌, length, Option, None, Some, sym, ◌∙◌, ap, subst, inl, inr, arith, append_assoc}
use Rattle.std.specs.Prelude.{Result, Ok, Err, OnErr}
use Rattle.std.proofs.lemmas.Bool.{cases_eq, true≢false}
use Rattle.sm_disk.specs.Sight.{Image, Sight}
use Rattle.sm_disk.specs.OneFile.{EachHas, Leaves}
use Rattle.sm_disk.proofs.Runs.{joined, weakened}
use Rattle.sm_journal.specs.declared.format.Format.{Format}
use Rattle.sm_journal.specs.Records.{front, entry_of, record_of, body_limit, AreWithin, IsWithin, Closed, AtRest, Loose, Gated, Whole, Recovers, RecoversEither, SameList}
use Rattle.sm_journal.specs.Tails.{is_unsure_tail, Ends}
use Rattle.sm_journal.specs.declared.tail.Tail.{Tail}
use Rattle.sm_journal.specs.declared.tail.Tail.TheVariants.{Sure, Body, Gate}
use Rattle.sm_journal.proofs.Front.{front-push, within-push, one_list, one_format, loose_recovers}
use Rattle.sm_journal.proofs.Tears.{rest_loose}

-- what stands behind the gate of a record that may have failed
abbrev pub behind_of : Option (List ℕ) → List ℕ
behind_of None = []
behind_of (Some body) = entry_of body ++ 0 ∷ []

module _ (f : Format) where
  pub list_either : (bodies : List (List ℕ)) (failed : Option (List ℕ)) (bytes : List ℕ) → Recovers bytes f bodies
      → RecoversEither f bodies failed bytes
  list_either bodies None bytes list = list
  list_either bodies (Some body) bytes list = inl list

  pub loose_either : (bodies : List (List ℕ)) (failed : Option (List ℕ)) → AreWithin bodies → (bytes : List ℕ)
      → Loose (front f bodies) bytes → RecoversEither f bodies failed bytes
  loose_either bodies failed within bytes loose =
      list_either bodies failed bytes (loose_recovers f bodies within bytes loose)

  -- the gate of a whole file is closed, and nothing stands behind it
  pub whole_rests : (bodies : List (List ℕ)) (bytes : List ℕ) → Whole f bodies bytes
      → AtRest (front f bodies) bytes
  whole_rests bodies bytes is = record { gate = 0; closed = λ same. absurd (omega (arith, same)); split = is }

  module _ (bodies : List (List ℕ)) (body : List ℕ) where
    pub whole : (bytes : List ℕ) → bytes ≡ front f bodies ++ 1 ∷ (entry_of body ++ 0 ∷ [])
        → Whole f (bodies ++ body ∷ []) bytes
    whole bytes is = is ∙ sym (append_assoc (front f bodies) (record_of body) (0 ∷ []))
        ∙ ap (λ (l : List ℕ). l ++ 0 ∷ []) (sym (front-push f bodies body))

    -- behind an open gate the record is the list's last
    pub opened : (bytes : List ℕ) → bytes ≡ front f bodies ++ 1 ∷ (entry_of body ++ 0 ∷ [])
        → AtRest (front f (bodies ++ body ∷ [])) bytes
    opened bytes is = whole_rests (bodies ++ body ∷ []) bytes (whole bytes is)

    pub gated_either : AreWithin bodies → length body ≤ body_limit → (bytes : List ℕ)
        → Gated (front f bodies) (entry_of body ++ 0 ∷ []) bytes → RecoversEither f bodies (Some body) bytes
    gated_either within fits bytes gated = elim (cases_eq gated.gate 1) [
      | inl is ↦ inr (loose_recovers f (bodies ++ body ∷ []) (within-push bodies body within fits) bytes
          (rest_loose (front f (bodies ++ body ∷ [])) bytes
          (opened bytes (gated.split ∙ ap (λ (g : ℕ). front f bodies ++ g ∷ (entry_of body ++ 0 ∷ [])) is))))
      | inr not ↦ inl (loose_recovers f bodies within bytes
          (record {
            rest = entry_of body ++ 0 ∷ [];
            is =
                record { gate = gated.gate; closed = not; split = gated.split };
          }))
    ]

  pub ends_either : (tail : Tail) (bodies : List (List ℕ)) (failed : Option (List ℕ)) → AreWithin bodies → IsWithin
      failed
      → (bytes : List ℕ) → Ends f tail bodies failed bytes → RecoversEither f bodies failed bytes
  ends_either Sure bodies failed within last bytes ends =
      loose_either bodies failed within bytes (rest_loose (front f bodies) bytes ends)
  ends_either Body bodies failed within last bytes ends = loose_either bodies failed within bytes ends
  ends_either Gate bodies None within last bytes ends = absurd ends
  ends_either Gate bodies (Some body) within last bytes ends = gated_either bodies body within last bytes ends

  module _ (bodies : List (List ℕ)) where
    pub gate_gated : (tail : Tail) (failed : Option (List ℕ)) → tail ≡ Gate → (bytes : List ℕ)
        → Ends f tail bodies failed bytes → Gated (front f bodies) (behind_of failed) bytes
    gate_gated tail failed is bytes ends = at_gate failed (subst (λ (t : Tail). Ends f t bodies failed bytes) is ends)
      where
        at_gate : (failed : Option (List ℕ)) → Ends f Gate bodies failed bytes
            → Gated (front f bodies) (behind_of failed) bytes
        at_gate None ends = absurd ends
        at_gate (Some body) ends = ends

    -- where one image ends so, another with the same front and what stands behind it does
    pub gated_gate : (tail : Tail) (failed : Option (List ℕ)) → tail ≡ Gate → (d c : List ℕ) → Ends f tail bodies
        failed d
        → Gated (front f bodies) (behind_of failed) c → Ends f tail bodies failed c
    gated_gate tail failed is d c ends gated = subst (λ (t : Tail). Ends f t bodies failed c) (sym is)
        (at_gate failed (subst (λ (t : Tail). Ends f t bodies failed d) is ends) gated)
      where
        at_gate : (failed : Option (List ℕ)) → Ends f Gate bodies failed d
            → Gated (front f bodies) (behind_of failed) c → Ends f Gate bodies failed c
        at_gate None ends gated = absurd ends
        at_gate (Some body) ends gated = gated

    -- what such a gate leaves, where some image ends so
    pub behind_either : (tail : Tail) (failed : Option (List ℕ)) → tail ≡ Gate → AreWithin bodies → IsWithin failed
        → (d c : List ℕ) → Ends f tail bodies failed d → Gated (front f bodies) (behind_of failed) c
        → RecoversEither f bodies failed c
    behind_either tail failed is within last d c ends gated =
        ends_either tail bodies failed within last c (gated_gate tail failed is d c ends gated)

    pub body_loose : (tail : Tail) (failed : Option (List ℕ)) → tail ≡ Body → (bytes : List ℕ)
        → Ends f tail bodies failed bytes → Loose (front f bodies) bytes
    body_loose tail failed is bytes ends = subst (λ (t : Tail). Ends f t bodies failed bytes) is ends

    pub loose_body : (tail : Tail) (failed : Option (List ℕ)) → tail ≡ Body → (bytes : List ℕ)
        → Loose (front f bodies) bytes → Ends f tail bodies failed bytes
    loose_body tail failed is bytes loose = subst (λ (t : Tail). Ends f t bodies failed bytes) (sym is) loose

  -- a tail that isn't unsure is at rest
  pub sure_ends : (tail : Tail) (bodies : List (List ℕ)) (failed : Option (List ℕ)) → is_unsure_tail tail ≡ false
      → (bytes : List ℕ) → Ends f tail bodies failed bytes → AtRest (front f bodies) bytes
  sure_ends Sure bodies failed sure bytes ends = ends
  sure_ends Body bodies failed sure bytes ends = absurd (true≢false sure)
  sure_ends Gate bodies failed sure bytes ends = absurd (true≢false sure)

pub closed_gated : (before behind bytes : List ℕ) → Closed before behind bytes → Gated before behind bytes
closed_gated before behind bytes closed = record { gate = closed.gate; split = closed.split }

-- what each image has now
pub now_has : (file : ℕ) (P Q : List ℕ → Type 0) (old now : Sight) → Leaves file (λ _. P) (λ _. Q) old now
    → EachHas file Q now.images
now_has file P Q old now leaves c image = (leaves.images c image).2.changed

-- a run of which less is said
pub less : (file : ℕ) (P Q : List ℕ → Type 0) (old now : Sight) → ((bytes : List ℕ) → P bytes → Q bytes)
    → Leaves file (λ _. P) (λ _. P) old now → Leaves file (λ _. Q) (λ _. Q) old now
less file P Q old now weaker leaves = weakened file (λ _. P) (λ _. P) (λ _. Q) (λ _. Q) old now (λ d was y. weaker y)
    (λ d was y. weaker y) leaves

-- a run after another
pub both : (file : ℕ) (P P' Q : List ℕ → Type 0) (old mid now : Sight) → ((bytes : List ℕ) → P bytes → Q bytes)
    → ((bytes : List ℕ) → P' bytes → Q bytes)
    → Leaves file (λ _. P) (λ _. P) old mid → Leaves file (λ _. P') (λ _. P') mid now
    → Leaves file (λ _. Q) (λ _. Q) old now
both file P P' Q old mid now first second before after =
    joined file (λ _. Q) (λ _. Q) (λ _. Q) (λ _. Q) old mid now (less file P Q old mid first before)
    (less file P' Q mid now second after) (λ x y z a b. b) (λ _. Q) (λ x y z a b. b)

pub at_err : {T E P : Type 0} (r : Result T E) → P → OnErr r P
at_err (Ok x) p = tt
at_err (Err e) p = p

-- a run of which less is said, where an image of old is seen
pub less_seen : (file : ℕ) (P Q : List ℕ → Type 0) (old now : Sight)
    → ((d : Image) → old.images d → (bytes : List ℕ) → P bytes → Q bytes) → Leaves file (λ _. P) (λ _. P) old now
    → Leaves file (λ _. Q) (λ _. Q) old now
less_seen file P Q old now weaker leaves =
    weakened file (λ _. P) (λ _. P) (λ _. Q) (λ _. Q) old now weaker weaker leaves

-- a gate that was written closed
pub set_closed : (before behind bytes : List ℕ) → bytes ≡ before ++ 0 ∷ behind → Loose before bytes
set_closed before behind bytes is = record {
  rest = behind;
  is =
      record { gate = 0; closed = λ same. absurd (omega (arith, same)); split = is };
}

-- a run after another, the second of which names the file as the first left it
pub then_on : (file same : ℕ) (Q : List ℕ → Type 0) (old mid now : Sight) → same ≡ file
    → Leaves file (λ _. Q) (λ _. Q) old mid → Leaves same (λ _. Q) (λ _. Q) mid now
    → Leaves file (λ _. Q) (λ _. Q) old now
then_on file same Q old mid now is first second =
    both file Q Q Q old mid now (λ bytes has. has) (λ bytes has. has) first
    (subst (λ (f : ℕ). Leaves f (λ _. Q) (λ _. Q) mid now) is second)

-- the same in words of a journal's list
pub then_mended : (file same : ℕ) (f g : Format) (bodies : List (List ℕ)) (failed : Option (List ℕ))
    (old mid now : Sight) → same ≡ file → g ≡ f
    → Leaves file (λ _. RecoversEither f bodies failed) (λ _. RecoversEither f bodies failed) old mid
    → Leaves same (λ _. RecoversEither g bodies failed) (λ _. RecoversEither g bodies failed) mid now
    → Leaves file (λ _. RecoversEither f bodies failed) (λ _. RecoversEither f bodies failed) old now
then_mended file same f g bodies failed old mid now is format first second =
    then_on file same (RecoversEither f bodies failed) old mid now is first
    (subst (λ (h : Format). Leaves same (λ _. RecoversEither h bodies failed) (λ _. RecoversEither h bodies failed)
    mid now) format second)

-- what a file of these bytes recovers to, another does
pub same_list : (bytes x y : List ℕ) → x ≡ bytes
    → ((f : Format) (bodies : List (List ℕ)) → Recovers bytes f bodies → Recovers y f bodies) → SameList x y
same_list bytes x y is kept f bodies has = kept f bodies (subst (λ (b : List ℕ). Recovers b f bodies) is has)

-- a file of more than nine bytes has one format and one list
pub one_kept : (bytes y : List ℕ) (f : Format) (bodies : List (List ℕ)) → 9 < length bytes → Recovers bytes f bodies
    → Recovers y f bodies → (g : Format) (others : List (List ℕ)) → Recovers bytes g others → Recovers y g others
one_kept bytes y f bodies long list now g others has =
    subst (λ (h : Format). Recovers y h others) (one_format bytes f g bodies others long list has)
    (subst (λ (l : List (List ℕ)). Recovers y f l) (one_list bytes f g bodies others list has) now)

-- a run over images that all have these bytes of the file, which recovers to one list at each moment
pub keeps_list : (file : ℕ) (bytes : List ℕ) (P : List ℕ → Type 0) (old now : Sight)
    → ((y : List ℕ) → P y → (f : Format) (bodies : List (List ℕ)) → Recovers bytes f bodies → Recovers y f bodies)
    → EachHas file (λ b. b ≡ bytes) old.images
    → Leaves file (λ _. P) (λ _. P) old now → Leaves file SameList SameList old now
keeps_list file bytes P old now kept images leaves =
    weakened file (λ _. P) (λ _. P) SameList SameList old now same same leaves
  where
    same : (d : Image) → old.images d → (y : List ℕ) → P y → SameList (d file) y
    same d was y has = same_list bytes (d file) y (images d was) (kept y has)
