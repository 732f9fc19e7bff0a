-- The labels of versions, put by their ids one after the other.
use Rattle.std.proofs.Common.{◌≡◌, ℕ, ◌+◌, ◌<◌, ◌≤◌, List, [], ◌∷◌, length, drop, get_or, Bor, Ordering, Less, Equal, Greater, refl, ap, sym, ◌∙◌}
use Rattle.std.proofs.lemmas.List.{at_drop_more}
use Rattle.std.proofs.Math.ListN.{drop_of_length-le}
use Rattle.std.specs.BTreeMap.{insert_entry}
use Rattle.std.specs.Cmp.Lexicographic.{slice_cmp}
use Rattle.std.specs.Ordering.{match_ordering, nat_cmp}
use Rattle.serde_json.specs.Data.{Members, put}
use Rattle.sm_model.specs.declared.reply.Staged.{Staged}
use Rattle.sm_reply.specs.Shown.{labels_shown, put_versions}
use Rattle.sm_reply.specs.Versions.{staged_members}

abbrev Entry : Type 0
Entry = Bor (List ℕ) × Bor (List (List ℕ))

-- ids go by their bytes
abbrev by_bytes : Bor (List ℕ) → Bor (List ℕ) → Ordering
by_bytes id other = slice_cmp nat_cmp id.now other.now

matched : (o : Ordering) (a b c : List Entry)
    → staged_members (match_ordering o a b c)
    ≡ match_ordering o (staged_members a) (staged_members b) (staged_members c)
matched Less a b c = refl
matched Equal a b c = refl
matched Greater a b c = refl

-- one id more, or another list of labels at an id
inserted : (entries : List Entry) (id : Bor (List ℕ)) (labels : Bor (List (List ℕ)))
    → staged_members (insert_entry by_bytes entries id labels)
    ≡ put id.now (labels_shown labels.now) (staged_members entries)
inserted [] id labels = refl
inserted (entry ∷ entries) id labels = matched (by_bytes id entry.0) _ _ _ ∙ rw (inserted entries id labels)

-- one version more
pub staged_more : (versions : List Staged) (i : ℕ) (x : Staged) (old new : List Entry) (id : Bor (List ℕ))
    (labels : Bor (List (List ℕ))) (all : Members) → i < length versions → x ≡ get_or versions i x
    → id.now ≡ x.id → labels.now ≡ x.labels → new ≡ insert_entry by_bytes old id labels
    → put_versions (drop i versions) (staged_members old) ≡ all
    → put_versions (drop (i + 1) versions) (staged_members new) ≡ all
staged_more versions i x old new id labels all h at named labelled is e =
    ap (put_versions (drop (i + 1) versions)) (ap staged_members is ∙ inserted old id labels
    ∙ ap (λ name. put name (labels_shown labels.now) (staged_members old)) named
    ∙ ap (λ ls. put x.id (labels_shown ls) (staged_members old)) labelled)
    ∙ ap (λ (y : Staged). put_versions (y ∷ drop (i + 1) versions) (staged_members old)) at
    ∙ sym (at_drop_more (λ (vs : List Staged). put_versions vs (staged_members old)) versions i x h)
    ∙ e

-- all versions
pub staged_all : (versions : List Staged) (i : ℕ) (members all : Members) → length versions ≤ i
    → put_versions (drop i versions) members ≡ all → members ≡ all
staged_all versions i members all h e =
    sym (ap (λ (vs : List Staged). put_versions vs members) (drop_of_length-le versions h)) ∙ e
