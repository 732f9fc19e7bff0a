-- The laws of items in a row.
use Rattle.std.proofs.Common.{◌≡◌, ℕ, zero, suc, ◌≤◌, IsTrue, List, [], ◌∷◌, ◌++◌, length, flat_map, Result, refl, sym, ap, subst, ◌∙◌, inl, inr, append_assoc, arith}
use Rattle.std.specs.List.{list_all}
use Rattle.std.proofs.lemmas.Bool.{and_parts, and_from}
use Rattle.sm_record.specs.Codec.{IsBytes, Codec, then_read, read_items}
use Rattle.sm_record.proofs.Bytes.{bytes_behind, no_longer, gives, stops, ok_is, ok_no_err, bind_ok, bind_err}
use Rattle.sm_record.proofs.CodecLaws.{Begins, Lawful}

-- the bytes begin with the items, which are so many and have spellings
pub record BeginsWithItems {A : Type 0} (c : Codec A) (n : ℕ) (bytes : List ℕ) (items : List A) (rest : List ℕ)
    : Type 0 where
  pub parts : bytes ≡ flat_map c.spell items ++ rest
  pub count : length items ≡ n
  pub fits : IsTrue (list_all c.fits items)

module _ {A : Type 0} (c : Codec A) (l : Lawful c) where
  pub items_take : (n : ℕ) (bytes : List ℕ) (items : List A) (rest : List ℕ) → IsBytes bytes
      → read_items c n bytes ≡ gives (items, rest) → BeginsWithItems c n bytes items rest
  unfolding read_items
  items_take zero bytes items rest fits e =
      let none : BeginsWithItems c zero bytes [] bytes = record { parts = refl; count = refl; fits = refl } in
      subst (λ (y : List A × List ℕ). BeginsWithItems c zero bytes y.0 y.1) (ok_is ([], bytes) (items, rest) e) none
  items_take (suc n) bytes items rest fits e =
      let one = bind_ok (c.read bytes)
      (λ a behind. then_read (read_items c n behind) (λ more after. gives (a ∷ more, after))) (items, rest) e in
      let two = bind_ok (read_items c n one.0.1) (λ more after. gives (one.0.0 ∷ more, after)) (items, rest) one.2 in
      let p : Begins c bytes one.0.0 one.0.1 = l.takes bytes one.0.0 one.0.1 fits one.1 in
      let behind : IsBytes one.0.1 = bytes_behind bytes (c.spell one.0.0) one.0.1 fits p.parts in
      let q : BeginsWithItems c n one.0.1 two.0.0 two.0.1 = items_take n one.0.1 two.0.0 two.0.1 behind two.1 in
      let whole : BeginsWithItems c (suc n) bytes (one.0.0 ∷ two.0.0) two.0.1 = record {
        parts = p.parts ∙ ap (λ (t : List ℕ). c.spell one.0.0 ++ t) q.parts
            ∙ sym (append_assoc (c.spell one.0.0) (flat_map c.spell two.0.0) two.0.1);
        count = ap suc q.count;
        fits = and_from (c.fits one.0.0) (list_all c.fits two.0.0) p.fits q.fits;
      } in
      subst (λ (y : List A × List ℕ). BeginsWithItems c (suc n) bytes y.0 y.1)
      (ok_is (one.0.0 ∷ two.0.0, two.0.1) (items, rest) two.2) whole

  pub items_again : (items : List A) (rest : List ℕ) → IsTrue (list_all c.fits items)
      → read_items c (length items) (flat_map c.spell items ++ rest) ≡ gives (items, rest)
  unfolding read_items
  items_again [] rest fits = refl
  items_again (a ∷ items) rest fits =
      let h = and_parts (c.fits a) (list_all c.fits items) fits in
      ap (λ (bytes : List ℕ). then_read (c.read bytes)
      (λ x behind. then_read (read_items c (length items) behind) (λ more after. gives (x ∷ more, after))))
      (append_assoc (c.spell a) (flat_map c.spell items) rest)
      ∙ ap (λ (r : Result (A × List ℕ) ℕ). then_read r
      (λ x behind. then_read (read_items c (length items) behind) (λ more after. gives (x ∷ more, after))))
      (l.again a (flat_map c.spell items ++ rest) h.0)
      ∙ ap (λ (r : Result (List A × List ℕ) ℕ). then_read r (λ more after. gives (a ∷ more, after)))
      (items_again items rest h.1)

  pub items_within : (n : ℕ) (bytes : List ℕ) (left : ℕ) → IsBytes bytes → read_items c n bytes ≡ stops left
      → left ≤ length bytes
  unfolding read_items
  items_within zero bytes left fits e = absurd (ok_no_err ([], bytes) left e)
  items_within (suc n) bytes left fits e =
      elim (bind_err (c.read bytes)
      (λ a behind. then_read (read_items c n behind) (λ more after. gives (a ∷ more, after))) left e) [
        | inl first ↦ l.within bytes left fits first
        | inr one ↦
            let p : Begins c bytes one.0.0 one.0.1 = l.takes bytes one.0.0 one.0.1 fits one.1 in
            let behind : IsBytes one.0.1 = bytes_behind bytes (c.spell one.0.0) one.0.1 fits p.parts in
            elim (bind_err (read_items c n one.0.1) (λ more after. gives (one.0.0 ∷ more, after)) left one.2) [
              | inl second ↦
                  omega (
                    arith,
                    items_within n one.0.1 left behind second,
                    no_longer bytes (c.spell one.0.0) one.0.1 p.parts,
                  )
              | inr two ↦ absurd (ok_no_err (one.0.0 ∷ two.0.0, two.0.1) left two.2)
            ]
      ]
