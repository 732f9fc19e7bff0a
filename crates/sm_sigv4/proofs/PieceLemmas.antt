-- The pieces of texts that are put together.
use Rattle.std.proofs.Common.{◌≡◌, ℕ, zero, suc, ◌==◌, not, cond, Bool, true, false, List, [], ◌∷◌, ◌++◌, replicate, length, drop, Some, None, refl, ap, sym, ◌∙◌}
use Rattle.std.specs.Cmp.Lexicographic.{pointwise}
use Rattle.std.specs.Prelude.{nat_eq}
use Rattle.std.specs.List.{list_all, onto_first}
use Rattle.std.proofs.lemmas.List.{take_at, drop_at}
use Rattle.sm_sigv4.specs.Texts.{behind, pieces, lacks, past_spaces}
use Rattle.sm_sigv4.proofs.TestLemmas.{is_equal, test_true, and_left, and_right, and_both, not_true, same_bytes}

-- the first piece ends at the first such byte
pub pieces_front : (byte : ℕ) (front back : List ℕ) → lacks byte front ≡ true
    → pieces byte (front ++ byte ∷ back) ≡ front ∷ pieces byte back
pieces_front byte [] back h =
    ap (λ b. cond b ([] ∷ pieces byte back) (onto_first byte (pieces byte back))) (is_equal byte byte refl)
pieces_front byte (c ∷ front) back h =
    ap (λ b. cond b ([] ∷ pieces byte (front ++ byte ∷ back)) (onto_first c (pieces byte (front ++ byte ∷ back))))
    (not_true (c == byte) (and_left (not (c == byte)) (lacks byte front) h))
    ∙ ap (onto_first c) (pieces_front byte front back (and_right (not (c == byte)) (lacks byte front) h))

-- a text without one is its one piece
pub pieces_only : (byte : ℕ) (text : List ℕ) → lacks byte text ≡ true → pieces byte text ≡ text ∷ []
pieces_only byte [] h = refl
pieces_only byte (c ∷ text) h =
    ap (λ b. cond b ([] ∷ pieces byte text) (onto_first c (pieces byte text)))
    (not_true (c == byte) (and_left (not (c == byte)) (lacks byte text) h))
    ∙ ap (onto_first c) (pieces_only byte text (and_right (not (c == byte)) (lacks byte text) h))

pub lacks_append : (byte : ℕ) (one other : List ℕ) → lacks byte one ≡ true → lacks byte other ≡ true
    → lacks byte (one ++ other) ≡ true
lacks_append byte [] other h k = k
lacks_append byte (c ∷ one) other h k =
    and_both (not (c == byte)) (lacks byte (one ++ other)) (and_left (not (c == byte)) (lacks byte one) h)
    (lacks_append byte one other (and_right (not (c == byte)) (lacks byte one) h) k)

-- bytes that all pass a test that this one doesn't
passes_other : (test : ℕ → Bool) (byte : ℕ) → test byte ≡ false → (c : ℕ) (b : Bool) → (c == byte) ≡ b → test c ≡ true
    → not b ≡ true
passes_other test byte n c true is h =
    let f : true ≡ false = sym h ∙ ap test (test_true c byte is) ∙ n in absurd (cc)
passes_other test byte n c false is h = refl

pub lacks_by : (test : ℕ → Bool) (byte : ℕ) → test byte ≡ false → (text : List ℕ) → list_all test text ≡ true
    → lacks byte text ≡ true
lacks_by test byte n [] h = refl
lacks_by test byte n (c ∷ text) h =
    and_both (not (c == byte)) (lacks byte text)
    (passes_other test byte n c (c == byte) refl (and_left (test c) (list_all test text) h))
    (lacks_by test byte n text (and_right (test c) (list_all test text) h))

-- spaces are passed
pub spaces_passed : (n c : ℕ) (text : List ℕ) → (c == 32) ≡ false → past_spaces (replicate n 32 ++ c ∷ text) ≡ c ∷ text
spaces_passed zero c text h = ap (λ b. cond b (past_spaces text) (c ∷ text)) h
spaces_passed (suc n) c text h = spaces_passed n c text h

pub spaces_lack_commas : (n : ℕ) → lacks 44 (replicate n 32) ≡ true
spaces_lack_commas zero = refl
spaces_lack_commas (suc n) = spaces_lack_commas n

-- what was put behind a text is behind it
pub behind_front : (front rest : List ℕ) → behind front (front ++ rest) ≡ Some rest
unfolding behind
behind_front front rest =
    ap (λ (t : List ℕ). cond (pointwise nat_eq t front) (Some (drop (length front) (front ++ rest))) None)
    (take_at front rest (length front) refl)
    ∙ ap (λ b. cond b (Some (drop (length front) (front ++ rest))) None) (same_bytes front)
    ∙ ap Some (drop_at front rest (length front) refl)
