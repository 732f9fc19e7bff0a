-- Fronts of files, and that a file has one list.
use Rattle.std.proofs.Common.{◌≡◌, ◌≢◌, ℕ, ◌+◌, ◌<◌, ◌≤◌, List, [], ◌∷◌, ◌++◌, length, get_or, take, drop, refl, sym, ◌∙◌, ap, subst, inl, inr, ⊎_elim, arith, append_assoc, length-append}
use Rattle.std.proofs.lemmas.Bool.{cases_lt}
use Rattle.std.proofs.lemmas.List.{take_at, drop_at, append-nil}
use Rattle.std.proofs.lemmas.Nat.{from_be_bytes-to_be_bytes_4}
use Rattle.std.specs.List.{flat_map}
use Rattle.std.specs.Int.{w32, to_be_bytes, from_be_bytes}
use Rattle.sm_journal.specs.Records.{header, record_of, front, size, AreWithin, body_limit, Loose, Recovers, IsBroken, IsDamaged}
use Rattle.sm_journal.specs.declared.format.Format.{Format}
use Rattle.sm_journal.specs.declared.format.Format.TheVariants.{First, Second}

length-be : (n : ℕ) → length (to_be_bytes w32 n) ≡ 4
length-be n = refl

pub length-header : (f : Format) → length (header f) ≡ 8
length-header First = refl
length-header Second = refl

-- a file without records has nine bytes
pub nine : (f : Format) (empty : List ℕ) → empty ≡ header f ++ 0 ∷ [] → length empty ≤ 9
nine f empty is = omega (arith, ap length is, length-append (header f) (0 ∷ []), length-header f)

-- lists of one length that begin two equal lists
pub same_front : (xs ys after behind : List ℕ) → length xs ≡ length ys → xs ++ after ≡ ys ++ behind → (xs ≡ ys)
    × (after ≡ behind)
same_front xs ys after behind same is = (
  sym (take_at xs after (length ys) same) ∙ ap (λ (l : List ℕ). take (length ys) l) is
      ∙ take_at ys behind (length ys) refl,
  sym (drop_at xs after (length ys) same) ∙ ap (λ (l : List ℕ). drop (length ys) l) is
      ∙ drop_at ys behind (length ys) refl,
)

pub length-records : (bodies : List (List ℕ)) → length (flat_map record_of bodies) ≡ size bodies
length-records [] = refl
length-records (body ∷ bodies) =
    omega (
      arith,
      length-append (record_of body) (flat_map record_of bodies),
      length-append
          (to_be_bytes w32 (length body)) body,
      length-be (length body),
      length-records bodies,
    )

pub length-front : (f : Format) (bodies : List (List ℕ)) → length (front f bodies) ≡ 8 + size bodies
unfolding front
length-front f bodies =
    omega (arith, length-header f, length-append (header f) (flat_map record_of bodies), length-records bodies)

records-push : (bodies : List (List ℕ)) (body : List ℕ)
    → flat_map record_of (bodies ++ body ∷ []) ≡ flat_map record_of bodies ++ record_of body
records-push [] body = append-nil (record_of body)
records-push (first ∷ bodies) body = ap (λ (l : List ℕ). record_of first ++ l) (records-push bodies body)
    ∙ sym (append_assoc (record_of first) (flat_map record_of bodies) (record_of body))

pub front-push : (f : Format) (bodies : List (List ℕ)) (body : List ℕ)
    → front f (bodies ++ body ∷ []) ≡ front f bodies ++ record_of body
unfolding front
front-push f bodies body = ap (λ (l : List ℕ). header f ++ l) (records-push bodies body)
    ∙ sym (append_assoc (header f) (flat_map record_of bodies) (record_of body))

pub size-push : (bodies : List (List ℕ)) (body : List ℕ) → size (bodies ++ body ∷ []) ≡ size bodies + (5 + length body)
size-push [] body = omega arith
size-push (first ∷ bodies) body = omega (arith, size-push bodies body)

pub within-push : (bodies : List (List ℕ)) (body : List ℕ) → AreWithin bodies → length body ≤ body_limit
    → AreWithin (bodies ++ body ∷ [])
within-push [] body all fits = (fits, tt)
within-push (first ∷ bodies) body all fits = (all.0, within-push bodies body all.1 fits)

-- the first of two equal lists of records is one record
same_record : (x y : List ℕ) (a b : List (List ℕ)) (t u : List ℕ) → length x ≤ body_limit → length y ≤ body_limit
    → flat_map record_of (x ∷ a) ++ t ≡ flat_map record_of (y ∷ b) ++ u → (x ≡ y)
    × (flat_map record_of a ++ t ≡ flat_map record_of b ++ u)
same_record x y a b t u fits fits' is =
    let lengths = same_front (to_be_bytes w32 (length x)) (to_be_bytes w32 (length y))
    (x ++ (flat_map record_of a ++ t)) (y ++ (flat_map record_of b ++ u)) refl
    (sym (apart x a t) ∙ ap (λ (l : List ℕ). drop 1 l) is ∙ apart y b u) in
    let same : length x ≡ length y = sym (from_be_bytes-to_be_bytes_4 (length x) (omega arith))
    ∙ ap (λ (l : List ℕ). from_be_bytes w32 l) lengths.0 ∙ from_be_bytes-to_be_bytes_4 (length y) (omega arith) in
    same_front x y (flat_map record_of a ++ t) (flat_map record_of b ++ u) same lengths.1
  where
    apart : (x : List ℕ) (a : List (List ℕ)) (t : List ℕ)
        → drop 1 (flat_map record_of (x ∷ a) ++ t) ≡ to_be_bytes w32 (length x) ++ (x ++ (flat_map record_of a ++ t))
    apart x a t =
        append_assoc (to_be_bytes w32 (length x) ++ x) (flat_map record_of a) t
        ∙ append_assoc (to_be_bytes w32 (length x)) x (flat_map record_of a ++ t)

pub first_of_lists : (x y : ℕ) (xs ys : List ℕ) → x ∷ xs ≡ y ∷ ys → x ≡ y
first_of_lists x y xs ys is = ap (λ (l : List ℕ). get_or l 0 0) is

unique_records : (a b : List (List ℕ)) (g h : ℕ) (r q : List ℕ) → AreWithin a → AreWithin b → g ≢ 1 → h ≢ 1
    → flat_map record_of a ++ g ∷ r ≡ flat_map record_of b ++ h ∷ q → a ≡ b
unique_records [] [] g h r q all all' closed closed' is = refl
unique_records [] (y ∷ b) g h r q all all' closed closed' is = absurd (closed (first_of_lists _ _ _ _ is))
unique_records (x ∷ a) [] g h r q all all' closed closed' is = absurd (closed' (sym (first_of_lists _ _ _ _ is)))
unique_records (x ∷ a) (y ∷ b) g h r q all all' closed closed' is =
    let first = same_record x y a b (g ∷ r) (h ∷ q) all.0 all'.0 is in
    let others = unique_records a b g h r q all.1 all'.1 closed closed' first.1 in
    λ i. first.0 i ∷ others i

-- a record that stands whole behind its gate isn't broken
whole : (x rest : List ℕ) → length x ≤ body_limit → 0 < length rest
    → IsBroken (to_be_bytes w32 (length x) ++ (x ++ rest)) → ⊥
whole x rest fits more broken =
    let len : from_be_bytes w32 (take 4 (to_be_bytes w32 (length x) ++ (x ++ rest))) ≡ length x =
    ap (λ (l : List ℕ). from_be_bytes w32 l) (take_at (to_be_bytes w32 (length x)) (x ++ rest) 4 refl)
    ∙ from_be_bytes-to_be_bytes_4 (length x) (omega arith) in
    let all : length (to_be_bytes w32 (length x) ++ (x ++ rest)) ≡ 4 + (length x + length rest) =
    omega (
      arith,
      length-append (to_be_bytes w32 (length x)) (x ++ rest),
      length-append x rest,
      length-be
          (length x),
    ) in
    ⊎_elim (λ short. absurd (omega (arith, short, all)))
    (⊎_elim (λ large. absurd (omega (arith, large, len, fits))) (λ cut. absurd (omega (arith, cut, all, len, more))))
    broken

no_list : (a b : List (List ℕ)) (g : ℕ) (r q : List ℕ) → AreWithin a → AreWithin b → g ≢ 1 → IsBroken q
    → flat_map record_of a ++ g ∷ r ≡ flat_map record_of b ++ 1 ∷ q → ⊥
no_list [] [] g r q all all' closed broken is = closed (first_of_lists _ _ _ _ is)
no_list [] (y ∷ b) g r q all all' closed broken is = closed (first_of_lists _ _ _ _ is)
no_list (x ∷ a) [] g r q all all' closed broken is =
    let rest : q ≡ to_be_bytes w32 (length x) ++ (x ++ (flat_map record_of a ++ g ∷ r)) =
    sym (ap (λ (l : List ℕ). drop 1 l) is)
    ∙ append_assoc (to_be_bytes w32 (length x) ++ x) (flat_map record_of a) (g ∷ r)
    ∙ append_assoc (to_be_bytes w32 (length x)) x (flat_map record_of a ++ g ∷ r) in
    whole x (flat_map record_of a ++ g ∷ r) all.0 (omega (arith, length-append (flat_map record_of a) (g ∷ r)))
    (subst IsBroken rest broken)
no_list (x ∷ a) (y ∷ b) g r q all all' closed broken is =
    no_list a b g r q all.1 all'.1 closed broken (same_record x y a b (g ∷ r) (1 ∷ q) all.0 all'.0 is).1

-- what stands behind the header
behind : (f : Format) (a : List (List ℕ)) (t : List ℕ) → drop 8 (front f a ++ t) ≡ flat_map record_of a ++ t
unfolding front
behind f a t = ap (λ (l : List ℕ). drop 8 l) (append_assoc (header f) (flat_map record_of a) t)
    ∙ drop_at (header f) (flat_map record_of a ++ t) 8 (length-header f)

begins : (f : Format) (a : List (List ℕ)) (t : List ℕ) → take 8 (front f a ++ t) ≡ header f
unfolding front
begins f a t = ap (λ (l : List ℕ). take 8 l) (append_assoc (header f) (flat_map record_of a) t)
    ∙ take_at (header f) (flat_map record_of a ++ t) 8 (length-header f)

same_records : (f g : Format) (a b : List (List ℕ)) (t u : List ℕ) → front f a ++ t ≡ front g b ++ u
    → flat_map record_of a ++ t ≡ flat_map record_of b ++ u
same_records f g a b t u is = sym (behind f a t) ∙ ap (λ (l : List ℕ). drop 8 l) is ∙ behind g b u

-- the last bytes of the two headers differ
header_tells : (f g : Format) → header f ≡ header g → f ≡ g
header_tells First First is = refl
header_tells First Second is = let last : 49 ≡ 50 = ap (λ (l : List ℕ). get_or l 7 0) is in
    absurd (omega (arith, last))
header_tells Second First is = let last : 50 ≡ 49 = ap (λ (l : List ℕ). get_or l 7 0) is in
    absurd (omega (arith, last))
header_tells Second Second is = refl

same_format : (f g : Format) (a b : List (List ℕ)) (t u : List ℕ) → front f a ++ t ≡ front g b ++ u → f ≡ g
same_format f g a b t u is =
    header_tells f g (sym (begins f a t) ∙ ap (λ (l : List ℕ). take 8 l) is ∙ begins g b u)

pub length-loose : (f : Format) (bodies : List (List ℕ)) (bytes : List ℕ) (loose : Loose (front f bodies) bytes)
    → length bytes ≡ 9 + size bodies + length loose.rest
length-loose f bodies bytes loose =
    omega (
      arith,
      ap length loose.is.split,
      length-append (front f bodies)
          (loose.is.gate ∷ loose.rest),
      length-front f bodies,
    )

-- in at most nine bytes there is no record
short_loose : (f : Format) (bodies : List (List ℕ)) (bytes : List ℕ) → length bytes ≤ 9 → Loose (front f bodies) bytes
    → bodies ≡ []
short_loose f [] bytes short loose = refl
short_loose f (body ∷ bodies) bytes short loose = absurd (omega (arith, length-loose f (body ∷ bodies) bytes loose))

-- the list before a gate that isn't open is what the file recovers to
pub loose_recovers : (f : Format) (bodies : List (List ℕ)) → AreWithin bodies → (bytes : List ℕ)
    → Loose (front f bodies) bytes → Recovers bytes f bodies
loose_recovers f bodies within bytes loose = elim (cases_lt 9 (length bytes)) [
  | inl more ↦ inr (more, within, loose)
  | inr few ↦ inl (few, short_loose f bodies bytes few loose)
]

-- a file has one list
pub one_list : (bytes : List ℕ) (f g : Format) (a b : List (List ℕ)) → Recovers bytes f a → Recovers bytes g b → a ≡ b
one_list bytes f g a b (inl x) (inl y) = x.1 ∙ sym y.1
one_list bytes f g a b (inl x) (inr y) = absurd (omega (arith, x.0, y.0))
one_list bytes f g a b (inr x) (inl y) = absurd (omega (arith, x.0, y.0))
one_list bytes f g a b (inr x) (inr y) =
    unique_records a b x.2.is.gate y.2.is.gate x.2.rest y.2.rest x.1 y.1 x.2.is.closed y.2.is.closed
    (same_records f g a b _ _ (sym x.2.is.split ∙ y.2.is.split))

-- and one format, where it has more than nine bytes
pub one_format : (bytes : List ℕ) (f g : Format) (a b : List (List ℕ)) → 9 < length bytes → Recovers bytes f a
    → Recovers bytes g b → f ≡ g
one_format bytes f g a b long (inl x) y = absurd (omega (arith, x.0, long))
one_format bytes f g a b long (inr x) (inl y) = absurd (omega (arith, y.0, long))
one_format bytes f g a b long (inr x) (inr y) = same_format f g a b _ _ (sym x.2.is.split ∙ y.2.is.split)

other_header : (f : Format) (front : List ℕ) → front ≢ header First → front ≢ header Second → front ≡ header f → ⊥
other_header First front first second is = first is
other_header Second front first second is = second is

-- and isn't damaged
pub not_damaged : (bytes : List ℕ) (f : Format) (bodies : List (List ℕ)) (at entry : ℕ) → Recovers bytes f bodies
    → IsDamaged bytes at entry → ⊥
not_damaged bytes f bodies at entry (inl short) damaged = absurd (omega (arith, short.0, damaged.0))
not_damaged bytes f bodies at entry (inr list) damaged =
    ⊎_elim
    (λ wrong. other_header f (take 8 bytes) wrong.0 wrong.1 (ap (λ (l : List ℕ). take 8 l) list.2.is.split
    ∙ begins f bodies (list.2.is.gate ∷ list.2.rest)))
    (λ cut. no_list bodies cut.1 list.2.is.gate list.2.rest cut.2 list.1 cut.3 list.2.is.closed cut.5
    (same_records f cut.0 bodies cut.1 _ _ (sym list.2.is.split ∙ cut.4)))
    damaged.1

pub front-nil : (f : Format) → front f [] ≡ header f
unfolding front
front-nil First = refl
front-nil Second = refl
