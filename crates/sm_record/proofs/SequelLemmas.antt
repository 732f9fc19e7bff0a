-- Reading of things from bodies as a loop does it, and how much is left behind a field.
use Rattle.std.proofs.Common.{◌≡◌, ℕ, zero, suc, ◌+◌, ◌-◌, ◌<◌, ◌≤◌, List, [], ◌∷◌, ◌++◌, length, take, drop, get_or, Result, Ok, Err, refl, sym, ap, subst, ◌∙◌, append_assoc, append-nil, length-drop, drop-drop, arith}
use Rattle.std.specs.Prelude.{IfOk}
use Rattle.std.proofs.lemmas.List.{take_more, take_all}
use Rattle.sm_model.specs.declared.rows.SecretRow.{SecretRow}
use Rattle.sm_model.specs.declared.rows.VersionRow.{VersionRow}
use Rattle.sm_record.specs.Codec.{IsBytes, Codec}
use Rattle.sm_record.specs.Rows.{rows, secret, start, row_head, version, row_of, head_of_row, base_of_start, start_of_base}
use Rattle.sm_record.specs.Series.{Series, AreBytes, total, one, then_bodies, then_times, renamed, read_body, read_times}
use Rattle.sm_record.specs.declared.base.Base.{Base}
use Rattle.sm_record.specs.declared.edition.Edition.{Edition}
use Rattle.sm_record.specs.declared.row_parts.RowHead.{RowHead}
use Rattle.sm_record.specs.declared.row_parts.Start.{Start}
use Rattle.sm_record.specs.Reading.{Gives, Fails, LeftWithin}
use Rattle.sm_record.specs.declared.unread.Unread.{Unread}
use Rattle.sm_record.specs.declared.unread.Unread.TheVariants.{Left, Memory}
use Rattle.sm_record.proofs.Bytes.{no_longer}
use Rattle.sm_record.proofs.CodecLaws.{Begins, Lawful}

-- what was read before, and what is still read
abbrev pub with_first : {A : Type 0} → List A → Result (List A × List (List ℕ)) ℕ → Result (List A × List (List ℕ)) ℕ
with_first front read = then_bodies read (λ items rest. Ok (front ++ items, rest))

module _ {A : Type 0} where
  regroup : (front : List A) (a : A) (read : Result (List A × List (List ℕ)) ℕ)
      → with_first front (then_bodies read (λ items rest. Ok (a ∷ items, rest))) ≡ with_first (front ++ a ∷ []) read
  regroup front a (Ok x) = ap (λ (items : List A). Ok (items, x.1)) (sym (append_assoc front (a ∷ []) x.0))
  regroup front a (Err left) = refl

module _ {A : Type 0} (s : Series A) (front : List A) (count i : ℕ) (bodies : List (List ℕ))
    (all : Result (List A × List (List ℕ)) ℕ) where
  pub goes_on : (a : A) (rest : List (List ℕ)) → i < count → s.read bodies ≡ Ok (a, rest)
      → with_first front (read_times s (count - i) bodies) ≡ all
      → with_first (front ++ a ∷ []) (read_times s (count - (i + 1)) rest) ≡ all
  unfolding read_times
  goes_on a rest lt h so_far =
      let k : count - i ≡ suc (count - (i + 1)) = omega arith in
      let once : with_first front (read_times s (count - i) bodies)
      ≡ with_first (front ++ a ∷ []) (read_times s (count - (i + 1)) rest) =
      rw (k, h) (regroup front a (read_times s (count - (i + 1)) rest)) in
      sym once ∙ so_far

  pub ends : (e : Unread) → i < count → Fails e (s.read bodies)
      → with_first front (read_times s (count - i) bodies) ≡ all → Fails e all
  unfolding read_times
  ends Memory lt h so_far = tt
  ends (Left left) lt h so_far =
      let k : count - i ≡ suc (count - (i + 1)) = omega arith in
      let once : with_first front (read_times s (count - i) bodies) ≡ Err left = rw (k, h) refl in
      sym so_far ∙ once

  pub is_done : count ≤ i → with_first front (read_times s (count - i) bodies) ≡ all → all ≡ Ok (front, bodies)
  unfolding read_times
  is_done le so_far =
      let k : count - i ≡ 0 = omega arith in
      let once : with_first front (read_times s (count - i) bodies) ≡ Ok (front, bodies) =
      rw k (ap (λ (items : List A). Ok (items, bodies)) (append-nil front)) in
      sym so_far ∙ once

-- ---- bodies behind others

-- a slice from a place on is what stands behind so many
cut_is : (n : ℕ) (bodies : List (List ℕ)) → take (length bodies - n) (drop n bodies) ≡ drop n bodies
cut_is n bodies = take_all (length bodies - n) (drop n bodies) (omega (arith, length-drop n bodies))

module _ {A : Type 0} (s : Series A) (bodies : List (List ℕ)) (at : ℕ) where
  -- what is read behind others ends where both end
  pub read_behind : (a : A) (taken : ℕ)
      → s.read (take (length bodies - at) (drop at bodies))
      ≡ Ok (a, drop taken (take (length bodies - at) (drop at bodies)))
      → s.read (drop at bodies) ≡ Ok (a, drop (at + taken) bodies)
  read_behind a taken is =
      subst (λ (l : List (List ℕ)). s.read l ≡ Ok (a, drop taken l)) (cut_is at bodies) is
      ∙ ap (λ (rest : List (List ℕ)). Ok (a, rest)) (drop-drop taken at bodies)

  pub fails_behind : (e : Unread) → Fails e (s.read (take (length bodies - at) (drop at bodies)))
      → Fails e (s.read (drop at bodies))
  fails_behind e fails = subst (λ (l : List (List ℕ)). Fails e (s.read l)) (cut_is at bodies) fails

-- the others behind a thing are not read
then_fails : {A B C : Type 0} (count : A → ℕ) (s : Series A) (t : Series B) (into : A × List B → C)
    (out : C → A × List B) (bodies : List (List ℕ)) (first : ℕ) (a : A) (e : Unread)
    → s.read bodies ≡ Ok (a, drop first bodies)
    → Fails e (read_times t (count a) (take (length bodies - first) (drop first bodies)))
    → Fails e ((renamed (then_times count s t) into out).read bodies)
then_fails count s t into out bodies first a Memory is fails = tt
then_fails count s t into out bodies first a (Left left) is fails =
    let others : read_times t (count a) (drop first bodies) ≡ Err left =
    subst (λ (l : List (List ℕ)). read_times t (count a) l ≡ Err left) (cut_is first bodies) fails in
    rw (is, others) refl

-- a secret whose versions are not read, and rows whose secrets are not
pub secret_fails : (edition : Edition) (bodies : List (List ℕ)) (first : ℕ) (head : RowHead) (e : Unread)
    → read_body (row_head edition) bodies ≡ Ok (head, drop first bodies)
    → Fails e (read_times (one version) head.counted.versions (take (length bodies - first) (drop first bodies)))
    → Fails e ((secret edition).read bodies)
unfolding secret
secret_fails edition bodies first head e is fails =
    then_fails (λ (h : RowHead). h.counted.versions) (one (row_head edition)) (one version)
    (λ (x : RowHead × List VersionRow). row_of x.0 x.1) (λ (row : SecretRow). (head_of_row row, row.versions)) bodies
    first head e is fails

pub rows_fail : (edition : Edition) (bodies : List (List ℕ)) (first : ℕ) (s : Start) (e : Unread)
    → read_body start bodies ≡ Ok (s, drop first bodies)
    → Fails e (read_times (secret edition) s.secrets (take (length bodies - first) (drop first bodies)))
    → Fails e ((rows edition).read bodies)
unfolding rows
rows_fail edition bodies first s e is fails =
    then_fails (λ (t : Start). t.secrets) (one start) (secret edition)
    (λ (x : Start × List SecretRow). base_of_start x.0 x.1)
    (λ (base : Base). (start_of_base base, base.rows.secrets)) bodies first s e is fails

total_drop : (n : ℕ) (bodies : List (List ℕ)) → total (drop n bodies) ≤ total bodies
total_drop zero bodies = omega arith
total_drop (suc n) [] = omega arith
total_drop (suc n) (body ∷ bodies) = omega (arith, total_drop n bodies)

pub total_cut : (n : ℕ) (bodies : List (List ℕ)) → total (take (length bodies - n) (drop n bodies)) ≤ total bodies
total_cut n bodies = omega (arith, total_drop n bodies, ap total (cut_is n bodies))

-- ---- how much is left

module _ {A X : Type 0} (c : Codec A) (l : Lawful c) (view : X → A × List ℕ) (bytes : List ℕ) (fits : IsBytes bytes)
  where
    pub rest_bound : (result : Result X Unread) → Gives view result (c.read bytes)
        → IfOk result (λ x. length (view x).1 ≤ length bytes)
    rest_bound (Ok x) gives =
        let p : Begins c bytes (view x).0 (view x).1 = l.takes bytes (view x).0 (view x).1 fits gives in
        no_longer bytes (c.spell (view x).0) (view x).1 p.parts
    rest_bound (Err unread) gives = tt

    pub left_bound : (result : Result X Unread) → Gives view result (c.read bytes) → LeftWithin result (length bytes)
    left_bound (Ok x) gives = tt
    left_bound (Err (Left n)) gives = l.within bytes n fits gives
    left_bound (Err Memory) gives = tt

-- ---- how many bytes bodies have

total_append : (front rest : List (List ℕ)) → total (front ++ rest) ≡ total front + total rest
total_append [] rest = omega arith
total_append (body ∷ front) rest = omega (arith, total_append front rest)

-- one body more
pub total_more : (bodies : List (List ℕ)) (i : ℕ) (body : List ℕ) → i < length bodies → body ≡ get_or bodies i body
    → total (take (i + 1) bodies) ≡ total (take i bodies) + length body
total_more bodies i body lt at =
    omega (
      arith,
      ap total (take_more bodies i body lt),
      total_append (take i bodies) (get_or bodies i body ∷ []),
      ap length (sym at),
    )

pub total_take : (n : ℕ) (bodies : List (List ℕ)) → total (take n bodies) ≤ total bodies
total_take zero bodies = omega arith
total_take (suc n) [] = omega arith
total_take (suc n) (body ∷ bodies) = omega (arith, total_take n bodies)

bytes_push : (bodies : List (List ℕ)) (body : List ℕ) → AreBytes bodies → IsBytes body → AreBytes (bodies ++ body ∷ [])
bytes_push [] body all fits = (fits, tt)
bytes_push (first ∷ bodies) body all fits = (all.0, bytes_push bodies body all.1 fits)

pub bytes_more : (bodies : List (List ℕ)) (i : ℕ) (body : List ℕ) → i < length bodies → body ≡ get_or bodies i body
    → IsBytes body → AreBytes (take i bodies) → AreBytes (take (i + 1) bodies)
bytes_more bodies i body lt at fits all =
    subst AreBytes (sym (take_more bodies i body lt ∙ ap (λ (b : List ℕ). take i bodies ++ b ∷ []) (sym at)))
    (bytes_push (take i bodies) body all fits)

pub bytes_all : (bodies : List (List ℕ)) (i : ℕ) → length bodies ≤ i → AreBytes (take i bodies) → AreBytes bodies
bytes_all bodies i le all = subst AreBytes (take_all i bodies le) all
