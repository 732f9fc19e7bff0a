-- A name or an ARN leads to one name, and so to one row.
use Rattle.std.proofs.Common.{◌≡◌, ℕ, ◌+◌, ◌-◌, Bool, true, false, not, ◌&&◌, cond, Option, Some, None, List, [], ◌∷◌, ◌++◌, length, take, drop, codes, nat_eq, refl, sym, ap, ◌∙◌, arith, length-append, append_assoc}
use Rattle.std.proofs.Math.Seq.{take-append_seam, drop-append_seam, take-append-add}
use Rattle.std.proofs.lemmas.List.{take-append-drop}
use Rattle.std.proofs.lemmas.Bool.{and_parts}
use Rattle.std.proofs.lemmas.Bool.Decides.{nat_tests}
use Rattle.std.specs.List.{starts_with}
use Rattle.std.specs.Char.{is_ascii_alphanumeric}
use Rattle.std.specs.Cmp.Lexicographic.{bytes_decides}
use Rattle.sm_base.specs.declared.moment.Moment.{Moment}
use Rattle.sm_base.specs.Spelling.{is_run}
use Rattle.sm_model.specs.declared.rows.SecretRow.{SecretRow}
use Rattle.sm_versions.specs.Texts.{once}
use Rattle.sm_base.specs.Texts.{same_text}
use Rattle.sm_versions.specs.Sound.{arn_beginning, IsArnOf}
use Rattle.sm_versions.proofs.TextLemmas.{same_text_decides}
use Rattle.sm_table.specs.Sweep.{is_gone, swept}
use Rattle.sm_table.specs.Found.{row_named, row_with_arn, row_with_short_arn, short_arn}
use Rattle.sm_table.specs.Kept.{row_names, EachArn}
use Rattle.sm_table.specs.Index.{name_in}
use Rattle.sm_table.proofs.FoundLemmas.{row_named_is_find, row_with_arn_is_find, row_with_short_arn_is_find}
use Rattle.sm_table.proofs.IndexedLemmas.{EachPasses, passing, find_named}

-- ---- the name in an ARN

between : (front name back : List ℕ) (n : ℕ) → n ≡ length front + length name
    → drop (length front) (take n (front ++ (name ++ back))) ≡ name
between front name back n e =
    rw (e, take-append-add front (name ++ back) (length name), take-append_seam name back)
    (drop-append_seam front name)

-- an ARN is its beginning and six characters
arn_parts : (arn front : List ℕ)
    → (starts_with nat_eq arn front && is_run is_ascii_alphanumeric 6 6 (drop (length front) arn)) ≡ true
    → (arn ≡ front ++ drop (length front) arn) × (length (drop (length front) arn) ≡ 6)
arn_parts arn front h =
    let back : List ℕ = drop (length front) arn in
    let parts = and_parts (starts_with nat_eq arn front) (is_run is_ascii_alphanumeric 6 6 back) h in
    let same : front ≡ take (length front) arn = (bytes_decides front (take (length front) arn)).0 parts.0 in
    (sym (ap (λ t. t ++ back) same ∙ take-append-drop (length front) arn), grind (arith, nat_tests, parts.1))

name_within : (front name rest arn : List ℕ) → arn ≡ (front ++ (name ++ codes "-")) ++ rest → length rest ≡ 6
    → drop (length front) (take (length arn - 7) arn) ≡ name
name_within front name rest arn e six =
    let whole : arn ≡ front ++ (name ++ (codes "-" ++ rest)) = e ∙ simp append_assoc in
    let n : length arn - 7 ≡ length front + length name =
    omega (arith, simp length-append at (ap length e), six) in
    ap (λ t. drop (length front) (take (length arn - 7) t)) whole ∙ between front name (codes "-" ++ rest)
    (length arn - 7) n

pub name_of_arn : (arn name : List ℕ) → IsArnOf arn name → name_in (short_arn arn) ≡ name
unfolding name_in arn_beginning
name_of_arn arn name h =
    let front : List ℕ = codes "arn:aws:secretsmanager:us-east-1:000000000000:secret:" in
    let parts = arn_parts arn (front ++ (name ++ codes "-")) h in
    name_within front name (drop (length (front ++ (name ++ codes "-"))) arn) arn parts.0 parts.1

-- ---- what passes has the name

each_named : (rows : List SecretRow) (moment : Moment) (name : List ℕ)
    → EachPasses (λ r. not (is_gone r moment) && same_text r.name name) name rows
each_named [] moment name = tt
each_named (r ∷ rs) moment name = (
  (λ h. (same_text_decides r.name name).0 (and_parts (not (is_gone r moment)) (same_text r.name name) h).1),
  each_named rs moment name,
)

each_with_arn : (rows : List SecretRow) (moment : Moment) (arn : List ℕ) → EachArn rows
    → EachPasses (λ r. not (is_gone r moment) && same_text r.arn arn) (name_in (short_arn arn)) rows
each_with_arn [] moment arn each = tt
each_with_arn (r ∷ rs) moment arn each = (
  (λ h. sym (name_of_arn r.arn r.name each.0) ∙ ap (λ a. name_in (short_arn a))
      ((same_text_decides r.arn arn).0 (and_parts (not (is_gone r moment)) (same_text r.arn arn) h).1)),
  each_with_arn rs moment arn each.1,
)

each_with_short_arn : (rows : List SecretRow) (moment : Moment) (arn : List ℕ) → EachArn rows
    → EachPasses (λ r. not (is_gone r moment) && same_text (short_arn r.arn) arn) (name_in arn) rows
each_with_short_arn [] moment arn each = tt
each_with_short_arn (r ∷ rs) moment arn each = (
  (λ h. sym (name_of_arn r.arn r.name each.0) ∙ ap name_in
      ((same_text_decides (short_arn r.arn) arn).0
      (and_parts (not (is_gone r moment)) (same_text (short_arn r.arn) arn) h).1)),
  each_with_short_arn rs moment arn each.1,
)

-- ---- look-ups

pub named_passing : (rows : List SecretRow) (moment : Moment) (name : List ℕ) → once (row_names rows) ≡ true
    → row_named (swept rows moment) name ≡ passing (λ r. not (is_gone r moment) && same_text r.name name)
    (row_named rows name)
named_passing rows moment name h =
    row_named_is_find rows moment name
    ∙ find_named (λ r. not (is_gone r moment) && same_text r.name name) name rows h (each_named rows moment name)

pub with_arn_passing : (rows : List SecretRow) (moment : Moment) (arn : List ℕ) → once (row_names rows) ≡ true
    → EachArn rows
    → row_with_arn (swept rows moment) arn ≡ passing (λ r. not (is_gone r moment) && same_text r.arn arn)
    (row_named rows (name_in (short_arn arn)))
with_arn_passing rows moment arn h each =
    row_with_arn_is_find rows moment arn
    ∙ find_named (λ r. not (is_gone r moment) && same_text r.arn arn) (name_in (short_arn arn)) rows h
    (each_with_arn rows moment arn each)

pub with_short_arn_passing : (rows : List SecretRow) (moment : Moment) (arn : List ℕ) → once (row_names rows) ≡ true
    → EachArn rows
    → row_with_short_arn (swept rows moment) arn ≡ passing
    (λ r. not (is_gone r moment) && same_text (short_arn r.arn) arn) (row_named rows (name_in arn))
with_short_arn_passing rows moment arn h each =
    row_with_short_arn_is_find rows moment arn
    ∙ find_named (λ r. not (is_gone r moment) && same_text (short_arn r.arn) arn) (name_in arn) rows h
    (each_with_short_arn rows moment arn each)

-- what a look-up answers where there is a row of the name, and where there is none
pub passing_some : (test : SecretRow → Bool) (whole first : Option SecretRow) (row : SecretRow) (b : Bool)
    → whole ≡ passing test first → Some row ≡ first → b ≡ test row → cond b (Some row) None ≡ whole
passing_some test whole first row b e f g = ap (λ t. cond t (Some row) None) g ∙ ap (passing test) f ∙ sym e

pub passing_none : (test : SecretRow → Bool) (whole first : Option SecretRow) → whole ≡ passing test first
    → None ≡ first → None ≡ whole
passing_none test whole first e f = ap (passing test) f ∙ sym e

named_has : (rows : List SecretRow) (name : List ℕ) (row : SecretRow) → row_named rows name ≡ Some row
    → same_text row.name name ≡ true
named_has [] name row e = absurd (cc)
named_has (r ∷ rs) name row e = by (same_text r.name name) refl e (named_has rs name row)
  where
    by : (b : Bool) → b ≡ same_text r.name name → cond b (Some r) (row_named rs name) ≡ Some row
        → (row_named rs name ≡ Some row → same_text row.name name ≡ true) → same_text row.name name ≡ true
    by true t e rest = let same : r ≡ row = cc in ap (λ q. same_text q.name name) (sym same) ∙ sym t
    by false t e rest = rest e

-- the row of a name is the one of those that are there, unless it is gone
pub named_there : (rows : List SecretRow) (moment : Moment) (name : List ℕ) (row : SecretRow)
    → once (row_names rows) ≡ true → Some row ≡ row_named rows name
    → cond (is_gone row moment) None (Some row) ≡ row_named (swept rows moment) name
named_there rows moment name row h e = by (is_gone row moment) refl
  where
    by : (b : Bool) → b ≡ is_gone row moment → cond b None (Some row) ≡ row_named (swept rows moment) name
    by true t = passing_some (λ r. not (is_gone r moment) && same_text r.name name) _ _ row false
        (named_passing rows moment name h) e (rw (← t) refl)
    by false t = passing_some (λ r. not (is_gone r moment) && same_text r.name name) _ _ row true
        (named_passing rows moment name h) e (rw (← t, named_has rows name row (sym e)) refl)

pub named_absent : (rows : List SecretRow) (moment : Moment) (name : List ℕ) → once (row_names rows) ≡ true
    → None ≡ row_named rows name → None ≡ row_named (swept rows moment) name
named_absent rows moment name h e =
    passing_none (λ r. not (is_gone r moment) && same_text r.name name) _ _ (named_passing rows moment name h) e

-- the row of the name in an ARN is the one with that ARN, if it has it and is there
pub with_arn_some : (rows : List SecretRow) (moment : Moment) (arn : List ℕ) (row : SecretRow) (b : Bool)
    → once (row_names rows) ≡ true → EachArn rows → Some row ≡ row_named rows (name_in (short_arn arn))
    → b ≡ (not (is_gone row moment) && same_text row.arn arn)
    → cond b (Some row) None ≡ row_with_arn (swept rows moment) arn
with_arn_some rows moment arn row b h each found passes =
    passing_some (λ r. not (is_gone r moment) && same_text r.arn arn) _ _ row b
    (with_arn_passing rows moment arn h each) found passes

pub with_arn_none : (rows : List SecretRow) (moment : Moment) (arn : List ℕ) → once (row_names rows) ≡ true
    → EachArn rows → None ≡ row_named rows (name_in (short_arn arn)) → None ≡ row_with_arn (swept rows moment) arn
with_arn_none rows moment arn h each absent =
    passing_none (λ r. not (is_gone r moment) && same_text r.arn arn) _ _ (with_arn_passing rows moment arn h each)
    absent

-- the same without the suffix
pub with_short_arn_some : (rows : List SecretRow) (moment : Moment) (arn : List ℕ) (row : SecretRow) (b : Bool)
    → once (row_names rows) ≡ true → EachArn rows → Some row ≡ row_named rows (name_in arn)
    → b ≡ (not (is_gone row moment) && same_text (short_arn row.arn) arn)
    → cond b (Some row) None ≡ row_with_short_arn (swept rows moment) arn
with_short_arn_some rows moment arn row b h each found passes =
    passing_some (λ r. not (is_gone r moment) && same_text (short_arn r.arn) arn) _ _ row b
    (with_short_arn_passing rows moment arn h each) found passes

pub with_short_arn_none : (rows : List SecretRow) (moment : Moment) (arn : List ℕ) → once (row_names rows) ≡ true
    → EachArn rows → None ≡ row_named rows (name_in arn) → None ≡ row_with_short_arn (swept rows moment) arn
with_short_arn_none rows moment arn h each absent =
    passing_none (λ r. not (is_gone r moment) && same_text (short_arn r.arn) arn) _ _
    (with_short_arn_passing rows moment arn h each) absent
