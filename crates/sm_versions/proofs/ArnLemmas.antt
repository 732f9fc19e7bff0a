-- A drawn ARN is one of its name.
use Rattle.std.proofs.Common.{◌≡◌, ℕ, true, nat_eq, List, [], ◌∷◌, ◌++◌, length, map, codes, refl, sym, ap, ◌∙◌, arith}
use Rattle.std.proofs.Math.Seq.{drop-append_seam, take-append_seam}
use Rattle.std.proofs.lemmas.List.{length-map, append_assoc}
use Rattle.std.proofs.lemmas.Bool.{and_from}
use Rattle.std.proofs.lemmas.Bool.Decides.{nat_tests}
use Rattle.std.specs.List.{list_all, starts_with}
use Rattle.std.specs.Char.{is_ascii_alphanumeric}
use Rattle.std.specs.Cmp.Lexicographic.{pointwise}
use Rattle.sm_base.specs.Spelling.{is_run}
use Rattle.sm_base.specs.Drawn.{drawn_arn, suffix_character}
use Rattle.sm_base.specs.Texts.{same_text}
use Rattle.sm_versions.specs.Sound.{arn_beginning, IsArnOf}
use Rattle.sm_versions.proofs.TextLemmas.{same_text_itself}

suffix_is_letter_or_digit : (byte : ℕ) → is_ascii_alphanumeric (suffix_character byte) ≡ true
suffix_is_letter_or_digit byte = grind (arith, nat_tests)

suffix_is_all : (six : List ℕ) → list_all is_ascii_alphanumeric (map suffix_character six) ≡ true
suffix_is_all [] = refl
suffix_is_all (byte ∷ six) = and_from _ _ (suffix_is_letter_or_digit byte) (suffix_is_all six)

text_itself : (a : List ℕ) → pointwise nat_eq a a ≡ true
unfolding same_text
text_itself a = same_text_itself a

begins : (front rest : List ℕ) → starts_with nat_eq (front ++ rest) front ≡ true
begins front rest = ap (λ t. pointwise nat_eq front t) (take-append_seam front rest) ∙ text_itself front

append_thrice : (a b c d : List ℕ) → a ++ (b ++ (c ++ d)) ≡ (a ++ (b ++ c)) ++ d
append_thrice a b c d = ap (λ t. a ++ t) (sym (append_assoc b c d)) ∙ sym (append_assoc a (b ++ c) d)

drawn_is : (name six : List ℕ) → drawn_arn name six ≡ arn_beginning name ++ map suffix_character six
unfolding drawn_arn arn_beginning
drawn_is name six = append_thrice (codes "arn:aws:secretsmanager:us-east-1:000000000000:secret:") name (codes "-")
    (map suffix_character six)

six_is_run : (text : List ℕ) → length text ≡ 6 → list_all is_ascii_alphanumeric text ≡ true
    → is_run is_ascii_alphanumeric 6 6 text ≡ true
six_is_run text n all = rw n all

-- the ARN that is drawn for a name is one of it
pub drawn_is_arn_of : (name six : List ℕ) → length six ≡ 6 → IsArnOf (drawn_arn name six) name
drawn_is_arn_of name six n =
    let front : List ℕ = arn_beginning name in
    let rest : List ℕ = map suffix_character six in
    rw (drawn_is name six)
    (and_from _ _ (begins front rest)
    (rw (drop-append_seam front rest) (six_is_run rest (length-map six suffix_character ∙ n) (suffix_is_all six))))
