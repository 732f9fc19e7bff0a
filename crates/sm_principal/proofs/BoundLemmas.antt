-- How long the texts of persons are.
use Rattle.std.proofs.Common.{◌≡◌, ℕ, ◌+◌, ◌≤◌, ◌&&◌, nat_le, cond, Bool, true, false, List, [], ◌∷◌, ◌++◌, length, All, Option, Some, None, Result, Ok, Err, option_and_then, refl, sym, ap, subst, ◌∙◌, arith}
use Rattle.std.specs.Cmp.Lexicographic.{same_text as texts_same}
use Rattle.std.specs.List.{list_all, list_any}
use Rattle.std.proofs.lemmas.Bool.Decides.{nat_tests}
use Rattle.std.proofs.lemmas.List.Elements.{All-nil, All-push}
use Rattle.sm_base.specs.PersonArn.{is_person_arn}
use Rattle.sm_base.specs.Spelling.{is_token_byte}
use Rattle.sm_base.specs.Texts.{same_text}
use Rattle.sm_base.specs.declared.limits.TheConstants.{KEY_LIMIT}
use Rattle.sm_model.specs.declared.person.Person.{Person}
use Rattle.sm_principal.specs.Persons.{Known}
use Rattle.sm_principal.specs.declared.known.TheConstants.{SECRET_LIMIT}
use Rattle.sm_principal.specs.declared.people.People.{People}
use Rattle.sm_principal.specs.declared.people.People.TheVariants.{Everybody, Listed}
use Rattle.sm_principal.specs.Bounds.{HasShortKey, HasShortSecret, IsShort, AreShort}
use Rattle.sm_principal.specs.Callers.{Nobody, listed, people_of, root, key_in, known_named, known_or, caller_named, caller_of}
use Rattle.sm_principal.specs.Lines.{is_key_byte, is_key, is_secret, known_with, fits, known_if, with_arn, with_kind, with_key, kind_of, parted, known_of, is_skipped, has_key, added, with_line, lines_of, persons_from, persons_of}
use Rattle.sm_principal.proofs.CallerLemmas.{key_is_key}
use Rattle.sm_principal.proofs.LineLemmas.{both}

at_most : (n most : ℕ) → nat_le n most ≡ true → n ≤ most
at_most n most h = grind (arith, nat_tests)

run_short : (low high n : ℕ) (rest : Bool) → ((nat_le low n && nat_le n high) && rest) ≡ true → n ≤ high
run_short low high n rest is =
    at_most n high (both (nat_le low n) (nat_le n high) (both (nat_le low n && nat_le n high) rest is).0).1

key_short : (key : List ℕ) → is_key key ≡ true → length key ≤ KEY_LIMIT
unfolding is_key
key_short key is = run_short 1 KEY_LIMIT (length key) (list_all is_key_byte key) is

first_of_four : (a b c d : Bool) → (((a && b) && c) && d) ≡ true → a ≡ true
first_of_four true b c d h = refl
first_of_four false b c d h = h

pub arn_short : (arn : List ℕ) → is_person_arn arn ≡ true → length arn ≤ 154
unfolding is_person_arn
arn_short arn is = run_short 27 154 (length arn) (list_all is_token_byte arn) (first_of_four _ _ _ _ is)

secret_short : (secret : List ℕ) → is_secret secret ≡ true → length secret ≤ SECRET_LIMIT
unfolding is_secret
secret_short secret is = run_short 1 SECRET_LIMIT (length secret) (list_all is_token_byte secret) is

fitting_short : (key : List ℕ) (full : Bool) (arn : List ℕ) (secret : Option (List ℕ)) → fits secret ≡ true
    → HasShortSecret (known_with key full arn secret)
fitting_short key full arn None is = tt
fitting_short key full arn (Some secret) is = secret_short secret is

-- the person of a line
if_spelled : (key : List ℕ) (full : Bool) (arn : List ℕ) (secret : Option (List ℕ)) (spelled : Bool) (one : Known)
    → ((is_key key && is_person_arn arn) && fits secret) ≡ spelled
    → cond spelled (Some (known_with key full arn secret)) None ≡ Some one → IsShort one
if_spelled key full arn secret true one are is =
    let forms = both (is_key key && is_person_arn arn) (fits secret) are in
    let texts = both (is_key key) (is_person_arn arn) forms.0 in
    let same : known_with key full arn secret ≡ one = cc in
    subst IsShort same
    (key_short key texts.0, arn_short arn texts.1, fitting_short key full arn secret forms.1)
if_spelled key full arn secret false one are is = absurd (cc)

of_kind : (key : List ℕ) (kind : Option Bool) (arn : List ℕ) (secret : Option (List ℕ)) (one : Known)
    → known_if key kind arn secret ≡ Some one → IsShort one
of_kind key None arn secret one is = absurd (cc)
of_kind key (Some full) arn secret one is =
    if_spelled key full arn secret ((is_key key && is_person_arn arn) && fits secret) one refl is

of_arn : (key : List ℕ) (kind : Option Bool) (rest : List ℕ) (parts : Option (List ℕ × List ℕ)) (one : Known)
    → with_arn key kind rest parts ≡ Some one → IsShort one
of_arn key kind rest None one is = of_kind key kind rest None one is
of_arn key kind rest (Some parts) one is = of_kind key kind parts.0 (Some parts.1) one is

of_rest : (key : List ℕ) (parts : Option (List ℕ × List ℕ)) (one : Known) → with_kind key parts ≡ Some one
    → IsShort one
of_rest key None one is = absurd (cc)
of_rest key (Some parts) one is = of_arn key (kind_of parts.0) parts.1 (parted 32 parts.1) one is

of_parts : (parts : Option (List ℕ × List ℕ)) (one : Known) → with_key parts ≡ Some one → IsShort one
of_parts None one is = absurd (cc)
of_parts (Some parts) one is = of_rest parts.0 (parted 32 parts.1) one is

-- the persons known with a line more
unless_held : (number : ℕ) (known : List Known) (one : Known) (held : Bool) (more : List Known)
    → All IsShort known → IsShort one
    → cond held (Err number) (Ok (known ++ one ∷ [])) ≡ (let r : Result (List Known) ℕ = Ok more in r)
    → All IsShort more
unless_held number known one true more all short is = absurd (cc)
unless_held number known one false more all short is =
    let same : known ++ one ∷ [] ≡ more = cc in subst (All IsShort) same (All-push IsShort known one all short)

added_short : (number : ℕ) (known : List Known) (found : Option Known) (more : List Known) → All IsShort known
    → ((one : Known) → found ≡ Some one → IsShort one) → added number known found ≡ Ok more → All IsShort more
added_short number known None more all short is = absurd (cc)
added_short number known (Some one) more all short is =
    unless_held number known one (list_any (has_key one.person.key) known) more all (short one refl) is

unless_skipped : (number : ℕ) (known : List Known) (line : List ℕ) (skipped : Bool) (more : List Known)
    → All IsShort known
    → cond skipped (Ok known) (added number known (known_of line)) ≡ (let r : Result (List Known) ℕ = Ok more in r)
    → All IsShort more
unless_skipped number known line true more all is =
    let same : known ≡ more = cc in subst (All IsShort) same all
unless_skipped number known line false more all is =
    added_short number known (known_of line) more all (λ one. of_parts (parted 32 line) one) is

from_short : (number : ℕ) (start : Result (List Known) ℕ) (lines : List (List ℕ)) (persons : List Known)
    → ((known : List Known) → start ≡ Ok known → All IsShort known) → persons_from number start lines ≡ Ok persons
    → All IsShort persons
from_short number (Err bad) lines persons short is = absurd (cc)
from_short number (Ok known) [] persons short is =
    let same : known ≡ persons = cc in subst (All IsShort) same (short known refl)
from_short number (Ok known) (line ∷ lines) persons short is =
    from_short (number + 1) (with_line number known line) lines persons
    (λ more. unless_skipped number known line (is_skipped line) more (short known refl)) is

persons_short : (text : List ℕ) (persons : List Known) → persons_of text ≡ Ok persons → All IsShort persons
persons_short text persons is = from_short 1 (Ok []) (lines_of text) persons (none (Ok []) refl) is
  where
    none : (start : Result (List Known) ℕ) → start ≡ Ok [] → (known : List Known) → start ≡ Ok known
        → All IsShort known
    none start empty known is = let same : [] ≡ known = cc in subst (All IsShort) same (All-nil IsShort)

listed_short : (text : List ℕ) (read : Result (List Known) ℕ) → persons_of text ≡ read → (people : People)
    → listed read ≡ Ok people → AreShort people
listed_short text (Ok persons) read people is =
    let same : Listed persons ≡ people = cc in subst AreShort same (persons_short text persons read)
listed_short text (Err number) read people is = absurd (cc)

pub people_short : (text : List ℕ) (people : People) → people_of text ≡ Ok people → AreShort people
people_short [] people is = let same : Everybody ≡ people = cc in subst AreShort same tt
people_short (c ∷ text) people is = listed_short (c ∷ text) (persons_of (c ∷ text)) refl people is

-- who asks has the key that was spelled
same_key : (person : Person) (key : List ℕ) → same_text person.key key ≡ true → person.key ≡ key
unfolding same_text
same_key person key same = texts_same person.key key (sym same)

named_here : (key : List ℕ) (p : Known) (found : Option Known) (one : Known)
    → (found ≡ Some one → one.person.key ≡ key) → (same : Bool) → same_text p.person.key key ≡ same
    → cond same (Some p) found ≡ Some one → one.person.key ≡ key
named_here key p found one later true same is =
    let is_one : p ≡ one = cc in sym (ap (λ (q : Known). q.person.key) is_one) ∙ same_key p.person key same
named_here key p found one later false same is = later is

pub named_key : (key : List ℕ) (known : List Known) (one : Known) → known_named key known ≡ Some one
    → one.person.key ≡ key
named_key key [] one is = absurd (cc)
named_key key (p ∷ known) one is =
    named_here key p (known_named key known) one (named_key key known one) (same_text p.person.key key) refl is

known_key : (key : List ℕ) (found : Option Known) (person : Person)
    → ((one : Known) → found ≡ Some one → one.person.key ≡ key) → known_or key found ≡ Ok person → person.key ≡ key
known_key key None person named is = absurd (cc)
known_key key (Some one) person named is =
    let same : one.person ≡ person = cc in sym (ap (λ (q : Person). q.key) same) ∙ named one refl

-- who asks has the key that the field spells
pub caller_key : (known : List Known) (key : List ℕ) (person : Person) → caller_named known (Some key) ≡ Ok person
    → person.key ≡ key
caller_key known key person is = known_key key (known_named key known) person (named_key key known) is

named_short : (known : List Known) (found : Option (List ℕ)) (person : Person)
    → ((key : List ℕ) → found ≡ Some key → length key ≤ KEY_LIMIT) → caller_named known found ≡ Ok person
    → HasShortKey person
named_short known None person short is = absurd (cc)
named_short known (Some key) person short is =
    subst (λ k. length k ≤ KEY_LIMIT) (sym (caller_key known key person is)) (short key refl)

header_short : (header : Option (List ℕ)) (key : List ℕ) → option_and_then key_in header ≡ Some key
    → length key ≤ KEY_LIMIT
header_short None key is = absurd (cc)
header_short (Some text) key is = key_short key (key_is_key text key (sym is))

pub caller_short : (people : People) (header : Option (List ℕ)) (person : Person) → caller_of people header ≡ Ok person
    → HasShortKey person
caller_short Everybody header person is = rooted (Ok root) refl is
  where
    rooted : (found : Result Person Nobody) → found ≡ Ok root → found ≡ Ok person → HasShortKey person
    rooted found one is =
        let same : root ≡ person = cc in
        let short : 0 ≤ KEY_LIMIT = omega arith in subst HasShortKey same short
caller_short (Listed known) header person is =
    named_short known (option_and_then key_in header) person (header_short header) is
