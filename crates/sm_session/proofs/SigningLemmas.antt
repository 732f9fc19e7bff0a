-- Who must sign.
use Rattle.std.proofs.Common.{◌≡◌, ℕ, cond, Bool, true, false, List, [], ◌∷◌, ◌++◌, codes, replicate, Option, Some, None, option_and_then, Result, Ok, Err, refl, ap, sym, subst, ◌∙◌, append_assoc}
use Rattle.sm_model.specs.declared.person.Person.{Person}
use Rattle.sm_model.specs.declared.why.Part.{Part}
use Rattle.sm_model.specs.declared.why.Why.{Why}
use Rattle.sm_model.specs.declared.why.Why.TheVariants as whys
use Rattle.sm_http.specs.Messages.{Message}
use Rattle.sm_json.specs.declared.operation.Operation.{Operation}
use Rattle.sm_json.specs.declared.requests.ReadRequest.{ReadRequest}
use Rattle.sm_json.specs.declared.requests.ReadRequest.TheVariants as answers
use Rattle.sm_json.specs.Asks.{asks_of}
use Rattle.sm_principal.specs.declared.people.People.{People}
use Rattle.sm_principal.specs.declared.people.People.TheVariants.{Everybody, Listed}
use Rattle.sm_principal.specs.Callers.{Nobody, no_credential, unknown, begins, after_credential, key_if, key_of, key_in, caller_named, caller_of, secret_of}
use Rattle.sm_principal.specs.Lines.{is_key_byte, is_key}
use Rattle.sm_principal.proofs.BoundLemmas.{caller_key}
use Rattle.sm_principal.proofs.LineLemmas.{key_bytes_all}
use Rattle.sm_principal.proofs.SpellingLemmas.{parted_front}
use Rattle.sm_sigv4.specs.declared.part.Part.{Part as Signed}
use Rattle.sm_sigv4.specs.declared.part.Part.TheVariants as parts
use Rattle.sm_sigv4.specs.Authorizations.{Authorization, authorization_in, scope_text, is_key as is_scope_key, is_key_byte as is_scope_byte}
use Rattle.sm_sigv4.specs.Laws.{spelled_with, IsSpelled}
use Rattle.sm_sigv4.specs.Signatures.{signed}
use Rattle.sm_sigv4.proofs.ReadLemmas.{reads_no_other}
use Rattle.sm_sigv4.proofs.SentenceLemmas.{forms_of}
use Rattle.sm_session.specs.Answer.{Asked, asked_by, asked_of, heard_if, heard, operation_in}
use Rattle.sm_session.specs.Askers.{part_of, why_nobody, unless_bad, signed_by, asker_named, authorization_of, asker_of}
use Rattle.sm_session.specs.Signing.{FailsBy, RefusesUnsigned, HearsSigned, HearsOneKey}

-- a cause names one part
part_is : (one other : Signed) → part_of one ≡ part_of other → one ≡ other
part_is parts.Authorization parts.Authorization e = refl
part_is parts.Authorization parts.SignedHeaders e = absurd (cc)
part_is parts.Authorization parts.Date e = absurd (cc)
part_is parts.Authorization parts.Signature e = absurd (cc)
part_is parts.SignedHeaders parts.Authorization e = absurd (cc)
part_is parts.SignedHeaders parts.SignedHeaders e = refl
part_is parts.SignedHeaders parts.Date e = absurd (cc)
part_is parts.SignedHeaders parts.Signature e = absurd (cc)
part_is parts.Date parts.Authorization e = absurd (cc)
part_is parts.Date parts.SignedHeaders e = absurd (cc)
part_is parts.Date parts.Date e = refl
part_is parts.Date parts.Signature e = absurd (cc)
part_is parts.Signature parts.Authorization e = absurd (cc)
part_is parts.Signature parts.SignedHeaders e = absurd (cc)
part_is parts.Signature parts.Date e = absurd (cc)
part_is parts.Signature parts.Signature e = refl

-- what a body asks for is refused for no part
body_is_other : (person : Person) (read : ReadRequest) (part : Part)
    → asked_by person read ≡ Err (whys.BadSignature part) → ⊥
body_is_other person (answers.Ok request) part e = absurd (cc)
body_is_other person answers.Unknown part e = absurd (cc)
body_is_other person answers.NotJson part e = absurd (cc)
body_is_other person (answers.BadMember name) part e = absurd (cc)
body_is_other person (answers.Left name) part e = absurd (cc)
body_is_other person answers.Memory part e = absurd (cc)

-- a body is asked for by the person
body_asks : (person : Person) (read : ReadRequest) (asked : Asked) → asked_by person read ≡ Ok asked
    → asked.person ≡ person
body_asks person (answers.Ok request) asked e =
    let same : record { person = person; request = request } ≡ asked = cc in sym (ap (λ (a : Asked). a.person) same)
body_asks person answers.Unknown asked e = absurd (cc)
body_asks person answers.NotJson asked e = absurd (cc)
body_asks person (answers.BadMember name) asked e = absurd (cc)
body_asks person (answers.Left name) asked e = absurd (cc)
body_asks person answers.Memory asked e = absurd (cc)

-- who asks, and why nobody does
record FailsAs (people : People) (message : Message) (part : Signed) : Type 0 where
  pub person : Person
  pub known : caller_of people (authorization_of message) ≡ Ok person
  pub secret : List ℕ
  pub has : secret_of people person.key ≡ Some secret
  pub fails : signed secret message ≡ Some part

module _ (people : People) (message : Message) (part : Signed) where
  by_part : (person : Person) (found : Option Signed)
      → unless_bad person found ≡ Err (whys.BadSignature (part_of part)) → found ≡ Some part
  by_part person None e = absurd (cc)
  by_part person (Some other) e =
      let same : part_of other ≡ part_of part = cc in ap (λ p. Some p) (part_is other part same)

  by_secret : (person : Person) → caller_of people (authorization_of message) ≡ Ok person → (secret : Option (List ℕ))
      → secret_of people person.key ≡ secret
      → signed_by person secret message ≡ Err (whys.BadSignature (part_of part)) → FailsAs people message part
  by_secret person known None has e = absurd (cc)
  by_secret person known (Some secret) has e = record {
    person = person;
    known = known;
    secret = secret;
    has = has;
    fails = by_part person (signed secret message) e;
  }

  nobody_is_other : (nobody : Nobody) → why_nobody nobody ≡ whys.BadSignature (part_of part) → ⊥
  nobody_is_other no_credential e = absurd (cc)
  nobody_is_other (unknown key) e = absurd (cc)

  by_caller : (found : Result Person Nobody) → caller_of people (authorization_of message) ≡ found
      → asker_named people found message ≡ Err (whys.BadSignature (part_of part)) → FailsAs people message part
  by_caller (Ok person) known e = by_secret person known (secret_of people person.key) refl e
  by_caller (Err nobody) known e =
      let same : why_nobody nobody ≡ whys.BadSignature (part_of part) = cc in absurd (nobody_is_other nobody same)

  asker_fails : asker_of people message ≡ Err (whys.BadSignature (part_of part)) → FailsAs people message part
  unfolding asker_of
  asker_fails e = by_caller (caller_of people (authorization_of message)) refl e

  by_asker : (operation : Operation) (found : Result Person Why) → asker_of people message ≡ found
      → asked_of found operation message.body ≡ Err (whys.BadSignature (part_of part)) → FailsAs people message part
  by_asker operation (Ok person) is e =
      absurd (body_is_other person (asks_of operation message.body) (part_of part) e)
  by_asker operation (Err why) is e =
      let same : why ≡ whys.BadSignature (part_of part) = cc in
      asker_fails (is ∙ ap (λ w. Err w) same)

  by_operation : (named : Option Operation) → operation_in message ≡ named
      → heard_if people named message ≡ Err (whys.BadSignature (part_of part)) → FailsBy people message part
  by_operation None is e = absurd (cc)
  by_operation (Some operation) is e =
      let f = by_asker operation (asker_of people message) refl e in
      record {
        operation = operation;
        named = is;
        person = f.person;
        known = f.known;
        secret = f.secret;
        has = f.has;
        fails = f.fails;
      }

  fails_asker : FailsBy people message part → asker_of people message ≡ Err (whys.BadSignature (part_of part))
  unfolding asker_of
  fails_asker f =
      ap (λ found. asker_named people found message) f.known
      ∙ ap (λ secret. signed_by f.person secret message) f.has
      ∙ ap (unless_bad f.person) f.fails

  fails_heard : FailsBy people message part → heard people message ≡ Err (whys.BadSignature (part_of part))
  fails_heard f =
      ap (λ named. heard_if people named message) f.named
      ∙ ap (λ found. asked_of found f.operation message.body) (fails_asker f)

pub refuses_unsigned : RefusesUnsigned
refuses_unsigned people message part =
    (by_operation people message part (operation_in message) refl, fails_heard people message part)

-- whoever asks is known, and has signed
record Asks (people : People) (message : Message) (person : Person) : Type 0 where
  pub known : caller_of people (authorization_of message) ≡ Ok person
  pub signs : (secret : List ℕ) → secret_of people person.key ≡ Some secret → signed secret message ≡ None

module _ (people : People) (message : Message) where
  none_bad : (person other : Person) (found : Option Signed) → unless_bad person found ≡ Ok other → found ≡ None
  none_bad person other None e = refl
  none_bad person other (Some part) e = absurd (cc)

  same_person : (person other : Person) (found : Option Signed) → unless_bad person found ≡ Ok other → person ≡ other
  same_person person other None e = cc
  same_person person other (Some part) e = absurd (cc)

  asks_by_secret : (person other : Person) → caller_of people (authorization_of message) ≡ Ok person
      → (found : Option (List ℕ)) → secret_of people person.key ≡ found → signed_by person found message ≡ Ok other
      → Asks people message other
  asks_by_secret person other known None has e =
      let same : person ≡ other = cc in
      subst (Asks people message) same (record {
        known = known;
        signs = λ secret is. absurd (none_is_some secret (sym has ∙ is));
      })
    where
      none_is_some : (secret : List ℕ) → None ≡ Some secret → ⊥
      none_is_some secret f = absurd (cc)
  asks_by_secret person other known (Some own) has e =
      subst (Asks people message) (same_person person other (signed own message) e) (record {
        known = known;
        signs = λ secret is. ap (λ s. signed s message) (one_secret secret own (sym is ∙ has))
            ∙ none_bad person other (signed own message) e;
      })
    where
      one_secret : (one other : List ℕ) → Some one ≡ Some other → one ≡ other
      one_secret one other f = cc

  asks_by_caller : (other : Person) (found : Result Person Nobody) → caller_of people (authorization_of message) ≡ found
      → asker_named people found message ≡ Ok other → Asks people message other
  asks_by_caller other (Ok person) known e =
      asks_by_secret person other known (secret_of people person.key) refl e
  asks_by_caller other (Err nobody) known e = absurd (cc)

  asks : (person : Person) → asker_of people message ≡ Ok person → Asks people message person
  unfolding asker_of
  asks person e = asks_by_caller person (caller_of people (authorization_of message)) refl e

  heard_by_asker : (operation : Operation) (asked : Asked) (found : Result Person Why)
      → asker_of people message ≡ found → asked_of found operation message.body ≡ Ok asked
      → Asks people message asked.person
  heard_by_asker operation asked (Ok person) is e =
      subst (Asks people message) (sym (body_asks person (asks_of operation message.body) asked e)) (asks person is)
  heard_by_asker operation asked (Err why) is e = absurd (cc)

  heard_by_operation : (asked : Asked) (named : Option Operation) → heard_if people named message ≡ Ok asked
      → Asks people message asked.person
  heard_by_operation asked None e = absurd (cc)
  heard_by_operation asked (Some operation) e = heard_by_asker operation asked (asker_of people message) refl e

  heard_asks : (asked : Asked) → heard people message ≡ Ok asked → Asks people message asked.person
  heard_asks asked e = heard_by_operation asked (operation_in message) e

pub hears_signed : HearsSigned
hears_signed people message asked secret is has = (heard_asks people message asked is).signs secret has

-- the key of a signature's sentence is the one that is asked by
same_forms : (key : List ℕ) → is_key key ≡ is_scope_key key
unfolding is_key is_key_byte is_scope_byte
same_forms key = refl

slash_is_no_key : is_key_byte 47 ≡ false
unfolding is_key_byte
slash_is_no_key = refl

key_of_front : (key rest : List ℕ) → is_key key ≡ true → key_of (key ++ 47 ∷ rest) ≡ Some key
key_of_front key rest is =
    ap key_if (parted_front is_key_byte 47 slash_is_no_key key rest (key_bytes_all key is))
    ∙ ap (λ b. cond b (Some key) None) is

behind : (key text rest more : List ℕ) → text ≡ key ++ rest → text ++ more ≡ key ++ (rest ++ more)
behind key text rest more e = ap (λ (t : List ℕ). t ++ more) e ∙ append_assoc key rest more

-- what stands behind a text and a credential's front
abbrev sentence : List ℕ → ℕ → ℕ → Authorization → List ℕ
sentence front first second a =
    front ++ codes "/" ++ scope_text a.scope ++ codes "," ++ replicate first 32 ++ codes "SignedHeaders=" ++ a.names
    ++ codes "," ++ replicate second 32 ++ codes "Signature=" ++ a.digits

credential_found : (first second : ℕ) (a : Authorization)
    → after_credential (spelled_with first second a) ≡ Some (sentence a.scope.key first second a)
unfolding begins
credential_found first second a = refl

key_in_front : (first second : ℕ) (a : Authorization)
    → sentence a.scope.key first second a ≡ a.scope.key ++ sentence [] first second a
key_in_front first second a =
    let key = a.scope.key in
    behind key _ _ a.digits
    (behind key _ _ (codes "Signature=")
    (behind key _ _ (replicate second 32)
    (behind key _ _ (codes ",")
    (behind key _ _ a.names
    (behind key _ _ (codes "SignedHeaders=")
    (behind key _ _ (replicate first 32)
    (behind key _ _ (codes ",") (append_assoc key (codes "/") (scope_text a.scope)))))))))

-- what follows the slash
abbrev behind_slash : ℕ → ℕ → Authorization → List ℕ
behind_slash first second a =
    scope_text a.scope ++ codes "," ++ replicate first 32 ++ codes "SignedHeaders=" ++ a.names ++ codes ","
    ++ replicate second 32 ++ codes "Signature=" ++ a.digits

sentence_key : (text : List ℕ) (a : Authorization) → IsSpelled text a → key_in text ≡ Some a.scope.key
sentence_key text a is =
    let key = a.scope.key in
    let found : key_in text ≡ key_of (sentence key is.first is.second a) =
    ap key_in is.whole ∙ ap (option_and_then key_of) (credential_found is.first is.second a) in
    let front : key_of (sentence key is.first is.second a) ≡ key_of (key ++ 47 ∷ behind_slash is.first is.second a) =
    ap key_of (key_in_front is.first is.second a) in
    found ∙ front
    ∙ key_of_front key (behind_slash is.first is.second a)
    (same_forms key ∙ (forms_of a.scope is.formed.scope).key)

asked_key : (people : People) (text key secret : List ℕ) (person : Person) → key_in text ≡ Some key
    → caller_of people (Some text) ≡ Ok person → secret_of people person.key ≡ Some secret → person.key ≡ key
asked_key Everybody text key secret person is known has = absurd (cc)
asked_key (Listed all) text key secret person is known has =
    caller_key all key person (sym (ap (caller_named all) is) ∙ known)

by_field : (people : People) (field : Option (List ℕ)) (secret : List ℕ) (person : Person) (a : Authorization)
    → option_and_then authorization_in field ≡ Some a → caller_of people field ≡ Ok person
    → secret_of people person.key ≡ Some secret → a.scope.key ≡ person.key
by_field people None secret person a said known has = absurd (cc)
by_field people (Some text) secret person a said known has =
    sym (asked_key people text a.scope.key secret person (sentence_key text a (reads_no_other text a said)) known has)

pub hears_one_key : HearsOneKey
hears_one_key people message asked secret a is has said =
    by_field people (authorization_of message) secret asked.person a said (heard_asks people message asked is).known has
