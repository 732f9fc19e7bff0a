-- What a message names, and who asks by it.
use Rattle.std.proofs.Common.{◌≡◌, ℕ, ◌+◌, ◌<◌, ◌≤◌, List, ◌∷◌, drop, length, get_or, map, Option, Some, None, Err, sym, ap, ◌∙◌, cond, subst}
use Rattle.std.proofs.lemmas.List.{at_drop_more}
use Rattle.std.specs.Str.{str_eq_ignore_ascii_case}
use Rattle.sm_model.specs.declared.person.Person.{Person}
use Rattle.sm_model.specs.declared.why.Part.{Part}
use Rattle.sm_model.specs.declared.why.Why.TheVariants as whys
use Rattle.sm_account.specs.Handling.{HasShortTexts}
use Rattle.sm_http.specs.declared.answer.Field.{Field}
use Rattle.sm_http.specs.Heads.{values_of}
use Rattle.sm_http.specs.Reading.{pair_of}
use Rattle.sm_sigv4.specs.declared.part.Part.{Part as Signed}
use Rattle.sm_sigv4.specs.declared.part.Checked.TheVariants.{Bad}
use Rattle.sm_sigv4.specs.Outcomes.{checked}
use Rattle.sm_session.specs.declared.heard.Heard.{Heard}
use Rattle.sm_session.specs.declared.heard.Heard.TheVariants.{Ask, Refused, Memory}
use Rattle.sm_session.specs.declared.asking.Asker.{Asker}
use Rattle.sm_session.specs.declared.asking.Asker.TheVariants as askers
use Rattle.sm_session.specs.Askers.{part_of, unless_bad, IfAsker}
use Rattle.sm_session.specs.Hearing.{IfAsks}

-- the values from a place on: that of the field there, where it has the name, and those behind it
pub fields_at : (name : List ℕ) (fields : List Field) (i : ℕ) (x : Field) → i < length fields → x ≡ get_or fields i x
    → values_of name (map pair_of (drop i fields))
    ≡ cond (str_eq_ignore_ascii_case x.name name) (x.value ∷ values_of name (map pair_of (drop (i + 1) fields)))
    (values_of name (map pair_of (drop (i + 1) fields)))
fields_at name fields i x h e =
    at_drop_more (λ (xs : List Field). values_of name (map pair_of xs)) fields i x h
    ∙ ap (λ (y : Field). values_of name (map pair_of (y ∷ drop (i + 1) fields))) (sym e)

-- who asks has a short key and a short ARN
pub asks_short : (heard : Heard) (person : Person) → IfAsks heard (λ asker. asker ≡ person) → HasShortTexts person
    → IfAsks heard HasShortTexts
asks_short (Ask asker request) person same short = subst HasShortTexts (sym same) short
asks_short (Refused why) person same short = tt
asks_short Memory person same short = tt

pub asker_short : (asker : Asker) (person : Person) → IfAsker asker (λ one. one ≡ person) → HasShortTexts person
    → IfAsker asker HasShortTexts
asker_short (askers.Is one) person same short = subst HasShortTexts (sym same) short
asker_short (askers.Refused why) person same short = tt
asker_short askers.Memory person same short = tt

-- a check that fails refuses by its part
pub refused_by : (person : Person) (found : Option Signed) (part : Signed) (named : Part) → Bad part ≡ checked found
    → named ≡ part_of part → unless_bad person found ≡ Err (whys.BadSignature named)
refused_by person None part named e is = absurd (cc)
refused_by person (Some other) part named e is =
    let same : part ≡ other = cc in ap (λ p. Err (whys.BadSignature p)) (sym (is ∙ ap part_of same))
