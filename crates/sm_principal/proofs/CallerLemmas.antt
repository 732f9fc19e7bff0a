-- Who asks.
use Rattle.std.proofs.Common.{◌≡◌, ℕ, ◌+◌, ◌<◌, ◌≤◌, cond, Bool, true, false, List, ◌∷◌, length, drop, get_or, Option, Some, None, option_and_then, refl, ap, sym, ◌∙◌}
use Rattle.std.proofs.lemmas.List.{at_drop_more, drop_more}
use Rattle.std.proofs.Math.ListN.{drop_of_length-le}
use Rattle.sm_base.specs.Texts.{same_text}
use Rattle.sm_principal.specs.Persons.{Known}
use Rattle.sm_principal.specs.Lines.{is_key, parted}
use Rattle.sm_principal.specs.Callers.{begins, after_credential, key_if, key_of, key_in, known_named}

module _ (text : List ℕ) (i : ℕ) (rest : List ℕ) (wanted : Option (List ℕ)) (h : i < length text)
    (is : rest ≡ drop i text) (was : wanted ≡ after_credential (drop i text)) where
  credential_from : wanted ≡ cond (begins rest) (Some (drop 11 rest)) (after_credential (drop (i + 1) text))
  credential_from =
      was ∙ ap after_credential (drop_more text i 0 h)
      ∙ ap (λ (t : List ℕ). cond (begins t) (Some (drop 11 t)) (after_credential (drop (i + 1) text)))
      (sym (drop_more text i 0 h) ∙ sym is)

  by_begin : (b : Bool) (found : List ℕ) (other : Option (List ℕ)) → Some found ≡ cond b (Some (drop 11 rest)) None
      → Some found ≡ cond b (Some (drop 11 rest)) other
  by_begin true found other e = e
  by_begin false found other e = absurd (cc)

  pub credential_here : (found : List ℕ) → Some found ≡ cond (begins rest) (Some (drop 11 rest)) None
      → Some found ≡ wanted
  credential_here found e =
      by_begin (begins rest) found (after_credential (drop (i + 1) text)) e ∙ sym credential_from

  without : (b : Bool) (other : Option (List ℕ)) → None ≡ cond b (Some (drop 11 rest)) None
      → cond b (Some (drop 11 rest)) other ≡ other
  without true other e = absurd (cc)
  without false other e = refl

  pub credential_later : None ≡ cond (begins rest) (Some (drop 11 rest)) None
      → wanted ≡ after_credential (drop (i + 1) text)
  credential_later e = credential_from ∙ without (begins rest) (after_credential (drop (i + 1) text)) e

pub credential_none : (text : List ℕ) (i : ℕ) (wanted : Option (List ℕ)) → length text ≤ i
    → wanted ≡ after_credential (drop i text) → None ≡ wanted
credential_none text i wanted h was = sym (was ∙ ap after_credential (drop_of_length-le text h))

pub key_found : (header rest : List ℕ) → Some rest ≡ after_credential header → key_in header ≡ key_of rest
key_found header rest e = ap (option_and_then key_of) (sym e)

pub no_key : (header : List ℕ) → None ≡ after_credential header → key_in header ≡ None
no_key header e = ap (option_and_then key_of) (sym e)

-- a key that was found is one
if_key : (b : Bool) (text key : List ℕ) → is_key text ≡ b → cond b (Some text) None ≡ Some key → is_key key ≡ true
if_key true text key is e = let f : text ≡ key = cc in ap is_key (sym f) ∙ is
if_key false text key is e = absurd (cc)

of_parts : (parts : Option (List ℕ × List ℕ)) (key : List ℕ) → key_if parts ≡ Some key → is_key key ≡ true
of_parts None key e = absurd (cc)
of_parts (Some parts) key e = if_key (is_key parts.0) parts.0 key refl e

of_rest : (found : Option (List ℕ)) (key : List ℕ) → option_and_then key_of found ≡ Some key → is_key key ≡ true
of_rest None key e = absurd (cc)
of_rest (Some rest) key e = of_parts (parted 47 rest) key e

pub key_is_key : (header key : List ℕ) → Some key ≡ key_in header → is_key key ≡ true
key_is_key header key e = of_rest (after_credential header) key (sym e)

-- persons, one after the other
module _ (known : List Known) (key : List ℕ) (i : ℕ) (p : Known) (h : i < length known)
    (at : p ≡ get_or known i p) where
  known_from : known_named key (drop i known)
      ≡ cond (same_text p.person.key key) (Some p) (known_named key (drop (i + 1) known))
  known_from =
      at_drop_more (known_named key) known i p h
      ∙ ap (λ (q : Known). known_named key (q ∷ drop (i + 1) known)) (sym at)

  pub known_here : (wanted : Option Known) → same_text p.person.key key ≡ true
      → wanted ≡ known_named key (drop i known) → Some p ≡ wanted
  known_here wanted is was =
      sym (was ∙ known_from ∙ ap (λ b. cond b (Some p) (known_named key (drop (i + 1) known))) is)

  pub known_later : (wanted : Option Known) → same_text p.person.key key ≡ false
      → wanted ≡ known_named key (drop i known) → wanted ≡ known_named key (drop (i + 1) known)
  known_later wanted is was =
      was ∙ known_from ∙ ap (λ b. cond b (Some p) (known_named key (drop (i + 1) known))) is

pub known_none : (known : List Known) (key : List ℕ) (i : ℕ) (wanted : Option Known) → length known ≤ i
    → wanted ≡ known_named key (drop i known) → None ≡ wanted
known_none known key i wanted h was = sym (was ∙ ap (known_named key) (drop_of_length-le known h))
