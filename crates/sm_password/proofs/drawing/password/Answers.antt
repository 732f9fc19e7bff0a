use Rattle.std.proofs.Common.{◌≤◌, ◌∙◌, arith, subst, sym}
use Rattle.sm_password.specs.Passwords.{required, HasAskedAlone, HasEach}
use Rattle.sm_password.proofs.PasswordLemmas.{text_is_password, some_character, password_utf8, length_password, password_asked, password_each}
use Rattle.sm_password.proofs.drawing.password.Goals as goal

pub from_utf8-requires : goal.from_utf8-requires
from_utf8-requires c =
    let ask = c.args.ask.now in
    let some = some_character ask c.in_ok-alphabet.alphabet.classes.items (c.in_ok-alphabet.ensures.classes) cc in
    let text = text_is_password ask c.args.drawn.now c.in_ok-text.text.items c.in_ok-alphabet.alphabet.classes.items
    c.in_ok-alphabet.alphabet.required (c.in_ok-alphabet.ensures.classes) (c.in_ok-alphabet.ensures.required)
    c.in_ok-text.ensures in
    rw (c.as_slice.ensures.value, text) (password_utf8 ask c.args.drawn.now some)

pub returns-clause-long : goal.returns-clause-long
returns-clause-long c =
    let ask = c.args.ask.now in
    let text = text_is_password ask c.args.drawn.now c.in_ok-text.text.items c.in_ok-alphabet.alphabet.classes.items
    c.in_ok-alphabet.alphabet.required (c.in_ok-alphabet.ensures.classes) (c.in_ok-alphabet.ensures.required)
    c.in_ok-text.ensures in
    rw (c.in_ok-from_utf8.ensures, c.as_slice.ensures.value, text) (length_password ask c.args.drawn.now)

pub returns-clause-asked : goal.returns-clause-asked
returns-clause-asked c =
    let ask = c.args.ask.now in
    let some = some_character ask c.in_ok-alphabet.alphabet.classes.items (c.in_ok-alphabet.ensures.classes) cc in
    let text = text_is_password ask c.args.drawn.now c.in_ok-text.text.items c.in_ok-alphabet.alphabet.classes.items
    c.in_ok-alphabet.alphabet.required (c.in_ok-alphabet.ensures.classes) (c.in_ok-alphabet.ensures.required)
    c.in_ok-text.ensures in
    subst (λ t. HasAskedAlone ask t) (sym (c.in_ok-from_utf8.ensures ∙ c.as_slice.ensures.value ∙ text))
    (password_asked ask c.args.drawn.now some)

pub returns-clause-each : goal.returns-clause-each
returns-clause-each c =
    let ask = c.args.ask.now in
    let text = text_is_password ask c.args.drawn.now c.in_ok-text.text.items c.in_ok-alphabet.alphabet.classes.items
    c.in_ok-alphabet.alphabet.required (c.in_ok-alphabet.ensures.classes) (c.in_ok-alphabet.ensures.required)
    c.in_ok-text.ensures in
    let least = c.in_ok-alphabet.ensures.required in
    let enough : required ask ≤ ask.length = omega arith in
    λ each. subst (λ t. HasEach ask t) (sym (c.in_ok-from_utf8.ensures ∙ c.as_slice.ensures.value ∙ text))
    (password_each ask c.args.drawn.now enough each)
