use Rattle.std.proofs.Common.{◌≡◌, ◌∙◌, sym}
use Rattle.std.proofs.lemmas.Bool.{false≢true}
use Rattle.std.proofs.lemmas.Fmt.{parse-decimal}
use Rattle.std.proofs.lemmas.Slice.Eq.{bytes_eq-Decides}
use Rattle.sm_listing.proofs.tokens.number_of.Goals as goal

pub returns-in-Err : goal.returns-in-Err
returns-in-Err c n below same =
    let ok = parse-decimal 64 n c.args.digits.now c.parse.result below below same c.parse.ensures.value.0 in
    cc

pub returns-else-eq : goal.returns-else-eq
returns-else-eq c n below same =
    let ok = parse-decimal 64 n c.args.digits.now c.parse.result below below same c.parse.ensures.value.0 in
    let number : c.in-Ok.number ≡ n = cc in
    let written : c.format.result.now ≡ c.args.digits.now = c.format.ensures.text ∙ rw number (sym same) in
    false≢true (c.if-eq.ensures ∙ (bytes_eq-Decides c.format.result.now c.args.digits.now).1 written)
