use Rattle.std.proofs.Common.{◌≡◌, ◌∙◌, cond, None, Some, sym, ap}
use Rattle.sm_table.specs.Found.{row_named}
use Rattle.sm_table.specs.Index.{name_in}
use Rattle.sm_table.proofs.LookUpLaws.{with_short_arn_some, with_short_arn_none}
use Rattle.sm_table.proofs.search.row_with_short_arn.Goals as goal

pub returns-then-is_with_short_arn : goal.returns-then-is_with_short_arn
returns-then-is_with_short_arn c =
    let name : c.name_in.result.now ≡ name_in c.args.arn.now = cc in
    let found = c.in-Some.ensures ∙ ap (row_named c.args.secrets.now.rows.list) name in
    ap (λ b. cond b (Some c.in-Some.row.now) None) (sym c.if-is_with_short_arn.true)
    ∙ with_short_arn_some c.args.secrets.now.rows.list c.args.moment c.args.arn.now c.in-Some.row.now
    c.is_with_short_arn.result
    c.requires.names c.requires.arns found c.is_with_short_arn.ensures

pub returns-else-is_with_short_arn : goal.returns-else-is_with_short_arn
returns-else-is_with_short_arn c =
    let name : c.name_in.result.now ≡ name_in c.args.arn.now = cc in
    let found = c.in-Some.ensures ∙ ap (row_named c.args.secrets.now.rows.list) name in
    ap (λ b. cond b (Some c.in-Some.row.now) None) (sym c.if-is_with_short_arn.false)
    ∙ with_short_arn_some c.args.secrets.now.rows.list c.args.moment c.args.arn.now c.in-Some.row.now
    c.is_with_short_arn.result
    c.requires.names c.requires.arns found c.is_with_short_arn.ensures

pub returns-in-None : goal.returns-in-None
returns-in-None c =
    let name : c.name_in.result.now ≡ name_in c.args.arn.now = cc in
    with_short_arn_none c.args.secrets.now.rows.list c.args.moment c.args.arn.now c.requires.names c.requires.arns
    (c.in-None.ensures ∙ ap (row_named c.args.secrets.now.rows.list) name)
