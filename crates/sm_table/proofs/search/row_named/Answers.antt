use Rattle.std.proofs.Common.{◌≡◌, ◌∙◌, cond, None, Some, sym, ap}
use Rattle.sm_table.specs.Found.{row_named}
use Rattle.sm_table.proofs.LookUpLaws.{named_there, named_absent}
use Rattle.sm_table.proofs.search.row_named.Goals as goal

pub returns-then-is_gone : goal.returns-then-is_gone
returns-then-is_gone c =
    let text : c.as_bytes.result.now ≡ c.args.name.now = cc in
    ap (λ b. cond b None (Some c.in-Some.row.now)) (sym c.if-is_gone.true ∙ c.is_gone.ensures)
    ∙ named_there c.args.secrets.now.rows.list c.args.moment c.args.name.now c.in-Some.row.now c.requires.names
    (c.in-Some.ensures ∙ ap (row_named c.args.secrets.now.rows.list) text)

pub returns-else-is_gone : goal.returns-else-is_gone
returns-else-is_gone c =
    let text : c.as_bytes.result.now ≡ c.args.name.now = cc in
    ap (λ b. cond b None (Some c.in-Some.row.now)) (sym c.if-is_gone.false ∙ c.is_gone.ensures)
    ∙ named_there c.args.secrets.now.rows.list c.args.moment c.args.name.now c.in-Some.row.now c.requires.names
    (c.in-Some.ensures ∙ ap (row_named c.args.secrets.now.rows.list) text)

pub returns-in-None : goal.returns-in-None
returns-in-None c =
    let text : c.as_bytes.result.now ≡ c.args.name.now = cc in
    named_absent c.args.secrets.now.rows.list c.args.moment c.args.name.now c.requires.names
    (c.in-None.ensures ∙ ap (row_named c.args.secrets.now.rows.list) text)
