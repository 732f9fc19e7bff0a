use Rattle.std.proofs.Common.{◌≡◌, drop}
use Rattle.serde_json.specs.View.{items_view}
use Rattle.sm_policy_text.specs.Documents.{statements_from}
use Rattle.sm_policy_text.proofs.StatementLemmas.{behind}
use Rattle.sm_policy_text.proofs.document.statements_in.Given as goal

-- the statements so far, and those to come
abbrev pub invariant-loop-place : goal.invariant-loop-place
invariant-loop-place l = statements_from 0 (items_view l.items)
    ≡ behind l.statements (statements_from l.place (items_view (drop l.place l.items)))
