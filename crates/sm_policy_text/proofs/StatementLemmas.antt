-- The statements of a document, read one after the other.
use Rattle.std.proofs.Common.{◌≡◌, ℕ, ◌+◌, ◌<◌, ◌≤◌, List, [], ◌∷◌, ◌++◌, length, drop, get_or, Some, None, Result, Ok, Err, refl, ap, sym, ◌∙◌, append_assoc, append-nil, arith}
use Rattle.std.proofs.lemmas.List.{at_drop_more}
use Rattle.std.proofs.Math.ListN.{drop_of_length-le}
use Rattle.serde_json.specs.declared.value.Value.{Value}
use Rattle.serde_json.specs.View.{view, items_view}
use Rattle.sm_policy_text.specs.declared.policy.Statement.{Statement}
use Rattle.sm_policy_text.specs.Documents.{counted, Flaw, statement_in, item_fault, statement_before, statements_from, listed, policy_with}

-- statements before others, if nothing is wrong with these
abbrev pub behind : List Statement → Result (List Statement) Flaw → Result (List Statement) Flaw
behind front (Err flaw) = Err flaw
behind front (Ok statements) = Ok (front ++ statements)

moved : (front : List Statement) (place : ℕ) (s : Statement) (more : Result (List Statement) Flaw)
    → behind front (statement_before place None s more) ≡ behind (front ++ s ∷ []) more
moved front place s (Err flaw) = refl
moved front place s (Ok statements) = ap Ok (sym (append_assoc front (s ∷ []) statements))

module _ (items : List Value) (i : ℕ) (v : Value) (h : i < length items) (at : v ≡ get_or items i v) where
  from : statements_from i (items_view (drop i items)) ≡ statement_before i (item_fault (view v))
      (statement_in (view v)) (statements_from (i + 1) (items_view (drop (i + 1) items)))
  from =
      at_drop_more (λ (vs : List Value). statements_from i (items_view vs)) items i v h
      ∙ ap (λ (w : Value). statements_from i (items_view (w ∷ drop (i + 1) items))) (sym at)

  -- one more statement was read
  pub statements_more : (all : Result (List Statement) Flaw) (front : List Statement) (s : Statement)
      → item_fault (view v) ≡ None → s ≡ statement_in (view v)
      → all ≡ behind front (statements_from i (items_view (drop i items)))
      → all ≡ behind (front ++ s ∷ []) (statements_from (i + 1) (items_view (drop (i + 1) items)))
  statements_more all front s fine is e =
      e ∙ ap (behind front) (from
      ∙ ap (λ o. statement_before i o (statement_in (view v))
      (statements_from (i + 1) (items_view (drop (i + 1) items)))) fine)
      ∙ moved front i (statement_in (view v)) (statements_from (i + 1) (items_view (drop (i + 1) items)))
      ∙ ap (λ (t : Statement). behind (front ++ t ∷ [])
      (statements_from (i + 1) (items_view (drop (i + 1) items)))) (sym is)

  -- a statement is at fault
  pub statements_bad : (all : Result (List Statement) Flaw) (front : List Statement) (name : List ℕ)
      → item_fault (view v) ≡ Some name → all ≡ behind front (statements_from i (items_view (drop i items)))
      → policy_with all ≡ Err (counted i, name)
  statements_bad all front name bad e =
      ap policy_with (e ∙ ap (behind front) (from
      ∙ ap (λ o. statement_before i o (statement_in (view v))
      (statements_from (i + 1) (items_view (drop (i + 1) items)))) bad))

-- all were read
pub statements_all : (items : List Value) (i : ℕ) (all : Result (List Statement) Flaw) (front : List Statement)
    → length items ≤ i → all ≡ behind front (statements_from i (items_view (drop i items)))
    → policy_with all ≡ Ok (record { statements = front })
statements_all items i all front h e =
    ap policy_with (e
    ∙ ap (λ (vs : List Value). behind front (statements_from i (items_view vs))) (drop_of_length-le items h)
    ∙ ap Ok (append-nil front))

pub no_statements : (items : List Value) → length items ≡ 0 → listed (Some (items_view items)) ≡ None
no_statements [] h = refl
no_statements (v ∷ items) h = absurd (omega arith)

pub some_statements : (items : List Value) → 0 < length items
    → listed (Some (items_view items)) ≡ Some (items_view items)
some_statements [] h = absurd (omega arith)
some_statements (v ∷ items) h = refl
