-- ListSecrets: its reply. It refuses nothing that its forms pass, and changes nothing.
-- AWS Secrets Manager API Reference, ListSecrets.
use Rattle.std.specs.Prelude.{ℕ, Bool, false, List, map, codes, Option, Some, None}
use Rattle.sm_base.specs.declared.moment.Moment.{Moment}
use Rattle.sm_model.specs.declared.reply.Reply.TheVariants as replies
use Rattle.sm_model.specs.declared.reply.SecretPage.{SecretPage}
use Rattle.sm_model.specs.declared.request.ListSecrets.{ListSecrets}
use Rattle.sm_model.specs.declared.rows.Rows.{Rows}
use Rattle.sm_model.specs.declared.why.Why.{Why}
use Rattle.sm_base.specs.Texts.{same_text}
use Rattle.sm_listing.specs.declared.asks.PageAsk.{PageAsk}
use Rattle.sm_base.specs.declared.limits.TheConstants.{PAGE_LIMIT}
use Rattle.sm_judge_common.specs.declared.judged.Judged.{Judged}
use Rattle.sm_judge_common.specs.declared.judged.Judged.TheVariants.{Accept}
use Rattle.sm_judge_reads.specs.DescribeSecret.{described}
use Rattle.sm_judge_lists_and_passwords.specs.Pages.{page_size, filters_given, listed, page_rows}

-- ---- the members

-- the reverse of the order of creation
abbrev pub is_descending : Option (List ℕ) → Bool
is_descending None = false
is_descending (Some order) = same_text order (codes "desc")

abbrev pub list_ask : ListSecrets → PageAsk
list_ask list = record {
  filters = filters_given list.filters;
  planned = list.include_planned_deletion;
  descending = is_descending list.sort_order;
  max = page_size PAGE_LIMIT list.max_results;
  token = list.next_token;
}

-- ---- the reply

-- the page's secrets as DescribeSecret shows them, and the token of the next page
abbrev pub secret_page : Rows → Moment → PageAsk → SecretPage
secret_page rows moment ask = record {
  next_token = (listed rows moment ask).next;
  secret_list = map described (page_rows rows moment ask);
}

-- ---- the judgement

abbrev pub list_judgement : Rows → Moment → ListSecrets → Judged
list_judgement rows moment list = Accept (replies.ListSecrets (secret_page rows moment (list_ask list))) None

-- no test comes behind the forms
abbrev pub list_refusal : Rows → Moment → ListSecrets → Option Why
list_refusal rows moment list = None
