-- ListSecretVersionIds: its reply. It works on a secret that is scheduled for deletion too, and changes nothing.
-- AWS Secrets Manager API Reference, ListSecretVersionIds.
use Rattle.std.specs.Prelude.{ℕ, ◌≤◌, IsTrue, List, [], ◌∷◌, map, Option, Some, None}
use Rattle.sm_base.specs.declared.moment.Moment.{Moment}
use Rattle.sm_base.specs.SecretId.{secret_id}
use Rattle.sm_model.specs.declared.reply.Reply.TheVariants as replies
use Rattle.sm_model.specs.declared.reply.VersionItem.{VersionItem}
use Rattle.sm_model.specs.declared.reply.VersionPage.{VersionPage}
use Rattle.sm_model.specs.declared.request.ListSecretVersionIds.{ListSecretVersionIds}
use Rattle.sm_model.specs.declared.rows.Rows.{Rows}
use Rattle.sm_model.specs.declared.rows.SecretRow.{SecretRow}
use Rattle.sm_model.specs.declared.rows.VersionRow.{VersionRow}
use Rattle.sm_model.specs.declared.why.Why.{Why}
use Rattle.sm_model.specs.Bounds.{fits}
use Rattle.sm_listing.specs.declared.asks.Listed.{Listed}
use Rattle.sm_listing.specs.declared.tokens.TheConstants.{VERSIONS}
use Rattle.sm_listing.specs.Pages.{version_serials, page_of}
use Rattle.sm_base.specs.declared.limits.TheConstants.{PAGE_LIMIT}
use Rattle.sm_forms.specs.Paging.{is_page_token}
use Rattle.sm_table.specs.Found.{found}
use Rattle.sm_judge_common.specs.declared.judged.Judged.{Judged}
use Rattle.sm_judge_common.specs.declared.judged.Judged.TheVariants.{Accept}
use Rattle.sm_judge_common.specs.LabelsShown.{labels_shown}
use Rattle.sm_judge_common.specs.Refusals.{unless_there}
use Rattle.sm_judge_common.specs.Secrets.{if_there}
use Rattle.sm_judge_lists_and_passwords.specs.declared.list_secret_version_ids.VersionsCall.{VersionsCall}
use Rattle.sm_judge_lists_and_passwords.specs.Pages.{page_size, token_serial, picked}

-- ---- the members

abbrev pub versions_call : ListSecretVersionIds → VersionsCall
versions_call list = record {
  deprecated = list.include_deprecated;
  id = secret_id list.secret_id;
  max = page_size PAGE_LIMIT list.max_results;
  token = list.next_token;
}

-- a page of a size that may be asked for, with a token in its form
pub record IsVersionsCall (call : VersionsCall) : Type 0 where
  pub token : IsTrue (fits (is_page_token VERSIONS) call.token)
  pub least : 1 ≤ call.max
  pub most : call.max ≤ 100

-- ---- the reply

-- a version without a label shows none
abbrev pub stages_shown : List (List ℕ) → Option (List (List ℕ))
stages_shown [] = None
stages_shown (label ∷ labels) = Some (label ∷ labels)

abbrev pub version_item : SecretRow → VersionRow → VersionItem
version_item row version = record {
  created_date = version.made;
  version_id = version.id;
  version_stages = stages_shown (labels_shown row version.id);
}

abbrev pub version_serial : VersionRow → ℕ
version_serial version = version.serial

-- the serials of the page, and the token of the next
abbrev pub versions_listed : SecretRow → VersionsCall → Listed
versions_listed row call =
    page_of VERSIONS call.max (version_serials row call.deprecated (token_serial VERSIONS call.token))

-- the page's versions, and the token of the next page
abbrev pub version_page : SecretRow → VersionsCall → VersionPage
version_page row call = record {
  arn = row.arn;
  name = row.name;
  next_token = (versions_listed row call).next;
  versions = map (version_item row) (picked version_serial (versions_listed row call).serials row.versions);
}

-- ---- the judgement

abbrev pub versions_on : SecretRow → VersionsCall → Judged
versions_on row call = Accept (replies.ListSecretVersionIds (version_page row call)) None

abbrev pub versions_judgement : Rows → Moment → ListSecretVersionIds → Judged
versions_judgement rows moment list =
    if_there (found rows moment (secret_id list.secret_id)) (λ row. versions_on row (versions_call list))

-- ---- when it is refused

-- the secret has to be there
abbrev pub versions_refusal : Rows → Moment → ListSecretVersionIds → Option Why
versions_refusal rows moment list = unless_there (found rows moment (secret_id list.secret_id))
