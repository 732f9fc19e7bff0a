use Rattle.sm_json.specs.Kinds.{text, region, tag, filter}
use Rattle.sm_json.proofs.KindLemmas.{texts, truths, integers, only_numbers, encoded, lists}
use Rattle.sm_json.proofs.KindLawLemmas.{tags, filters, regions, rules_are}
use Rattle.sm_json.proofs.LeftLemmas.{rules_left}
use Rattle.sm_json.proofs.laws.kinds_are_json.Goals as goal

pub returns-clause-texts : goal.returns-clause-texts
returns-clause-texts c = texts

pub returns-clause-truths : goal.returns-clause-truths
returns-clause-truths c = truths

pub returns-clause-integers : goal.returns-clause-integers
returns-clause-integers c = integers

pub returns-clause-only_numbers : goal.returns-clause-only_numbers
returns-clause-only_numbers c = only_numbers

pub returns-clause-bytes : goal.returns-clause-bytes
returns-clause-bytes c = encoded

pub returns-clause-text_lists : goal.returns-clause-text_lists
returns-clause-text_lists c = lists text

pub returns-clause-tag_lists : goal.returns-clause-tag_lists
returns-clause-tag_lists c = lists tag

pub returns-clause-region_lists : goal.returns-clause-region_lists
returns-clause-region_lists c = lists region

pub returns-clause-filter_lists : goal.returns-clause-filter_lists
returns-clause-filter_lists c = lists filter

pub returns-clause-tags : goal.returns-clause-tags
returns-clause-tags c = tags

pub returns-clause-filters : goal.returns-clause-filters
returns-clause-filters c = filters

pub returns-clause-regions : goal.returns-clause-regions
returns-clause-regions c = regions

pub returns-clause-rules : goal.returns-clause-rules
returns-clause-rules c = rules_are

pub returns-clause-rules_left : goal.returns-clause-rules_left
returns-clause-rules_left c = rules_left
