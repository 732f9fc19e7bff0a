-- Filters of secrets: when one is in its form, and when it holds of a row.
-- AWS Secrets Manager API Reference, Filter; ListSecrets (Filters); User Guide, "Find secrets".
use Rattle.std.specs.Prelude.{ℕ, ◌+◌, Bool, false, not, ◌&&◌, ◌==◌, nat_eq, nat_le, if◌then◌else◌, List, [], ◌∷◌, length, map, codes, Option, Some, None, is_some}
use Rattle.std.specs.List.{list_all, list_any, starts_with}
use Rattle.std.specs.Option.{option_to_list}
use Rattle.sm_model.specs.declared.request.Filter.{Filter}
use Rattle.sm_model.specs.declared.rows.SecretRow.{SecretRow}
use Rattle.sm_model.specs.declared.value.Tag.{Tag}
use Rattle.sm_base.specs.Texts.{same_text, has_at_most}
use Rattle.sm_base.specs.declared.limits.TheConstants.{FILTER_VALUES_LIMIT, FILTER_VALUE_LIMIT}
use Rattle.sm_listing.specs.declared.filters.FilterKey.{FilterKey}
use Rattle.sm_listing.specs.declared.filters.FilterKey.TheVariants.{Name, Description, TagKey, TagValue}

-- what a filter's key names
unfoldable pub key_of : List ℕ → Option FilterKey
key_of text =
    if same_text text (codes "name") then Some Name
    else if same_text text (codes "description") then Some Description
    else if same_text text (codes "tag-key") then Some TagKey
    else if same_text text (codes "tag-value") then Some TagValue
    else None

-- ---- forms

-- one of the four keys, and 1 to 10 values of at most 512 characters
abbrev pub is_filter : Filter → Bool
is_filter filter =
    is_some (key_of filter.key) && nat_le 1 (length filter.values) && nat_le (length filter.values) FILTER_VALUES_LIMIT
    && list_all (has_at_most FILTER_VALUE_LIMIT) filter.values

-- the number, counted on from a start, of the first filter that is not in its form
abbrev pub first_fault : ℕ → List Filter → Option ℕ
first_fault number [] = None
first_fault number (filter ∷ filters) =
    if is_filter filter then first_fault (number + 1) filters else Some number

-- ---- when a filter holds

-- the texts of a row that a key names: its name, its description if there is one, the keys or the values of its tags
abbrev pub texts_of : FilterKey → SecretRow → List (List ℕ)
texts_of Name row = row.name ∷ []
texts_of Description row = option_to_list row.description
texts_of TagKey row = map (λ (tag : Tag). tag.key) row.tags
texts_of TagValue row = map (λ (tag : Tag). tag.value) row.tags

-- some of the texts begins with these bytes
abbrev pub some_begins : List (List ℕ) → List ℕ → Bool
some_begins texts beginning = list_any (λ text. starts_with nat_eq text beginning) texts

-- a value holds where some of the texts begins with it, and one behind `!` where none does
abbrev pub value_holds : List (List ℕ) → List ℕ → Bool
value_holds texts [] = some_begins texts []
value_holds texts (first ∷ beginning) =
    if first == 33 then not (some_begins texts beginning) else some_begins texts (first ∷ beginning)

-- some of the values holds of the texts that the key names
abbrev pub values_hold : SecretRow → List (List ℕ) → Option FilterKey → Bool
values_hold row values None = false
values_hold row values (Some key) = list_any (value_holds (texts_of key row)) values

-- a filter holds where one of its values does
abbrev pub filter_holds : SecretRow → Filter → Bool
filter_holds row filter = values_hold row filter.values (key_of filter.key)
