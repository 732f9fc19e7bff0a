-- The forms of UntagResource: AWS Secrets Manager API Reference, UntagResource.
use Rattle.std.specs.Prelude.{ℕ, Bool, ◌&&◌, nat_le, List, length, Option, codes}
use Rattle.std.specs.List.{list_all}
use Rattle.std.specs.Str.{chars}
use Rattle.sm_base.specs.declared.limits.TheConstants.{TAG_KEY_LIMIT, TAGS_LIMIT}
use Rattle.sm_model.specs.declared.request.UntagResource.{UntagResource}
use Rattle.sm_model.specs.declared.why.Why.{Why}
use Rattle.sm_base.specs.Texts.{has_at_most}
use Rattle.sm_base.specs.Spelling.{is_secret_id}
use Rattle.sm_forms.specs.Members.{first_why, form_unless}

-- the key of a tag that is to be taken off has 1 to 128 characters, whatever it begins with
abbrev pub is_untag_key : List ℕ → Bool
is_untag_key key = nat_le 1 (length (chars key)) && has_at_most TAG_KEY_LIMIT key

-- at most 50 of them, which may stand more than once
abbrev pub are_untag_keys : List (List ℕ) → Bool
are_untag_keys keys = nat_le (length keys) TAGS_LIMIT && list_all is_untag_key keys

-- the members, in ascending byte order of their names
abbrev pub untag_forms : UntagResource → Option Why
untag_forms untag =
    first_why (form_unless (is_secret_id untag.secret_id) (codes "SecretId"))
    (form_unless (are_untag_keys untag.tag_keys) (codes "TagKeys"))
