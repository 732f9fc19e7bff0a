-- The forms of GetRandomPassword: AWS Secrets Manager API Reference, GetRandomPassword.
use Rattle.std.specs.Prelude.{ℕ, ℤ, pos, negsuc, Bool, not, ◌==◌, nat_le, List, [], length, Option, Some, None, IsTrue, codes}
use Rattle.std.specs.List.{concat}
use Rattle.sm_base.specs.declared.limits.TheConstants.{PASSWORD_LENGTH, PASSWORD_LIMIT, EXCLUDED_LIMIT}
use Rattle.sm_model.specs.declared.request.GetRandomPassword.{GetRandomPassword}
use Rattle.sm_model.specs.declared.why.Why.{Why}
use Rattle.sm_model.specs.Bounds.{fits}
use Rattle.sm_base.specs.Texts.{has_at_most}
use Rattle.sm_password.specs.declared.ask.PasswordAsk.{PasswordAsk}
use Rattle.sm_password.specs.Classes.{classes}
use Rattle.sm_password.specs.Passwords.{required, is_length}
use Rattle.sm_forms.specs.Members.{first_why, form_unless, form_of}
use Rattle.sm_forms.specs.Paging.{is_count}

-- 32 characters where no length is asked for
abbrev pub length_asked : Option ℤ → ℕ
length_asked None = PASSWORD_LENGTH
length_asked (Some (pos length)) = length
length_asked (Some (negsuc n)) = 0

abbrev pub excluded : Option (List ℕ) → List ℕ
excluded None = []
excluded (Some characters) = characters

-- what is asked of the password
abbrev pub password_ask : GetRandomPassword → PasswordAsk
password_ask get = record {
  length = length_asked get.password_length;
  exclude = excluded get.exclude_characters;
  lower = not get.exclude_lowercase;
  upper = not get.exclude_uppercase;
  digits = not get.exclude_numbers;
  punctuation = not get.exclude_punctuation;
  space = get.include_space;
  each = get.require_each_included_type;
}

-- a character is left
abbrev pub some_left : PasswordAsk → Bool
some_left ask = not (length (concat (classes ask)) == 0)

-- there is room for a character of each class that it has to have
abbrev pub is_long_enough : PasswordAsk → Bool
is_long_enough ask = nat_le (required ask) ask.length

-- a password can be made: its length is one that it may have, a character is left, and it is long enough
pub record IsPasswordAsk (ask : PasswordAsk) : Type 0 where
  pub length : IsTrue (is_length ask.length)
  pub left : IsTrue (some_left ask)
  pub long : IsTrue (is_long_enough ask)

-- the two joint tests
abbrev pub password_joint : PasswordAsk → Option Why
password_joint ask =
    first_why (form_unless (some_left ask) (codes "ExcludeCharacters"))
    (form_unless (is_long_enough ask) (codes "PasswordLength"))

-- the members, in ascending byte order of their names, and then the joint tests
abbrev pub password_forms : GetRandomPassword → Option Why
password_forms get =
    first_why (form_of (has_at_most EXCLUDED_LIMIT) (codes "ExcludeCharacters") get.exclude_characters)
    (first_why (form_unless (fits (is_count PASSWORD_LIMIT) get.password_length) (codes "PasswordLength"))
    (password_joint (password_ask get)))
