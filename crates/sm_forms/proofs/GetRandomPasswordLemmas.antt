-- What the forms of a GetRandomPassword say of it.
use Rattle.std.proofs.Common.{◌≡◌, ℕ, ℤ, pos, negsuc, ◌*◌, true, false, not, ◌==◌, length, Option, Some, None, codes, refl, sym, ap, ◌∙◌}
use Rattle.std.specs.Prelude.{IsTrue}
use Rattle.sm_base.specs.declared.limits.TheConstants.{PASSWORD_LIMIT}
use Rattle.sm_model.specs.declared.request.GetRandomPassword.{GetRandomPassword}
use Rattle.sm_model.specs.declared.why.Why.{Why}
use Rattle.sm_model.specs.Bounds.{fits}
use Rattle.sm_model.specs.Needed.{password_bytes}
use Rattle.sm_password.specs.declared.ask.PasswordAsk.{PasswordAsk}
use Rattle.sm_password.specs.Classes.{classes}
use Rattle.sm_password.specs.Passwords.{is_length}
use Rattle.sm_password.proofs.PasswordLemmas.{none_left}
use Rattle.sm_forms.specs.Paging.{is_count}
use Rattle.sm_forms.specs.GetRandomPassword.{length_asked, password_ask, some_left, is_long_enough, IsPasswordAsk, password_forms, password_joint}
use Rattle.sm_forms.specs.Members.{first_why, form_unless}
use Rattle.sm_forms.proofs.MemberLemmas.{none_first, passes}

-- a character is left where a class is
pub left_counts : (ask : PasswordAsk) → some_left ask ≡ not (length (classes ask) == 0)
left_counts ask = ap not (none_left ask)

-- where a character is left, the second joint test decides
pub joint_behind : (ask : PasswordAsk) (count : ℕ) (one next : Option Why) → count ≡ length (classes ask)
    → one ≡ form_unless (not (count == 0)) (codes "ExcludeCharacters") → one ≡ None
    → next ≡ form_unless (is_long_enough ask) (codes "PasswordLength") → next ≡ password_joint ask
joint_behind ask count one next count_is one_is none next_is =
    let left : form_unless (some_left ask) (codes "ExcludeCharacters") ≡ None =
    ap (λ b. form_unless b (codes "ExcludeCharacters"))
    (left_counts ask ∙ ap (λ n. not (n == 0)) (sym count_is)) ∙ sym one_is ∙ none in
    next_is
    ∙ ap (λ (o : Option Why). first_why o (form_unless (is_long_enough ask) (codes "PasswordLength"))) (sym left)

-- ---- what they say of one that they pass

length_within : (length : Option ℤ) → fits (is_count PASSWORD_LIMIT) length ≡ true
    → is_length (length_asked length) ≡ true
length_within None h = refl
length_within (Some (pos n)) h = h
length_within (Some (negsuc n)) h = let f : false ≡ true = h in cc

bytes_drawn : (length : Option ℤ) → fits (is_count PASSWORD_LIMIT) length ≡ true
    → password_bytes length ≡ 4 * length_asked length
bytes_drawn None h = refl
bytes_drawn (Some (pos n)) h = let h' : is_length n ≡ true = h in rw h'
bytes_drawn (Some (negsuc n)) h = let f : false ≡ true = h in cc

pub password_asked : (get : GetRandomPassword) → password_forms get ≡ None → IsPasswordAsk (password_ask get)
password_asked get h =
    let later = none_first _ _ h in
    let joint = none_first _ _ later.1 in
    let tests = none_first _ _ joint.1 in
    record {
      length = length_within get.password_length
          (passes (fits (is_count PASSWORD_LIMIT) get.password_length) _ joint.0);
      left = passes (some_left (password_ask get)) _ tests.0;
      long = passes (is_long_enough (password_ask get)) _ tests.1;
    }

-- as many bytes are drawn for it as its length needs
pub password_needs : (get : GetRandomPassword) → password_forms get ≡ None
    → password_bytes get.password_length ≡ 4 * length_asked get.password_length
password_needs get h =
    let later = none_first _ _ h in
    let joint = none_first _ _ later.1 in
    bytes_drawn get.password_length (passes (fits (is_count PASSWORD_LIMIT) get.password_length) _ joint.0)

-- its length is one that may be asked for
pub password_length : (get : GetRandomPassword) → password_forms get ≡ None
    → IsTrue (fits (is_count PASSWORD_LIMIT) get.password_length)
password_length get h =
    let later = none_first _ _ h in
    let joint = none_first _ _ later.1 in
    passes (fits (is_count PASSWORD_LIMIT) get.password_length) _ joint.0
