use Rattle.std.proofs.Common.{ap, codes, ◌∙◌}
use Rattle.sm_forms.specs.GetRandomPassword.{password_ask}
use Rattle.sm_forms.specs.Members.{form_unless}
use Rattle.sm_forms.proofs.GetRandomPasswordLemmas.{joint_behind}
use Rattle.sm_forms.proofs.get_random_password.joint_form.Goals as goal

pub returns-in-None : goal.returns-in-None
returns-in-None c =
    joint_behind (password_ask c.args.get.now) c.class_count_of-count.result c.form_unless.result
    c.form_unless-in-None.result c.class_count_of-count.ensures c.form_unless.ensures c.in-None.is
    (c.form_unless-in-None.ensures ∙ ap (λ b. form_unless b (codes "PasswordLength")) c.is_long_enough.ensures)
