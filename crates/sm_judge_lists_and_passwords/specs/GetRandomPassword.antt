-- GetRandomPassword: its reply. It refuses nothing that its forms pass, asks no rows, and changes nothing.
-- AWS Secrets Manager API Reference, GetRandomPassword.
use Rattle.std.specs.Prelude.{ℕ, List, Option, None}
use Rattle.sm_model.specs.declared.reply.RandomPassword.{RandomPassword}
use Rattle.sm_model.specs.declared.reply.Reply.TheVariants as replies
use Rattle.sm_model.specs.declared.request.GetRandomPassword.{GetRandomPassword}
use Rattle.sm_model.specs.declared.why.Why.{Why}
use Rattle.sm_password.specs.Passwords.{password_text}
use Rattle.sm_forms.specs.GetRandomPassword.{password_ask}
use Rattle.sm_judge_common.specs.declared.judged.Judged.{Judged}
use Rattle.sm_judge_common.specs.declared.judged.Judged.TheVariants.{Accept}

-- the password of the drawn bytes
abbrev pub password_reply : List ℕ → GetRandomPassword → RandomPassword
password_reply drawn get = record { random_password = password_text (password_ask get) drawn }

abbrev pub password_judgement : List ℕ → GetRandomPassword → Judged
password_judgement drawn get = Accept (replies.GetRandomPassword (password_reply drawn get)) None

-- no test comes behind the forms
abbrev pub password_refusal : GetRandomPassword → Option Why
password_refusal get = None
