-- Judging GetRandomPassword: its password, that it is not refused, and that it changes nothing.
use Rattle.std.proofs.Common.{◌≡◌, ℕ, Bool, true, false, not, ◌==◌, nat_le, nat_lt, List, length, Ok, Some, is_none, refl, arith}
use Rattle.std.specs.List.{concat}
use Rattle.std.proofs.lemmas.Bool.Decides.{nat_tests}
use Rattle.sm_model.specs.declared.entry.Change.{Change}
use Rattle.sm_model.specs.declared.request.GetRandomPassword.{GetRandomPassword}
use Rattle.sm_password.specs.declared.ask.PasswordAsk.{PasswordAsk}
use Rattle.sm_password.specs.Classes.{classes}
use Rattle.sm_password.specs.Passwords.{required, password_text, password_of}
use Rattle.sm_forms.specs.GetRandomPassword.{IsPasswordAsk}
use Rattle.sm_judge_common.specs.Judged.{refusal_told, IfAccepted, IfChange}
use Rattle.sm_judge_lists_and_passwords.specs.GetRandomPassword.{password_judgement, password_refusal}

negated : (b : Bool) → not b ≡ true → b ≡ false
negated false h = refl
negated true h = let f : false ≡ true = h in cc

not_shorter : (least length : ℕ) → nat_le least length ≡ true → nat_lt length least ≡ false
not_shorter least length h = grind (arith, nat_tests, h)

-- a password that can be made is made
pub asked_is_text : (ask : PasswordAsk) (drawn : List ℕ) → IsPasswordAsk ask
    → password_of ask drawn ≡ Ok (password_text ask drawn)
asked_is_text ask drawn asked =
    rw (asked.length)
    (rw (negated (length (concat (classes ask)) == 0) asked.left)
    (rw (not_shorter (required ask) ask.length asked.long) refl))

pub password_refuses : (drawn : List ℕ) (get : GetRandomPassword)
    → refusal_told (password_judgement drawn get) ≡ Some (password_refusal get)
password_refuses drawn get = refl

pub password_reads : (drawn : List ℕ) (get : GetRandomPassword)
    → IfAccepted (password_judgement drawn get) (λ change. is_none change ≡ true)
password_reads drawn get = refl

pub password_change : (drawn : List ℕ) (get : GetRandomPassword) (P : Change → Type 0)
    → IfChange (password_judgement drawn get) P
password_change drawn get P = tt
