-- What was returned, beside what is to be returned.
use Rattle.std.specs.Prelude.{ℕ, List, [], ◌∷◌, ◌++◌, codes, Option, Some, None, Result, Ok, Err}
use Rattle.sm_sigv4.specs.declared.part.Part.{Part}
use Rattle.sm_sigv4.specs.declared.part.Checked.{Checked}
use Rattle.sm_sigv4.specs.declared.part.Checked.TheVariants as answers
use Rattle.sm_sigv4.specs.declared.part.SignRefused.{SignRefused}
use Rattle.sm_sigv4.specs.declared.part.SignRefused.TheVariants as refused
use Rattle.sm_sigv4.specs.declared.scope.Scope.{Scope}
use Rattle.sm_sigv4.specs.declared.scope.ScopeView.{ScopeView}
use Rattle.sm_sigv4.specs.declared.authorization.AuthorizationView.{AuthorizationView}
use Rattle.sm_sigv4.specs.Authorizations.{Authorization}

-- the scope that is seen through a view
abbrev pub seen : ScopeView → Scope
seen view = record { key = view.key.now; date = view.date.now; region = view.region.now; service = view.service.now }

abbrev pub said : AuthorizationView → Authorization
said view = record { scope = seen view.scope; names = view.names.now; digits = view.digits.now }

-- what a check says of the first part that fails
abbrev pub checked : Option Part → Checked
checked None = answers.Ok
checked (Some part) = answers.Bad part

-- the answer, or none where memory is wanted
abbrev pub told : Result (List ℕ) SignRefused → Option (Result (List ℕ) Part)
told (Ok value) = Some (Ok value)
told (Err (refused.Part part)) = Some (Err part)
told (Err refused.Memory) = None

-- names, each behind a semicolon
abbrev pub more_names : List (List ℕ) → List ℕ
more_names [] = []
more_names (name ∷ names) = codes ";" ++ name ++ more_names names
