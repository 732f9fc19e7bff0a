-- A person whom a people text names.
use Rattle.std.specs.Prelude.{ℕ, List, Option}
use Rattle.sm_model.specs.declared.person.Person.{Person}

-- the person, and the secret by which that person signs, where there is one
pub record Known : Type 0 where
  pub person : Person
  pub secret : Option (List ℕ)
