-- How the sources of a report were judged, as far as its summary tells it.
use Rattle.std.specs.Prelude.{ℕ, List, Option}
use Rattle.aero_model.specs.Terms.{Terms}

-- what is told of the source of this name, or of a line of it
pub record Note : Type 0 where
  pub source : List ℕ
  pub line : Option ℕ
  pub text : List ℕ

-- on which terms they were judged, with which labels no block begins, and what is told of the sources beside their lines
pub record Options : Type 0 where
  pub terms : Terms
  pub unused : List (List ℕ)
  pub notes : List Note
