-- A source that is judged as it comes.
use Rattle.std.specs.Prelude.{ℕ, List, Option}
use Rattle.aero_model.specs.declared.verdict.Verdict.{Verdict}
use Rattle.aero_grammar.specs.Reading.{Reading}
use Rattle.aero_model.specs.Terms.{Terms}

-- the parts that came, how many of them aren't judged yet, on what terms they are judged, and the verdict that is certain, if one is, whatever parts
-- come
pub record Watched : Type 0 where
  pub parts : List Reading
  pub waiting : ℕ
  pub terms : Terms
  pub certain : Option Verdict
