-- What a caller sees of a trace that is judged on terms.
use Rattle.std.specs.Prelude.{Bool, true, false, List, [], Option, None}
use Rattle.aero_model.specs.declared.verdict.Verdict.{Verdict}
use Rattle.aero_model.specs.Terms.{Terms, on}
use Rattle.aero_grammar.specs.Reading.{Reading}
use Rattle.aero_judge.specs.declared.judge.Judge.{Judge}
use Rattle.aero_judge.specs.declared.judge.Judge.TheVariants.{Plain, InOrder, Explaining, InFull}
use Rattle.aero_verdict.specs.Fed.{Fed}

-- The terms, the parts that were fed, one after the other, the verdict that is certain, if one is, and whether memory was refused
pub record Judging : Type 0 where
  pub terms : Terms
  pub parts : List Reading
  pub certain : Option Verdict
  pub is_spent : Bool

-- nothing was fed
abbrev pub nothing_judged : Terms → Judging
nothing_judged terms = record { terms = terms; parts = []; certain = None; is_spent = false }

-- the same of a monitor, where the order is asked for or not, and what is found is to be explained or not
abbrev pub judging : Fed → (order explain : Bool) → Judging
judging fed order explain = record { terms = on fed.rules order explain; parts = fed.parts; certain = fed.certain; is_spent = fed.is_spent }

abbrev pub judging_of : Judge → Judging
judging_of (Plain monitor) = judging monitor.value false false
judging_of (InOrder monitor) = judging monitor.value true false
judging_of (Explaining monitor) = judging monitor.value false true
judging_of (InFull monitor) = judging monitor.value true true
