-- The parts that a `Monitor` was fed, and what is known of the trace that begins with them. `words` are those of its engine.
use Rattle.std.specs.Prelude.{◌≡◌, ℕ, Bool, true, false, List, ◌++◌, length, Option, Some, None}
use Rattle.aero_model.specs.declared.verdict.Verdict.{Verdict}
use Rattle.aero_grammar.specs.Reading.{Reading}
use Rattle.aero_engine.specs.Given.{Words}
use Rattle.aero_verdict.specs.declared.checker.Checker.{Checker}
use Rattle.aero_verdict.specs.declared.monitor.State.{State}
use Rattle.aero_verdict.specs.declared.monitor.State.TheVariants.{Undecided, Decided, Spent}
use Rattle.aero_verdict.specs.Fed.{IsCertain, IsVerdictOn}
use Rattle.aero_verdict.specs.Ordered.{is_faultless}
use Rattle.aero_verdict.specs.Parts.{Stands, KeepsAt, NamesAll}
use Rattle.aero_verdict.specs.Verdict.{checked_trace}
use Rattle.aero_model.specs.Terms.{Rules}

-- Nothing is wrong yet, but maybe one line too many, and the checker has admitted the parts, whatever parts follow; or the verdict is
-- certain, and the engine keeps the events up to one that closes a cycle; or memory was refused, and nothing is known any more.
abbrev pub FedSo : {E : Type 0} → Words E → Rules → List Reading → ℕ → Checker E → State → Type 0
FedSo words rules fed lines checker Undecided = (rest : List Reading) → Stands words rules (fed ++ rest) (length fed) lines checker
FedSo words rules fed lines checker (Decided verdict) = IsCertain fed rules verdict × ((rest : List Reading) → KeepsAt words.keeps rules (fed ++ rest) checker verdict)
FedSo words rules fed lines checker Spent = Unit {0}

-- whether memory was refused
abbrev pub is_spent : State → Bool
is_spent Spent = true
is_spent _ = false

-- the verdict that is certain, if one is
abbrev pub certain_of : State → Option Verdict
certain_of (Decided verdict) = Some verdict
certain_of _ = None

-- The verdict on exactly these parts. Where nothing is wrong the engine stands for them. It keeps all of their events, or those up to one that closes a cycle.
pub record TellsFed {E : Type 0} (words : Words E) (rules : Rules) (fed : List Reading) (checker : Checker E) (verdict : Verdict) : Type 0 where
  pub on : IsVerdictOn fed rules verdict
  pub stands_for : is_faultless verdict ≡ true → words.stands checker.engine (checked_trace fed rules)
  pub names : is_faultless verdict ≡ true → NamesAll rules fed checker.numbering
  pub keeps_at : KeepsAt words.keeps rules fed checker verdict
