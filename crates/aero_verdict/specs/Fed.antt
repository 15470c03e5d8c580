-- What a caller sees of a trace that is fed part by part.
use Rattle.std.specs.Prelude.{◌≡◌, ◌↔◌, ◌⊎◌, ◌+◌, ℕ, suc, Bool, true, false, List, ◌++◌, [], Option, Some, None}
use Rattle.aero_model.specs.declared.verdict.Cycle.{Cycle}
use Rattle.aero_model.specs.declared.verdict.LineFault.TheVariants.{TooManyLines}
use Rattle.aero_model.specs.declared.verdict.Verdict.{Verdict}
use Rattle.aero_model.specs.declared.verdict.Verdict.TheVariants.{Violation, Malformed, IllFormed}
use Rattle.aero_model.specs.Verdicts.{HasOwnFault}
use Rattle.aero_grammar.specs.Reading.{Reading, whole_reading}
use Rattle.aero_verdict.specs.Explained.{IsCycleOf}
use Rattle.aero_verdict.specs.Ordered.{is_faultless}
use Rattle.aero_verdict.specs.Verdict.{IsVerdict}
use Rattle.aero_model.specs.Terms.{Rules}

-- The rules, the parts that were fed, one after the other, the verdict that is certain, if one is, and whether memory was refused
pub record Fed : Type 0 where
  pub rules : Rules
  pub parts : List Reading
  pub certain : Option Verdict
  pub is_spent : Bool

-- nothing was fed
abbrev pub fed_nothing : Rules → Fed
fed_nothing rules = record { rules = rules; parts = []; certain = None; is_spent = false }

-- something is wrong with these parts, and this is the verdict, whatever parts come after them; and what shows it then shows it now, and the other
-- way round
pub record IsCertain (parts : List Reading) (rules : Rules) (verdict : Verdict) : Type 0 where
  pub is_verdict : (rest : List Reading) → IsVerdict (parts ++ rest) rules verdict
  pub own_fault : HasOwnFault verdict
  pub wrong : is_faultless verdict ≡ false
  pub explained : (rest : List Reading) (cycle : Cycle) → IsCycleOf (parts ++ rest) rules verdict cycle ↔ IsCycleOf parts rules verdict cycle

-- the line on which the verdict tells that something is wrong
abbrev pub told_line : Verdict → Option ℕ
told_line (Violation line thread begun) = Some line
told_line (Malformed line fault) = Some line
told_line (IllFormed line fault) = Some line
told_line _ = None

-- Nothing is wrong with these parts, but maybe that there is one line too many, or, if blocks end at the end, that something is wrong with the ends there,
-- which stand on the line after the last.
abbrev pub IsOpen : List Reading → Rules → Type 0
IsOpen parts rules =
    (verdict : Verdict) → IsVerdict parts rules verdict →
    (is_faultless verdict ≡ true) ⊎ ((verdict ≡ Malformed (rules.limits.lines + 1) TooManyLines) ⊎ ((rules.end ≡ true) × (told_line verdict ≡ Some (suc (whole_reading parts).lines))))

-- the verdict on exactly these parts
pub record IsVerdictOn (parts : List Reading) (rules : Rules) (verdict : Verdict) : Type 0 where
  pub is_verdict : IsVerdict parts rules verdict
  pub own_fault : HasOwnFault verdict
