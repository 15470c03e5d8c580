-- What a caller sees of a text that is fed piece by piece.
use Rattle.std.specs.Prelude.{◌≡◌, ◌⊎◌, ◌+◌, ℕ, suc, Bool, true, false, List, [], ◌∷◌, ◌++◌, Option, None, Some, Result, IfSome, OnErr, OnOk}
use Rattle.aero_model.specs.declared.verdict.Cycle.{Cycle}
use Rattle.aero_model.specs.declared.verdict.LineFault.TheVariants.{TooManyLines}
use Rattle.aero_model.specs.declared.verdict.Verdict.{Verdict}
use Rattle.aero_model.specs.declared.verdict.Verdict.TheVariants.{Malformed}
use Rattle.aero_model.specs.Verdicts.{HasOwnFault}
use Rattle.aero_grammar.specs.Reading.{reading_of}
use Rattle.aero_verdict.specs.Explained.{ShowsVerdict}
use Rattle.aero_verdict.specs.Fed.{told_line}
use Rattle.aero_verdict.specs.Ordered.{is_faultless}
use Rattle.aero_verdict.specs.Verdict.{IsVerdict}
use Rattle.aero_model.specs.Terms.{Rules}

-- The rules, whether a violation is to be shown, the bytes that were fed, the verdict that is known to be certain, if one is, and whether memory was
-- refused
pub record Feeding : Type 0 where
  pub rules : Rules
  pub explains : Bool
  pub text : List ℕ
  pub certain : Option Verdict
  pub is_spent : Bool

-- nothing was fed
abbrev pub nothing_fed : Rules → (explains : Bool) → Feeding
nothing_fed rules explains = record { rules = rules; explains = explains; text = []; certain = None; is_spent = false }

-- A call goes on with a feed: its rules stay the same, and whether it shows violations, and a verdict that was certain. The call is refused
-- where memory is or was refused, and so is each later one.
pub record FeedsOn {A E : Type 0} (old new : Feeding) (result : Result A E) : Type 0 where
  pub rules : new.rules ≡ old.rules
  pub explains : new.explains ≡ old.explains
  pub stays : IfSome old.certain (λ verdict. new.certain ≡ old.certain)
  pub spent : OnErr result (new.is_spent ≡ true)
  pub was_unspent : OnOk result (old.is_spent ≡ false)
  pub stays_spent : old.is_spent ≡ true → new.is_spent ≡ true

-- the verdict on a text
abbrev pub IsTextVerdict : List ℕ → Rules → Verdict → Type 0
IsTextVerdict text rules = IsVerdict (reading_of text ∷ []) rules

-- something is wrong with this text, and this is the verdict, whatever comes behind it
pub record IsCertainOf (text : List ℕ) (rules : Rules) (verdict : Verdict) : Type 0 where
  pub is_verdict : (rest : List ℕ) → IsTextVerdict (text ++ rest) rules verdict
  pub own_fault : HasOwnFault verdict
  pub wrong : is_faultless verdict ≡ false

-- Nothing is wrong with this text, but maybe that there is one line too many, or, if blocks end at the end, that something is wrong with the ends there,
-- which stand on the line after the last.
abbrev pub IsOpenText : List ℕ → Rules → Type 0
IsOpenText text rules =
    (verdict : Verdict) → IsTextVerdict text rules verdict →
    (is_faultless verdict ≡ true) ⊎ ((verdict ≡ Malformed (rules.limits.lines + 1) TooManyLines) ⊎ ((rules.end ≡ true) × (told_line verdict ≡ Some (suc (reading_of text).lines))))

-- what shows the verdict that is certain, where it is a violation and that is to be shown, and else nothing
abbrev pub ShowsText : (explains : Bool) → Option Verdict → List ℕ → Rules → Option Cycle → Type 0
ShowsText true (Some verdict) text rules cycle = ShowsVerdict (reading_of text ∷ []) rules verdict cycle
ShowsText true None text rules cycle = cycle ≡ None
ShowsText false certain text rules cycle = cycle ≡ None
