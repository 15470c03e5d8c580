-- What a monitor tells of its engine, it tells of a part of it.
use Rattle.std.proofs.Common.{ℕ, List}
use Rattle.aero_model.specs.declared.numbered.Numbered.{Numbered}
use Rattle.aero_model.specs.declared.verdict.Verdict.{Verdict}
use Rattle.aero_model.specs.declared.verdict.Verdict.TheVariants.{Serializable, Pending, Violation, Malformed, IllFormed}
use Rattle.aero_model.specs.Named.{Named}
use Rattle.aero_grammar.specs.Reading.{Reading}
use Rattle.aero_engine.specs.Given.{Given, Words}
use Rattle.aero_verdict.specs.declared.checker.Checker.{Checker}
use Rattle.aero_verdict.specs.Standing.{KeepsFirst}
use Rattle.aero_verdict.specs.Parts.{KeepsAt}
use Rattle.aero_verdict.specs.Monitored.{TellsFed}
use Rattle.aero_model.specs.Terms.{Rules}

-- the checker with another engine
abbrev pub with_engine : {E F : Type 0} → Checker E → F → Checker F
with_engine checker engine = record { ends = checker.ends; numbering = checker.numbering; shape = checker.shape; engine = engine; blocks = checker.blocks }

module _ {E F : Type 0} (words : Words E) (part : Words F) (f : E → F) (stands : (e : E) (trace : List Numbered) → words.stands e trace → part.stands (f e) trace) (keeps : (e : E) (given : List Given) → words.keeps e given → part.keeps (f e) given) (rules : Rules) where
  first_kept : (events : List (ℕ × Named)) (n : ℕ) (e : E) → KeepsFirst words.keeps rules events n e → KeepsFirst part.keeps rules events n (f e)
  first_kept events n e kept = record { given = kept.given; are_given = kept.are_given; kept = keeps e kept.given kept.kept }

  kept_at : (parts : List Reading) (checker : Checker E) (verdict : Verdict) → KeepsAt words.keeps rules parts checker verdict → KeepsAt part.keeps rules parts (with_engine checker (f checker.engine)) verdict
  kept_at parts checker (Serializable e b) kept = first_kept _ _ checker.engine kept
  kept_at parts checker (Pending e b p) kept = first_kept _ _ checker.engine kept
  kept_at parts checker (Violation l t b) (place, closing, on_line, kept, names) = (place, closing, on_line, first_kept _ _ checker.engine kept, names)
  kept_at parts checker (Malformed l f) kept = tt
  kept_at parts checker (IllFormed l f) kept = tt

  pub told_of_part : (parts : List Reading) (checker : Checker E) (verdict : Verdict) → TellsFed words rules parts checker verdict → TellsFed part rules parts (with_engine checker (f checker.engine)) verdict
  told_of_part parts checker verdict tells =
      record {
        on = tells.on;
        stands_for = λ right. stands checker.engine _ (tells.stands_for right);
        names = tells.names;
        keeps_at = kept_at parts checker verdict tells.keeps_at;
      }
