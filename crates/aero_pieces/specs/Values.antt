-- The value of a question.
use Rattle.std.specs.Prelude.{◌≡◌}
use Rattle.aero_model.specs.declared.verdict.Finding.TheVariants as findings
use Rattle.aero_pieces.specs.declared.question.Question.{Question}
use Rattle.aero_pieces.specs.declared.question.Question.TheVariants.{Parse, Check}
use Rattle.aero_pieces.specs.declared.answer.Value.{Value}
use Rattle.aero_pieces.specs.declared.answer.Value.TheVariants.{Parsed, Judged, Ordered, Explained, Opened}
use Rattle.aero_grammar.specs.Reading.{reading_of}
use Rattle.aero_judge.specs.Finding.{IsTraceFinding}
use Rattle.aero_model.specs.Terms.{on, ruled}

-- what a block says, or what is found of the trace that the blocks hold
abbrev pub ValueFits : Question → Value → Type 0
ValueFits (Parse trace number bytes) (Parsed parsed) = parsed ≡ reading_of bytes
ValueFits (Check trace parts limits labels end order explain) (Judged verdict) = IsTraceFinding parts (on (ruled limits labels end) order explain) (findings.Judged verdict)
ValueFits (Check trace parts limits labels end order explain) (Ordered verdict steps) =
    IsTraceFinding parts (on (ruled limits labels end) order explain) (findings.Ordered verdict steps)
ValueFits (Check trace parts limits labels end order explain) (Explained verdict cycle) =
    IsTraceFinding parts (on (ruled limits labels end) order explain) (findings.Explained verdict cycle)
ValueFits (Check trace parts limits labels end order explain) (Opened verdict blocks) =
    IsTraceFinding parts (on (ruled limits labels end) order explain) (findings.Opened verdict blocks)
ValueFits _ _ = ⊥

-- the same as a mere fact: what shows the verdict isn't kept
abbrev pub IsValueOf : Question → Value → Type 0
IsValueOf q v = ∥ ValueFits q v ∥₁

-- a question with a value
pub record Answered : Type 0 where
  pub question : Question
  pub value : Value
