-- The value of a question, where its kind is known.
use Rattle.std.proofs.Common.{◌≡◌, ℕ, Bool, List}
use Rattle.std.specs.Global.{Vec}
use Rattle.std.proofs.Math.Logic.{∥∥₁_elim}
use Rattle.std.specs.Coded.{Coded, Coded-set, codes}
use Rattle.aero_model.specs.declared.limits.Limits.{Limits}
use Rattle.aero_model.specs.declared.verdict.Cycle.{Cycle}
use Rattle.aero_model.specs.declared.verdict.OpenBlock.{OpenBlock}
use Rattle.aero_model.specs.declared.verdict.Step.{Step}
use Rattle.aero_model.specs.declared.verdict.Verdict.{Verdict}
use Rattle.aero_model.specs.Exempt.{Listed}
use Rattle.aero_grammar.specs.Reading.{Reading, reading_of}
use Rattle.aero_pieces.specs.declared.question.Question.TheVariants.{Parse, Check}
use Rattle.aero_pieces.specs.declared.answer.Value.TheVariants.{Parsed, Judged, Ordered, Explained, Opened}
use Rattle.aero_pieces.specs.Values.{IsValueOf}

reading_code : Coded Reading
reading_code = hlevel codes

-- the question on a chunk is answered by what the chunk says
pub parsed_value : (trace number : ℕ) (bytes : List ℕ) (parsed : Reading) → IsValueOf (Parse trace number bytes) (Parsed parsed) → parsed ≡ reading_of bytes
parsed_value trace number bytes parsed is = ∥∥₁_elim is (Coded-set reading_code parsed (reading_of bytes)) (λ e. e)

pub not_judged : (trace number : ℕ) (bytes : List ℕ) (verdict : Verdict) → IsValueOf (Parse trace number bytes) (Judged verdict) → ⊥
not_judged trace number bytes verdict is = ∥∥₁_elim is (λ x y. absurd x) (λ e. e)

pub not_ordered : (trace number : ℕ) (bytes : List ℕ) (verdict : Verdict) (steps : Vec Step) → IsValueOf (Parse trace number bytes) (Ordered verdict steps) → ⊥
not_ordered trace number bytes verdict steps is = ∥∥₁_elim is (λ x y. absurd x) (λ e. e)

pub not_explained : (trace number : ℕ) (bytes : List ℕ) (verdict : Verdict) (cycle : Cycle) → IsValueOf (Parse trace number bytes) (Explained verdict cycle) → ⊥
not_explained trace number bytes verdict cycle is = ∥∥₁_elim is (λ x y. absurd x) (λ e. e)

pub not_opened : (trace number : ℕ) (bytes : List ℕ) (verdict : Verdict) (blocks : Vec OpenBlock) → IsValueOf (Parse trace number bytes) (Opened verdict blocks) → ⊥
not_opened trace number bytes verdict blocks is = ∥∥₁_elim is (λ x y. absurd x) (λ e. e)

-- and the question on a trace by a verdict
pub not_parsed : (trace : ℕ) (parts : List Reading) (limits : Limits) (labels : Listed) (end order explain : Bool) (parsed : Reading) →
    IsValueOf (Check trace parts limits labels end order explain) (Parsed parsed) → ⊥
not_parsed trace parts limits labels end order explain parsed is = ∥∥₁_elim is (λ x y. absurd x) (λ e. e)
