-- What holds of sources, however their bytes come.
use Rattle.std.specs.Prelude.{◌≡◌, ◌↔◌, ℕ, true, List, [], ◌∷◌, ◌++◌, map}
use Rattle.std.specs.List.{concat}
use Rattle.aero_model.specs.declared.verdict.Cycle.{Cycle}
use Rattle.aero_model.specs.declared.verdict.OpenBlock.{OpenBlock}
use Rattle.aero_model.specs.declared.verdict.Step.{Step}
use Rattle.aero_model.specs.declared.verdict.Verdict.{Verdict}
use Rattle.aero_grammar.specs.Reading.{Reading, reading_of}
use Rattle.aero_lines.specs.Cutting.{nothing_yet, blocks_from}
use Rattle.aero_intake.specs.Held.{decides}
use Rattle.aero_verdict.specs.Explained.{IsCycleOf}
use Rattle.aero_judge.specs.Opened.{AreOpenBlocks}
use Rattle.aero_verdict.specs.Ordered.{AreStepsInOrder}
use Rattle.aero_verdict.specs.Verdict.{IsVerdict}
use Rattle.aero_model.specs.Terms.{Rules}

-- Both have the same verdicts, their transactions the same serial order, their violations the same telling cycles, and the same blocks are open.
pub record AreJudgedAlike (parts others : List Reading) (rules : Rules) : Type 0 where
  pub verdicts : (verdict : Verdict) → IsVerdict parts rules verdict ↔ IsVerdict others rules verdict
  pub orders : (steps : List Step) → AreStepsInOrder parts rules steps ↔ AreStepsInOrder others rules steps
  pub cycles : (verdict : Verdict) (cycle : Cycle) → IsCycleOf parts rules verdict cycle ↔ IsCycleOf others rules verdict cycle
  pub opened : (blocks : List OpenBlock) → AreOpenBlocks parts rules blocks ↔ AreOpenBlocks others rules blocks

-- What the chunks say, one after the other, is judged as the joined pieces are as one text.
abbrev pub ChunksJudgeAsTheText : Type 0
ChunksJudgeAsTheText = (pieces : List (List ℕ)) (rules : Rules) →
    AreJudgedAlike (map reading_of (blocks_from nothing_yet pieces)) (reading_of (concat pieces) ∷ []) rules

-- Where the first chunks decide, they are judged as they are with any chunks after them.
abbrev pub FirstChunksDecide : Type 0
FirstChunksDecide = (front more : List (List ℕ)) (rules : Rules) → decides rules.limits (map reading_of front) ≡ true →
    AreJudgedAlike (map reading_of front) (map reading_of (front ++ more)) rules
