-- The blocks of a text have its verdicts, and what shows them.
use Rattle.std.proofs.Common.{◌≡◌, ℕ, List, [], ◌∷◌, sym, ◌∙◌, ap}
use Rattle.std.specs.Prelude.{map}
use Rattle.std.specs.List.{concat}
use Rattle.aero_model.specs.declared.verdict.Cycle.{Cycle}
use Rattle.aero_model.specs.declared.verdict.Verdict.{Verdict}
use Rattle.aero_grammar.specs.Reading.{Reading, reading_of, whole_reading, malformed_line}
use Rattle.aero_grammar.proofs.Joined.{reading_of-cap, reading_of-concat}
use Rattle.aero_lines.specs.Cutting.{nothing_yet, blocks_from}
use Rattle.aero_lines.proofs.Runs.{blocks_are_the_text}
use Rattle.aero_verdict.specs.Explained.{IsCycleOf}
use Rattle.aero_verdict.specs.Verdict.{IsVerdict}
use Rattle.aero_model.specs.Terms.{Rules}
use Rattle.aero_verdict.proofs.Ending.{counted_same}
use Rattle.aero_judge.proofs.SameVerdict.{one_read, same_verdict, same_cycle}

-- what the blocks say, one after the other, is what the text says
pub blocks_read : (pieces : List (List ℕ)) → whole_reading (map reading_of (blocks_from nothing_yet pieces)) ≡ reading_of (concat pieces)
blocks_read pieces =
    let law = blocks_are_the_text pieces in
    reading_of-concat (blocks_from nothing_yet pieces) law.1 ∙ (ap reading_of law.0 ∙ reading_of-cap (concat pieces))

-- what shows the verdicts of parts shows those of a text that says the same
pub cycle_of_text : (rules : Rules) (parts : List Reading) (text : List ℕ) (verdict : Verdict) (cycle : Cycle) → whole_reading parts ≡ reading_of text → IsCycleOf parts rules verdict cycle → IsCycleOf (reading_of text ∷ []) rules verdict cycle
cycle_of_text rules parts text verdict cycle says is =
    let same : whole_reading parts ≡ whole_reading (reading_of text ∷ []) = says ∙ sym (one_read (reading_of text)) in
    same_cycle rules parts (reading_of text ∷ []) (counted_same rules parts (reading_of text ∷ []) same) (ap (malformed_line rules.limits.lines) same) verdict cycle is

-- what a text says has the verdicts of parts that say the same
pub verdict_of_text : (rules : Rules) (parts : List Reading) (text : List ℕ) (verdict : Verdict) → whole_reading parts ≡ reading_of text → IsVerdict parts rules verdict → IsVerdict (reading_of text ∷ []) rules verdict
verdict_of_text rules parts text verdict says is =
    let same : whole_reading parts ≡ whole_reading (reading_of text ∷ []) = says ∙ sym (one_read (reading_of text)) in
    same_verdict rules parts (reading_of text ∷ []) (counted_same rules parts (reading_of text ∷ []) same) (ap (malformed_line rules.limits.lines) same) verdict is

pub verdict_of_parts : (rules : Rules) (parts : List Reading) (text : List ℕ) (verdict : Verdict) → whole_reading parts ≡ reading_of text → IsVerdict (reading_of text ∷ []) rules verdict → IsVerdict parts rules verdict
verdict_of_parts rules parts text verdict says is =
    let same : whole_reading (reading_of text ∷ []) ≡ whole_reading parts = one_read (reading_of text) ∙ sym says in
    same_verdict rules (reading_of text ∷ []) parts (counted_same rules (reading_of text ∷ []) parts same) (ap (malformed_line rules.limits.lines) same) verdict is
