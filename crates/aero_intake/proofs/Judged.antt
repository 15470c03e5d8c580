-- The chunks of a text have its verdicts, its serial order and its telling cycles.
use Rattle.std.proofs.Common.{◌≡◌, ℕ, List, [], ◌∷◌, sym, ◌∙◌, ap}
use Rattle.std.specs.Prelude.{map}
use Rattle.std.specs.List.{concat}
use Rattle.aero_model.specs.declared.verdict.Finding.{Finding}
use Rattle.aero_model.specs.declared.verdict.Finding.TheVariants.{Judged, Ordered, Explained, Opened, Broken, TooLarge}
use Rattle.aero_grammar.specs.Reading.{Reading, reading_of, whole_reading, malformed_line}
use Rattle.aero_grammar.proofs.Joined.{reading_of-cap, reading_of-concat}
use Rattle.aero_lines.specs.Cutting.{nothing_yet, blocks_from}
use Rattle.aero_lines.proofs.Runs.{blocks_are_the_text}
use Rattle.aero_judge.specs.Finding.{IsTraceFinding}
use Rattle.aero_model.specs.Terms.{Terms, Rules}
use Rattle.aero_intake.specs.Laws.{AreJudgedAlike, ChunksJudgeAsTheText}
use Rattle.aero_verdict.specs.Verdict.{counted_events, faulty_line}
use Rattle.aero_verdict.proofs.Ending.{counted_same}
use Rattle.aero_judge.proofs.SameVerdict.{one_read, same_verdict, same_order, same_cycle, same_blocks}

-- what the chunks say, one after the other, is what the text says
pub chunks_read : (pieces : List (List ℕ)) → whole_reading (map reading_of (blocks_from nothing_yet pieces)) ≡ reading_of (concat pieces)
chunks_read pieces =
    let law = blocks_are_the_text pieces in
    reading_of-concat (blocks_from nothing_yet pieces) law.1 ∙ (ap reading_of law.0 ∙ reading_of-cap (concat pieces))

pub counted_alike : (rules : Rules) (parts others : List Reading) →
    counted_events parts rules ≡ counted_events others rules → faulty_line parts rules ≡ faulty_line others rules → AreJudgedAlike parts others rules
counted_alike rules parts others same same_fault =
    record {
      verdicts = λ verdict. (same_verdict rules parts others same same_fault verdict, same_verdict rules others parts (sym same) (sym same_fault) verdict);
      orders = λ steps. (same_order rules parts others same same_fault steps, same_order rules others parts (sym same) (sym same_fault) steps);
      cycles = λ verdict cycle. (
        same_cycle rules parts others same same_fault verdict cycle,
        same_cycle rules others parts (sym same) (sym same_fault) verdict cycle,
      );
      opened = λ blocks. (same_blocks rules parts others same same_fault blocks, same_blocks rules others parts (sym same) (sym same_fault) blocks);
    }

pub alike_back : (rules : Rules) (parts others : List Reading) → AreJudgedAlike parts others rules → AreJudgedAlike others parts rules
alike_back rules parts others alike =
    record {
      verdicts = λ verdict. ((alike.verdicts verdict).1, (alike.verdicts verdict).0);
      orders = λ steps. ((alike.orders steps).1, (alike.orders steps).0);
      cycles = λ verdict cycle. ((alike.cycles verdict cycle).1, (alike.cycles verdict cycle).0);
      opened = λ chunks. ((alike.opened chunks).1, (alike.opened chunks).0);
    }

-- what is judged alike has the same findings
pub same_finding : (terms : Terms) (parts others : List Reading) (f : Finding) → AreJudgedAlike parts others terms.rules →
    IsTraceFinding parts terms f → IsTraceFinding others terms f
same_finding terms parts others (Judged verdict) alike is = ((alike.verdicts verdict).0 is.0, is.1, is.2)
same_finding terms parts others (Ordered verdict steps) alike is = ((alike.verdicts verdict).0 is.0, is.1, (alike.orders steps.items).0 is.2)
same_finding terms parts others (Explained verdict cycle) alike is = ((alike.verdicts verdict).0 is.0, is.1, (alike.cycles verdict cycle).0 is.2)
same_finding terms parts others (Opened verdict blocks) alike is = ((alike.verdicts verdict).0 is.0, is.1, (alike.opened blocks.items).0 is.2)
same_finding terms parts others (Broken bytes) alike is = absurd is
same_finding terms parts others TooLarge alike is = absurd is

-- what a text says is judged as what its chunks say
pub judged_alike : ChunksJudgeAsTheText
judged_alike pieces rules =
    let parts = map reading_of (blocks_from nothing_yet pieces) in
    let text = reading_of (concat pieces) in
    let same : whole_reading parts ≡ whole_reading (text ∷ []) = chunks_read pieces ∙ sym (one_read text) in
    counted_alike rules parts (text ∷ []) (counted_same rules parts (text ∷ []) same) (ap (malformed_line rules.limits.lines) same)
