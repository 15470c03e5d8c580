use Rattle.std.proofs.Common.{◌≡◌, ◌∙◌, ◌++◌, ap, map}
use Rattle.std.specs.Prelude.{option_to_list}
use Rattle.std.proofs.lemmas.Result.{on_ok_weaker}
use Rattle.aero_grammar.specs.Reading.{reading_of}
use Rattle.aero_lines.specs.Cutting.{last_block}
use Rattle.aero_judge.specs.Judging.{judging_of}
use Rattle.aero_intake.proofs.AloneSteps.{last_judged, last_passed}
use Rattle.aero_intake.proofs.alone.SoFar.judge_last.Goals as goal

pub returns-then-has_enough-clause-judged : goal.returns-then-has_enough-clause-judged
returns-then-has_enough-clause-judged c before now none_held stands =
    let s = c.args.self.now in
    last_passed c.args.terms.now before now s.intake (judging_of s.judge) none_held (c.has_enough.ensures.enough c.if-has_enough.true) stands

pub returns-clause-judged : goal.returns-clause-judged
returns-clause-judged c =
    let s = c.args.self.now in
    let j = judging_of s.judge in
    let k = judging_of c.judge_chunk.new.self.judge in
    let last : c.in_ok-last.last ≡ last_block s.intake.cutting = let is = c.in_ok-last.ensures.last in cc is in
    on_ok_weaker c.judge_chunk.result (λ more before now none_held stands.
    last_judged c.args.terms.now before now s.intake j k none_held (c.has_enough.ensures.none_passed c.if-has_enough.false)
    (more ∙ ap (λ o. j.parts ++ map reading_of (option_to_list o)) last) stands) c.judge_chunk.ensures.parts
