use Rattle.std.proofs.Common.{◌∙◌, ◌++◌, sym, ap, subst, map}
use Rattle.std.specs.Prelude.{option_to_list}
use Rattle.std.proofs.lemmas.Result.{on_ok_weaker}
use Rattle.aero_grammar.specs.Reading.{reading_of}
use Rattle.aero_intake.specs.Alone.{StandsAlone}
use Rattle.aero_intake.specs.Intake.{Taking}
use Rattle.aero_judge.specs.Judging.{judging_of}
use Rattle.aero_intake.proofs.AloneSteps.{cut_stands, pass_stands}
use Rattle.aero_intake.proofs.alone.SoFar.judge_held.Goals as goal

pub returns-then-has_enough-clause-stands : goal.returns-then-has_enough-clause-stands
returns-then-has_enough-clause-stands c before now ended stands =
    let s = c.args.self.now in
    let terms = c.args.terms.now in
    let j = judging_of s.judge in
    subst (λ (i : Taking). StandsAlone terms before now ended i j) (sym c.pass_over.ensures)
    (pass_stands terms before now ended s.intake j (c.has_enough.ensures.enough c.if-has_enough.true) stands)

pub returns-clause-stands : goal.returns-clause-stands
returns-clause-stands c =
    let s = c.args.self.now in
    let terms = c.args.terms.now in
    let j = judging_of s.judge in
    let k = judging_of c.judge_chunk.new.self.judge in
    on_ok_weaker c.judge_chunk.result (λ more before now ended stands.
    subst (λ (i : Taking). StandsAlone terms before now ended i k) (sym (c.judge_chunk.ensures.intake ∙ c.in_ok-chunk.ensures.after))
    (cut_stands terms before now ended s.intake j k (c.has_enough.ensures.none_passed c.if-has_enough.false)
    (more ∙ ap (λ o. j.parts ++ map reading_of (option_to_list o)) c.in_ok-chunk.ensures.block) stands)) c.judge_chunk.ensures.parts
