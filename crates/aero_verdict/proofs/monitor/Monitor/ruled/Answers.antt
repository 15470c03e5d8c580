use Rattle.std.proofs.Common.{List, ◌++◌, length, sym, subst, arith}
use Rattle.std.specs.Prelude.{All}
use Rattle.std.proofs.lemmas.List.Elements.{All-nil}
use Rattle.aero_grammar.specs.Reading.{Reading, IsReading}
use Rattle.aero_engine.specs.Given.{words_of}
use Rattle.aero_verdict.specs.Parts.{Stands}
use Rattle.aero_model.specs.Terms.{ruled}
use Rattle.aero_verdict.proofs.Parts.{nothing_yet}
use Rattle.aero_verdict.proofs.monitor.Monitor.ruled.Goals as goal

pub invariant_of-result : goal.invariant_of-result
invariant_of-result g c =
    let rules = ruled c.args.limits.now c.none.result.labels c.args.ends in
    record {
      so =
          subst (λ (ps : List Reading). (rest : List Reading) → Stands (words_of g.E.Engine.stands_for g.E.Engine.keeps) rules (ps ++ rest) (length ps) 0 c.new.result) (sym c.none.ensures.1)
          (λ rest. nothing_yet (words_of g.E.Engine.stands_for g.E.Engine.keeps) rules rest c.new.result c.new.ensures.none (c.new.ensures.kept c.none.result.labels));
      few = λ undecided. omega arith;
      readings = subst (All IsReading) (sym c.none.ensures.1) (All-nil IsReading);
    }
