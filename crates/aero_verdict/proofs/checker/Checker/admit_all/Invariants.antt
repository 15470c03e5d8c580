use Rattle.aero_grammar.specs.Tabled.{lines_in}
use Rattle.aero_engine.specs.Given.{words_of}
use Rattle.aero_verdict.specs.Known.{tables_in, Knows}
use Rattle.aero_verdict.proofs.Lines.{Admits}
use Rattle.aero_verdict.proofs.checker.Checker.admit_all.Given as goal

abbrev pub invariant-loop-event : goal.invariant-loop-event
invariant-loop-event g l = record {
  admits : Admits (words_of g.E.Engine.stands_for g.E.Engine.keeps) l.initial.self l.chunk.labels.now l.chunk.exempt.now (lines_in (tables_in l.chunk) l.chunk.labels.now l.events) l.before l.most l.event-index l.self;
  known : Knows l.self.numbering (tables_in l.chunk) l.known;
}
