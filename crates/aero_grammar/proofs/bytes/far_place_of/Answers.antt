use Rattle.std.proofs.Common.{sym}
use Rattle.aero_grammar.proofs.FirstPart.{found_at, found_nowhere}
use Rattle.aero_grammar.proofs.bytes.far_place_of.Goals as goal

pub returns-in-Some-clause-place : goal.returns-in-Some-clause-place
returns-in-Some-clause-place c = sym (found_at c.args.sought c.args.bytes.now c.in-Some.place c.in-Some.ensures.0 c.in-Some.ensures.1)

pub returns-in-None-clause-place : goal.returns-in-None-clause-place
returns-in-None-clause-place c = sym (found_nowhere c.args.sought c.args.bytes.now c.in-None.ensures)
