use Rattle.aero_grammar.proofs.Clean.{clean_line}
use Rattle.aero_grammar.proofs.LinesRead.{lines_at}
use Rattle.aero_grammar.proofs.short.far_line_end.Goals as goal

pub returns-in-Some-clause-lines : goal.returns-in-Some-clause-lines
returns-in-Some-clause-lines c = lines_at c.args.text.now c.in-Some.end c.in-Some.ensures.0 c.in-Some.ensures.1

pub returns-in-Some-clause-good : goal.returns-in-Some-clause-good
returns-in-Some-clause-good c = clean_line c.args.text.now c.in-Some.end c.in-Some.ensures.0 c.requires.clean
