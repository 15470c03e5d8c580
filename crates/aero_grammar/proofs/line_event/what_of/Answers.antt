use Rattle.std.proofs.Common.{rules}
use Rattle.aero_grammar.proofs.line_event.what_of.Goals as goal

pub returns-in-Join : goal.returns-in-Join
returns-in-Join c = search rules
