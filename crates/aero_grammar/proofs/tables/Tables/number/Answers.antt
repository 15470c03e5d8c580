use Rattle.std.proofs.Common.{rules}
use Rattle.aero_grammar.proofs.tables.Tables.number.Goals as goal

pub returns-clause-numbered : goal.returns-clause-numbered
returns-clause-numbered c = search rules

pub returns-clause-names : goal.returns-clause-names
returns-clause-names c = search rules

pub returns-clause-labels : goal.returns-clause-labels
returns-clause-labels c = search rules

pub returns-clause-grown : goal.returns-clause-grown
returns-clause-grown c = search rules
