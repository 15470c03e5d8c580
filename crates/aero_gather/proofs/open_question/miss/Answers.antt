use Rattle.std.proofs.Common.{rules}
use Rattle.aero_gather.proofs.open_question.miss.Goals as goal

pub returns-clause-news : goal.returns-clause-news
returns-clause-news c = search rules
