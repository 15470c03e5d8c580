use Rattle.std.proofs.Common.{rules}
use Rattle.aero_leads.proofs.table.take.Goals as goal

pub returns-then-brought-clause-closing : goal.returns-then-brought-clause-closing
returns-then-brought-clause-closing c = search rules

pub gain_news-requires-clause-other : goal.gain_news-requires-clause-other
gain_news-requires-clause-other c = search rules
