use Rattle.std.proofs.Common.{rules}
use Rattle.aero_pieces.proofs.question.Question.share.Goals as goal

pub returns : goal.returns
returns c = search rules
