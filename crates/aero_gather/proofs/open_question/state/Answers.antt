use Rattle.std.proofs.Common.{rules}
use Rattle.aero_gather.proofs.open_question.state.Goals as goal

pub returns-then-slot : goal.returns-then-slot
returns-then-slot c = search rules
