use Rattle.std.proofs.Common.{rules}
use Rattle.aero_pieces.proofs.equal.is_same_parsed.Goals as goal

pub returns-then-has_same_names-3 : goal.returns-then-has_same_names-3
returns-then-has_same_names-3 c = search rules
