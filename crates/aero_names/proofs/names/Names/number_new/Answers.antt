use Rattle.std.proofs.Common.{rules}
use Rattle.aero_names.proofs.names.Names.number_new.Goals as goal

pub add-requires-clause-room : goal.add-requires-clause-room
add-requires-clause-room c = search rules

pub returns-in-Err-clause-full : goal.returns-in-Err-clause-full
returns-in-Err-clause-full c = search rules
