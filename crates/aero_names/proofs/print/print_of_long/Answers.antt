use Rattle.std.proofs.Common.{rules}
use Rattle.aero_names.proofs.Hashes.{long_print_is}
use Rattle.aero_names.proofs.print.print_of_long.Goals as goal

pub returns : goal.returns
returns c = long_print_is c.from_le_bytes.result c.in-Some.first.now c.digest-digest.result c.args.name.now c.from_le_bytes.ensures (search rules) (search rules)
