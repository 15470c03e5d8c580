use Rattle.std.proofs.Common.{sym, ◌∙◌}
use Rattle.aero_names.proofs.Hashes.{print_with_key, print_without_key}
use Rattle.aero_names.proofs.print.print_of.Goals as goal

pub returns-in-Some : goal.returns-in-Some
returns-in-Some c = c.print_of_key.ensures ∙ print_with_key c.args.name.now c.in-Some.key (sym c.key_of.ensures ∙ c.in-Some.is)

pub returns-in-None : goal.returns-in-None
returns-in-None c = c.print_of_long.ensures ∙ print_without_key c.args.name.now (sym c.key_of.ensures ∙ c.in-None.is)
