use Rattle.std.proofs.Common.{sym, ◌∙◌}
use Rattle.aero_names.proofs.Hashes.{second_with_key, second_without_key}
use Rattle.aero_names.proofs.hash.second_hash_of.Goals as goal

pub returns-in-Some : goal.returns-in-Some
returns-in-Some c = c.second_hash_of_key.ensures ∙ second_with_key c.args.name.now c.in-Some.key (sym c.key_of.ensures ∙ c.in-Some.is)

pub returns-in-None : goal.returns-in-None
returns-in-None c = c.second_hash_of_long.ensures ∙ second_without_key c.args.name.now (sym c.key_of.ensures ∙ c.in-None.is)
