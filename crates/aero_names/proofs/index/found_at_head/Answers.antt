use Rattle.std.proofs.Common.{rules, sym, ◌∙◌}
use Rattle.aero_names.proofs.Hashes.{hash_with_key, hash_without_key}
use Rattle.aero_names.proofs.Keys.{number_by_key}
use Rattle.aero_names.proofs.index.found_at_head.Goals as goal

pub returns-in-Some-clause-hash : goal.returns-in-Some-clause-hash
returns-in-Some-clause-hash c = c.hash_of_key-hash.ensures ∙ hash_with_key c.args.name.now c.in-Some.key (sym c.key_of.ensures ∙ c.in-Some.is)

pub returns-in-Some-clause-number : goal.returns-in-Some-clause-number
returns-in-Some-clause-number c =
    number_by_key c.found_by_key.result c.args.names.now c.args.keys.now c.args.name.now c.in-Some.key c.requires (search rules) (sym c.key_of.ensures ∙ c.in-Some.is) c.found_by_key.ensures

pub returns-in-None-clause-hash : goal.returns-in-None-clause-hash
returns-in-None-clause-hash c = c.found_long.ensures.hash ∙ hash_without_key c.args.name.now (sym c.key_of.ensures ∙ c.in-None.is)
