use Rattle.std.proofs.Common.{◌∙◌, length, ap}
use Rattle.aero_names.specs.Hash.{hash_from, mixed_again}
use Rattle.aero_names.proofs.Hashes.{long_hash}
use Rattle.aero_names.proofs.hash.hash_of_long.Goals as goal

pub returns : goal.returns
returns c = long_hash c.hash_of_words.result c.args.name.now (c.hash_of_words.ensures ∙ ap (λ l. mixed_again (hash_from (length c.args.name.now) l)) c.tail_of.ensures)
