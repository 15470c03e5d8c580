use Rattle.aero_names.proofs.Hashes.{second_long_hash}
use Rattle.aero_names.proofs.hash.second_hash_of_long.Goals as goal

pub returns : goal.returns
returns c = second_long_hash c.hash_of_words.result c.args.name.now c.hash_of_words.ensures
