use Rattle.std.proofs.Common.{◌≡◌, length}
use Rattle.aero_names.specs.Hash.{hash_from}
use Rattle.aero_names.proofs.hash.hash_of_words.Given as goal

abbrev pub invariant-loop-word : goal.invariant-loop-word
invariant-loop-word l = hash_from l.hash l.rest ≡ hash_from l.start l.name

abbrev pub decreases-loop-word : goal.decreases-loop-word
decreases-loop-word l = length l.rest
