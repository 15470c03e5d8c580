use Rattle.std.proofs.Common.{◌≡◌, take}
use Rattle.aero_names.specs.Hash.{short_word}
use Rattle.aero_names.proofs.hash.short_word.Given as goal

abbrev pub invariant-loop-byte : goal.invariant-loop-byte
invariant-loop-byte l = l.word ≡ short_word (take l.byte-index l.bytes)
