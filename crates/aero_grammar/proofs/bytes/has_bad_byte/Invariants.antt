use Rattle.std.proofs.Common.{◌≡◌, take}
use Rattle.std.specs.List.{list_any}
use Rattle.aero_model.specs.Names.{is_bad_byte}
use Rattle.aero_grammar.proofs.bytes.has_bad_byte.Given as goal

abbrev pub invariant-loop-byte : goal.invariant-loop-byte
invariant-loop-byte l = l.bad ≡ list_any is_bad_byte (take l.byte-index l.text)
