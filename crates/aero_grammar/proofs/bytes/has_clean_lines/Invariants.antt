use Rattle.std.proofs.Common.{◌≡◌, take}
use Rattle.std.specs.List.{list_any}
use Rattle.aero_grammar.specs.Meaning.{is_unfit}
use Rattle.aero_grammar.proofs.bytes.has_clean_lines.Given as goal

abbrev pub invariant-loop-byte : goal.invariant-loop-byte
invariant-loop-byte l = l.unfit ≡ list_any is_unfit (take l.byte-index l.block)
