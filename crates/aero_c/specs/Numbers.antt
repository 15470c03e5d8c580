-- A verdict as numbers: its kind, from 0 in the order in which they are declared, and its numbers. Those that it doesn't have are 0.
use Rattle.aero_model.specs.declared.verdict.Verdict.{Verdict}
use Rattle.aero_model.specs.declared.verdict.Verdict.TheVariants.{Serializable, Pending, Violation, Malformed, IllFormed}
use Rattle.aero_c.specs.declared.numbers.Numbers.{Numbers}

abbrev pub numbers_of : Verdict → Numbers
numbers_of (Serializable events blocks) = record { kind = 0; line = 0; begun = 0; events = events; blocks = blocks; open_blocks = 0 }
numbers_of (Pending events blocks pending) = record { kind = 1; line = 0; begun = 0; events = events; blocks = blocks; open_blocks = pending }
numbers_of (Violation line thread begun) = record { kind = 2; line = line; begun = begun; events = 0; blocks = 0; open_blocks = 0 }
numbers_of (Malformed line fault) = record { kind = 3; line = line; begun = 0; events = 0; blocks = 0; open_blocks = 0 }
numbers_of (IllFormed line fault) = record { kind = 4; line = line; begun = 0; events = 0; blocks = 0; open_blocks = 0 }
