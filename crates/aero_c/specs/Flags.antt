-- What the flags of a call ask for.
use Rattle.std.specs.Prelude.{ℕ, ◌==◌, Bool, bit_and, not}

-- whether they have this bit: 1 for a long source, 2 for labels of the only blocks that are transactions, 4 for a violation that is to be
-- shown, and 8 for blocks that end if they are open
abbrev pub has_flag : (flags bit : ℕ) → Bool
has_flag flags bit = not (bit_and flags bit == 0)
