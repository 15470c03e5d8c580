-- The numbers that a call answers.
use Rattle.std.specs.Prelude.{ℕ}

-- it was done
abbrev pub done : ℕ
done = 0

-- the monitor has no trace
abbrev pub unheld : ℕ
unheld = 1

-- the monitor has a trace already
abbrev pub in_use : ℕ
in_use = 2

-- memory is or was refused
abbrev pub no_memory : ℕ
no_memory = 3

-- the buffer is too small
abbrev pub short : ℕ
short = 4

-- a label is no name
abbrev pub no_name : ℕ
no_name = 5

-- there are more than 64 labels
abbrev pub many_labels : ℕ
many_labels = 6
