-- What one read of a source adds to what was read, and one write of a report to what was told.
use Rattle.std.specs.Prelude.{ℕ, ◌==◌, ◌&&◌, nat_lt, Bool, false, Result, Ok, Err}

-- how many bytes a read gave
abbrev pub bytes_in : {E : Type 0} → Result ℕ E → ℕ
bytes_in (Ok count) = count
bytes_in (Err error) = 0

-- a read that asked for at least one byte gave none
abbrev pub finds_end : ℕ → ℕ → Bool
finds_end count asked = (count == 0) && nat_lt 0 asked

-- a write took all of the bytes that it was handed, at least one
abbrev pub takes_all : {E : Type 0} → Result ℕ E → ℕ → Bool
takes_all (Ok count) handed = (count == handed) && nat_lt 0 handed
takes_all (Err error) handed = false
