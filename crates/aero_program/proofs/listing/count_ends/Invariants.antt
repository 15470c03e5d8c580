use Rattle.std.proofs.Common.{◌≡◌, ◌≤◌, take}
use Rattle.std.specs.List.{count_by}
use Rattle.aero_program.specs.Listing.{is_name_end}
use Rattle.aero_program.proofs.listing.count_ends.Given as goal

-- the names that end so far
abbrev pub invariant-loop-byte : goal.invariant-loop-byte
invariant-loop-byte l = record {
  ends : l.ends ≡ count_by is_name_end (take l.byte-index l.piece);
  few : l.ends ≤ l.byte-index;
}
