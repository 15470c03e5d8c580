use Rattle.std.proofs.Common.{◌≡◌, ◌≤◌, ◌^◌}
use Rattle.std.specs.List.{count_by}
use Rattle.std.specs.Io.KnownBytes.{Consumes}
use Rattle.aero_program.specs.Inputs.{MayFailFrom, bytes_left, reason_of, standing_of}
use Rattle.aero_program.specs.Listing.{is_name_end}
use Rattle.aero_program.proofs.Gathering.{GoesOn}
use Rattle.aero_program.proofs.listing.gather.Given as goal

-- what came so far, and how many names end in it
abbrev pub invariant-loop : goal.invariant-loop
invariant-loop g l = record {
  came : Consumes (bytes_left (standing_of g.S.Read.remaining g.O.Opener.known g.O.File.Read.remaining l.fn.input)) (bytes_left (standing_of g.S.Read.remaining g.O.Opener.known g.O.File.Read.remaining l.input)) l.list.items;
  may : MayFailFrom g.O.Opener.can_fail (standing_of g.S.Read.remaining g.O.Opener.known g.O.File.Read.remaining l.input) → MayFailFrom g.O.Opener.can_fail (standing_of g.S.Read.remaining g.O.Opener.known g.O.File.Read.remaining l.fn.input);
  stream : GoesOn (standing_of g.S.Read.remaining g.O.Opener.known g.O.File.Read.remaining l.fn.input) (standing_of g.S.Read.remaining g.O.Opener.known g.O.File.Read.remaining l.input);
  reason : reason_of l.input ≡ reason_of l.fn.input;
  ends : l.ends ≡ count_by is_name_end l.list.items;
  few : l.ends ≤ 2 ^ 16;
}
